-- Names of tenants, tasks and messages.
use Rattle.std.specs.Prelude.{ℕ, Bool, ◌||◌, ◌&&◌, List, length, nat_le, ◌==◌, nat_eq, codes}
use Rattle.std.specs.List.{list_all}
use Rattle.std.specs.Cmp.Lexicographic.{pointwise}

-- a text, byte by byte
abbrev pub Text : Type 0
Text = List ℕ

-- whether two texts are the same
abbrev pub is_same : Text → Text → Bool
is_same a b = pointwise nat_eq a b

-- whether the number is one from low to high, both included
abbrev pub is_between : ℕ → ℕ → ℕ → Bool
is_between low high n = nat_le low n && nat_le n high

-- whether the byte is a letter `A` to `Z` or `a` to `z`, a digit or `_`
abbrev pub is_name_byte : ℕ → Bool
is_name_byte byte = is_between 65 90 byte || is_between 97 122 byte || is_between 48 57 byte || (byte == 95)

-- whether the text is 1 to 24 such bytes
abbrev pub is_name : Text → Bool
is_name text = is_between 1 24 (length text) && list_all is_name_byte text

-- the task with which each tenant starts
abbrev pub root : Text
root = codes "root"
