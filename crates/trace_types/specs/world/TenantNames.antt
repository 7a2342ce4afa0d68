-- Which names can be those of tenants.
use Rattle.std.specs.Prelude.{Bool, true, not, ◌&&◌, List, [], ◌∷◌, length}
use Rattle.std.specs.List.{list_all, list_any}
use Rattle.trace_types.specs.text.Name.{Text, is_name, is_same, is_between}

-- whether no name stands twice
abbrev pub are_distinct : List Text → Bool
are_distinct [] = true
are_distinct (name ∷ names) = not (list_any (λ other. is_same other name) names) && are_distinct names

-- whether these can be the names of all tenants: 1 to 16 names, none twice
abbrev pub can_be_tenants : List Text → Bool
can_be_tenants names = is_between 1 16 (length names) && are_distinct names

-- whether these texts can be the names of all tenants
abbrev pub are_tenants : List Text → Bool
are_tenants texts = can_be_tenants texts && list_all is_name texts
