-- What a tenant may use.
use Rattle.std.specs.Prelude.{ℕ, Bool, ◌&&◌}
use Rattle.trace_types.specs.text.Name.{is_between}

-- how many events, tasks (root included) and messages a tenant may have
pub record Limits : Type 0 where
  pub events : ℕ
  pub tasks : ℕ
  pub messages : ℕ

-- the ranges of the three
abbrev pub are_limits : ℕ → ℕ → ℕ → Bool
are_limits events tasks messages = is_between 1 16384 events && is_between 1 2048 tasks && is_between 1 16384 messages

-- the limits that stand where none are asked for
abbrev pub default_limits : Limits
default_limits = record { events = 4096; tasks = 512; messages = 2048 }
