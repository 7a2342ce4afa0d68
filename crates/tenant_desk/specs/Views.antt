-- What a view of a tenant is, and what its calls do.
use Rattle.std.specs.Prelude.{◌≡◌, ℕ, ◌∷◌, List, [], length, nat_lt, if◌then◌else◌, ◌⊎◌, MatchBool}
use mathlib.Core.List.{IsPrefix}
use Rattle.trace_types.specs.tenant.Limits.{Limits}
use Rattle.trace_types.specs.tenant.Tenant.{AreLegal, Answers, is_report}
use Rattle.trace_types.specs.declared.code.Code.TheVariants.{NoPlace, ViewOnly}
use Rattle.trace_types.specs.declared.reply.Reply.{Reply}
use Rattle.trace_types.specs.declared.reply.Reply.TheVariants.{Refused}
use Rattle.trace_types.specs.declared.request.Request.{Request}
use Rattle.trace_types.specs.declared.row.Row.{Row}
use Rattle.tenant_desk.specs.Histories.{Line, Log}

-- A view: the rows that it knows of, the lists that were put together since it last entered, and the desk that it is of.
pub record Known : Type 0 where
  pub seen : List Row
  pub met : List (List Row)
  pub limits : Limits
  pub log : Log

-- the rows begin with each of the lists
abbrev pub BeginWithEach : List Row → List (List Row) → Type 0
BeginWithEach rows [] = Unit {0}
BeginWithEach rows (list ∷ lists) = IsPrefix list rows × BeginWithEach rows lists

-- The view entered a published list: it is legal, and begins with what was seen and with each list that was put together.
pub record Enters (old new : Known) : Type 0 where
  pub legal : AreLegal new.limits new.seen
  pub later : IsPrefix old.seen new.seen
  pub heard : BeginWithEach new.seen old.met
  pub met : new.met ≡ []
  pub limits : new.limits ≡ old.limits
  pub log : new.log ≡ old.log

-- The query is answered at the rows that are then seen; or there was no list to enter, and the view is as before.
abbrev pub LooksUp : Known → Request → Reply → Known → Type 0
LooksUp old request reply new =
    (Answers (record { limits = new.limits; rows = new.seen }) request reply × Enters old new)
    ⊎ ((reply ≡ Refused NoPlace) × (new ≡ old))

-- what a view does with a request: it takes no report
abbrev pub Responds : Known → Request → Reply → Known → Type 0
Responds old request reply new = MatchBool (is_report request) ((reply ≡ Refused ViewOnly) × (new ≡ old)) (LooksUp old request reply new)

-- the longer of two lists, the first where they are as long
abbrev pub longer : List Row → List Row → List Row
longer rows others = if nat_lt (length rows) (length others) then others else rows

-- The view saw and was told: the longer list is seen, which begins with both, and both are put together.
pub record Learns (old : Known) (told : Line) (new : Known) : Type 0 where
  pub seen : new.seen ≡ longer old.seen told.rows
  pub met : new.met ≡ told.rows ∷ old.seen ∷ old.met
  pub later : IsPrefix old.seen new.seen
  pub heard : IsPrefix told.rows new.seen
  pub limits : new.limits ≡ old.limits
  pub log : new.log ≡ old.log

-- the views that are left, and the desk that they are of
pub record Remaining : Type 0 where
  pub left : ℕ
  pub limits : Limits
  pub log : Log

-- a view that has seen nothing
abbrev pub new_view : Limits → Log → Known
new_view limits log = record { seen = []; met = []; limits = limits; log = log }
