-- The stamps of tasks and events: what each report does to the id of its task and to what the task knows.
use Rattle.std.specs.Prelude.{ℕ, suc, ◌==◌, Bool, true, false, [], ◌∷◌, length, Option, Some, None, if◌then◌else◌}
use Rattle.trace_types.specs.text.Name.{Text, is_same, root}
use Rattle.trace_types.specs.tenant.Rows.{History, last_event, names}
use Rattle.trace_types.specs.tenant.Reachability.{second_event}
use Rattle.trace_types.specs.clock.Clock.{Clock, tree_clock}
use Rattle.trace_types.specs.text.StampText.{stamp_text}
use Rattle.trace_types.specs.declared.row.Row.{Row}
use Rattle.trace_types.specs.declared.row.Kind.{Kind}
use Rattle.trace_types.specs.declared.row.Kind.TheVariants.{Local, Spawn, Send, Recv, End, Join}

-- what is found of the task that a row names, if it names one
abbrev pub of_named : {A : Type 0} → A → (Text → A) → Option Text → A
of_named nothing found None = nothing
of_named nothing found (Some name) = found name

-- whether a report of this kind takes in what its second event knew
abbrev pub takes_in : Kind → Bool
takes_in Local = false
takes_in Spawn = false
takes_in Send = false
takes_in Recv = true
takes_in End = false
takes_in Join = true

module _ {Id Tree : Type 0} (clock : Clock Id Tree) where
  -- the id with which the event of a report of this kind is made, of its task's id and of that of the task that it names
  abbrev pub id_at : Kind → Id → Id → Id
  id_at Local own named = own
  id_at Spawn own named = own
  id_at Send own named = own
  id_at Recv own named = own
  id_at End own named = own
  id_at Join own named = clock.sum own named

  -- the id that such a report leaves its task
  abbrev pub id_kept : Kind → Id → Id → Id
  id_kept Local own named = own
  id_kept Spawn own named = (clock.split own).0
  id_kept Send own named = own
  id_kept Recv own named = own
  id_kept End own named = own
  id_kept Join own named = clock.sum own named

  -- the id that such a report leaves the task that it names
  abbrev pub id_given : Kind → Id → Id → Id
  id_given Local own named = named
  id_given Spawn own named = (clock.split own).1
  id_given Send own named = named
  id_given Recv own named = named
  id_given End own named = named
  id_given Join own named = clock.nobody

  -- The id of a task: `root` has the whole one at first.
  abbrev pub id_of : History → Text → Id
  id_of [] task = if is_same task root then clock.whole else clock.nobody
  id_of (row ∷ earlier) task =
      if is_same row.task task then id_kept row.kind (id_of earlier task) (of_named clock.nobody (id_of earlier) row.name)
      else if names row task then id_given row.kind (id_of earlier row.task) (id_of earlier task)
      else id_of earlier task

  -- the id with which the event of a row is made
  abbrev pub acting_id : History → Row → Id
  acting_id earlier row = id_at row.kind (id_of earlier row.task) (of_named clock.nobody (id_of earlier) row.name)

  -- what is known before an event, of what its task knew and of what its second event knew
  abbrev pub known_before : Kind → Tree → Tree → Tree
  known_before kind own second = if takes_in kind then clock.join own second else own

  -- what an event knows, with itself; event 0 knows nothing
  abbrev pub tree_of : History → ℕ → Tree
  tree_of [] event = clock.start
  tree_of (row ∷ earlier) event =
      if event == suc (length earlier)
      then clock.event (acting_id earlier row)
      (known_before row.kind (tree_of earlier (last_event earlier row.task)) (tree_of earlier (second_event earlier row.kind row.name)))
      else tree_of earlier event

  -- the stamp of an event: its task's id after it, and what it knows
  abbrev pub stamp_of : History → ℕ → Id × Tree
  stamp_of [] event = (clock.nobody, clock.start)
  stamp_of (row ∷ earlier) event =
      if event == suc (length earlier) then (id_of (row ∷ earlier) row.task, tree_of (row ∷ earlier) event)
      else stamp_of earlier event

-- the text of an event's stamp by the interval tree clock
abbrev pub stamp_text_of : History → ℕ → Text
stamp_text_of history event = let stamp = stamp_of tree_clock history event in stamp_text stamp.0 stamp.1
