-- How an id is told from others by a list of marks, and how many pairs it has.
use Rattle.std.specs.Prelude.{◌≡◌, ℕ, ◌+◌, Bool, true, false, Option, Some, None, List, [], ◌∷◌, refl}
use Rattle.std.proofs.Common.{ap, ◌∙◌}
use Rattle.std.specs.Coded.{Coded, code_by, coded_bool, coded_list, coded_option}
use Rattle.trace_types.specs.clock.Id.{Id, Zero, One, Pair}

-- how many pairs the id has: a measure for what walks down it
abbrev pub pair_count : Id → ℕ
pair_count Zero = 0
pair_count One = 0
pair_count (Pair left right) = pair_count left + pair_count right + 1

-- the marks of the id in front of other marks: a pair first, then what its halves have
abbrev pub marks_before : Id → List (Option Bool) → List (Option Bool)
marks_before Zero rest = Some false ∷ rest
marks_before One rest = Some true ∷ rest
marks_before (Pair left right) rest = None ∷ marks_before left (marks_before right rest)

-- the ids with a mark set before them
abbrev pub after_mark : Option Bool → List Id → List Id
after_mark (Some false) ids = Zero ∷ ids
after_mark (Some true) ids = One ∷ ids
after_mark None (left ∷ right ∷ ids) = Pair left right ∷ ids
after_mark None ids = ids

-- the ids whose marks stand one after another
abbrev pub marked_ids : List (Option Bool) → List Id
marked_ids [] = []
marked_ids (mark ∷ marks) = after_mark mark (marked_ids marks)

-- the first id, where there is one
abbrev pub first_id : List Id → Id
first_id [] = Zero
first_id (id ∷ ids) = id

-- reading the marks gives the id back
pub marked_ids-marks_before : (id : Id) (rest : List (Option Bool)) → marked_ids (marks_before id rest) ≡ id ∷ marked_ids rest
marked_ids-marks_before Zero rest = refl
marked_ids-marks_before One rest = refl
marked_ids-marks_before (Pair left right) rest =
    ap (after_mark None) (marked_ids-marks_before left (marks_before right rest) ∙ ap (λ ids. left ∷ ids) (marked_ids-marks_before right rest))

-- an id is stored as the list of its marks
abbrev pub id_code : Coded Id
id_code =
    code_by (List (Option Bool)) (coded_list (coded_option coded_bool)) (λ id. marks_before id []) (λ marks. first_id (marked_ids marks))
    (λ id. ap first_id (marked_ids-marks_before id []))
