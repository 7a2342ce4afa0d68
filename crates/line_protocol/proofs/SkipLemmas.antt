-- What is read on while a line is skipped.
use Rattle.std.proofs.Common.{◌≡◌, ℕ, ◌+◌, List, [], ◌∷◌, ◌++◌, inl, Bool, length, drop, sym, ap, ◌∙◌, append_assoc}
use Rattle.std.proofs.Math.Seq.{drop-append-add}
use Rattle.line_protocol.specs.Ends.{HasNoEnd, EndsAt, Comes, Skipped, Skips}
use Rattle.line_protocol.proofs.EndsLemmas.{HasNoEnd-append}

-- what is left behind the first end of line
pub EndsAt-after : (bytes : List ℕ) (at : ℕ) (ends : EndsAt bytes at) → drop (at + 1) bytes ≡ ends.after
EndsAt-after bytes at ends =
    ap (λ n. drop (n + 1) bytes) (sym ends.place) ∙ ap (drop (length ends.before + 1)) ends.splits ∙ drop-append-add ends.before (10 ∷ ends.after) 1

-- what came where nothing was left
came : (given given' left left' : List ℕ) → Comes given given' left left' → left ≡ [] → given' ≡ given ++ left'
came given given' left left' comes none =
    comes.grows ∙ ap (λ bytes. given ++ bytes) (sym (comes.adds ∙ ap (λ bytes. bytes ++ comes.gave) none))

pub Skipped-more : (given given' given'' left left' : List ℕ) → Skipped given given' → Comes given' given'' left left' → left ≡ [] → HasNoEnd left' → Skipped given given''
Skipped-more given given' given'' left left' skipped comes none no_end = record {
  skipped = skipped.skipped ++ left';
  no_end = HasNoEnd-append skipped.skipped left' skipped.no_end no_end;
  grows =
      came given' given'' left left' comes none ∙ ap (λ bytes. bytes ++ left') skipped.grows ∙ append_assoc given skipped.skipped left';
}

pub Skips-at : (given given' given'' left left' rest : List ℕ) (at : ℕ) (is_ended : Bool) → Skipped given given' → Comes given' given'' left left' → left ≡ [] → EndsAt left' at → rest ≡ drop (at + 1) left'
    → Skips given given'' rest is_ended
Skips-at given given' given'' left left' rest at is_ended skipped comes none ends is = record {
  skipped = skipped.skipped ++ ends.before;
  no_end = HasNoEnd-append skipped.skipped ends.before skipped.no_end ends.no_end;
  grows = inl (
      came given' given'' left left' comes none ∙ ap (λ bytes. bytes ++ left') skipped.grows ∙ append_assoc given skipped.skipped left'
      ∙ ap (λ bytes. given ++ (skipped.skipped ++ bytes)) (ends.splits ∙ ap (λ after. ends.before ++ 10 ∷ after) (sym (is ∙ EndsAt-after left' at ends)))
      ∙ ap (λ bytes. given ++ bytes) (sym (append_assoc skipped.skipped ends.before (10 ∷ rest))));
}
