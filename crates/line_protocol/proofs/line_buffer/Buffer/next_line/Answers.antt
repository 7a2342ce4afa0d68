use Rattle.std.proofs.Common.{ℕ, Bool, Err, ◌≡◌, ◌≤◌, ◌⊎◌, IsTrue, inl, inr, refl, sym, ap, ◌∙◌, true, false}
use Rattle.line_protocol.proofs.LineReadingLemmas.{FindsNone-skipped, LastRead-map, ReadsUntil-more, ReadsUntil-fault}
use Rattle.line_protocol.proofs.NextLineLemmas.{FindsNext-at, FindsNext-rest, FindsNext-skipped, FindsNext-failed}
use Rattle.line_protocol.proofs.line_buffer.Buffer.next_line.Given.{Over}
use Rattle.line_protocol.proofs.line_buffer.Buffer.next_line.Goals.{After-skip_line}
use Rattle.line_protocol.proofs.line_buffer.Buffer.next_line.Goals as goal

long : (is_ended : Bool) (m n : ℕ) → is_ended ≡ false → IsTrue is_ended ⊎ (m ≤ n) → m ≤ n
long is_ended m n going (inl ended) = absurd (cc)
long is_ended m n going (inr enough) = enough

goes_on : (old new : Bool) → new ≡ false → (IsTrue old → new ≡ old) → old ≡ false
goes_on true new going same = sym (same refl) ∙ going
goes_on false new going same = refl

-- a line is skipped only where the end was not told
going : (g : Over) (c : After-skip_line g) → c.find_end.new.self.is_ended ≡ false
going g c = ap (λ held. held.is_ended) (sym c.self.view_is) ∙ c.if-self.false

pub returns-in-Some-clause-finds : goal.returns-in-Some-clause-finds
returns-in-Some-clause-finds g c =
    rw c.take_line.ensures.kind
    (FindsNext-at c.in_ok-at.ensures.comes (rw c.in-Some.is at c.in_ok-at.ensures.found) c.in_ok-at.ensures.reads
    c.take_line.ensures.line c.take_line.ensures.left c.take_line.ensures.same.0 c.take_line.ensures.same.1 c.take_line.ensures.bounds)

pub returns-in-None-clause-finds : goal.returns-in-None-clause-finds
returns-in-None-clause-finds g c =
    rw c.take_rest.ensures.kind
    (FindsNext-rest c.in_ok-at.ensures.comes (rw c.in-None.is at c.in_ok-at.ensures.found).0 c.in_ok-at.ensures.reads
    (ap (λ held. held.is_ended) (sym c.self.view_is) ∙ c.if-self.true)
    c.take_rest.ensures.line c.take_rest.ensures.left c.take_rest.ensures.same.0 c.take_rest.ensures.same.1 c.take_rest.ensures.bounds)

pub returns-in_ok-skip_line-in-None-2-clause-finds : goal.returns-in_ok-skip_line-in-None-2-clause-finds
returns-in_ok-skip_line-in-None-2-clause-finds g c =
    let going = going g (goal.at.returns-in_ok-skip_line-in-None-2-clause-finds g c).After-skip_line in
    let found = rw c.in-None-2.is at c.in_ok-at.ensures.found in
    let skipped = c.in_ok-skip_line-in-None-2.ensures in
    FindsNext-skipped c.in_ok-at.ensures.comes found.0 c.in_ok-at.ensures.reads going (long _ _ _ going found.1) skipped.skips skipped.less skipped.reads

pub returns-in_ok-skip_line-in-None-2-clause-last : goal.returns-in_ok-skip_line-in-None-2-clause-last
returns-in_ok-skip_line-in-None-2-clause-last g c =
    let going = going g (goal.at.returns-in_ok-skip_line-in-None-2-clause-last g c).After-skip_line in
    let found = rw c.in-None-2.is at c.in_ok-at.ensures.found in
    let unended = goes_on c.args.self.now.is_ended c.find_end.new.self.is_ended going (λ e. ap (λ held. held.is_ended) (c.in_ok-at.ensures.at_end e).1) in
    inr (LastRead-map c.in_ok-skip_line-in-None-2.ensures.last (λ given skipped. FindsNone-skipped c.in_ok-at.ensures.comes found.0 skipped unended))

pub returns-in_err-skip_line-in-None-2-clause-finds : goal.returns-in_err-skip_line-in-None-2-clause-finds
returns-in_err-skip_line-in-None-2-clause-finds g c =
    let going = going g (goal.at.returns-in_err-skip_line-in-None-2-clause-finds g c).After-skip_line in
    let found = rw c.in-None-2.is at c.in_ok-at.ensures.found in
    let skipped = c.in_err-skip_line-in-None-2.ensures in
    let is = c.from_residual-in_err-skip_line-in-None-2.ensures.1 in
    FindsNext-failed _ _ is
    (FindsNone-skipped c.in_ok-at.ensures.comes found.0 skipped.skips
    (goes_on c.args.self.now.is_ended c.find_end.new.self.is_ended going (λ e. ap (λ held. held.is_ended) (c.in_ok-at.ensures.at_end e).1)))
    (ReadsUntil-fault _ _ is (ReadsUntil-more {result = Err c.in_err-skip_line-in-None-2.field-0.0} c.in_ok-at.ensures.reads.reads going skipped.reads))
