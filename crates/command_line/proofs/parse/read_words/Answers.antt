use Rattle.std.proofs.Common.{rules, ◌≡◌, ◌≤◌, ◌∙◌, ◌⊎◌, true, ap, sym, subst, inl, inr, refl, arith, map, length, [], Result, Ok, Err, IfOk, IfSome}
use Rattle.std.proofs.lemmas.List.{length-map}
use Rattle.clap.specs.Words.{App}
use Rattle.clap.specs.Faults.{fault_of, is_simple_and_free}
use Rattle.clap.specs.Kinds.{IsAmong, Kinds}
use Rattle.clap.specs.declared.error.kind.ErrorKind.{ErrorKind}
use Rattle.clap.specs.declared.error.kind.ErrorKind.TheVariants.{OutOfMemory}
use Rattle.command_line.specs.Reading.{Agrees, IsAnswer, IsToldOf, Work, demand_of, kinds_of, program_app, work_found, work_of}
use Rattle.command_line.specs.declared.demand.Asked.{Asked}
use Rattle.command_line.specs.declared.demand.Asked.TheVariants.{Replay, Serve, Check, Load, Show}
use Rattle.command_line.specs.declared.parse.Refusal.{Refusal}
use Rattle.command_line.specs.declared.parse.Refusal.TheVariants.{Words, Memory}
use Rattle.command_line.proofs.Asking.{asks, found_is, has_asked, takes_asked}
use Rattle.command_line.proofs.parse.read_words.Goals as goal

free : (app : App) → app ≡ program_app → is_simple_and_free app ≡ true
free app is = ap is_simple_and_free is ∙ refl

-- a fault of one of the kinds
of_kinds : (kind : ErrorKind) (kinds : Kinds) (work : Work) (result : Result Asked Refusal) → IsAmong kind kinds → IsToldOf kind result → IsAnswer kinds work result
of_kinds kind kinds work (Ok (Replay replay)) among told = absurd told
of_kinds kind kinds work (Ok (Serve service)) among told = absurd told
of_kinds kind kinds work (Ok Check) among told = absurd told
of_kinds kind kinds work (Ok (Load tenant)) among told = absurd told
of_kinds kind kinds work (Ok (Show text)) among told = (kind, among, told)
of_kinds kind kinds work (Err (Words text)) among told = inr (kind, among, told)
of_kinds kind kinds work (Err Memory) among told = tt

of_fault : (kind : ErrorKind) (kinds : Kinds) (work : Work) (result : Result Asked Refusal) → (kind ≡ OutOfMemory) ⊎ IsAmong kind kinds
    → (kind ≡ OutOfMemory → result ≡ Err Memory) → IsToldOf kind result → IsAnswer kinds work result
of_fault kind kinds work result (inl is) memory told = subst (IsAnswer kinds work) (sym (memory is)) tt
of_fault kind kinds work result (inr among) memory told = of_kinds kind kinds work result among told

pub returns-in-Ok-clause-asked : goal.returns-in-Ok-clause-asked
returns-in-Ok-clause-asked g c = asks (map g.S.AsStr.text c.args.words.now) _ (λ asked asks.
    let words_bound : length c.args.words.now ≤ 18446744073709551615 = search rules in
    let bound : length (map g.S.AsStr.text c.args.words.now) ≤ 18446744073709551615 = omega (length-map c.args.words.now g.S.AsStr.text, arith) in
    c.asked_of.ensures.asked asked (has_asked _ _ c.in-Ok.matches asked c.in_ok-command.ensures asks bound c.in-Ok.ensures.matches))

pub returns-in-Ok-clause-kinds : goal.returns-in-Ok-clause-kinds
returns-in-Ok-clause-kinds g c =
    let words = map g.S.AsStr.text c.args.words.now in
    let none = c.in-Ok.ensures.kinds (free _ c.in_ok-command.ensures) in
    let is : kinds_of words ≡ [] = ap (λ app. fault_of app words) (sym c.in_ok-command.ensures) ∙ none in
    let work = ap work_found (found_is _ words c.in-Ok.matches c.in_ok-command.ensures c.in-Ok.ensures.matches) in
    subst (λ kinds. IsAnswer kinds (work_of words) c.asked_of.result) (sym is)
    (subst (λ work. IsAnswer [] work c.asked_of.result) work c.asked_of.ensures.kinds)

pub returns-in-Ok-clause-found : goal.returns-in-Ok-clause-found
returns-in-Ok-clause-found g c =
    let same = found_is _ (map g.S.AsStr.text c.args.words.now) c.in-Ok.matches c.in_ok-command.ensures c.in-Ok.ensures.matches in
    subst (λ found. IfOk c.asked_of.result (λ asked. IfSome (demand_of asked) (Agrees found))) same c.asked_of.ensures.found

pub returns-in-Err-clause-asked : goal.returns-in-Err-clause-asked
returns-in-Err-clause-asked g c = asks (map g.S.AsStr.text c.args.words.now) _ (λ asked asks.
    let words_bound : length c.args.words.now ≤ 18446744073709551615 = search rules in
    let bound : length (map g.S.AsStr.text c.args.words.now) ≤ 18446744073709551615 = omega (length-map c.args.words.now g.S.AsStr.text, arith) in
    rw (c.shown.ensures.memory (c.in-Err.ensures.passes (takes_asked _ _ asked c.in_ok-command.ensures asks bound))) tt)

pub returns-in-Err-clause-kinds : goal.returns-in-Err-clause-kinds
returns-in-Err-clause-kinds g c =
    let fails = c.in-Err.ensures.kinds (free _ c.in_ok-command.ensures) in
    let answer = of_fault _ _ (work_of (map g.S.AsStr.text c.args.words.now)) c.shown.result fails c.shown.ensures.memory c.shown.ensures.told in
    subst (λ app. IsAnswer (fault_of app (map g.S.AsStr.text c.args.words.now)) (work_of (map g.S.AsStr.text c.args.words.now)) c.shown.result) c.in_ok-command.ensures answer
