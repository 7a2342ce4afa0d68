use Rattle.std.proofs.Common.{rules, ℕ, ◌≡◌, ◌∙◌, ◌⊎◌, inl, inr, Bool, true, false, Option, Some, None, Result, Ok, Err, IfSome, IfErr, OnOk, ◌≢◌, ◌<◌, ◌≤◌, map, refl, sym, ap, subst, arith}
use Rattle.command_line.specs.Demand.{Demand, ToReplay, ToServe, ToCheck, ToLoad}
use Rattle.collector.specs.Taking.{is_taken}
use Rattle.collector.specs.Fault.{status_of}
use Rattle.collector.specs.Program.{Does, DoesInPart, GoesThrough, IsFailure, IsUntouched, LacksMemory, LoadsExport, LoadsExportInPart, NothingFails, RefusesTenants, ShowsSome, TellsFault}
use Rattle.collector.specs.Serving.{Serves, ServesInPart}
use Rattle.line_protocol.specs.Source.{Given}
use Rattle.line_protocol.specs.Sink.{Taken}
use Rattle.std.proofs.lemmas.Bool.{cases_eq}
use Rattle.std.specs.Prelude.{unwrap_or, List, string_bytes}
use Rattle.trace_types.specs.text.Name.{Text, is_name}
use Rattle.collector.specs.declared.fault.Fault.{Fault}
use Rattle.collector.specs.declared.fault.Fault.TheVariants.{Words, Tenants, Port, Accept, Read, Write, TooLong, Memory}
use Rattle.command_line.specs.Demand.{asked_in}
use Rattle.command_line.specs.Reading.{Agrees, IsAnswer, IsAskedBy, IsInRange, ReadsWords, Serving, Checking, Loading, demand_of, found_in, kinds_of, service_of, wanted_of, work_of}
use Rattle.command_line.specs.declared.demand.Asked.{Asked}
use Rattle.command_line.specs.declared.demand.Asked.TheVariants.{Replay, Serve, Check, Load, Show}
use Rattle.command_line.specs.declared.parse.Refusal.TheVariants as refusal
use Rattle.collector.proofs.program.run.Goals as goal
use Rattle.collector.proofs.program.run.Goals.{in-Ok-Replay, in-Ok-Show, in-Err-Memory}

on_asked : (option : Option Demand) (P Q : Demand → Type 0) → IfSome option P → ((asked : Demand) → P asked → Q asked) → IfSome option Q
on_asked None P Q holds then_holds = tt
on_asked (Some asked) P Q holds then_holds = then_holds asked holds

some_same : {X : Type 0} {a b : X} → Some a ≡ Some b → a ≡ b
some_same {X} {a} e = ap (λ o. unwrap_or o a) e

at_ok : {T E : Type 0} (result : Result T E) (value : T) (P : Type 0) → result ≡ Ok value → OnOk result P → P
at_ok result value P is holds = subst (λ r. OnOk r P) is holds

at_err : {T E : Type 0} (result : Result T E) (error : E) (P : E → Type 0) → result ≡ Err error → IfErr result P → P error
at_err result error P is holds = subst (λ r. IfErr r P) is holds

same_err : {T E : Type 0} (result : Result T E) (a b : E) → result ≡ Err a → result ≡ Err b → a ≡ b
same_err result a b is other = at_err result b (λ e. a ≡ e) other (subst (λ r. IfErr r (λ e. a ≡ e)) (sym is) refl)

done_taken : (before after : Taken) (taken : Bool) → taken ≡ true → RefusesTenants taken before after 0
done_taken before after true is = λ e. omega arith
done_taken before after false is = cc

status_taken : (before after : Taken) (fault : Fault) (taken : Bool) → TellsFault before after fault → (status_of fault ≡ 2 → (fault ≡ Tenants) × (taken ≡ false)) → (status_of fault ≡ 3 → taken ≡ true)
    → (status_of fault ≡ 4 → taken ≡ true) → RefusesTenants taken before after (status_of fault)
status_taken before after Tenants false told refused in_part lacks = (refl, told)
status_taken before after Tenants true told refused in_part lacks = let no = (refused refl).1 in cc
status_taken before after Words taken told refused in_part lacks = let no = (refused refl).0 in cc
status_taken before after Memory false told refused in_part lacks = let no = lacks refl in cc
status_taken before after fault true told refused in_part lacks = λ e. omega arith
status_taken before after fault false told refused in_part lacks = let no = in_part refl in cc

three_only : (fault : Fault) → 2 < status_of fault → status_of fault ≢ 4 → status_of fault ≡ 3
three_only Words more four = absurd (omega arith)
three_only Tenants more four = absurd (omega arith)
three_only Memory more four = absurd (four refl)
three_only fault more four = refl

four_only : (fault : Fault) → status_of fault ≡ 4 → fault ≡ Memory
four_only Memory four = refl
four_only fault four = absurd (omega arith)

two_at_least : (fault : Fault) → 2 ≤ status_of fault
two_at_least Words = omega arith
two_at_least fault = omega arith

-- what is known of what was read, as an answer to the words
abbrev IsReadAs : List Text → Asked → Type 0
IsReadAs words asked = IsAnswer (kinds_of words) (work_of words) (Ok asked)
    × IfSome (asked_in words) (λ due. ReadsWords due (Ok asked))
    × IfSome (demand_of asked) (Agrees (found_in words))

-- so the words ask for it
asked_by : (words : List Text) (asked : Asked) (demand : Demand) → demand_of asked ≡ Some demand → IsReadAs words asked → IsInRange demand → IsAskedBy words demand
asked_by words (Show text) demand is read ranges = cc
asked_by words asked demand is read ranges =
    subst (IsAskedBy words) (some_same is)
    (record { taken = read.0.0; work = read.0.1; found = read.2; exact = read.1; ranges = subst IsInRange (sym (some_same is)) ranges })

-- tenants that are not refused are taken
taken_unless : (before after : Taken) (taken : Bool) (status : ℕ) → RefusesTenants taken before after status → status ≢ 2 → taken ≡ true
taken_unless before after true status refuses other = refl
taken_unless before after false status refuses other = absurd (other refuses.0)

-- a service that ran out of memory met no failed write
service_unfailed : (port : ℕ) (given : Given) (taken taken' : Taken) → ServesInPart Memory port taken taken' → NothingFails given given taken taken'
service_unfailed port given taken taken' (inl same) = (λ e. omega (arith, e), λ e. omega (arith, e, ap (λ (t : Taken). t.failures) same))
service_unfailed port given taken taken' (inr all) = (λ e. omega (arith, e), λ e. omega (arith, e, all.2))

-- why serving was broken off
serving_failed : (fault : Fault) (port : ℕ) (before after : Given) (taken taken' : Taken) → status_of fault ≡ 3 → ServesInPart fault port taken taken'
    → IsFailure before after taken taken' fault
serving_failed Words port before after taken taken' three part = cc
serving_failed Tenants port before after taken taken' three part = cc
serving_failed Port port before after taken taken' three part = tt
serving_failed Accept port before after taken taken' three part = tt
serving_failed Read port before after taken taken' three part = absurd part
serving_failed Write port before after taken taken' three part = part.ends
serving_failed TooLong port before after taken taken' three part = absurd part
serving_failed Memory port before after taken taken' three part = cc

-- what was served went through
served_through : (port sessions : ℕ) (given : Given) (taken taken' : Taken) → Serves port sessions taken taken' → GoesThrough given given taken taken'
served_through port sessions given taken taken' serves = ((λ e. omega (arith, e), λ e. omega (arith, e, serves.lines.2)), serves.lines.1)

-- some text was shown
told_some : (before after : Taken) → TellsFault before after Tenants → ShowsSome before after
told_some before after told = (_, omega arith, told)

pub returns-in-Ok-Serve : goal.returns-in-Ok-Serve
returns-in-Ok-Serve g c =
    let words = map g.S.AsStr.text c.args.words.now in
    let field : c.in-Ok-Serve.field-0 ≡ Serve c.in-Ok-Serve.wanted = search rules in
    let asked_is = ToServe (service_of c.in-Ok-Serve.wanted) in
    let read = subst (IsReadAs words) field (c.in-Ok-Serve.ensures.kinds, c.in-Ok-Serve.ensures.asked, c.in-Ok-Serve.ensures.found) in
    let ranges : IsInRange asked_is = search rules in
    let by = asked_by words (Serve c.in-Ok-Serve.wanted) asked_is refl read ranges in
    let given = g.R.Source.seen c.args.reader.now in
    let taken = g.W.Sink.seen c.args.writer.now in
    let taken' = g.W.Sink.seen c.serve_programs.new.writer in
    let told = g.E.Sink.seen c.args.errors.now in
    let told' = g.E.Sink.seen c.serve_programs.new.errors in
    let port = c.in-Ok-Serve.wanted.port in
    let sessions = c.in-Ok-Serve.wanted.sessions in
    record {
      words_refused = λ two.
          let refused = c.serve_programs.ensures.refused two in
          (inl by.taken, (search rules, refused.0), told_some told told' refused.1);
      tenants_refused = on_asked _ (λ asked. asked ≡ asked_is) _ by.exact (λ asked is.
          inl (subst (λ one. RefusesTenants (is_taken one) told told' c.serve_programs.result) (sym is) c.serve_programs.ensures.taken));
      memory = λ four.
          let broken = c.serve_programs.ensures.broken_off (omega arith) in
          let fault_is = four_only broken.0 (sym broken.1 ∙ four) in
          let part = subst (λ fault. ServesInPart fault port taken taken') fault_is broken.2 in (
            subst (λ fault. TellsFault told told' fault) fault_is broken.3,
            service_unfailed port given taken taken' part,
            inr (
              asked_is,
              by,
              taken_unless told told' (is_taken asked_is) c.serve_programs.result c.serve_programs.ensures.taken (λ e. omega (arith, four, e)),
              (refl, part),
            ),
          );
      done = λ few.
          let did = c.serve_programs.ensures.done few in (
            (λ loud. did.1),
            served_through port sessions given taken taken' did.2,
            inr (
              asked_is,
              by,
              taken_unless told told' (is_taken asked_is) c.serve_programs.result c.serve_programs.ensures.taken (λ e. omega (arith, did.0, e)),
              (did.0, refl, did.2),
            ),
          );
      not_loaded = λ one is. let differ : Serving ≡ Loading = sym by.work ∙ is in absurd (cc);
      did = λ few.
          let did = c.serve_programs.ensures.done few in
          on_asked _ (λ asked. asked ≡ asked_is) _ by.exact (λ asked is.
          subst (λ one. Does g.R.Source.seen one c.args.reader.now c.args.reader.now taken taken' c.serve_programs.result) (sym is) (did.0, refl, did.2));
      broken_off = λ others.
          let broken = c.serve_programs.ensures.broken_off others.0 in
          let is = three_only broken.0 (subst (λ n. 2 < n) broken.1 others.0) (λ e. others.1 (broken.1 ∙ e)) in (
            broken.1 ∙ is,
            broken.0,
            (
              serving_failed broken.0 port given given taken taken' is broken.2,
              on_asked _ (λ asked. asked ≡ asked_is) _ by.exact (λ asked same.
                  subst (λ one. DoesInPart g.R.Source.seen one broken.0 c.args.reader.now c.args.reader.now taken taken') (sym same) (refl, broken.2)),
            ),
            broken.3,
            inr (
              asked_is,
              by,
              taken_unless told told' (is_taken asked_is) c.serve_programs.result c.serve_programs.ensures.taken (λ e. omega (arith, others.0, e)),
              (refl, broken.2),
            ),
          );
    }

pub returns-in-Err-Words : goal.returns-in-Err-Words
returns-in-Err-Words g c = record {
  words_refused = λ two.
      let words = map g.S.AsStr.text c.args.words.now in
      let field : c.in-Err-Words.field-0 ≡ refusal.Words c.in-Err-Words.text = search rules in
      (subst (λ one. IsAnswer (kinds_of words) (work_of words) (Err one)) field c.in-Err-Words.ensures.kinds, search rules, search rules);
  tenants_refused = on_asked _ (λ asked. ReadsWords asked (Err c.in-Err-Words.field-0)) _ c.in-Err-Words.ensures.asked (λ asked read.
      let field : c.in-Err-Words.field-0 ≡ refusal.Words c.in-Err-Words.text = search rules in
      absurd (subst (λ one. ReadsWords asked (Err one)) field read));
  memory = search rules;
  done = search rules;
  not_loaded = search rules;
  did = search rules;
  broken_off = search rules;
}

pub returns-in-Ok-Check : goal.returns-in-Ok-Check
returns-in-Ok-Check g c =
    let words = map g.S.AsStr.text c.args.words.now in
    let field : c.in-Ok-Check.field-0 ≡ Check = search rules in
    let read = subst (IsReadAs words) field (c.in-Ok-Check.ensures.kinds, c.in-Ok-Check.ensures.asked, c.in-Ok-Check.ensures.found) in
    let by = asked_by words Check ToCheck refl read tt in
    let given = g.R.Source.seen c.args.reader.now in
    let given' = g.R.Source.seen c.check_input.new.reader in
    let taken = g.W.Sink.seen c.args.writer.now in
    let taken' = g.W.Sink.seen c.check_input.new.writer in
    let told = g.E.Sink.seen c.args.errors.now in
    let told' = g.E.Sink.seen c.check_input.new.errors in
    record {
      words_refused = λ two. absurd (c.check_input.ensures.taken two);
      tenants_refused = on_asked _ (λ asked. asked ≡ ToCheck) _ by.exact (λ asked is.
          inl (subst (λ one. RefusesTenants (is_taken one) told told' c.check_input.result) (sym is) c.check_input.ensures.taken));
      memory = λ four.
          let lacked = c.check_input.ensures.memory four in
          let same = ap (λ writer. (g.W.Sink.seen writer).failures) lacked.0 in
          (lacked.1, (c.check_input.ensures.unfailed four, λ e. omega (arith, e, same)), inr (ToCheck, by, refl, lacked.0));
      done = λ few.
          let did = c.check_input.ensures.done few in
          ((λ loud. did.0), did.1, inr (ToCheck, by, refl, did.2));
      not_loaded = λ one is. let differ : Checking ≡ Loading = sym by.work ∙ is in absurd (cc);
      did = λ few. on_asked _ (λ asked. asked ≡ ToCheck) _ by.exact (λ asked is.
          subst (λ one. Does g.R.Source.seen one c.args.reader.now c.check_input.new.reader taken taken' c.check_input.result) (sym is) (c.check_input.ensures.done few).2);
      broken_off = λ others.
          let broken = c.check_input.ensures.broken_off others.0 others.1 in (
            broken.0,
            broken.1,
            (
              broken.2,
              on_asked _ (λ asked. asked ≡ ToCheck) _ by.exact (λ asked is.
                  subst (λ one. DoesInPart g.R.Source.seen one broken.1 c.args.reader.now c.check_input.new.reader taken taken') (sym is) broken.3),
            ),
            broken.4,
            inr (ToCheck, by, refl, broken.3),
          );
    }

pub returns-in-Ok-Load : goal.returns-in-Ok-Load
returns-in-Ok-Load g c =
    let words = map g.S.AsStr.text c.args.words.now in
    let tenant = string_bytes c.in-Ok-Load.tenant in
    let field : c.in-Ok-Load.field-0 ≡ Load c.in-Ok-Load.tenant = search rules in
    let read = subst (IsReadAs words) field (c.in-Ok-Load.ensures.kinds, c.in-Ok-Load.ensures.asked, c.in-Ok-Load.ensures.found) in
    let by = asked_by words (Load c.in-Ok-Load.tenant) (ToLoad tenant) refl read tt in
    let same : c.as_str.result.now ≡ tenant = search rules in
    let given = g.R.Source.seen c.args.reader.now in
    let given' = g.R.Source.seen c.load_input.new.reader in
    let taken = g.W.Sink.seen c.args.writer.now in
    let taken' = g.W.Sink.seen c.load_input.new.writer in
    let told = g.E.Sink.seen c.args.errors.now in
    let told' = g.E.Sink.seen c.load_input.new.errors in
    record {
      words_refused = λ two.
          let refused = c.load_input.ensures.refused two in
          (inl by.taken, refused.0, told_some told told' refused.1);
      tenants_refused = on_asked _ (λ asked. asked ≡ ToLoad tenant) _ by.exact (λ asked is.
          inl (subst (λ one. RefusesTenants (is_taken one) told told' c.load_input.result) (sym is)
          (subst (λ name. RefusesTenants (is_name name) told told' c.load_input.result) same c.load_input.ensures.taken)));
      memory = λ four.
          let broken = c.load_input.ensures.broken_off (omega (arith, four)) in
          let fault_is = four_only broken.0 (sym broken.1 ∙ four) in (
            subst (λ fault. TellsFault told told' fault) fault_is broken.5,
            c.load_input.ensures.unfailed four,
            inr (
              ToLoad tenant,
              by,
              subst (λ name. is_name name ≡ true) same broken.2,
              subst (λ name. LoadsExportInPart g.R.Source.seen Memory name c.args.reader.now c.load_input.new.reader taken taken') same
                  (subst (λ fault. LoadsExportInPart g.R.Source.seen fault c.as_str.result.now c.args.reader.now c.load_input.new.reader taken taken') fault_is broken.3),
            ),
          );
      done = λ few.
          let did = c.load_input.ensures.done few in (
            (λ loud. elim (cases_eq c.load_input.result 1) [
              | inl one ↦ absurd (loud (one, by.work))
              | inr other ↦ c.load_input.ensures.quiet (omega (arith, few, other))
            ]),
            did.0,
            inr (
              ToLoad tenant,
              by,
              subst (λ name. is_name name ≡ true) same did.1,
              subst (λ name. LoadsExport name given given' taken taken' c.load_input.result) same did.2,
            ),
          );
      not_loaded = λ one is. c.load_input.ensures.not_loaded one;
      did = λ few. on_asked _ (λ asked. asked ≡ ToLoad tenant) _ by.exact (λ asked is.
          subst (λ one. Does g.R.Source.seen one c.args.reader.now c.load_input.new.reader taken taken' c.load_input.result) (sym is)
          (subst (λ name. LoadsExport name given given' taken taken' c.load_input.result) same (c.load_input.ensures.done few).2));
      broken_off = λ others.
          let broken = c.load_input.ensures.broken_off others.0 in
          let three = three_only broken.0 (subst (λ n. 2 < n) broken.1 others.0) (λ e. others.1 (broken.1 ∙ e)) in
          let part = subst (λ name. LoadsExportInPart g.R.Source.seen broken.0 name c.args.reader.now c.load_input.new.reader taken taken') same broken.3 in (
            broken.1 ∙ three,
            broken.0,
            (
              broken.4 three,
              on_asked _ (λ asked. asked ≡ ToLoad tenant) _ by.exact (λ asked is.
                  subst (λ one. DoesInPart g.R.Source.seen one broken.0 c.args.reader.now c.load_input.new.reader taken taken') (sym is) part),
            ),
            broken.5,
            inr (ToLoad tenant, by, subst (λ name. is_name name ≡ true) same broken.2, part),
          );
    }

pub returns-in-Ok : goal.returns-in-Ok
returns-in-Ok g c = record {
  words_refused = search rules;
  tenants_refused = elim c.match-read_words.branch [
    | in-Ok-Replay w ↦ on_asked _ (λ asked. ReadsWords asked (Ok w.in-Ok-Replay.field-0)) _ w.in-Ok-Replay.ensures.asked (λ asked read.
        let field : w.in-Ok-Replay.field-0 ≡ Replay w.in-Ok-Replay.wanted = search rules in
        let is : asked ≡ ToReplay (wanted_of w.in-Ok-Replay.wanted) = subst (λ one. ReadsWords asked (Ok one)) field read in
        let taken = at_ok w.replay_tenants-done.result c.in-Ok.field-0 _ (sym w.done-is ∙ c.in-Ok.is) w.replay_tenants-done.ensures.taken in
        inl (done_taken _ _ (is_taken asked) (ap is_taken is ∙ taken.0)))
    | in-Ok-Show w ↦ on_asked _ (λ asked. ReadsWords asked (Ok w.in-Ok-Show.field-0)) _ w.in-Ok-Show.ensures.asked (λ asked read.
        let field : w.in-Ok-Show.field-0 ≡ Show w.in-Ok-Show.text = search rules in
        absurd (subst (λ one. ReadsWords asked (Ok one)) field read))
    | in-Err-Memory w ↦ let no = sym w.done-is ∙ c.in-Ok.is in cc
  ];
  memory = search rules;
  not_loaded = λ one is. absurd (omega (arith, one));
  done = λ few. (
    (λ loud. search rules),
    search rules,
    elim c.match-read_words.branch [
      | in-Ok-Replay w ↦
          let words = map g.S.AsStr.text c.args.words.now in
          let field : w.in-Ok-Replay.field-0 ≡ Replay w.in-Ok-Replay.wanted = search rules in
          let asked_is = ToReplay (wanted_of w.in-Ok-Replay.wanted) in
          let done = sym w.done-is ∙ c.in-Ok.is in
          let taken = at_ok w.replay_tenants-done.result c.in-Ok.field-0 _ done w.replay_tenants-done.ensures.taken in
          let read = subst (IsReadAs words) field (w.in-Ok-Replay.ensures.kinds, w.in-Ok-Replay.ensures.asked, w.in-Ok-Replay.ensures.found) in
          let by = asked_by words (Replay w.in-Ok-Replay.wanted) asked_is refl read taken.1 in
          let does = at_ok w.replay_tenants-done.result c.in-Ok.field-0 _ done w.replay_tenants-done.ensures.done in
          inr (asked_is, by, taken.0, rw (w.reader-is, w.writer-is) does)
      | in-Ok-Show w ↦
          let words = map g.S.AsStr.text c.args.words.now in
          let field : w.in-Ok-Show.field-0 ≡ Show w.in-Ok-Show.text = search rules in
          inl (
            refl,
            subst (λ one. IsAnswer (kinds_of words) (work_of words) (Ok one)) field w.in-Ok-Show.ensures.kinds,
            search rules,
            search rules,
          )
      | in-Err-Memory w ↦ let no = sym w.done-is ∙ c.in-Ok.is in cc
    ],
  );
  did = λ few. elim c.match-read_words.branch [
    | in-Ok-Replay w ↦ on_asked _ (λ asked. ReadsWords asked (Ok w.in-Ok-Replay.field-0)) _ w.in-Ok-Replay.ensures.asked (λ asked read.
        let field : w.in-Ok-Replay.field-0 ≡ Replay w.in-Ok-Replay.wanted = search rules in
        let is : asked ≡ ToReplay (wanted_of w.in-Ok-Replay.wanted) = subst (λ one. ReadsWords asked (Ok one)) field read in
        let fresh = at_ok w.replay_tenants-done.result c.in-Ok.field-0 _ (sym w.done-is ∙ c.in-Ok.is) w.replay_tenants-done.ensures.done in
        subst (λ one. Does g.R.Source.seen one c.args.reader.now c.match-read_words.reader
        (g.W.Sink.seen c.args.writer.now) (g.W.Sink.seen c.match-read_words.writer) 0) (sym is) (rw (w.reader-is, w.writer-is) fresh))
    | in-Ok-Show w ↦ on_asked _ (λ asked. ReadsWords asked (Ok w.in-Ok-Show.field-0)) _ w.in-Ok-Show.ensures.asked (λ asked read.
        let field : w.in-Ok-Show.field-0 ≡ Show w.in-Ok-Show.text = search rules in
        absurd (subst (λ one. ReadsWords asked (Ok one)) field read))
    | in-Err-Memory w ↦ let no = sym w.done-is ∙ c.in-Ok.is in cc
  ];
  broken_off = search rules;
}

pub returns-in-Err : goal.returns-in-Err
returns-in-Err g c = record {
  words_refused = λ two. (
    elim c.match-read_words.branch [
      | in-Ok-Replay w ↦
          let words = map g.S.AsStr.text c.args.words.now in
          let field : w.in-Ok-Replay.field-0 ≡ Replay w.in-Ok-Replay.wanted = search rules in
          inl (subst (λ one. IsAnswer (kinds_of words) (work_of words) (Ok one)) field w.in-Ok-Replay.ensures.kinds).0
      | in-Ok-Show w ↦
          let fault = at_err w.show_help-done.result c.in-Err.fault _ (sym w.done-is ∙ c.in-Err.is) w.show_help-done.ensures.err in
          let no : 3 ≡ 2 = sym (c.tell.ensures.status ∙ ap status_of fault.0) ∙ two in
          absurd (omega arith)
      | in-Err-Memory w ↦
          let fault_is = same_err c.match-read_words.done c.in-Err.fault Memory c.in-Err.is w.done-is in
          let no : 4 ≡ 2 = sym (c.tell.ensures.status ∙ ap status_of fault_is) ∙ two in
          absurd (omega arith)
    ],
    search rules,
    search rules,
  );
  tenants_refused = elim c.match-read_words.branch [
    | in-Ok-Replay w ↦ on_asked _ (λ asked. ReadsWords asked (Ok w.in-Ok-Replay.field-0)) _ w.in-Ok-Replay.ensures.asked (λ asked read.
        let field : w.in-Ok-Replay.field-0 ≡ Replay w.in-Ok-Replay.wanted = search rules in
        let is : asked ≡ ToReplay (wanted_of w.in-Ok-Replay.wanted) = subst (λ one. ReadsWords asked (Ok one)) field read in
        let same = ap is_taken is in
        let err = sym w.done-is ∙ c.in-Err.is in
        let refused = at_err w.replay_tenants-done.result c.in-Err.fault _ err w.replay_tenants-done.ensures.refused in
        let in_part = at_err w.replay_tenants-done.result c.in-Err.fault _ err w.replay_tenants-done.ensures.in_part in
        let lacks = at_err w.replay_tenants-done.result c.in-Err.fault _ err w.replay_tenants-done.ensures.lacks in
        inl (subst (λ status. RefusesTenants (is_taken asked) (g.E.Sink.seen c.args.errors.now) (g.E.Sink.seen c.tell.new.errors) status) (sym c.tell.ensures.status)
        (status_taken _ _ c.in-Err.fault (is_taken asked) c.tell.ensures.told (λ two. ((refused two).0, same ∙ (refused two).1)) (λ three. same ∙ (in_part three).0) (λ four. same ∙ (lacks four).0))))
    | in-Ok-Show w ↦ on_asked _ (λ asked. ReadsWords asked (Ok w.in-Ok-Show.field-0)) _ w.in-Ok-Show.ensures.asked (λ asked read.
        let field : w.in-Ok-Show.field-0 ≡ Show w.in-Ok-Show.text = search rules in
        absurd (subst (λ one. ReadsWords asked (Ok one)) field read))
    | in-Err-Memory w ↦ on_asked _ (λ asked. ReadsWords asked (Err w.in-Err-Memory.field-0)) _ w.in-Err-Memory.ensures.asked (λ asked read.
        let fault_is = same_err c.match-read_words.done c.in-Err.fault Memory c.in-Err.is w.done-is in
        let untouched : IsUntouched c.args.reader.now c.match-read_words.reader c.args.writer.now c.match-read_words.writer = search rules in
        inr (c.tell.ensures.status ∙ ap status_of fault_is, untouched))
  ];
  memory = λ four. (
    search rules,
    elim c.match-read_words.branch [
      | in-Ok-Replay w ↦
          rw (w.reader-is, w.writer-is)
          (at_err w.replay_tenants-done.result c.in-Err.fault _ (sym w.done-is ∙ c.in-Err.is) w.replay_tenants-done.ensures.unfailed (sym c.tell.ensures.status ∙ four))
      | in-Ok-Show w ↦
          let fault = at_err w.show_help-done.result c.in-Err.fault _ (sym w.done-is ∙ c.in-Err.is) w.show_help-done.ensures.err in
          let no : 3 ≡ 4 = sym (c.tell.ensures.status ∙ ap status_of fault.0) ∙ four in
          absurd (omega arith)
      | in-Err-Memory w ↦
          let untouched : IsUntouched c.args.reader.now c.match-read_words.reader c.args.writer.now c.match-read_words.writer = search rules in
          let read = ap (λ reader. (g.R.Source.seen reader).failures) untouched.0 in
          let written = ap (λ writer. (g.W.Sink.seen writer).failures) untouched.1 in
          (λ e. omega (arith, e, read), λ e. omega (arith, e, written))
    ],
    elim c.match-read_words.branch [
      | in-Ok-Replay w ↦
          let words = map g.S.AsStr.text c.args.words.now in
          let field : w.in-Ok-Replay.field-0 ≡ Replay w.in-Ok-Replay.wanted = search rules in
          let asked_is = ToReplay (wanted_of w.in-Ok-Replay.wanted) in
          let lacked = at_err w.replay_tenants-done.result c.in-Err.fault _ (sym w.done-is ∙ c.in-Err.is) w.replay_tenants-done.ensures.lacks (sym c.tell.ensures.status ∙ four) in
          let ranges : IsInRange asked_is = search rules in
          let read = subst (IsReadAs words) field (w.in-Ok-Replay.ensures.kinds, w.in-Ok-Replay.ensures.asked, w.in-Ok-Replay.ensures.found) in
          let by = asked_by words (Replay w.in-Ok-Replay.wanted) asked_is refl read ranges in
          let left : IsUntouched c.args.reader.now c.match-read_words.reader c.args.writer.now c.match-read_words.writer
          ⊎ LacksMemory g.R.Source.seen g.W.Sink.seen asked_is c.args.reader.now c.match-read_words.reader c.args.writer.now c.match-read_words.writer = rw (w.reader-is, w.writer-is) lacked.1 in
          elim left [ inl untouched ↦ inl untouched | inr part ↦ inr (asked_is, by, lacked.0, part) ]
      | in-Ok-Show w ↦
          let fault = at_err w.show_help-done.result c.in-Err.fault _ (sym w.done-is ∙ c.in-Err.is) w.show_help-done.ensures.err in
          let no : 3 ≡ 4 = sym (c.tell.ensures.status ∙ ap status_of fault.0) ∙ four in
          absurd (omega arith)
      | in-Err-Memory w ↦
          let untouched : IsUntouched c.args.reader.now c.match-read_words.reader c.args.writer.now c.match-read_words.writer = search rules in
          inl untouched
    ],
  );
  done = λ few. absurd (omega (arith, two_at_least c.in-Err.fault, c.tell.ensures.status));
  not_loaded = λ one is. absurd (omega (arith, one, two_at_least c.in-Err.fault, c.tell.ensures.status));
  did = λ few. absurd (omega (arith, two_at_least c.in-Err.fault, c.tell.ensures.status));
  broken_off = λ others.
      let is = c.tell.ensures.status in
      let three : c.tell.result ≡ 3 = is ∙ three_only c.in-Err.fault (subst (λ n. 2 < n) is others.0) (λ e. others.1 (is ∙ e)) in (
        three,
        c.in-Err.fault,
        (
          search rules,
          elim c.match-read_words.branch [
            | in-Ok-Replay w ↦ on_asked _ (λ asked. ReadsWords asked (Ok w.in-Ok-Replay.field-0)) _ w.in-Ok-Replay.ensures.asked (λ asked read.
                let field : w.in-Ok-Replay.field-0 ≡ Replay w.in-Ok-Replay.wanted = search rules in
                let is : asked ≡ ToReplay (wanted_of w.in-Ok-Replay.wanted) = subst (λ one. ReadsWords asked (Ok one)) field read in
                let in_part = at_err w.replay_tenants-done.result c.in-Err.fault _ (sym w.done-is ∙ c.in-Err.is) w.replay_tenants-done.ensures.in_part in
                subst (λ one. DoesInPart g.R.Source.seen one c.in-Err.fault c.args.reader.now c.match-read_words.reader
                (g.W.Sink.seen c.args.writer.now) (g.W.Sink.seen c.match-read_words.writer)) (sym is)
                (rw (w.reader-is, w.writer-is) (in_part (sym c.tell.ensures.status ∙ three)).1.1))
            | in-Ok-Show w ↦ on_asked _ (λ asked. ReadsWords asked (Ok w.in-Ok-Show.field-0)) _ w.in-Ok-Show.ensures.asked (λ asked read.
                let field : w.in-Ok-Show.field-0 ≡ Show w.in-Ok-Show.text = search rules in
                absurd (subst (λ one. ReadsWords asked (Ok one)) field read))
            | in-Err-Memory w ↦
                let fault_is = same_err c.match-read_words.done c.in-Err.fault Memory c.in-Err.is w.done-is in
                let no : 4 ≡ 3 = sym (c.tell.ensures.status ∙ ap status_of fault_is) ∙ three in
                absurd (omega arith)
          ],
        ),
        search rules,
        elim c.match-read_words.branch [
          | in-Ok-Replay w ↦
              let words = map g.S.AsStr.text c.args.words.now in
              let field : w.in-Ok-Replay.field-0 ≡ Replay w.in-Ok-Replay.wanted = search rules in
              let asked_is = ToReplay (wanted_of w.in-Ok-Replay.wanted) in
              let in_part = at_err w.replay_tenants-done.result c.in-Err.fault _ (sym w.done-is ∙ c.in-Err.is) w.replay_tenants-done.ensures.in_part (sym c.tell.ensures.status ∙ three) in
              let ranges : IsInRange asked_is = search rules in
              let read = subst (IsReadAs words) field (w.in-Ok-Replay.ensures.kinds, w.in-Ok-Replay.ensures.asked, w.in-Ok-Replay.ensures.found) in
              let by = asked_by words (Replay w.in-Ok-Replay.wanted) asked_is refl read ranges in
              inr (asked_is, by, in_part.0, rw (w.reader-is, w.writer-is) in_part.1.1)
          | in-Ok-Show w ↦
              let words = map g.S.AsStr.text c.args.words.now in
              let field : w.in-Ok-Show.field-0 ≡ Show w.in-Ok-Show.text = search rules in
              let fault = at_err w.show_help-done.result c.in-Err.fault _ (sym w.done-is ∙ c.in-Err.is) w.show_help-done.ensures.err in
              inl (
                subst (λ one. IsAnswer (kinds_of words) (work_of words) (Ok one)) field w.in-Ok-Show.ensures.kinds,
                search rules,
                fault.0,
                search rules,
              )
          | in-Err-Memory w ↦
              let fault_is = same_err c.match-read_words.done c.in-Err.fault Memory c.in-Err.is w.done-is in
              let no : 4 ≡ 3 = sym (c.tell.ensures.status ∙ ap status_of fault_is) ∙ three in
              absurd (omega arith)
        ],
      );
}
