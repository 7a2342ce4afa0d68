use Rattle.std.proofs.Common.{rules, ◌≡◌, ◌∙◌, ◌<◌, inr, ℕ, true, false, List, length, map, Option, Some, None, is_some, Result, Err, IfErr, refl, sym, ap, subst, arith, string_bytes}
use Rattle.std.specs.Prelude.{IfSome, IsSomeAnd, unwrap_or}
use Rattle.std.proofs.lemmas.Bool.{and_from}
use Rattle.std.proofs.lemmas.List.{length-map}
use Rattle.line_protocol.specs.Source.{Given}
use Rattle.line_protocol.specs.Sink.{Taken}
use Rattle.line_protocol.specs.StreamFaults.{PassesNoFaultOver}
use Rattle.line_protocol.specs.declared.stream_fault.StreamFault.{StreamFault}
use Rattle.line_protocol.specs.declared.stream_fault.StreamFault.TheVariants.{Read, Write, TooLong, Memory}
use Rattle.trace_types.specs.tenant.Limits.{Limits}
use Rattle.trace_types.specs.tenant.Tenant.{fresh}
use Rattle.trace_types.specs.text.Name.{Text}
use Rattle.trace_types.specs.world.Replay.{place_of}
use Rattle.trace_types.specs.world.TenantNames.{are_tenants}
use Rattle.trace_types.specs.world.World.{World}
use Rattle.trace_types.proofs.Places.{within_places}
use Rattle.trace_world.specs.Exported.{BreaksExport, Exports}
use Rattle.trace_world.specs.Replayed.{Replays, ReplaysInPart}
use Rattle.command_line.specs.Demand.{ToReplay}
use Rattle.collector.specs.Taking.{is_taken}
use Rattle.collector.specs.Fault.{fault_of_stream, status_of}
use Rattle.collector.specs.Program.{DoesReplay, DoesReplayInPart, ExportsFresh, ExportsFreshInPart, IsExportPlace, IsFailure, ReplaysFresh, fresh_world}
use Rattle.collector.specs.declared.fault.Fault.{Fault}
use Rattle.collector.specs.declared.fault.Fault.TheVariants as program
use Rattle.collector.proofs.replay.replay_tenants.Goals as goal

some_same : {X : Type 0} {a b : X} → Some a ≡ Some b → a ≡ b
some_same {X} {a} e = ap (λ o. unwrap_or o a) e

on_err : (result : Result Unit Fault) (fault : Fault) (P : Fault → Type 0) → result ≡ Err fault → P fault → IfErr result P
on_err result fault P is holds = subst (λ r. IfErr r P) (sym is) holds

-- where a place is found, it is that of the tenant to be exported
there : (export : Option Text) (names tenants : List Text) (exported : Option ℕ) (place : ℕ) → IsExportPlace export names exported → names ≡ tenants → exported ≡ Some place
    → (name : Text) × (export ≡ Some name) × (place_of tenants name ≡ Some place)
there None names tenants exported place is same at = let differ : None ≡ Some place = sym is ∙ at in cc
there (Some name) names tenants exported place is same at = (name, refl, ap (λ list. place_of list name) (sym same) ∙ (sym is.0 ∙ at))

-- where none is found, none is to be exported
nowhere : (export : Option Text) (names : List Text) (exported : Option ℕ) → IsExportPlace export names exported → exported ≡ None → export ≡ None
nowhere None names exported is at = refl
nowhere (Some name) names exported is at = let differ : false ≡ true = subst (λ o. is_some o ≡ true) at is.1 in cc

-- why a replay failed
failed_as : {A : Type 0} (before after : Given) (taken taken' : Taken) (cause : StreamFault) → PassesNoFaultOver {A = A} before after taken taken' (Err cause)
    → status_of (fault_of_stream cause) ≡ 3 → IsFailure before after taken taken' (fault_of_stream cause)
failed_as before after taken taken' Read faults three = faults.read.0 refl
failed_as before after taken taken' Write faults three = faults.write refl
failed_as before after taken taken' TooLong faults three = faults.too_long refl
failed_as before after taken taken' Memory faults three = cc

-- a replay without an export that was broken off
unexported : (export : Option Text) → export ≡ None → (cause : StreamFault) (limits : Limits) (cache : ℕ) (tenants : List Text) (before after : Given) (taken taken' : Taken) (old later : World)
    → old ≡ fresh_world limits tenants → are_tenants tenants ≡ true → ReplaysInPart cause before after taken taken' old later
    → (is_taken (ToReplay (record { limits = limits; cache = cache; tenants = tenants; export = export })) ≡ true)
    × DoesReplayInPart export (fault_of_stream cause) limits tenants before after taken taken'
unexported None none cause limits cache tenants before after taken taken' old later fresh names part = (
  and_from _ _ names refl,
  record { cause = cause; told = refl; later = later; replays = subst (λ world. ReplaysInPart cause before after taken taken' world later) fresh part },
)
unexported (Some name) none cause limits cache tenants before after taken taken' old later fresh names part = cc

-- an export that was broken off
exported : (cause : StreamFault) (name : Text) (limits : Limits) (tenants : List Text) (place : ℕ) (before after : Given) (taken taken' : Taken) (old later : World)
    → place_of tenants name ≡ Some place → old ≡ fresh_world limits tenants → BreaksExport cause before after taken taken' old place later
    → ExportsFreshInPart (fault_of_stream cause) name limits tenants before after taken taken'
exported cause name limits tenants place before after taken taken' old later at fresh part = record {
  place = place;
  there = at;
  cause = cause;
  told = refl;
  later = later;
  breaks = subst (λ world. BreaksExport cause before after taken taken' world place later) fresh part;
}

-- so the tenant to be exported is taken
exported_taken : (export : Option Text) (name : Text) (limits : Limits) (cache : ℕ) (tenants : List Text) (place : ℕ) → export ≡ Some name → place_of tenants name ≡ Some place
    → are_tenants tenants ≡ true → is_taken (ToReplay (record { limits = limits; cache = cache; tenants = tenants; export = export })) ≡ true
exported_taken None name limits cache tenants place is at names = cc
exported_taken (Some other) name limits cache tenants place is at names = and_from _ _ names (ap (λ n. is_some (place_of tenants n)) (some_same is) ∙ ap is_some at)

-- an export that lacked memory
lacking : (cause : StreamFault) (name : Text) (limits : Limits) (tenants : List Text) (before after : Given) (taken taken' : Taken)
    → status_of (fault_of_stream cause) ≡ 4 → ExportsFreshInPart (fault_of_stream cause) name limits tenants before after taken taken'
    → ExportsFreshInPart program.Memory name limits tenants before after taken taken'
lacking Memory name limits tenants before after taken taken' four part = part
lacking cause name limits tenants before after taken taken' four part = cc

pub replay_export-requires : goal.replay_export-requires
replay_export-requires g c =
    let found = there _ c.in_ok-names.names c.in_ok-names.names c.in_ok-exported.exported c.in-Some.place c.in_ok-exported.ensures.ok refl c.in-Some.is in
    let within = subst (λ (found : Option ℕ). IfSome found (λ place. place < length c.in_ok-names.names)) found.2 (within_places c.in_ok-names.names found.0) in
    let tenants : c.deref_mut.result.now.tenants ≡ map (λ name. fresh c.args.wanted.now.limits) c.as_slice.result.now = search rules in
    omega (arith, ap length tenants, length-map c.as_slice.result.now (λ name. fresh c.args.wanted.now.limits), ap length c.as_slice.ensures.names)

pub returns-in_err-replay-in-None-clause-in_part : goal.returns-in_err-replay-in-None-clause-in_part
returns-in_err-replay-in-None-clause-in_part g c =
    let cause = c.in_err-replay-in-None.field-0.0 in
    let tenants = map string_bytes c.args.wanted.now.tenants.items in
    let none = nowhere _ c.in_ok-names.names c.in_ok-exported.exported c.in_ok-exported.ensures.ok c.in-None.is in
    let is : c.from_residual-in_err-replay-in-None.result ≡ Err (fault_of_stream cause) = search rules in
    let given : c.in_ok-names.names ≡ tenants = search rules in
    let world : c.deref_mut-in-None.result.now ≡ fresh_world c.args.wanted.now.limits tenants =
    c.deref_mut-in-None.ensures.value ∙ (c.new-world.ensures ∙ (c.in_ok-world.ensures.world ∙ ap (fresh_world c.args.wanted.now.limits) (c.as_slice.ensures.names ∙ given)))
    in
    let names : are_tenants tenants ≡ true = search rules in
    let part = unexported _ none cause c.args.wanted.now.limits c.args.wanted.now.cache tenants _ _ _ _ c.deref_mut-in-None.result.now c.replay.new.world world names c.in_err-replay-in-None.ensures.fault in
    let failed = failed_as (g.R.Source.seen c.args.reader.now) (g.R.Source.seen c.replay.new.reader) (g.W.Sink.seen c.args.writer.now) (g.W.Sink.seen c.replay.new.writer) cause
    c.in_err-replay-in-None.ensures.faults in
    on_err _ _ _ is (λ three. (part.0, (failed three, part.1)))

pub returns-in_err-replay_export-in-Some-clause-in_part : goal.returns-in_err-replay_export-in-Some-clause-in_part
returns-in_err-replay_export-in-Some-clause-in_part g c =
    let cause = c.in_err-replay_export-in-Some.field-0.0 in
    let tenants = map string_bytes c.args.wanted.now.tenants.items in
    let given : c.in_ok-names.names ≡ tenants = search rules in
    let found = there _ c.in_ok-names.names tenants c.in_ok-exported.exported c.in-Some.place c.in_ok-exported.ensures.ok given c.in-Some.is in
    let world : c.deref_mut.result.now ≡ fresh_world c.args.wanted.now.limits tenants =
    c.deref_mut.ensures.value ∙ (c.new-world.ensures ∙ (c.in_ok-world.ensures.world ∙ ap (fresh_world c.args.wanted.now.limits) (c.as_slice.ensures.names ∙ given)))
    in
    let names : are_tenants tenants ≡ true = search rules in
    let is : c.from_residual-in_err-replay_export-in-Some.result ≡ Err (fault_of_stream cause) = search rules in
    let part = exported cause found.0 c.args.wanted.now.limits tenants c.in-Some.place
    (g.R.Source.seen c.args.reader.now) (g.R.Source.seen c.replay_export.new.reader) (g.W.Sink.seen c.args.writer.now) (g.W.Sink.seen c.replay_export.new.writer)
    c.deref_mut.result.now c.replay_export.new.world found.2 world c.in_err-replay_export-in-Some.ensures.fault
    in
    let failed = failed_as (g.R.Source.seen c.args.reader.now) (g.R.Source.seen c.replay_export.new.reader) (g.W.Sink.seen c.args.writer.now) (g.W.Sink.seen c.replay_export.new.writer) cause
    c.in_err-replay_export-in-Some.ensures.faults in
    on_err _ _ _ is (λ three. (
      exported_taken _ found.0 c.args.wanted.now.limits c.args.wanted.now.cache tenants c.in-Some.place found.1 found.2 names,
      (
        failed three,
        subst (λ export. DoesReplayInPart export (fault_of_stream cause) c.args.wanted.now.limits tenants (g.R.Source.seen c.args.reader.now) (g.R.Source.seen c.replay_export.new.reader)
            (g.W.Sink.seen c.args.writer.now) (g.W.Sink.seen c.replay_export.new.writer)) (sym found.1) part,
      ),
    ))

pub returns-in_err-replay_export-in-Some-clause-lacks : goal.returns-in_err-replay_export-in-Some-clause-lacks
returns-in_err-replay_export-in-Some-clause-lacks g c =
    let cause = c.in_err-replay_export-in-Some.field-0.0 in
    let tenants = map string_bytes c.args.wanted.now.tenants.items in
    let given : c.in_ok-names.names ≡ tenants = search rules in
    let found = there _ c.in_ok-names.names tenants c.in_ok-exported.exported c.in-Some.place c.in_ok-exported.ensures.ok given c.in-Some.is in
    let world : c.deref_mut.result.now ≡ fresh_world c.args.wanted.now.limits tenants =
    c.deref_mut.ensures.value ∙ (c.new-world.ensures ∙ (c.in_ok-world.ensures.world ∙ ap (fresh_world c.args.wanted.now.limits) (c.as_slice.ensures.names ∙ given)))
    in
    let names : are_tenants tenants ≡ true = search rules in
    let is : c.from_residual-in_err-replay_export-in-Some.result ≡ Err (fault_of_stream cause) = search rules in
    let part = exported cause found.0 c.args.wanted.now.limits tenants c.in-Some.place
    (g.R.Source.seen c.args.reader.now) (g.R.Source.seen c.replay_export.new.reader) (g.W.Sink.seen c.args.writer.now) (g.W.Sink.seen c.replay_export.new.writer)
    c.deref_mut.result.now c.replay_export.new.world found.2 world c.in_err-replay_export-in-Some.ensures.fault
    in
    on_err _ _ _ is (λ four. (
      exported_taken _ found.0 c.args.wanted.now.limits c.args.wanted.now.cache tenants c.in-Some.place found.1 found.2 names,
      inr (subst (λ export. IsSomeAnd export (λ name. ExportsFreshInPart program.Memory name c.args.wanted.now.limits tenants (g.R.Source.seen c.args.reader.now)
          (g.R.Source.seen c.replay_export.new.reader) (g.W.Sink.seen c.args.writer.now) (g.W.Sink.seen c.replay_export.new.writer))) (sym found.1)
          (lacking cause found.0 c.args.wanted.now.limits tenants (g.R.Source.seen c.args.reader.now) (g.R.Source.seen c.replay_export.new.reader)
          (g.W.Sink.seen c.args.writer.now) (g.W.Sink.seen c.replay_export.new.writer) four part)),
    ))

pub returns-in_ok-replay_export-in-Some-clause-done : goal.returns-in_ok-replay_export-in-Some-clause-done
returns-in_ok-replay_export-in-Some-clause-done g c =
    let tenants = map string_bytes c.args.wanted.now.tenants.items in
    let given : c.in_ok-names.names ≡ tenants = search rules in
    let found = there _ c.in_ok-names.names tenants c.in_ok-exported.exported c.in-Some.place c.in_ok-exported.ensures.ok given c.in-Some.is in
    let world : c.deref_mut.result.now ≡ fresh_world c.args.wanted.now.limits tenants =
    c.deref_mut.ensures.value ∙ (c.new-world.ensures ∙ (c.in_ok-world.ensures.world ∙ ap (fresh_world c.args.wanted.now.limits) (c.as_slice.ensures.names ∙ given)))
    in
    let exports : ExportsFresh found.0 c.args.wanted.now.limits tenants (g.R.Source.seen c.args.reader.now) (g.R.Source.seen c.replay_export.new.reader)
    (g.W.Sink.seen c.args.writer.now) (g.W.Sink.seen c.replay_export.new.writer) = record {
      place = c.in-Some.place;
      there = found.2;
      count = c.in_ok-replay_export-in-Some.field-0;
      later = c.replay_export.new.world;
      exports = subst (λ before. Exports (g.R.Source.seen c.args.reader.now) (g.R.Source.seen c.replay_export.new.reader) (g.W.Sink.seen c.args.writer.now)
          (g.W.Sink.seen c.replay_export.new.writer) before c.in-Some.place c.in_ok-replay_export-in-Some.field-0 c.replay_export.new.world) world c.in_ok-replay_export-in-Some.ensures.ok;
    } in (
      refl,
      subst (λ export. DoesReplay export c.args.wanted.now.limits tenants (g.R.Source.seen c.args.reader.now) (g.R.Source.seen c.replay_export.new.reader)
          (g.W.Sink.seen c.args.writer.now) (g.W.Sink.seen c.replay_export.new.writer)) (sym found.1) exports,
    )

pub returns-in_ok-replay-in-None-clause-done : goal.returns-in_ok-replay-in-None-clause-done
returns-in_ok-replay-in-None-clause-done g c =
    let tenants = map string_bytes c.args.wanted.now.tenants.items in
    let none = nowhere _ c.in_ok-names.names c.in_ok-exported.exported c.in_ok-exported.ensures.ok c.in-None.is in
    let given : c.in_ok-names.names ≡ tenants = search rules in
    let world : c.deref_mut-in-None.result.now ≡ fresh_world c.args.wanted.now.limits tenants =
    c.deref_mut-in-None.ensures.value ∙ (c.new-world.ensures ∙ (c.in_ok-world.ensures.world ∙ ap (fresh_world c.args.wanted.now.limits) (c.as_slice.ensures.names ∙ given)))
    in
    let replays : ReplaysFresh c.args.wanted.now.limits tenants (g.R.Source.seen c.args.reader.now) (g.R.Source.seen c.replay.new.reader)
    (g.W.Sink.seen c.args.writer.now) (g.W.Sink.seen c.replay.new.writer) = record {
      counts = c.in_ok-replay-in-None.field-0;
      later = c.replay.new.world;
      replays = subst (λ before. Replays (g.R.Source.seen c.args.reader.now) (g.R.Source.seen c.replay.new.reader) (g.W.Sink.seen c.args.writer.now)
          (g.W.Sink.seen c.replay.new.writer) before c.in_ok-replay-in-None.field-0 c.replay.new.world) world c.in_ok-replay-in-None.ensures.ok;
    } in (
      refl,
      subst (λ export. DoesReplay export c.args.wanted.now.limits tenants (g.R.Source.seen c.args.reader.now) (g.R.Source.seen c.replay.new.reader)
          (g.W.Sink.seen c.args.writer.now) (g.W.Sink.seen c.replay.new.writer)) (sym none) replays,
    )
