use Rattle.std.proofs.Common.{◌≡◌, ◌<◌, ◌∙◌, ap, sym, subst, List, length, inr, option_map, rules}
use Rattle.std.specs.List.{concat}
use Rattle.trace_types.specs.tenant.Tenant.{Tenant}
use Rattle.trace_types.specs.declared.row.Row.{Row}
use Rattle.trace_types.specs.text.Lines.{lines}
use Rattle.line_protocol.specs.Sink.{Taken}
use Rattle.line_protocol.specs.declared.stream_fault.StreamFault.{StreamFault}
use Rattle.line_protocol.specs.declared.stream_fault.StreamFault.TheVariants.{Write}
use Rattle.trace_export.specs.Export.{AreReadAgain, BreaksLines, WritesLines, stream_fault_of_export}
use Rattle.trace_export.specs.Verdict.{IsVerdict}
use Rattle.trace_export.specs.declared.verdict.Verdict.TheVariants.{Yes}
use Rattle.trace_world.specs.Exported.{AreRowsLeft, AreRowsOf, BreaksExport, StopsExport, export_of, stamp_texts}
use Rattle.trace_world.proofs.Fronts.{IfErr-equal}
use Rattle.trace_world.proofs.StampTexts.{length-stamp_texts}
use Rattle.trace_world.proofs.TakingIn.{ends_held_back, of_ledger, rows_left, stops_export}
use Rattle.trace_world.proofs.yes.RightExports.{export_is_right, legal_rows_of}
use Rattle.trace_world.proofs.export_replay.replay_export.Goals as goal
use Rattle.trace_world.proofs.export_replay.replay_export.Given.{Over}
use Rattle.trace_world.proofs.export_replay.replay_export.Goals.{After-export_rows, In_ok-count}

pub export_rows-requires : goal.export_rows-requires
export_rows-requires g c = length-stamp_texts c.ledger-ledger.result.now.rows ∙ ap length (sym c.rows.ensures.rows)

-- the rows that are exported
left : (g : Over) (c : After-export_rows g) → AreRowsLeft c.args.world.now (lines c.in_ok-take_in.ensures.ok.came) c.in_ok-take_in.ensures.ok.marks c.args.tenant c.ledger-ledger.result.now.rows
left g c =
    let within : c.args.tenant < length c.take_in.new.world.tenants = search rules in
    rows_left c.in_ok-take_in.ensures.ok c.args.tenant c.ledger-ledger.result.now within c.ledger-ledger.ensures

-- the tenant has them
has : (g : Over) (c : After-export_rows g) → AreRowsOf c.take_in.new.world c.args.tenant c.ledger-ledger.result.now.rows
has g c = ap (option_map (λ (one : Tenant). one.rows)) c.ledger-ledger.ensures

-- a fault came while they were written
in_part : (g : Over) (c : After-export_rows g) (fault : StreamFault) (taken' : Taken) → StopsExport fault (g.W.Sink.seen c.args.writer.now) taken' (export_of c.header-header.result c.ledger-ledger.result.now.rows)
    → BreaksExport fault (g.R.Source.seen c.args.reader.now) (g.R.Source.seen c.take_in.new.reader) (g.W.Sink.seen c.args.writer.now) taken' c.args.world.now c.args.tenant c.take_in.new.world
in_part g c fault taken' stops = inr (record {
  takes = c.in_ok-take_in.ensures.ok;
  header = c.header-header.result;
  headed = c.header-header.ensures;
  rows = c.ledger-ledger.result.now.rows;
  left = left g c;
  has = has g c;
  stops = stops;
})

-- all of them were written
wrote : (g : Over) (c : In_ok-count g) → WritesLines (g.W.Sink.seen c.args.writer.now) (g.W.Sink.seen c.export_rows.new.writer) (export_of c.header-header.result c.ledger-ledger.result.now.rows)
wrote g c = of_ledger (WritesLines (g.W.Sink.seen c.args.writer.now) (g.W.Sink.seen c.export_rows.new.writer)) c.header-header.result c.rows.result.now c.ledger-ledger.result.now.rows c.rows.ensures.rows c.in_ok-count.ensures.whole

pub returns-in_err-count-clause-fault : goal.returns-in_err-count-clause-fault
returns-in_err-count-clause-fault g c =
    let at = goal.at.returns-in_err-count-clause-fault g c in
    IfErr-equal _ _ _ c.from_residual-in_err-count.ensures.1
    (in_part g at.After-export_rows (stream_fault_of_export c.in_err-count.field-0.0) (g.W.Sink.seen c.export_rows.new.writer) (stops_export c.in_err-count.field-0.0
    (of_ledger (BreaksLines c.in_err-count.field-0.0 (g.W.Sink.seen c.args.writer.now) (g.W.Sink.seen c.export_rows.new.writer)) c.header-header.result c.rows.result.now c.ledger-ledger.result.now.rows c.rows.ensures.rows c.in_err-count.ensures.fault)))

pub returns-in_err-flush-clause-fault : goal.returns-in_err-flush-clause-fault
returns-in_err-flush-clause-fault g c =
    let at = goal.at.returns-in_err-flush-clause-fault g c in
    IfErr-equal _ _ _ c.from_residual-in_err-flush.ensures.1
    (in_part g at.After-export_rows Write (g.W.Sink.seen c.flush.new.writer) (inr (g.W.Sink.seen c.export_rows.new.writer, wrote g at.In_ok-count, c.in_err-flush.ensures)))

pub returns-in_err-flush-clause-faults : goal.returns-in_err-flush-clause-faults
returns-in_err-flush-clause-faults g c =
    let at = goal.at.returns-in_err-flush-clause-faults g c in
    record {
      read = search rules;
      too_long = search rules;
      write = λ _. ends_held_back (wrote g at.In_ok-count) c.in_err-flush.ensures;
      write_failed = search rules;
    }

pub returns-clause-ok : goal.returns-clause-ok
returns-clause-ok g c =
    let at = goal.at.returns-clause-ok g c in
    record {
      takes = c.in_ok-take_in.ensures.ok;
      header = c.header-header.result;
      headed = c.header-header.ensures;
      rows = c.ledger-ledger.result.now.rows;
      left = left g at.After-export_rows;
      has = has g at.After-export_rows;
      counted = c.in_ok-count.ensures.count ∙ ap length c.rows.ensures.rows;
      between = g.W.Sink.seen c.export_rows.new.writer;
      writes = wrote g at.In_ok-count;
      hands_on = c.in_ok-flush.ensures;
    }

-- and the verdict on them is yes
pub returns-clause-right : goal.returns-clause-right
returns-clause-right g c =
    let at = goal.at.returns-clause-right g c in
    let header = c.header-header.result in
    let ledger = c.ledger-ledger.result.now in
    let same = c.rows.ensures.rows in
    let limits : c.take_in.new.world.limits ≡ header.limits = c.in_ok-take_in.ensures.ok.leads.2.limits ∙ sym c.header-header.ensures.1 in
    let legal = legal_rows_of c.take_in.new.world c.args.tenant ledger c.ledger-ledger.ensures c.law.ensures.world header.limits limits in
    let read = subst (λ (these : List Row). AreReadAgain 0 these (stamp_texts ledger.rows)) same c.in_ok-count.ensures.read in
    let right = export_is_right header ledger.rows c.in_ok-count.ensures.headed legal read in (
      concat (export_of header ledger.rows),
      c.in_ok-flush.ensures.0 ∙ (wrote g at.In_ok-count).grows,
      subst (λ count. IsVerdict (concat (export_of header ledger.rows)) (Yes count)) (sym (c.in_ok-count.ensures.count ∙ ap length same)) right,
    )
