-- Lines that are done without a reply.
use Rattle.std.proofs.Common.{◌≡◌, ℕ, Bool, IsTrue, List, [], ◌∷◌, ◌++◌, length, refl, sym, ap, ◌∙◌, subst, arith, inl, inr, ◌<◌, Some, Result, Ok, Err, OnErr}
use Rattle.std.specs.List.{slice_get}
use Rattle.std.proofs.lemmas.Option.{same_Some}
use Rattle.trace_types.specs.text.Lines.{lines}
use Rattle.trace_types.specs.tenant.Tenant.{Tenant}
use Rattle.trace_types.specs.world.Interleaving.{tenant_after}
use Rattle.trace_types.specs.world.Replay.{calls_by, entries}
use Rattle.line_protocol.specs.Sink.{Taken}
use Rattle.line_protocol.specs.Writing.{EndsInFault, StopsHandingOn}
use Rattle.trace_export.specs.Export.{BreaksLines, WritesLines, export_lines, stream_fault_of_export}
use Rattle.trace_types.specs.declared.row.Row.{Row}
use Rattle.trace_export.specs.declared.export_fault.ExportFault.{ExportFault}
use Rattle.trace_export.specs.declared.export_fault.ExportFault.TheVariants as export
use Rattle.trace_export.specs.declared.header.Header.{Header}
use Rattle.std.proofs.lemmas.List.{append-nil}
use Rattle.std.specs.Io.KnownBytes.{Keeps}
use Rattle.std.proofs.KnownBytes.{Keeps-refl}
use Rattle.trace_types.specs.text.Name.{Text}
use Rattle.trace_types.specs.declared.reply.Reply.{Reply}
use Rattle.trace_types.specs.world.World.{World}
use Rattle.line_protocol.specs.Held.{Held, fresh_held}
use Rattle.line_protocol.specs.Source.{Given}
use Rattle.line_protocol.specs.LineReading.{HasRead, Finds, FindsNone, Reads}
use Rattle.line_protocol.specs.declared.line.Line.TheVariants.{End}
use Rattle.line_protocol.proofs.LineReadingLemmas.{HasRead-start, HasRead-line, HasRead-end, HasRead-none, has_told_end}
use Rattle.trace_world.specs.Exported.{AreRowsLeft, export_of, stamp_texts, LeadsThere, StopsExport, TakesAll, TakesFirst}
use Rattle.trace_world.proofs.ReplayedLines.{LeadsTo-none, LeadsTo-line}
use Rattle.trace_world.proofs.Parts.{Answered, AreFirstLines-from, gave_known}

-- The lines that were found were done.
pub record Takes (start given : List ℕ) (old : World) (held : Held) (new : World) : Type 0 where
  pub found : List Text
  pub marks : List Bool
  pub read : HasRead start given held found
  pub leads : LeadsThere old found marks new

pub takes_none : (start : List ℕ) (world : World) (held : Held) → held.left ≡ [] → Takes start start world held world
takes_none start world held none = record {
  found = [];
  marks = [];
  read = HasRead-start start held none;
  leads = ([], _, LeadsTo-none world);
}

-- one line more
pub takes_line : {start given given' : List ℕ} {old mid new : World} {held held' : Held} {to : Text} {reply : Reply} → Takes start given old held mid
    → Answered given given' held held' mid to reply new → (IsTrue held.is_ended → (given' ≡ given) × IsTrue held'.is_ended)
    → Takes start given' old held' new
takes_line {old = old} {mid} {new} {to = to} {reply} before answered at_end = record {
  found = before.found ++ answered.line ∷ [];
  marks = before.marks ++ answered.answers.mark ∷ [];
  read = HasRead-line before.read answered.gives at_end;
  leads = (_, _, LeadsTo-line old mid new before.found before.marks before.leads.0 before.leads.1 answered.line to reply before.leads.2 answered.answers);
}

-- all lines were done
pub takes_all : (before after : Given) {given : List ℕ} {old new : World} {held : Held} (held' : Held) → Takes before.bytes given old held new
    → Finds given after.bytes held held' End → Reads before after fresh_held held' 0 → TakesAll before after old new
takes_all before after {old = old} {new} held' takes finds reads = record {
  came = takes.read.came;
  marks = takes.marks;
  reads = finds.0 ∙ takes.read.grows;
  ends = (has_told_end reads finds.3).0;
  all = gave_known before.whole after.whole after.bytes (before.bytes ++ takes.read.came) reads.whole (has_told_end reads finds.3).1 (finds.0 ∙ takes.read.grows);
  leads = subst (λ (found : List Text). LeadsThere old found takes.marks new) (sym (HasRead-end takes.read finds.1)) takes.leads;
}

-- a read failed
pub takes_first : (before after : Given) {given : List ℕ} {old new : World} {held : Held} → Takes before.bytes given old held new
    → FindsNone given after.bytes held → Keeps before.whole after.whole → TakesFirst before after old new
unfolding AreFirstLines-from
takes_first before after takes none kept = record {
  found = takes.found;
  marks = takes.marks;
  first = AreFirstLines-from after.has_ended none.gave takes.read none.grows (λ ended. absurd (cc));
  kept = kept;
  none_lost = HasRead-none takes.read none;
  leads = takes.leads;
}

-- nothing was read
pub takes_nothing : (before : Given) (world : World) → TakesFirst before before world world
takes_nothing before world = record {
  found = [];
  marks = [];
  first = record { came = []; left = []; reads = sym (append-nil before.bytes); first = λ rest none. refl };
  kept = Keeps-refl before.whole;
  none_lost = refl;
  leads = ([], _, LeadsTo-none world);
}

-- what holds holds at a fault
pub OnErr-holds : {A E : Type 0} {P : Type 0} (result : Result A E) → P → OnErr result P
OnErr-holds (Ok value) holds = tt
OnErr-holds (Err fault) holds = holds

-- the rows of the ledger at the tenant's place
pub rows_left : {before after : Given} {old new : World} (takes : TakesAll before after old new) (tenant : ℕ) (ledger : Tenant) → tenant < length new.tenants → slice_get new.tenants tenant ≡ Some ledger
    → AreRowsLeft old (lines takes.came) takes.marks tenant ledger.rows
rows_left {old = old} takes tenant ledger within is = λ calls after.
    let leads = takes.leads.2 in
    ap (λ (t : Tenant). t.rows) (same_Some _ _ (sym is ∙ leads.leads calls after tenant within))
    ∙ ap (λ limits. (tenant_after limits (calls ++ calls_by (entries old.names (lines takes.came) takes.marks)) tenant).rows) leads.limits

-- how an export was broken off
pub stops_export : {taken taken' : Taken} {these : List Text} (fault : ExportFault) → BreaksLines fault taken taken' these → StopsExport (stream_fault_of_export fault) taken taken' these
stops_export export.Write breaks = inl breaks
stops_export export.Memory breaks = breaks

pub ends_held_back : {before between after : Taken} {these : List Text} → WritesLines before between these → StopsHandingOn between after → EndsInFault before after
ends_held_back wrote held = elim held.1.fault [
  | inl failed ↦ inl (omega (arith, failed.0, wrote.failures))
  | inr waited ↦ inr (omega (arith, waited.0, wrote.failures), omega (arith, waited.1, wrote.more))
]

-- the rows are those of the ledger
pub of_ledger : (P : List Text → Type 0) (header : Header) (rows rows' : List Row) → rows ≡ rows' → P (export_lines header rows (stamp_texts rows')) → P (export_of header rows')
of_ledger P header rows rows' same holds = subst (λ (these : List Row). P (export_lines header these (stamp_texts rows'))) same holds
