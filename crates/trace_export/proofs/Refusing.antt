-- Why a line is faulty, of why the event that it lists does not come next.
use Rattle.std.proofs.Common.{suc, List, length, sym, subst, ◌∙◌}
use Rattle.std.proofs.lemmas.Option.{same_Some}
use Rattle.serde_json.specs.Data.{Data}
use Rattle.trace_types.specs.tenant.Limits.{Limits}
use Rattle.trace_types.specs.text.Name.{Text}
use Rattle.trace_types.specs.declared.row.Row.{Row}
use Rattle.trace_export.specs.Edges.{Placing}
use Rattle.trace_export.specs.Heading.{IsHeaderJson, IsNoHeader}
use Rattle.trace_export.specs.Listing.{Listed, ListsAs, IsJsonOf, IsReadAs}
use Rattle.trace_export.specs.Loading.{IsFaultyAfter, IsUnfitAfter}
use Rattle.trace_export.specs.ReadLine.{ListsNothing}
use Rattle.trace_export.specs.Verdict.{IsFaulty, IsJsonLine, IsListing, IsRefusedFor, IsUnfitFor}
use Rattle.trace_export.specs.declared.header.Header.{Header}
use Rattle.trace_export.specs.declared.reason.Reason.{Reason}
use Rattle.trace_export.specs.declared.reason.Reason.TheVariants.{NoJson, NoEvent, Order, Refused, NotDue}

-- a line that is no JSON
pub no_json_line : (line : Text) → ((json : Data) → ¬ IsReadAs line json) → ¬ IsJsonLine line
no_json_line line none is = none is.1.0 is.1.1

-- one that is JSON, and lists no event
pub no_event_listed : (line : Text) (json : Data) → IsReadAs line json → ((listed : Listed) → ¬ IsJsonOf json listed) → (listed : Listed) → ¬ ListsAs line listed
no_event_listed line json reads none listed lists = none listed (subst (λ (found : Data). IsJsonOf found listed) (same_Some lists.0 json (sym lists.1.1 ∙ reads.1)) lists.2)

-- nor a header
pub no_json_no_header : (line : Text) → ((json : Data) → ¬ IsReadAs line json) → IsNoHeader line
no_json_no_header line none header is = none is.1.0 is.1.1

-- nor is one whose JSON is none
pub no_header_read : (line : Text) (json : Data) → IsReadAs line json → ((header : Header) → ¬ IsHeaderJson json header) → IsNoHeader line
no_header_read line json reads none header is =
    none header (subst (λ (found : Data). IsHeaderJson found header) (same_Some is.1.0 json (sym is.1.1.1 ∙ reads.1)) is.1.2)

-- ---- in a check

-- a line that lists nothing is faulty
pub nothing_is_faulty : (reason : Reason) (earlier : Placing) (line : Text) → ListsNothing reason line → IsFaulty reason earlier line
nothing_is_faulty NoJson earlier line is = is
nothing_is_faulty NoEvent earlier line is = is
nothing_is_faulty reason earlier line is = absurd is

pub unfit_is_refused : (reason : Reason) (earlier : Placing) (listed : Listed) → IsUnfitFor reason (suc (length earlier)) listed → IsRefusedFor reason earlier listed
unfit_is_refused Order earlier listed unfit = absurd unfit
unfit_is_refused reason earlier listed unfit = unfit

pub refused_is_faulty : (reason : Reason) (earlier : Placing) (line : Text) (listed : Listed) → IsListing line listed → IsRefusedFor reason earlier listed → IsFaulty reason earlier line
refused_is_faulty NoJson earlier line listed listing refused = absurd refused
refused_is_faulty NoEvent earlier line listed listing refused = absurd refused
refused_is_faulty reason earlier line listed listing refused = (listed, listing, refused)

-- ---- in loading

pub nothing_is_faulty_after : (reason : Reason) (limits : Limits) (rows : List Row) (line : Text) → ListsNothing reason line → IsFaultyAfter reason limits rows line
nothing_is_faulty_after NoJson limits rows line is = is
nothing_is_faulty_after NoEvent limits rows line is = is
nothing_is_faulty_after reason limits rows line is = absurd is

pub unfit_alone : (reason : Reason) (limits : Limits) (rows : List Row) (listed : Listed) → IsUnfitFor reason (suc (length rows)) listed → IsUnfitAfter reason limits rows listed
unfit_alone Refused limits rows listed unfit = absurd unfit
unfit_alone NotDue limits rows listed unfit = absurd unfit
unfit_alone reason limits rows listed unfit = unfit

pub unfit_is_faulty : (reason : Reason) (limits : Limits) (rows : List Row) (line : Text) (listed : Listed) → IsListing line listed → IsUnfitAfter reason limits rows listed → IsFaultyAfter reason limits rows line
unfit_is_faulty NoJson limits rows line listed listing unfit = absurd unfit
unfit_is_faulty NoEvent limits rows line listed listing unfit = absurd unfit
unfit_is_faulty reason limits rows line listed listing unfit = (listed, listing, unfit)
