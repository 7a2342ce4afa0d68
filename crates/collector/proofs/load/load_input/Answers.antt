use Rattle.std.proofs.Common.{◌≡◌, ◌≢◌, ◌∙◌, ◌<◌, ℕ, Option, None, Some, ap, sym, subst, arith}
use Rattle.std.specs.Prelude.{option_map, string_bytes}
use Rattle.line_protocol.specs.Source.{Given}
use Rattle.line_protocol.specs.Sink.{Taken}
use Rattle.trace_types.specs.text.Name.{Text}
use Rattle.trace_export.specs.Loads.{Loads, StopsLoading}
use Rattle.trace_export.specs.declared.loaded.Loaded.{Loaded}
use Rattle.trace_export.specs.declared.loaded.Loaded.TheVariants.{Done, No}
use Rattle.collector.specs.Fault.{status_of}
use Rattle.collector.specs.Program.{LoadsToTell, TellsNo, line_of_loaded}
use Rattle.collector.specs.Showing.{Shows}
use Rattle.collector.specs.declared.fault.Fault.{Fault}
use Rattle.collector.specs.declared.fault.Fault.TheVariants.{Tenants}
use Rattle.collector.proofs.load.load_input.Goals as goal

-- the text that there is, or else another one
abbrev text_or : Text → Option Text → Text
text_or other None = other
text_or other (Some text) = text

module _ {R : Type 0} (given : R → Given) (text tenant : Text) (reader reader' : R) (taken between told told' : Taken) where
  -- only what is not loaded has a line that tells why
  told_of : (loaded : Loaded) → Loads (given reader) (given reader') taken between tenant loaded → StopsLoading given reader reader' loaded → Some text ≡ line_of_loaded loaded → Shows told told' text
      → TellsNo given reader reader' told told'
  told_of (Done count) loads stops same shown = absurd (cc same)
  told_of (No number reason) loads stops same shown = record {
    number = number;
    reason = reason;
    rows = loads.rows;
    loads = loads.loads;
    stops = stops;
    line = subst (Shows told told') (ap (text_or text) same) shown;
  }

told_no : {R : Type 0} (given : R → Given) (line : Option Text) (text tenant : Text) (reader reader' : R) (taken taken' told told' : Taken) → line ≡ Some text
    → LoadsToTell given line tenant reader reader' taken taken' → Shows told told' text → TellsNo given reader reader' told told'
told_no given line text tenant reader reader' taken taken' told told' is loads shown =
    told_of given text tenant reader reader' taken loads.between told told' loads.loaded loads.loads loads.stops (sym is ∙ loads.line_is) shown

line_is : {A : Type 0} (text_of : A → Text) (line : Option A) (inner : A) (text : Text) → line ≡ Some inner → text ≡ text_of inner
    → option_map text_of line ≡ Some text
line_is text_of line inner text is value = ap (option_map text_of) is ∙ ap Some (sym value)

-- a status above 2 is no refusal of the tenant's name
not_tenants : (status : ℕ) (fault : Fault) → status ≡ status_of fault → 2 < status → fault ≢ Tenants
not_tenants status fault is more same = absurd (omega (arith, is, more, ap status_of same))

pub returns-in-Ok-Some-clause-not_loaded : goal.returns-in-Ok-Some-clause-not_loaded
returns-in-Ok-Some-clause-not_loaded g c =
    let is = line_is string_bytes c.in-Ok-Some.field-0 c.in-Ok-Some.line c.as_str.result.now c.in-Ok-Some.field-0-is c.as_str.ensures.value in
    λ _. told_no g.R.Source.seen _ c.as_str.result.now c.args.tenant.now _ _ _ _ _ _ is c.in-Ok-Some.ensures.loads c.show.ensures.shown

pub returns-in-Err-clause-broken_off : goal.returns-in-Err-clause-broken_off
returns-in-Err-clause-broken_off g c =
    λ more.
    let part = c.in-Err.ensures.in_part (not_tenants _ c.in-Err.fault c.tell.ensures.status more) in
    (c.in-Err.fault, c.tell.ensures.status, part.0, part.1, part.2, c.tell.ensures.told)
