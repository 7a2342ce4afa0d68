use Rattle.std.proofs.Common.{rules, ◌≡◌, ◌∙◌, true, false, List, Option, Some, None, refl, sym, codes, Result}
use Rattle.clap.specs.Words.{Row, subcommand_rows_of}
use Rattle.trace_types.specs.text.Name.{Text}
use Rattle.command_line.specs.Demand.{AskedService, Demand, ToReplay, ToServe, ToCheck, ToLoad}
use Rattle.command_line.specs.Reading.{Has, Loading, ReadsWords, Serving, is_found, work_found, work_with}
use Rattle.command_line.specs.declared.demand.Asked.{Asked}
use Rattle.command_line.specs.declared.parse.Refusal.{Refusal}
use Rattle.command_line.proofs.parse.asked_of.Goals as goal

loading : (found : Option (Text × List Row)) → is_found (codes "check") found ≡ false → is_found (codes "load") found ≡ true → work_found found ≡ Loading
loading found no_check loads = rw (no_check, loads) refl

serving : (found : Option (Text × List Row)) → is_found (codes "check") found ≡ false → is_found (codes "load") found ≡ false → is_found (codes "serve") found ≡ true → work_found found ≡ Serving
serving found no_check no_load serves = rw (no_check, no_load, serves) refl

no_replay : (export : Option Text) → Serving ≡ work_with export → ⊥
no_replay None e = cc
no_replay (Some name) e = cc

no_replay_loads : (export : Option Text) → Loading ≡ work_with export → ⊥
no_replay_loads None e = cc
no_replay_loads (Some name) e = cc

-- where the service was found, nothing else is asked for
of_service : (found : Option (Text × List Row)) (result : Result Asked Refusal) (asked : Demand) → work_found found ≡ Serving
    → ((service : AskedService) → Has found (ToServe service) → ReadsWords (ToServe service) result) → Has found asked → ReadsWords asked result
of_service found result (ToReplay asked) is reads has = absurd (no_replay asked.export (sym is ∙ has.0))
of_service found result (ToServe asked) is reads has = reads asked has
of_service found result ToCheck is reads has = let no = sym is ∙ has in cc
of_service found result (ToLoad tenant) is reads has = let no = sym is ∙ has.0 in cc

-- nor where the load was
of_load : (found : Option (Text × List Row)) (result : Result Asked Refusal) (asked : Demand) → work_found found ≡ Loading
    → ((tenant : Text) → Has found (ToLoad tenant) → ReadsWords (ToLoad tenant) result) → Has found asked → ReadsWords asked result
of_load found result (ToReplay asked) is reads has = absurd (no_replay_loads asked.export (sym is ∙ has.0))
of_load found result (ToServe asked) is reads has = let no = sym is ∙ has.0 in cc
of_load found result ToCheck is reads has = let no = sym is ∙ has in cc
of_load found result (ToLoad tenant) is reads has = reads tenant has

pub returns-then-is_named-2-clause-asked : goal.returns-then-is_named-2-clause-asked
returns-then-is_named-2-clause-asked c asked has =
    let no_check : is_found (codes "check") (subcommand_rows_of c.args.matches.now) ≡ false = search rules in
    let loads : is_found (codes "load") (subcommand_rows_of c.args.matches.now) ≡ true = search rules in
    of_load (subcommand_rows_of c.args.matches.now) c.load_of.result asked (loading (subcommand_rows_of c.args.matches.now) no_check loads) c.load_of.ensures.asked has

pub returns-then-is_named-3-clause-asked : goal.returns-then-is_named-3-clause-asked
returns-then-is_named-3-clause-asked c asked has =
    let no_check : is_found (codes "check") (subcommand_rows_of c.args.matches.now) ≡ false = search rules in
    let no_load : is_found (codes "load") (subcommand_rows_of c.args.matches.now) ≡ false = search rules in
    let serves : is_found (codes "serve") (subcommand_rows_of c.args.matches.now) ≡ true = search rules in
    of_service (subcommand_rows_of c.args.matches.now) c.serve_of.result asked (serving (subcommand_rows_of c.args.matches.now) no_check no_load serves) c.serve_of.ensures.asked has
