use Rattle.std.proofs.Common.{rules, ◌≡◌, ◌∙◌, ap, List, Option, Some, None, option_map, unwrap_or, codes, string_bytes}
use Rattle.clap.specs.Words.{Row, Text, first_of, first_value, found_of, rows_of, subcommand_rows_of}
use Rattle.clap.proofs.WalkLemmas.{first_value-rows}
use Rattle.command_line.specs.Reading.{export_found}
use Rattle.command_line.proofs.parse.export_of.Goals as goal

-- the name in the rows of the subcommand that was found
in_rows : (found : Option (Text × List Row)) (rows : List Row) → Some rows ≡ option_map (λ named. named.1) found
    → first_of (codes "export") rows ≡ export_found found
in_rows (Some named) rows same = ap (λ found. first_of (codes "export") (unwrap_or found rows)) same
in_rows None rows same = cc

pub returns-in_ok-from_str-in-Some-get_str-clause-ok : goal.returns-in_ok-from_str-in-Some-get_str-clause-ok
returns-in_ok-from_str-in-Some-get_str-clause-ok c =
    let rows : Some (rows_of (found_of c.in-Some.replay.now)) ≡ option_map (λ named. named.1) (subcommand_rows_of c.args.matches.now) = search rules in
    let copy : string_bytes c.in_ok-from_str-in-Some-get_str.field-0 ≡ c.in-Some-get_str.name.now = search rules in
    let name : Some c.in-Some-get_str.name.now ≡ first_value (found_of c.in-Some.replay.now) (codes "export") = search rules in
    ap Some copy ∙ (name ∙ (first_value-rows (found_of c.in-Some.replay.now) (codes "export") ∙ in_rows (subcommand_rows_of c.args.matches.now) _ rows))

pub returns-in-None-clause-ok : goal.returns-in-None-clause-ok
returns-in-None-clause-ok c =
    let rows : Some (rows_of (found_of c.in-Some.replay.now)) ≡ option_map (λ named. named.1) (subcommand_rows_of c.args.matches.now) = search rules in
    let name : None ≡ first_value (found_of c.in-Some.replay.now) (codes "export") = search rules in
    name ∙ (first_value-rows (found_of c.in-Some.replay.now) (codes "export") ∙ in_rows (subcommand_rows_of c.args.matches.now) _ rows)
