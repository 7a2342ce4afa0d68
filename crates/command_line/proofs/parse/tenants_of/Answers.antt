use Rattle.std.proofs.Common.{rules, ◌≡◌, ◌∙◌, Bor, map, ap, List, Option, Some, None, option_map, option_and_then, unwrap_or, codes}
use Rattle.std.proofs.lemmas.Result.{IfOk-weaker}
use Rattle.clap.specs.Words.{Row, Text, subcommand_rows_of, all_of, found_of, rows_of}
use Rattle.clap.proofs.WalkLemmas.{raw_values-rows}
use Rattle.command_line.proofs.parse.tenants_of.Goals as goal

-- the tenants in the rows of the subcommand that was found
in_rows : (found : Option (Text × List Row)) (rows : List Row) (names : List Text) → Some rows ≡ option_map (λ named. named.1) found
    → option_and_then (λ named. all_of (codes "TENANT") named.1) found ≡ Some names → all_of (codes "TENANT") rows ≡ Some names
in_rows (Some named) rows names same has = ap (λ found. option_and_then (λ rows. all_of (codes "TENANT") rows) found) same ∙ has
in_rows None rows names same has = cc

texts_given : (given : Option (Bor (List (Bor Text)))) (other : Bor (List (Bor Text))) (names : List Text)
    → option_map (λ texts. map (λ text. text.now) texts.now) given ≡ Some names → map (λ text. text.now) (unwrap_or given other).now ≡ names
texts_given (Some texts) other names is = ap (λ option. unwrap_or option names) is
texts_given None other names is = cc

pub returns : goal.returns
returns c =
    let raw = c.get_strs.ensures ∙ raw_values-rows (found_of c.in-Some.replay.now) (codes "TENANT") in
    let rows : Some (rows_of (found_of c.in-Some.replay.now)) ≡ option_map (λ named. named.1) (subcommand_rows_of c.args.matches.now) = search rules in
    record {
      ok = IfOk-weaker c.copy_texts.result _ _ (λ tenants copied names found.
          copied ∙ (ap (λ (texts : Bor (List (Bor Text))). map (λ text. text.now) texts.now) c.unwrap_or.ensures
          ∙ texts_given c.get_strs.result _ names (raw ∙ in_rows (subcommand_rows_of c.args.matches.now) _ names rows found))) c.copy_texts.ensures.ok;
      err = c.copy_texts.ensures.err;
    }
