-- Whether a command is found, by its name.
use Rattle.std.proofs.Common.{◌≡◌, ◌∙◌, ◌↔◌, true, List, Option, Some, None, option_map, refl, sym, ap}
use Rattle.std.specs.Prelude.{Box}
use Rattle.std.specs.Box.{box_value}
use Rattle.std.proofs.lemmas.Slice.Eq.{bytes_eq-Decides}
use Rattle.clap.specs.Words.{Row, subcommand_rows, subcommand_rows_of}
use Rattle.clap.specs.Matches.{subcommand_name_of}
use Rattle.clap.specs.declared.parser.matches.ArgMatches.{ArgMatches}
use Rattle.clap.specs.declared.parser.matches.ArgMatches.TheViews.{out-ArgMatches, out-SubCommand}
use Rattle.clap.specs.declared.parser.matches.SubCommand.{SubCommand}
use Rattle.trace_types.specs.text.Name.{Text}
use Rattle.command_line.specs.Reading.{is_found}
use Rattle.command_line.proofs.Optional.{some_same}

name_of : {Z : Type 0} (sub : Option (Box SubCommand Z))
    → option_map (λ (named : Text × List Row). named.0) (subcommand_rows sub) ≡ option_map (λ b. (out-SubCommand (box_value b)).name.now) sub
name_of None = refl
name_of (Some b) = refl

by_name : (name : Text) (found : Option (Text × List Row)) → (option_map (λ named. named.0) found ≡ Some name) ↔ (is_found name found ≡ true)
by_name name None = (λ e. cc, λ e. cc)
by_name name (Some found) = (λ e. (bytes_eq-Decides found.0 name).1 (some_same e), λ e. ap Some ((bytes_eq-Decides found.0 name).0 e))

pub found_by_name : (name : Text) (matches : ArgMatches) → (subcommand_name_of matches ≡ Some name) ↔ (is_found name (subcommand_rows_of matches) ≡ true)
found_by_name name matches =
    let same = name_of (out-ArgMatches matches).subcommand in
    let by = by_name name (subcommand_rows_of matches) in
    (λ e. by.0 (same ∙ e), λ e. sym same ∙ by.1 e)
