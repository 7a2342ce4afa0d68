use Rattle.std.proofs.Common.{◌≡◌, ◌∙◌, ℕ, ap, sym, refl, List, Option, Some, None, unwrap_or}
use Rattle.std.specs.Option.{option_map_or}
use Rattle.std.specs.Str.Parse.{ParsesUnsigned, ExplainsUnsignedError, HasUnsignedDigitsIfOk}
use Rattle.clap.specs.Words.{found_of, one_text}
use Rattle.clap.proofs.WalkLemmas.{one_text-rows}
use Rattle.command_line.specs.Reading.{amount_spelled}
use Rattle.command_line.proofs.Amounts.{reads}
use Rattle.command_line.proofs.parse.amount_of.Goals as goal

pub returns : goal.returns
returns c number amount = go (one_text (found_of c.args.replay.now) c.args.name.now) refl
    (ap (λ text. option_map_or amount_spelled text (Some c.args.default)) (one_text-rows (found_of c.args.replay.now) c.args.name.now) ∙ amount)
  where
    go : (text : Option (List ℕ)) → one_text (found_of c.args.replay.now) c.args.name.now ≡ text
        → option_map_or amount_spelled (one_text (found_of c.args.replay.now) c.args.name.now) (Some c.args.default) ≡ Some number → c.unwrap_or.result ≡ number
    go None is e =
        let default : Some c.args.default ≡ Some number = sym (ap (λ text. option_map_or amount_spelled text (Some c.args.default)) is) ∙ e in
        c.unwrap_or.ensures ∙ (ap (λ found. unwrap_or found c.args.default) (c.get_one.ensures.none is) ∙ ap (λ found. unwrap_or found 0) default)
    go (Some text) is e =
        let of : amount_spelled text ≡ Some number = sym (ap (λ text. option_map_or amount_spelled text (Some c.args.default)) is) ∙ e in
        let got = reads _ (λ bs r. ParsesUnsigned 64 10 bs r × ExplainsUnsignedError 10 bs r × HasUnsignedDigitsIfOk bs r) text number c.get_one.result
        of (λ bs r gives. gives.0) (c.get_one.ensures.value text is) in
        c.unwrap_or.ensures ∙ ap (λ found. unwrap_or found c.args.default) got
