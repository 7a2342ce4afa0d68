use Rattle.std.proofs.Common.{rules, ◌≡◌, ◌∙◌, ap, ap₂}
use Rattle.std.proofs.lemmas.Result.{IfOk-weaker}
use Rattle.clap.specs.Words.{app_of, with_subcommand}
use Rattle.command_line.specs.Reading.{bare_app}
use Rattle.command_line.proofs.options.command.Goals as goal

pub returns : goal.returns
returns c =
    let bare_is : app_of c.subcommand_required.result ≡ bare_app = search rules in
    let replay_is = c.in_ok-subcommand.ensures.shape c.in_ok-replay_command.ensures.local
    ∙ ap₂ with_subcommand bare_is (ap (λ app. app.top) c.in_ok-replay_command.ensures.app) in
    let serve_is = c.in_ok-subcommand-2.ensures.shape c.in_ok-serve_command.ensures.local
    ∙ ap₂ with_subcommand replay_is (ap (λ app. app.top) c.in_ok-serve_command.ensures.app) in
    let check_is = c.in_ok-subcommand-3.ensures.shape c.check_command.ensures.local
    ∙ ap₂ with_subcommand serve_is (ap (λ app. app.top) c.check_command.ensures.app) in
    IfOk-weaker c.subcommand-4.result _ _ (λ command adds. adds.shape c.in_ok-load_command.ensures.local
    ∙ ap₂ with_subcommand check_is (ap (λ app. app.top) c.in_ok-load_command.ensures.app)) c.subcommand-4.ensures
