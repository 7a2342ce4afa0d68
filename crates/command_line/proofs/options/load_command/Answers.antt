use Rattle.std.proofs.Common.{◌≡◌, ◌∙◌, ◌||◌, false, ap, ap₂, codes}
use Rattle.std.proofs.lemmas.Result.{IfOk-weaker}
use Rattle.clap.specs.Words.{app_of, with_rule, new_app}
use Rattle.clap.specs.Simple.{app_of_fields}
use Rattle.clap.specs.declared.builder.Command.TheViews.{out-Command}
use Rattle.command_line.proofs.options.load_command.Goals as goal

pub returns : goal.returns
returns c =
    let named_is : app_of c.after_help.result ≡ new_app (codes "load") = ap app_of_fields c.after_help.ensures ∙ (ap app_of_fields c.about.ensures ∙ c.new.ensures.app) in
    let local : (out-Command c.after_help.result).has_globals ≡ false =
    ap (λ fields. fields.has_globals) c.after_help.ensures ∙ (ap (λ fields. fields.has_globals) c.about.ensures ∙ c.new.ensures.local) in
    record {
      app = IfOk-weaker c.arg.result _ _ (λ command adds. adds.shape c.tenants.ensures.local ∙ ap₂ with_rule named_is c.tenants.ensures.rule) c.arg.ensures;
      local = IfOk-weaker c.arg.result _ _ (λ command adds. adds.globals ∙ ap₂ ◌||◌ local c.tenants.ensures.local) c.arg.ensures;
    }
