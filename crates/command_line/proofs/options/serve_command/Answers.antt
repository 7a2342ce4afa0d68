use Rattle.std.proofs.Common.{◌≡◌, ◌∙◌, ◌||◌, false, ap, ap₂, codes}
use Rattle.std.proofs.lemmas.Result.{IfOk-weaker}
use Rattle.clap.specs.Words.{app_of, with_rule, new_app}
use Rattle.clap.specs.Simple.{app_of_fields}
use Rattle.clap.specs.declared.builder.Command.TheViews.{out-Command}
use Rattle.command_line.proofs.options.serve_command.Goals as goal

pub returns : goal.returns
returns c =
    let named_is : app_of c.after_help.result ≡ new_app (codes "serve") = ap app_of_fields c.after_help.ensures ∙ (ap app_of_fields c.about.ensures ∙ c.new.ensures.app) in
    let one = c.in_ok-arg.ensures.shape c.port.ensures.local ∙ ap₂ with_rule named_is c.port.ensures.rule in
    let two = c.in_ok-arg-2.ensures.shape c.limit.ensures.local ∙ ap₂ with_rule one c.limit.ensures.rule in
    let three = c.in_ok-arg-3.ensures.shape c.limit-2.ensures.local ∙ ap₂ with_rule two c.limit-2.ensures.rule in
    let four = c.in_ok-arg-4.ensures.shape c.limit-3.ensures.local ∙ ap₂ with_rule three c.limit-3.ensures.rule in
    let five = c.in_ok-arg-5.ensures.shape c.limit-4.ensures.local ∙ ap₂ with_rule four c.limit-4.ensures.rule in
    let six = c.in_ok-arg-6.ensures.shape c.limit-5.ensures.local ∙ ap₂ with_rule five c.limit-5.ensures.rule in
    let seven = c.in_ok-arg-7.ensures.shape c.limit-6.ensures.local ∙ ap₂ with_rule six c.limit-6.ensures.rule in
    let local : (out-Command c.after_help.result).has_globals ≡ false =
    ap (λ fields. fields.has_globals) c.after_help.ensures ∙ (ap (λ fields. fields.has_globals) c.about.ensures ∙ c.new.ensures.local) in
    let locals_one = c.in_ok-arg.ensures.globals ∙ ap₂ ◌||◌ local c.port.ensures.local in
    let locals_two = c.in_ok-arg-2.ensures.globals ∙ ap₂ ◌||◌ locals_one c.limit.ensures.local in
    let locals_three = c.in_ok-arg-3.ensures.globals ∙ ap₂ ◌||◌ locals_two c.limit-2.ensures.local in
    let locals_four = c.in_ok-arg-4.ensures.globals ∙ ap₂ ◌||◌ locals_three c.limit-3.ensures.local in
    let locals_five = c.in_ok-arg-5.ensures.globals ∙ ap₂ ◌||◌ locals_four c.limit-4.ensures.local in
    let locals_six = c.in_ok-arg-6.ensures.globals ∙ ap₂ ◌||◌ locals_five c.limit-5.ensures.local in
    let locals_seven = c.in_ok-arg-7.ensures.globals ∙ ap₂ ◌||◌ locals_six c.limit-6.ensures.local in
    record {
      app = IfOk-weaker c.arg-8.result _ _ (λ command adds. adds.shape c.tenants.ensures.local ∙ ap₂ with_rule seven c.tenants.ensures.rule) c.arg-8.ensures;
      local = IfOk-weaker c.arg-8.result _ _ (λ command adds. adds.globals ∙ ap₂ ◌||◌ locals_seven c.tenants.ensures.local) c.arg-8.ensures;
    }
