use Rattle.std.proofs.Common.{ap, ◌∙◌, ◌++◌, ◌∷◌, [], drop, fold}
use Rattle.tenant_desk.specs.Publications.{left_by}
use Rattle.tenant_desk.proofs.Publishing.{turns}
use Rattle.tenant_desk.proofs.publisher.show.Goals as goal

pub replace_with-requires : goal.replace_with-requires
replace_with-requires g c next is =
    let writer = c.args.writer.now in
    let same = c.append.ensures.desk in
    let alone = c.in-Ok.ensures.pending ∙ ap (λ waiting. waiting ++ c.args.operation ∷ []) c.requires.waiting in
    let of_old = is ∙ ap (λ desk. fold left_by desk.shown.value (drop c.append.new.self.behind c.append.new.self.log.items)) same in
    rw same (turns _ _ writer.desk.shown.value next _ c.args.operation c.requires.operation alone of_old)
