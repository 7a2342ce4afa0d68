use Rattle.std.proofs.Common.{◌∷◌, ap, ◌∙◌}
use Rattle.trace_types.specs.clock.Points.{Point}
use Rattle.event_tree.specs.PathCode.{half_on, point_of}
use Rattle.event_tree.proofs.Paths.{point_of-more}
use Rattle.event_tree.proofs.path.Path.put_above.Goals as goal

pub returns : goal.returns
returns c =
    ap point_of c.in_ok-push.ensures.items ∙ point_of-more c.self.inside.rights.items c.args.right
    ∙ ap (λ (path : Point). half_on c.args.right ∷ path) c.self.view_is
