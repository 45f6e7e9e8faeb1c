use Rattle.std.proofs.Common.{◌||◌, ap, ◌∙◌}
use Rattle.tr_region.specs.Points.{holds}
use Rattle.tr_exec.proofs.UnknownLemmas.{lost_beside, told_within, points_same}
use Rattle.tr_exec.proofs.sites.Site.unknown_after.Goals as goal

pub returns-in-Tells : goal.returns-in-Tells
returns-in-Tells c =
    let visible = c.args.self.now.visible.now in
    rw c.in-Tells.is (points_same c.minus.result _ _ c.minus.ensures.points
    (λ p. told_within (holds visible p) (holds c.args.area.now p) (holds c.args.unknown p) (c.requires.seen p)))

pub returns-in_ok-meet-in-Loses : goal.returns-in_ok-meet-in-Loses
returns-in_ok-meet-in-Loses c =
    let visible = c.args.self.now.visible.now in
    rw c.in-Loses.is (points_same c.union-in-Loses.result _ _ c.union-in-Loses.ensures.points
    (λ p. ap (λ b. holds c.args.unknown p || b) (c.in_ok-meet-in-Loses.ensures.points p)
    ∙ lost_beside (holds visible p) (holds c.args.area.now p) (holds c.args.unknown p) (c.requires.seen p)))
