use Rattle.std.proofs.Common.{◌&&◌, not, ap, ◌∙◌}
use Rattle.std.proofs.lemmas.Result.{IfOk-weaker}
use Rattle.tr_region.specs.Points.{holds}
use Rattle.tr_region.proofs.regions.Region.outside.Goals as goal

pub returns : goal.returns
returns c = record {
  points = IfOk-weaker c.less-rest.result _ _ (λ r h p. h p ∙ ap (λ b. holds c.args.self p && not b) (c.single-other.ensures.points p))
      c.less-rest.ensures.points;
}
