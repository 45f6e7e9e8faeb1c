use Rattle.std.proofs.Common.{◌&&◌, ap, ◌∙◌}
use Rattle.std.proofs.lemmas.Result.{IfOk-weaker}
use Rattle.tr_base.specs.Rects.{has_point}
use Rattle.tr_region.specs.Points.{holds}
use Rattle.tr_region.proofs.RegionLemmas.{meet_around}
use Rattle.tr_region.proofs.regions.Region.within.Goals as goal

pub returns-then-lies_in : goal.returns-then-lies_in
returns-then-lies_in c = record {
  points = λ p. meet_around (holds c.args.self p) (has_point c.args.rect.now p) (c.lies_in.ensures c.if-lies_in.true p);
}

pub returns : goal.returns
returns c = record {
  points = IfOk-weaker c.meet-met.result _ _ (λ r h p. h p ∙ ap (λ b. holds c.args.self p && b) (c.single-other.ensures.points p)) c.meet-met.ensures.points;
}
