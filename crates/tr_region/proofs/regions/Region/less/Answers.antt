use Rattle.tr_region.specs.Points.{holds}
use Rattle.tr_region.proofs.RegionLemmas.{minus_apart}
use Rattle.tr_region.proofs.regions.Region.less.Goals as goal

pub returns-then-is_apart_from : goal.returns-then-is_apart_from
returns-then-is_apart_from c = record {
  points = λ p. minus_apart (holds c.args.self p) (holds c.args.other.now p) (c.is_apart_from.ensures c.if-is_apart_from.true p);
}
