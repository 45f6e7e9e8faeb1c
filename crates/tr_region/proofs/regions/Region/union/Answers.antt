use Rattle.std.proofs.Common.{◌||◌, ◌++◌, ◌∙◌}
use Rattle.tr_base.proofs.BoolLemmas.{or_swap}
use Rattle.tr_region.specs.Points.{holds}
use Rattle.tr_region.proofs.BandLemmas.{holds-append}
use Rattle.tr_region.proofs.RegionLemmas.{holds-answer}
use Rattle.tr_region.proofs.regions.Region.union.Goals as goal

pub returns-then-is_north_of : goal.returns-then-is_north_of
returns-then-is_north_of c =
    let mine = c.args.self.now in
    let theirs = c.args.other.now in
    record {
      points = holds-answer c.followed_by.result (mine ++ theirs) (λ p. holds mine p || holds theirs p) c.followed_by.ensures
          (λ p. holds-append mine theirs p);
    }

pub returns-then-is_north_of-2 : goal.returns-then-is_north_of-2
returns-then-is_north_of-2 c =
    let mine = c.args.self.now in
    let theirs = c.args.other.now in
    record {
      points = holds-answer c.followed_by-then-is_north_of-2.result (theirs ++ mine) (λ p. holds mine p || holds theirs p)
          c.followed_by-then-is_north_of-2.ensures (λ p. holds-append theirs mine p ∙ or_swap (holds theirs p) (holds mine p));
    }
