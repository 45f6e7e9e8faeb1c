use Rattle.std.proofs.Common.{◌≡◌, ◌&&◌, List, refl, sym, ◌∙◌}
use Rattle.std.proofs.lemmas.Result.{IfOk-weaker}
use Rattle.tr_base.specs.declared.Point.{Point}
use Rattle.tr_base.specs.Rects.{Edges, has_point}
use Rattle.tr_region.specs.Points.{holds}
use Rattle.tr_region.proofs.RegionLemmas.{single_holds, holds-answer, meet_within, meet_around}
use Rattle.tr_region.proofs.regions.Region.meet.Goals as goal

pub returns-then-covers : goal.returns-then-covers
returns-then-covers c =
    let mine = c.args.self.now in
    let theirs = c.args.other.now in
    record {
      points = holds-answer c.copy.result theirs (λ p. holds mine p && holds theirs p) c.copy.ensures
          (λ p. meet_within (holds mine p) (holds theirs p) (c.covers.ensures c.if-covers.true p));
    }

pub returns-then-surrounds : goal.returns-then-surrounds
returns-then-surrounds c =
    let mine = c.args.self.now in
    let theirs = c.args.other.now in
    record {
      points = holds-answer c.copy-then-surrounds.result mine (λ p. holds mine p && holds theirs p) c.copy-then-surrounds.ensures
          (λ p. meet_around (holds mine p) (holds theirs p) (c.surrounds.ensures c.if-surrounds.true p));
    }

pub returns-then-is_single-2 : goal.returns-then-is_single-2
returns-then-is_single-2 c =
    let mine = c.args.self.now in
    let theirs = c.args.other.now in
    let my_points = single_holds _ _ mine c.self.invariant c.self.view_is (c.is_single.ensures c.if-is_single.true) in
    let their_points = single_holds _ _ theirs c.other.invariant c.other.view_is (c.is_single-then-is_single.ensures c.if-is_single-2.true) in
    record {
      points = IfOk-weaker c.of_rect.result (λ (r : List Edges). (p : Point) → holds r p ≡ has_point c.meet.result p)
          (λ (r : List Edges). (p : Point) → holds r p ≡ holds mine p && holds theirs p)
          (λ r e p. e p ∙ c.meet.ensures.points p ∙ sym (rw (my_points p, their_points p) refl)) c.of_rect.ensures.points;
    }
