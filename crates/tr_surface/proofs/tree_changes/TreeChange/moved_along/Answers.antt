use Rattle.std.proofs.Common.{◌≡◌, true, List, sym, ap, ◌∙◌, arith}
use Rattle.std.proofs.lemmas.Result.{IfOk-weaker}
use Rattle.tr_base.specs.declared.Point.{Point}
use Rattle.tr_base.specs.Rects.{Edges, before_shift}
use Rattle.tr_region.specs.Points.{holds}
use Rattle.tr_spot.specs.Spots.{region_of}
use Rattle.tr_surface.proofs.NearLemmas.{around_whole}
use Rattle.tr_surface.proofs.SurvivorLemmas.{owns_point}
use Rattle.tr_surface.proofs.TreeChangeLemmas.{before_none}
use Rattle.tr_surface.proofs.tree_changes.TreeChange.moved_along.Goals as goal

pub returns-then-is_nowhere : goal.returns-then-is_nowhere
returns-then-is_nowhere c = λ p.
    let s = c.args.self.now in
    ap (λ (r : List Edges). holds r p) (c.in_ok-same.ensures ∙ c.good_before-good.ensures)
    ∙ sym (ap (λ (q : Point). holds (region_of s.good.now c.args.n) q)
    (ap (λ (d : Point). before_shift p d) (c.is_nowhere.ensures.0 c.if-is_nowhere.true) ∙ before_none p))

pub shifted-requires-clause-points : goal.shifted-requires-clause-points
shifted-requires-clause-points c = λ p h.
    let s = c.args.self.now in
    let held : holds (region_of s.good.now c.args.n) p ≡ true = sym (ap (λ (r : List Edges). holds r p) c.good_before-good.ensures) ∙ h in
    around_whole s.was.now.size (omega (arith, c.invariant.ensures.screen.wide)) (omega (arith, c.invariant.ensures.screen.high)) p
    (owns_point s.was.now c.invariant.ensures.forest c.args.n p
    (s.sides.own.points c.args.n p (record { within = omega (arith, c.requires.node.within, s.sides.count) }) held)).on

pub returns : goal.returns
returns c = IfOk-weaker c.shifted.result _ _ (λ r h p.
    h p ∙ ap (λ (e : List Edges). holds e (before_shift p c.args.by)) c.good_before-good.ensures) c.shifted.ensures
