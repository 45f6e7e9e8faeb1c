use Rattle.std.proofs.Common.{◌≡◌, ℤ, ◌-ℤ◌, true, refl, sym, ap, subst, ◌∙◌, arith}
use Rattle.std.proofs.lemmas.Int.{ints}
use Rattle.std.specs.Prelude.{neg_ℤ}
use Rattle.std.proofs.lemmas.Bool.{and_parts}
use Rattle.tr_base.specs.declared.Point.{Point}
use Rattle.tr_base.specs.Rects.{IsScreenSize, before_shift, has_point}
use Rattle.tr_region.specs.Points.{holds}
use Rattle.tr_region.proofs.ExtentsLemmas.{extents_least}
use Rattle.tr_region.proofs.OrderLemmas.{AreInOrder-canonical}
use Rattle.tr_spot.specs.Spots.{spot, is_in_leaf}
use Rattle.tr_spot.specs.Leaves.{leaf_corner}
use Rattle.tr_surface.specs.Surfaces.{Shown, back_from, is_bad}
use Rattle.tr_surface.proofs.GoodLemmas.{bad_on}
use Rattle.tr_surface.proofs.NearLemmas.{around_whole}
use Rattle.tr_surface.proofs.surfaces.Surface.bad_extents.Goals as goal

there_and_back : (p corner : Point) → before_shift (before_shift p corner) (back_from corner) ≡ p
there_and_back p corner =
    let across : (p.h -ℤ corner.h) -ℤ neg_ℤ corner.h ≡ p.h = omega (arith, ints) in
    let down : (p.v -ℤ corner.v) -ℤ neg_ℤ corner.v ≡ p.v = omega (arith, ints) in
    let point : ℤ → ℤ → Point = λ h v. record { h = h; v = v } in
    ap (λ h. point h ((p.v -ℤ corner.v) -ℤ neg_ℤ corner.v)) across ∙ ap (λ v. point p.h v) down

back_and_there : (q corner : Point) → before_shift (before_shift q (back_from corner)) corner ≡ q
back_and_there q corner =
    let across : (q.h -ℤ neg_ℤ corner.h) -ℤ corner.h ≡ q.h = omega (arith, ints) in
    let down : (q.v -ℤ neg_ℤ corner.v) -ℤ corner.v ≡ q.v = omega (arith, ints) in
    let point : ℤ → ℤ → Point = λ h v. record { h = h; v = v } in
    ap (λ h. point h ((q.v -ℤ neg_ℤ corner.v) -ℤ corner.v)) across ∙ ap (λ v. point q.h v) down

pub shifted-bad-requires-clause-points : goal.shifted-bad-requires-clause-points
shifted-bad-requires-clause-points c p h =
    let t = c.args.self.now.tree in
    let bad = (and_parts (is_bad c.args.self.now p) (is_in_leaf c.args.leaf (spot t p)) (sym (c.in_ok-here.ensures p) ∙ h)).0 in
    let size = subst (λ (s : Shown). IsScreenSize s.tree.size) c.self.view_is c.invariant.ensures.screen in
    around_whole t.size (omega (arith, size.wide)) (omega (arith, size.high)) p (bad_on c.args.self.now p bad)

pub returns-clause-all : goal.returns-clause-all
returns-clause-all c p seen bad =
    let corner = leaf_corner c.args.self.now.tree c.args.leaf in
    let here : holds c.in_ok-here.here p ≡ true = c.in_ok-here.ensures p ∙ rw (bad, seen) refl in
    let way : c.opposite.result ≡ back_from corner = c.opposite.ensures.value ∙ ap back_from c.origin_of-origin.ensures.value
    ∙ ap (λ (s : Shown). back_from (leaf_corner s.tree c.args.leaf)) c.self.view_is in
    let back : before_shift (before_shift p corner) c.opposite.result ≡ p =
    ap (before_shift (before_shift p corner)) way ∙ there_and_back p corner in
    c.extents-extents.ensures.points (before_shift p corner)
    (c.in_ok-bad.ensures (before_shift p corner) ∙ ap (holds c.in_ok-here.here) back ∙ here)

pub returns-clause-least : goal.returns-clause-least
returns-clause-least c outer all =
    let s = c.args.self.now in
    let corner = leaf_corner s.tree c.args.leaf in
    let way : c.opposite.result ≡ back_from corner = c.opposite.ensures.value ∙ ap back_from c.origin_of-origin.ensures.value
    ∙ ap (λ (w : Shown). back_from (leaf_corner w.tree c.args.leaf)) c.self.view_is in
    let bad = c.in_ok-bad.bad in
    let within : (q : Point) → holds bad q ≡ true → has_point outer q ≡ true = λ q h.
    let p : Point = before_shift q c.opposite.result in
    let both = and_parts (is_bad s p) (is_in_leaf c.args.leaf (spot s.tree p))
    (sym (c.in_ok-here.ensures p) ∙ sym (c.in_ok-bad.ensures q) ∙ h) in
    let back : before_shift p corner ≡ q = ap (λ (d : Point). before_shift (before_shift q d) corner) way ∙ back_and_there q corner in
    sym (ap (has_point outer) back) ∙ all p both.1 both.0 in
    rw c.extents-extents.ensures.value (extents_least bad (AreInOrder-canonical bad c.invariant-2.ensures) outer within)
