use Rattle.std.proofs.Common.{◌≡◌, ◌&&◌, ◌||◌, not, true, ℕ, List, set, refl, sym, ap, subst, ◌∙◌, arith}
use Rattle.tr_base.specs.declared.Point.{Point}
use Rattle.tr_base.specs.declared.Size.{Size}
use Rattle.tr_base.specs.Rects.{Edges, has_point, whole_of}
use Rattle.tr_region.specs.Points.{holds}
use Rattle.tr_spot.specs.Spots.{is_in_leaf, region_of, spot}
use Rattle.tr_spot.proofs.GainLemmas.{read_region}
use Rattle.tr_surface.specs.Surfaces.{AreOwn, IsShown, Shown, is_bad}
use Rattle.tr_surface.proofs.ShownLemmas.{bad_put, in_leaf_on, put_own, stays_shown}
use Rattle.tr_surface.proofs.surfaces.Surface.put.Goals as goal

-- the points of the part are the leaf's, by the tree inside
within : (s in_it : Shown) (leaf : _) (part : List Edges) → in_it ≡ s → ((p : Point) → holds part p ≡ true → is_in_leaf leaf (spot s.tree p) ≡ true) →
    (p : Point) → holds part p ≡ true → is_in_leaf leaf (spot in_it.tree p) ≡ true
within s in_it leaf part same h = subst (λ (w : Shown). (p : Point) → holds part p ≡ true → is_in_leaf leaf (spot w.tree p) ≡ true) (sym same) h

pub put_pixels-requires-clause-on : goal.put_pixels-requires-clause-on
put_pixels-requires-clause-on c = λ p h.
    let in_it : Shown = record { tree = c.self.inside.tree; screen = c.self.inside.screen; good = c.self.inside.good.items } in
    ap (λ (size : Size). has_point (whole_of size) p) c.self.invariant.0.size
    ∙ in_leaf_on c.self.inside.tree c.args.leaf p (within c.args.self.now in_it c.args.leaf c.args.part.now c.self.view_is c.requires.part p h)

pub invariant_of-self : goal.invariant_of-self
invariant_of-self c =
    let in_it : Shown = record { tree = c.self.inside.tree; screen = c.self.inside.screen; good = c.self.inside.good.items } in
    let n = c.node_of-n.result in
    let at : c.index.result.now ≡ region_of c.self.inside.good.items n =
    read_region c.self.inside.good.items n c.from.result c.index.result.now c.index.ensures c.from.ensures
    (omega (arith, c.self.invariant.0.own.count, c.node_of-n.ensures.node.within)) in
    let union : (p : Point) → holds c.in_ok-more.more p ≡ (holds (region_of c.self.inside.good.items n) p || holds c.args.part.now p) =
    λ p. c.in_ok-more.ensures.points p ∙ ap (λ (r : List Edges). holds r p || holds c.args.part.now p) at in
    let own : AreOwn c.self.inside.tree (set c.self.inside.good.items n.0 c.in_ok-more.more) =
    put_own in_it c.self.invariant.0 c.args.leaf n c.node_of-n.ensures.node c.node_of-n.ensures.leaf c.args.part.now c.in_ok-more.more union
    (within c.args.self.now in_it c.args.leaf c.args.part.now c.self.view_is c.requires.part) in (
      stays_shown c.self.inside.tree c.self.inside.good.items (set c.self.inside.good.items c.from-2.result c.in_ok-more.more)
          c.self.inside.screen c.put_pixels.new.screen c.self.invariant.0 c.put_pixels.ensures.size c.put_pixels.ensures.kind
          (subst (λ (i : ℕ). AreOwn c.self.inside.tree (set c.self.inside.good.items i c.in_ok-more.more)) (sym c.from-2.ensures) own),
      c.self.invariant.1,
    )

pub returns-clause-bad : goal.returns-clause-bad
returns-clause-bad c = λ p.
    let in_it : Shown = record { tree = c.self.inside.tree; screen = c.self.inside.screen; good = c.self.inside.good.items } in
    let n = c.node_of-n.result in
    let new : Shown = record {
      tree = c.self.inside.tree;
      screen = c.put_pixels.new.screen;
      good = set c.self.inside.good.items c.from-2.result c.in_ok-more.more;
    } in
    let at : c.index.result.now ≡ region_of c.self.inside.good.items n =
    read_region c.self.inside.good.items n c.from.result c.index.result.now c.index.ensures c.from.ensures
    (omega (arith, c.self.invariant.0.own.count, c.node_of-n.ensures.node.within)) in
    let union : (q : Point) → holds c.in_ok-more.more q ≡ (holds (region_of c.self.inside.good.items n) q || holds c.args.part.now q) =
    λ q. c.in_ok-more.ensures.points q ∙ ap (λ (r : List Edges). holds r q || holds c.args.part.now q) at in
    let after : IsShown new = (invariant_of-self c).0 in
    subst (λ (w : Shown). is_bad new p ≡ (is_bad w p && not (holds c.args.part.now p))) c.self.view_is
    (bad_put in_it new c.self.invariant.0 after c.args.leaf n c.node_of-n.ensures.node c.node_of-n.ensures.leaf c.args.part.now c.in_ok-more.more union
    (within c.args.self.now in_it c.args.leaf c.args.part.now c.self.view_is c.requires.part) refl
    (ap (λ (i : ℕ). set c.self.inside.good.items i c.in_ok-more.more) c.from-2.ensures) p)
