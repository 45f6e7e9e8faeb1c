use Rattle.std.proofs.Common.{◌≡◌, ◌&&◌, true, false, List, sym, ap, subst, ◌∙◌, arith}
use Rattle.std.specs.Prelude.{slice_index}
use Rattle.std.proofs.lemmas.Bool.{and_parts}
use Rattle.tr_base.specs.declared.Point.{Point}
use Rattle.tr_base.specs.Rects.{Edges, before_shift, has_point}
use Rattle.tr_region.specs.Areas.{area_of}
use Rattle.tr_region.specs.Places.{place_within}
use Rattle.tr_region.specs.Points.{holds}
use Rattle.tr_screen.specs.Runs.{Repaints}
use Rattle.tr_exec.proofs.SiteLemmas.{area_in_reach}
use Rattle.tr_spot.specs.Leaves.{leaf_corner}
use Rattle.tr_spot.specs.Spots.{is_in_leaf, region_of, spot}
use Rattle.tr_spot.proofs.GainLemmas.{read_region}
use Rattle.tr_surface.specs.Surfaces.{Shown, is_bad}
use Rattle.tr_surface.proofs.PutLemmas.{area-shifted, put_moved}
use Rattle.tr_surface.proofs.ShownLemmas.{IsVisible, all_visible, bad_same, stays_shown, visible_on}
use Rattle.tr_surface.proofs.surfaces.Surface.put_visible.Goals as goal

pub shift-area-requires : goal.shift-area-requires
shift-area-requires c = area_in_reach c.args.clip.now c.origin_of-origin.result c.requires.near c.origin_of-origin.ensures.origin

pub invariant_of-paint_within : goal.invariant_of-paint_within
invariant_of-paint_within c =
    record {
      many = c.requires.many
          ∙ sym (ap (λ (e : Edges). area_of e) c.shift-area.ensures.edges
          ∙ area-shifted c.origin_of-origin.result c.args.clip.now c.invariant-2.ensures);
    }

pub paint_within-requires : goal.paint_within-requires
paint_within-requires c = λ p h.
    let in_it : Shown = record { tree = c.self.inside.tree; screen = c.self.inside.screen; good = c.self.inside.good.items } in
    let n = c.node_of-n.result in
    let at : c.index.result.now ≡ region_of c.self.inside.good.items n =
    read_region c.self.inside.good.items n c.from.result c.index.result.now c.index.ensures c.from.ensures
    (omega (arith, c.self.invariant.0.own.count, c.node_of-n.ensures.node.within)) in
    let seen : IsVisible c.self.inside.tree c.args.leaf c.index.result.now = λ p.
    ap (λ (r : List Edges). holds r p) at
    ∙ all_visible in_it c.self.invariant.0 c.args.leaf n c.node_of-n.ensures.node c.node_of-n.ensures.leaf
    (subst (λ (s : Shown). (q : Point) → is_in_leaf c.args.leaf (spot s.tree q) ≡ true → is_bad s q ≡ false) (sym c.self.view_is) c.requires.good) p in
    let region = c.index.result.now in
    visible_on c.self.inside.tree c.args.leaf c.self.inside.screen.size region c.self.invariant.0.size seen p
    (and_parts (holds region p) (has_point c.shift-area.result p) h).0

pub invariant_of-self : goal.invariant_of-self
invariant_of-self c = (
  stays_shown c.self.inside.tree c.self.inside.good.items c.self.inside.good.items c.self.inside.screen c.paint_within.new.screen
      c.self.invariant.0 c.paint_within.ensures.size c.paint_within.ensures.kind c.self.invariant.0.own,
  c.self.invariant.1,
)

pub returns-clause-pixels : goal.returns-clause-pixels
returns-clause-pixels c =
    let in_it : Shown = record { tree = c.self.inside.tree; screen = c.self.inside.screen; good = c.self.inside.good.items } in
    let n = c.node_of-n.result in
    let at : c.index.result.now ≡ region_of c.self.inside.good.items n =
    read_region c.self.inside.good.items n c.from.result c.index.result.now c.index.ensures c.from.ensures
    (omega (arith, c.self.invariant.0.own.count, c.node_of-n.ensures.node.within)) in
    let seen : IsVisible c.self.inside.tree c.args.leaf c.index.result.now = λ p.
    ap (λ (r : List Edges). holds r p) at
    ∙ all_visible in_it c.self.invariant.0 c.args.leaf n c.node_of-n.ensures.node c.node_of-n.ensures.leaf
    (subst (λ (s : Shown). (q : Point) → is_in_leaf c.args.leaf (spot s.tree q) ≡ true → is_bad s q ≡ false) (sym c.self.view_is) c.requires.good) p in
    let leaf = c.args.leaf in
    let clip = c.args.clip.now in
    let pixels = c.args.pixels.now in
    let t = c.self.inside.tree in
    subst (λ (s : Shown). let corner = leaf_corner s.tree leaf in
    Repaints (λ p. is_in_leaf leaf (spot s.tree p) && has_point clip (before_shift p corner))
    (λ p. slice_index pixels (place_within clip (before_shift p corner))) s.screen c.paint_within.new.screen) c.self.view_is
    (subst (λ (d : Point). Repaints (λ p. is_in_leaf leaf (spot t p) && has_point clip (before_shift p d))
    (λ p. slice_index pixels (place_within clip (before_shift p d))) c.self.inside.screen c.paint_within.new.screen) c.origin_of-origin.ensures.value
    (put_moved c.index.result.now clip c.shift-area.result c.origin_of-origin.result pixels (λ p. is_in_leaf leaf (spot t p))
    c.self.inside.screen c.paint_within.new.screen c.invariant-2.ensures c.shift-area.ensures.edges c.shift-area.ensures.points
    seen c.paint_within.ensures))

pub returns-clause-bad : goal.returns-clause-bad
returns-clause-bad c = λ p.
    subst (λ (s : Shown). is_bad (record { tree = c.self.inside.tree; screen = c.paint_within.new.screen; good = c.self.inside.good.items }) p ≡ is_bad s p)
    c.self.view_is (bad_same c.self.inside.tree c.self.inside.good.items c.self.inside.screen c.paint_within.new.screen p)
