use Rattle.std.proofs.Common.{◌≡◌, ◌&&◌, not, ℕ, List, set, refl, sym, ap, subst, ◌∙◌, arith}
use Rattle.std.specs.Prelude.{is_none}
use Rattle.tr_base.specs.declared.Point.{Point}
use Rattle.tr_base.specs.declared.Kind.{Kind}
use Rattle.tr_base.specs.declared.Size.{Size}
use Rattle.tr_base.specs.Rects.{Edges, before_shift, has_point, whole_of}
use Rattle.tr_region.specs.Points.{holds}
use Rattle.tr_paint.specs.Batches.{touches}
use Rattle.tr_paint.specs.Traces.{look_of}
use Rattle.tr_exec.specs.Executions.{colour_after, known_base}
use Rattle.tr_spot.specs.Leaves.{leaf_corner}
use Rattle.tr_spot.specs.Spots.{region_of}
use Rattle.tr_spot.proofs.GainLemmas.{read_region}
use Rattle.tr_spot.proofs.WayLemmas.{and_left}
use Rattle.tr_surface.specs.Surfaces.{AreOwn, IsShown, Shown, leaf_base}
use Rattle.tr_surface.proofs.GoodLemmas.{own_with}
use Rattle.tr_surface.proofs.ShownLemmas.{IsExecuted, IsSeen, IsVisible, bad_seen, bad_unseen, colour_is, good_seen, of_leaf, stays_shown, visible_on}
use Rattle.tr_surface.proofs.surfaces.Surface.execute.Goals as goal

pub execute_known-known-requires-clause-visible : goal.execute_known-known-requires-clause-visible
execute_known-known-requires-clause-visible c =
    visible_on c.self.inside.tree c.args.leaf c.self.inside.screen.size c.in_ok-visible.visible c.self.invariant.0.size
    (subst (λ (s : Shown). IsVisible s.tree c.args.leaf c.in_ok-visible.visible) (sym c.self.view_is) c.in_ok-visible.ensures)

pub execute_known-known-requires-clause-good : goal.execute_known-known-requires-clause-good
execute_known-known-requires-clause-good c = λ p h.
    let in_it : Shown = record { tree = c.self.inside.tree; screen = c.self.inside.screen; good = c.self.inside.good.items } in
    let n = c.node_of-n.result in
    let seen : IsSeen in_it c.args.leaf n c.in_ok-visible.visible = record {
      is_node = c.node_of-n.ensures.node;
      leaf_is = c.node_of-n.ensures.leaf;
      are = subst (λ (s : Shown). IsVisible s.tree c.args.leaf c.in_ok-visible.visible) (sym c.self.view_is) c.in_ok-visible.ensures;
    } in
    let at : c.index.result.now ≡ region_of c.self.inside.good.items n =
    read_region c.self.inside.good.items n c.from.result c.index.result.now c.index.ensures c.from.ensures
    (omega (arith, c.self.invariant.0.own.count, c.node_of-n.ensures.node.within)) in
    good_seen in_it c.self.invariant.0 c.args.leaf n c.in_ok-visible.visible seen p (ap (λ (r : List Edges). holds r p) (sym at) ∙ h)

pub invariant_of-self-2 : goal.invariant_of-self-2
invariant_of-self-2 c =
    let in_it : Shown = record { tree = c.self.inside.tree; screen = c.self.inside.screen; good = c.self.inside.good.items } in
    let n = c.node_of-n.result in
    let seen : IsSeen in_it c.args.leaf n c.in_ok-visible.visible = record {
      is_node = c.node_of-n.ensures.node;
      leaf_is = c.node_of-n.ensures.leaf;
      are = subst (λ (s : Shown). IsVisible s.tree c.args.leaf c.in_ok-visible.visible) (sym c.self.view_is) c.in_ok-visible.ensures;
    } in
    let own : AreOwn c.self.inside.tree (set c.self.inside.good.items n.0 c.in_ok-known.known) =
    own_with c.self.inside.tree c.self.inside.good.items c.self.invariant.0.own n c.node_of-n.ensures.node c.in_ok-known.known
    (λ p h. of_leaf in_it c.args.leaf n c.in_ok-visible.visible seen p ∙ sym (seen.are p)
    ∙ and_left (holds c.in_ok-visible.visible p) _ (sym (c.in_ok-known.ensures.good p) ∙ h)) in (
      stays_shown c.self.inside.tree c.self.inside.good.items (set c.self.inside.good.items c.from-2.result c.in_ok-known.known)
          c.self.inside.screen c.execute_known-known.new.screen c.self.invariant.0 c.in_ok-known.ensures.size c.in_ok-known.ensures.kind
          (subst (λ (i : ℕ). AreOwn c.self.inside.tree (set c.self.inside.good.items i c.in_ok-known.known)) (sym c.from-2.ensures) own),
      c.self.invariant.1,
    )

executed : (c : goal.After-drop-index_mut) → IsExecuted c.args.self.now
    (record { tree = c.self.inside.tree; screen = c.execute_known-known.new.screen; good = set c.self.inside.good.items c.from-2.result c.in_ok-known.known })
    c.args.font.now c.args.leaf c.args.batch.now
executed c =
    let in_it : Shown = record { tree = c.self.inside.tree; screen = c.self.inside.screen; good = c.self.inside.good.items } in
    let n = c.node_of-n.result in
    let new : Shown = record {
      tree = c.self.inside.tree;
      screen = c.execute_known-known.new.screen;
      good = set c.self.inside.good.items c.from-2.result c.in_ok-known.known;
    } in
    let visible = c.in_ok-visible.visible in
    let seen : IsSeen in_it c.args.leaf n visible = record {
      is_node = c.node_of-n.ensures.node;
      leaf_is = c.node_of-n.ensures.leaf;
      are = subst (λ (s : Shown). IsVisible s.tree c.args.leaf visible) (sym c.self.view_is) c.in_ok-visible.ensures;
    } in
    let found : c.index.result.now ≡ region_of c.self.inside.good.items n =
    read_region c.self.inside.good.items n c.from.result c.index.result.now c.index.ensures c.from.ensures
    (omega (arith, c.self.invariant.0.own.count, c.node_of-n.ensures.node.within)) in
    let after : IsShown new = (invariant_of-self-2 c).0 in
    let at = c.origin_of-origin.ensures.value in
    let look = look_of c.kind-kind.result c.args.font.now in
    let own_look = look_of c.self.inside.tree.kind c.args.font.now in
    let by_good = λ (r : List Edges) (p : Point).
    colour_after look (known_base c.origin_of-origin.result visible r c.self.inside.screen) c.args.batch.now c.origin_of-origin.result p in
    let wanted = λ (p : Point). colour_after own_look (leaf_base in_it c.args.leaf) c.args.batch.now (leaf_corner in_it.tree c.args.leaf) p in
    let colour : (p : Point) → by_good c.index.result.now p ≡ wanted p = λ p.
    ap (λ (r : List Edges). by_good r p) found
    ∙ colour_is in_it c.self.invariant.0 c.args.leaf n visible seen look c.args.batch.now c.origin_of-origin.result p at
    ∙ ap (λ (kind : Kind). colour_after (look_of kind c.args.font.now) (leaf_base in_it c.args.leaf) c.args.batch.now (leaf_corner in_it.tree c.args.leaf) p)
    c.kind-kind.ensures in
    let on = λ (p : Point). ap (λ (size : Size). has_point (whole_of size) p) c.self.invariant.0.size in
    let set_at : new.good ≡ set in_it.good n.0 c.in_ok-known.known =
    ap (λ (i : ℕ). set c.self.inside.good.items i c.in_ok-known.known) c.from-2.ensures in
    subst (λ (t : Shown). IsExecuted t new c.args.font.now c.args.leaf c.args.batch.now) c.self.view_is (record {
      known = λ p x in_leaf is. c.in_ok-known.ensures.known p x (seen.are p ∙ in_leaf) (colour p ∙ is);
      unknown = λ p in_leaf. bad_seen in_it new c.self.invariant.0 after c.args.leaf n visible seen c.in_ok-known.known refl set_at (is_none (wanted p)) p
          (c.in_ok-known.ensures.good p ∙ ap (λ o. holds visible p && not (is_none o)) (colour p)) in_leaf;
      untouched = λ p in_leaf none. c.in_ok-known.ensures.untouched p (seen.are p ∙ in_leaf)
          (ap (λ (o : Point). touches c.args.batch.now (before_shift p o)) at ∙ none);
      pixels = λ p here hidden. c.in_ok-known.ensures.pixels p (on p ∙ here) (seen.are p ∙ hidden);
      others = λ p hidden. bad_unseen in_it new c.self.invariant.0 after c.args.leaf n visible seen c.in_ok-known.known refl set_at p hidden;
    })

pub returns-clause-known : goal.returns-clause-known
returns-clause-known c = (executed c).known

pub returns-clause-unknown : goal.returns-clause-unknown
returns-clause-unknown c = (executed c).unknown

pub returns-clause-untouched : goal.returns-clause-untouched
returns-clause-untouched c = (executed c).untouched

pub returns-clause-pixels : goal.returns-clause-pixels
returns-clause-pixels c = (executed c).pixels

pub returns-clause-others : goal.returns-clause-others
returns-clause-others c = (executed c).others
