use Rattle.std.proofs.Common.{◌≡◌, true, false, ◌&&◌, List, [], Option, length, sym, ap, subst, ◌∙◌}
use Rattle.tr_base.specs.declared.Point.{Point}
use Rattle.tr_base.specs.declared.NodeId.{NodeId}
use Rattle.tr_base.specs.Rects.{Edges}
use Rattle.tr_base.proofs.BoolLemmas.{and_false}
use Rattle.tr_region.specs.Points.{holds}
use Rattle.tr_forest.specs.Forests.{IsForest}
use Rattle.tr_tree.specs.Trees.{Seen}
use Rattle.tr_spot.specs.Spots.{HasRoot, region_of}
use Rattle.tr_surface.specs.Surfaces.{AreOwn, Shown, any_holds}
use Rattle.tr_surface.specs.TreeSteps.{moved_child}
use Rattle.tr_surface.specs.Survivors.{AreGoodAfter, AreSides, IsLike, change_to, follows_by, good_at, is_below_moved}
use Rattle.tr_surface.proofs.GoodLemmas.{any_none}
use Rattle.tr_surface.proofs.EditLemmas.{like_edited, rooted}
use Rattle.tr_surface.proofs.TreeChangeLemmas.{AreFound, AreKin, good_found, follows_found}
use Rattle.tr_surface.proofs.surfaces.Surface.known.Goals as goal

-- regions without points are each node's own
empty_own : (t : Seen) (regions : List (List Edges)) → length regions ≡ length t.nodes.entries → ((n : NodeId) → region_of regions n ≡ []) → AreOwn t regions
empty_own t regions count none = record {
  count = count;
  points = λ n p inside h. absurd (no_point (sym (ap (λ (r : List Edges). holds r p) (none n)) ∙ h));
}
  where
    no_point : false ≡ true → ⊥
    no_point h = cc

empty_none : (regions : List (List Edges)) → ((n : NodeId) → region_of regions n ≡ []) → (p : Point) → any_holds regions p ≡ false
empty_none regions none p = any_none regions p (λ i lt. ap (λ (r : List Edges). holds r p) (none (record { 0 = i })))

pub is_lost-requires : goal.is_lost-requires
is_lost-requires g c =
    let s = c.args.self.now in
    let at : c.self.inside.tree ≡ s.tree = ap (λ (w : Shown). w.tree) c.self.view_is in
    let forest : IsForest s.tree.nodes = subst (λ (u : Seen). IsForest u.nodes) at c.invariant.ensures.forest in
    let like : IsLike s.tree c.args.is.now =
    subst (λ (u : Seen). IsLike s.tree u) (sym c.requires.is) (like_edited s.tree c.args.edit.now forest c.requires.edit c.requires.allowed) in
    rooted s.tree c.args.is.now like (subst (λ (u : Seen). HasRoot u) at c.self.invariant.0.root)

pub returns-then-is_lost-clause-good : goal.returns-then-is_lost-clause-good
returns-then-is_lost-clause-good g c =
    let s = c.args.self.now in
    let is = c.args.is.now in
    let k = g.K.Keeper.keeping c.args.keeper.now in
    let after : AreGoodAfter k (change_to s is (moved_child s.tree c.args.edit.now)) c.in_ok-good.good.items = record {
      own = empty_own is c.in_ok-good.good.items (c.in_ok-good.ensures.count ∙ c.count-count.ensures.count) c.in_ok-good.ensures.empty;
      any = λ p. empty_none c.in_ok-good.good.items c.in_ok-good.ensures.empty p
          ∙ sym (c.is_lost.ensures.lost c.if-is_lost.true k (moved_child s.tree c.args.edit.now) p);
    } in
    after

pub returns-then-is_lost-clause-follows : goal.returns-then-is_lost-clause-follows
returns-then-is_lost-clause-follows g c = λ p.
    let s = c.args.self.now in
    let is = c.args.is.now in
    let moved = moved_child s.tree c.args.edit.now in
    let k = g.K.Keeper.keeping c.args.keeper.now in
    ap (λ (r : List Edges). holds r p) c.empty-follows.ensures
    ∙ sym (ap (λ b. is_below_moved is moved p && b) (c.is_lost.ensures.lost c.if-is_lost.true k moved p) ∙ and_false (is_below_moved is moved p))

pub invariant_of-change : goal.invariant_of-change
invariant_of-change g c =
    let s = c.args.self.now in
    let is = c.args.is.now in
    let edit = c.args.edit.now in
    let at : c.self.inside.tree ≡ s.tree = ap (λ (w : Shown). w.tree) c.self.view_is in
    let forest : IsForest s.tree.nodes = subst (λ (u : Seen). IsForest u.nodes) at c.invariant.ensures.forest in
    let like : IsLike c.self.inside.tree is = subst (λ (u : Seen). IsLike u is) (sym at)
    (subst (λ (u : Seen). IsLike s.tree u) (sym c.requires.is) (like_edited s.tree edit forest c.requires.edit c.requires.allowed)) in
    let kind : is.kind ≡ c.self.inside.tree.kind = c.is_lost.ensures.kind c.if-is_lost.false ∙ sym (ap (λ (u : Seen). u.kind) at) in
    let sides : AreSides c.self.inside.tree is c.self.inside.good.items =
    record { leaves = like.leaves; count = like.count; kind = kind; own = c.self.invariant.0.own } in
    record {
      sides = subst (λ (gs : List (List Edges)). AreSides c.self.inside.tree is gs) (sym c.deref.ensures.value) sides;
      child = c.moved_child-moved.ensures.node;
    }

pub returns-clause-good : goal.returns-clause-good
returns-clause-good g c =
    let s = c.args.self.now in
    let is = c.args.is.now in
    let edit = c.args.edit.now in
    let k = g.K.Keeper.keeping c.args.keeper.now in
    let moved = c.moved_child-moved.result in
    let good = c.in_ok-known.known.good.items in
    let in_it : Shown = record { tree = c.self.inside.tree; screen = c.self.inside.screen; good = c.self.inside.good.items } in
    let at : c.self.inside.tree ≡ s.tree = ap (λ (w : Shown). w.tree) c.self.view_is in
    let forest : IsForest s.tree.nodes = subst (λ (u : Seen). IsForest u.nodes) at c.invariant.ensures.forest in
    let like : IsLike c.self.inside.tree is = subst (λ (u : Seen). IsLike u is) (sym at)
    (subst (λ (u : Seen). IsLike s.tree u) (sym c.requires.is) (like_edited s.tree edit forest c.requires.edit c.requires.allowed)) in
    let kind : is.kind ≡ c.self.inside.tree.kind = c.is_lost.ensures.kind c.if-is_lost.false ∙ sym (ap (λ (u : Seen). u.kind) at) in
    let kin : AreKin c.self.inside.tree is =
    record { forests = record { before = c.invariant.ensures.forest; after = c.count-count.ensures.invariant }; like = like; kind = kind } in
    let found : AreFound k in_it is moved good = record {
      count = c.in_ok-known.ensures.count;
      each = λ n p inside. c.in_ok-known.ensures.good n p inside
          ∙ ap (λ (gs : List (List Edges)). good_at k c.self.inside.tree is moved gs n p) c.deref.ensures.value;
    } in
    let after : AreGoodAfter k (change_to in_it is moved) good =
    good_found k in_it is c.self.invariant.0 kin (rooted c.self.inside.tree is like c.self.invariant.0.root) moved good found in
    subst (λ (w : Shown). AreGoodAfter k (change_to w is (moved_child w.tree edit)) good) c.self.view_is
    (subst (λ (o : Option NodeId). AreGoodAfter k (change_to in_it is o) good) c.moved_child-moved.ensures.child after)

pub returns-clause-follows : goal.returns-clause-follows
returns-clause-follows g c = λ p.
    let s = c.args.self.now in
    let is = c.args.is.now in
    let edit = c.args.edit.now in
    let k = g.K.Keeper.keeping c.args.keeper.now in
    let moved = c.moved_child-moved.result in
    let good = c.in_ok-known.known.good.items in
    let in_it : Shown = record { tree = c.self.inside.tree; screen = c.self.inside.screen; good = c.self.inside.good.items } in
    let at : c.self.inside.tree ≡ s.tree = ap (λ (w : Shown). w.tree) c.self.view_is in
    let forest : IsForest s.tree.nodes = subst (λ (u : Seen). IsForest u.nodes) at c.invariant.ensures.forest in
    let like : IsLike c.self.inside.tree is = subst (λ (u : Seen). IsLike u is) (sym at)
    (subst (λ (u : Seen). IsLike s.tree u) (sym c.requires.is) (like_edited s.tree edit forest c.requires.edit c.requires.allowed)) in
    let kind : is.kind ≡ c.self.inside.tree.kind = c.is_lost.ensures.kind c.if-is_lost.false ∙ sym (ap (λ (u : Seen). u.kind) at) in
    let kin : AreKin c.self.inside.tree is =
    record { forests = record { before = c.invariant.ensures.forest; after = c.count-count.ensures.invariant }; like = like; kind = kind } in
    let found : AreFound k in_it is moved good = record {
      count = c.in_ok-known.ensures.count;
      each = λ n q inside. c.in_ok-known.ensures.good n q inside
          ∙ ap (λ (gs : List (List Edges)). good_at k c.self.inside.tree is moved gs n q) c.deref.ensures.value;
    } in
    let its : holds c.in_ok-known.known.follows p ≡ follows_by k (change_to in_it is moved) p =
    c.in_ok-known.ensures.follows p
    ∙ follows_found k in_it is c.self.invariant.0 kin (rooted c.self.inside.tree is like c.self.invariant.0.root) moved good found p in
    subst (λ (w : Shown). holds c.in_ok-known.known.follows p ≡ follows_by k (change_to w is (moved_child w.tree edit)) p) c.self.view_is
    (subst (λ (o : Option NodeId). holds c.in_ok-known.known.follows p ≡ follows_by k (change_to in_it is o) p) c.moved_child-moved.ensures.child its)
