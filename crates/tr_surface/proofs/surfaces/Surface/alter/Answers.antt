use Rattle.std.proofs.Common.{◌≡◌, true, not, ◌&&◌, Option, None, sym, ap, subst, ◌∙◌}
use Rattle.tr_base.specs.declared.Point.{Point}
use Rattle.tr_base.specs.declared.NodeId.{NodeId}
use Rattle.tr_base.specs.Rects.{before_shift}
use Rattle.tr_region.specs.Points.{holds}
use Rattle.tr_screen.specs.Pictures.{pixel_of}
use Rattle.tr_screen.specs.Runs.{Repaints}
use Rattle.tr_repair.specs.Moves.{MovesOn}
use Rattle.tr_forest.specs.Forests.{IsForest}
use Rattle.tr_forest.specs.Edits.{refusal}
use Rattle.tr_tree.specs.Trees.{Seen, edited_tree}
use Rattle.tr_spot.specs.Spots.{HasRoot}
use Rattle.tr_surface.specs.Surfaces.{IsShown, Shown, any_holds, is_bad, is_on}
use Rattle.tr_surface.specs.TreeSteps.{bad_after_edit, good_after, moved_child, source}
use Rattle.tr_surface.specs.Survivors.{IsFitted, IsLike, change, change_to, follows_by, good_by, way_of_moved}
use Rattle.tr_surface.proofs.GoodLemmas.{bad_is}
use Rattle.tr_surface.proofs.EditLemmas.{forest_edited, like_edited, move_edited, nodes_still, rooted}
use Rattle.tr_surface.proofs.PixelLemmas.{AreScreens, IsMove, moves_on, pixels_come}
use Rattle.tr_surface.proofs.surfaces.Surface.alter.Goals as goal

pub way_of_moved-way-requires-clause-is : goal.way_of_moved-way-requires-clause-is
way_of_moved-way-requires-clause-is g c =
    let t = c.args.self.now.tree in
    let edit = c.args.edit.now in
    let at : c.self.inside.tree ≡ t = ap (λ (w : Shown). w.tree) c.self.view_is in
    let is : c.in_ok-is.is' ≡ edited_tree t edit = c.in_ok-is.ensures.tree ∙ ap (λ (u : Seen). edited_tree u edit) at in
    let allowed : refusal t.nodes edit ≡ None =
    ap (λ (u : Seen). refusal u.nodes edit) (sym at) ∙ c.in_ok-is.ensures.allowed in
    let forest : IsForest t.nodes = subst (λ (u : Seen). IsForest u.nodes) at c.invariant.ensures.forest in
    let like : IsLike t c.in_ok-is.is' = subst (λ (u : Seen). IsLike t u) (sym is) (like_edited t edit forest c.requires.edit allowed) in
    nodes_still c.self.inside.tree c.in_ok-is.is' (subst (λ (u : Seen). IsLike u c.in_ok-is.is') (sym at) like)
    c.moved_child.result c.moved_child.ensures.node

pub move_pixels-requires : goal.move_pixels-requires
move_pixels-requires g c =
    let t = c.args.self.now.tree in
    let edit = c.args.edit.now in
    let k = g.K.Keeper.keeping c.args.keeper.now in
    let bad = is_bad c.args.self.now in
    let new = c.in_ok-is.is' in
    let at : c.self.inside.tree ≡ t = ap (λ (w : Shown). w.tree) c.self.view_is in
    let is : new ≡ edited_tree t edit = c.in_ok-is.ensures.tree ∙ ap (λ (u : Seen). edited_tree u edit) at in
    let allowed : refusal t.nodes edit ≡ None =
    ap (λ (u : Seen). refusal u.nodes edit) (sym at) ∙ c.in_ok-is.ensures.allowed in
    let forest : IsForest t.nodes = subst (λ (u : Seen). IsForest u.nodes) at c.invariant.ensures.forest in
    let root : HasRoot t = subst (λ (u : Seen). HasRoot u) at c.self.invariant.0.root in
    let m : c.moved_child.result ≡ moved_child t edit = c.moved_child.ensures.child ∙ ap (λ (u : Seen). moved_child u edit) at in
    let move : IsMove t new (moved_child t edit) =
    subst (λ (u : Seen). IsMove t u (moved_child t edit)) (sym is)
    (move_edited t edit root (like_edited t edit forest c.requires.edit allowed)) in
    let way : c.way_of_moved-way.result ≡ way_of_moved t new (moved_child t edit) =
    c.way_of_moved-way.ensures ∙ ap (λ (u : Seen). way_of_moved u new c.moved_child.result) at ∙ ap (λ (o : Option NodeId). way_of_moved t new o) m in
    subst (λ (d : Point). MovesOn c.fit_screen.new.screen.size d (holds c.in-Ok.known.follows)) (sym way)
    (moves_on k t new (moved_child t edit) bad (holds c.in-Ok.known.follows) move c.fit_screen.new.screen.size
    c.in-Ok-fit_screen.ensures.ok.size
    (subst (λ (w : Shown). (p : Point) → holds c.in-Ok.known.follows p ≡ follows_by k (change_to w new (moved_child w.tree edit)) p)
    c.self.view_is c.in-Ok.ensures.follows))

pub invariant_of-self-2 : goal.invariant_of-self-2
invariant_of-self-2 g c = (c.self.invariant.0, c.in_ok-is.ensures.kept)

pub invariant_of-self-3 : goal.invariant_of-self-3
invariant_of-self-3 g c =
    let t = c.args.self.now.tree in
    let edit = c.args.edit.now in
    let at : c.self.inside.tree ≡ t = ap (λ (w : Shown). w.tree) c.self.view_is in
    let is : c.in_ok-is.is' ≡ edited_tree t edit = c.in_ok-is.ensures.tree ∙ ap (λ (u : Seen). edited_tree u edit) at in
    let allowed : refusal t.nodes edit ≡ None =
    ap (λ (u : Seen). refusal u.nodes edit) (sym at) ∙ c.in_ok-is.ensures.allowed in
    let forest : IsForest t.nodes = subst (λ (u : Seen). IsForest u.nodes) at c.invariant.ensures.forest in
    let root : HasRoot t = subst (λ (u : Seen). HasRoot u) at c.self.invariant.0.root in
    let like : IsLike t c.in_ok-is.is' = subst (λ (u : Seen). IsLike t u) (sym is) (like_edited t edit forest c.requires.edit allowed) in
    let shown : IsShown (record { tree = c.in_ok-is.is'; screen = c.move_pixels.new.screen; good = c.in-Ok.known.good.items }) = record {
      forest = subst (λ (u : Seen). IsForest u.nodes) (sym is) (forest_edited t edit forest c.requires.edit allowed);
      root = rooted t c.in_ok-is.is' like root;
      size = c.move_pixels.ensures.size ∙ c.in-Ok-fit_screen.ensures.ok.size;
      kind = c.move_pixels.ensures.kind ∙ c.in-Ok-fit_screen.ensures.ok.kind;
      own = c.in-Ok.ensures.good.own;
    } in (
      subst (λ (u : Seen). IsShown (record { tree = u; screen = c.move_pixels.new.screen; good = c.in-Ok.known.good.items }))
          (sym c.replace.ensures.after) shown,
      rw c.in_ok-is.ensures.used tt,
    )

pub returns-clause-bad : goal.returns-clause-bad
returns-clause-bad g c = λ p.
    let s = c.args.self.now in
    let k = g.K.Keeper.keeping c.args.keeper.now in
    let new = c.in_ok-is.is' in
    let good = c.in-Ok.known.good.items in
    let P : Seen → Type 0 = λ u.
    is_bad (record { tree = u; screen = c.move_pixels.new.screen; good = good }) p ≡ bad_after_edit k s.tree u c.args.edit.now (is_bad s) p in
    subst P (sym c.replace.ensures.after)
    (bad_is (record { tree = new; screen = c.move_pixels.new.screen; good = good }) p
    ∙ ap (λ b. is_on new p && not b)
    (subst (λ (w : Shown). any_holds good p ≡ good_by k (change_to w new (moved_child w.tree c.args.edit.now)) p) c.self.view_is
    (c.in-Ok.ensures.good.any p)))

pub returns-clause-pixels : goal.returns-clause-pixels
returns-clause-pixels g c =
    let s = c.args.self.now in
    let t = s.tree in
    let edit = c.args.edit.now in
    let k = g.K.Keeper.keeping c.args.keeper.now in
    let new = c.in_ok-is.is' in
    let mid = c.fit_screen.new.screen in
    let last = c.move_pixels.new.screen in
    let follows = holds c.in-Ok.known.follows in
    let at : c.self.inside.tree ≡ t = ap (λ (w : Shown). w.tree) c.self.view_is in
    let is : new ≡ edited_tree t edit = c.in_ok-is.ensures.tree ∙ ap (λ (u : Seen). edited_tree u edit) at in
    let allowed : refusal t.nodes edit ≡ None =
    ap (λ (u : Seen). refusal u.nodes edit) (sym at) ∙ c.in_ok-is.ensures.allowed in
    let forest : IsForest t.nodes = subst (λ (u : Seen). IsForest u.nodes) at c.invariant.ensures.forest in
    let root : HasRoot t = subst (λ (u : Seen). HasRoot u) at c.self.invariant.0.root in
    let m : c.moved_child.result ≡ moved_child t edit = c.moved_child.ensures.child ∙ ap (λ (u : Seen). moved_child u edit) at in
    let move : IsMove t new (moved_child t edit) =
    subst (λ (u : Seen). IsMove t u (moved_child t edit)) (sym is)
    (move_edited t edit root (like_edited t edit forest c.requires.edit allowed)) in
    let way : c.way_of_moved-way.result ≡ way_of_moved t new (moved_child t edit) =
    c.way_of_moved-way.ensures ∙ ap (λ (u : Seen). way_of_moved u new c.moved_child.result) at ∙ ap (λ (o : Option NodeId). way_of_moved t new o) m in
    let its : (p : Point) → follows p ≡ follows_by k (change t new (moved_child t edit) (is_bad s)) p =
    subst (λ (w : Shown). (p : Point) → follows p ≡ follows_by k (change_to w new (moved_child w.tree edit)) p) c.self.view_is c.in-Ok.ensures.follows in
    let paints : Repaints follows (λ p. pixel_of mid (before_shift p (way_of_moved t new (moved_child t edit)))) mid last =
    subst (λ (d : Point). Repaints follows (λ p. pixel_of mid (before_shift p d)) mid last) way c.move_pixels.ensures in
    let screens : AreScreens t new s.screen mid = record {
      size = ap (λ (w : Shown). w.screen.size) (sym c.self.view_is) ∙ c.self.invariant.0.size ∙ ap (λ (u : Seen). u.size) at;
      kind = ap (λ (w : Shown). w.screen.kind) (sym c.self.view_is) ∙ c.self.invariant.0.kind ∙ ap (λ (u : Seen). u.kind) at;
      fitted = subst (λ (w : Shown). IsFitted new w.screen mid) c.self.view_is c.in-Ok-fit_screen.ensures.ok;
    } in
    let P : Seen → Type 0 = λ u.
    (p : Point) → good_after k t u edit (is_bad s) p ≡ true → pixel_of last p ≡ pixel_of s.screen (source t u edit p) in
    subst P (sym c.replace.ensures.after)
    (λ p h. pixels_come k t new (moved_child t edit) (is_bad s) follows move s.screen mid last screens its paints p h)
