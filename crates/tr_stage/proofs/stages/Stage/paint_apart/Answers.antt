use Rattle.std.proofs.Common.{◌≡◌, true, length, subst, sym, ap, ◌∙◌}
use Rattle.std.specs.Prelude.{IfOk, slice_index}
use Rattle.std.specs.List.{AllByRecursion}
use Rattle.std.proofs.lemmas.Result.{IfOk-weaker}
use Rattle.tr_base.specs.declared.Point.{Point}
use Rattle.tr_base.specs.Rects.{AreInReach, before_shift, shifted, IsScreenSize}
use Rattle.tr_base.proofs.RectLemmas.{false-true}
use Rattle.tr_region.specs.Areas.{total_area}
use Rattle.tr_region.specs.Places.{place_in}
use Rattle.tr_region.specs.Points.{holds}
use Rattle.tr_region.proofs.OrderLemmas.{AreInOrder-canonical}
use Rattle.tr_exec.specs.Executions.{IsOrigin, screen_point}
use Rattle.tr_exec.proofs.SiteLemmas.{region_in_reach}
use Rattle.tr_spot.specs.Leaves.{in_leaf, leaf_corner, leaf_domain}
use Rattle.tr_spot.specs.Spots.{from_corner}
use Rattle.tr_stage.specs.Stages.{state}
use Rattle.tr_stage.proofs.ApartLemmas.{AreSeen, IsMoved, IsPlaced, moved_on, place_in-moved, placed_back, placed_near, placed_origin, placed_size, placed_small, seen_on, seen_placed, total_area-moved, zero_point}
use Rattle.tr_stage.proofs.stages.Stage.paint_apart.Goals as goal

pub shift-requires : goal.shift-requires
shift-requires g c =
    let are : AreSeen g.C.Client c.args.self.now c.tree-tree.result.now c.args.leaf c.args.part.now = record {
      stands = c.invariant.ensures.stands;
      tree = c.tree-tree.ensures.value ∙ c.self.invariant.kept.tree ∙ ap (λ v. (state g.C.Client v).tree) c.self.view_is;
      list = c.invariant-2.ensures;
      visible = c.requires.part;
    } in
    let area = c.extents-area.result in
    let domain = leaf_domain c.tree-tree.result.now c.args.leaf in
    let is : IsPlaced area domain = seen_placed g.C.Client are c.corner_of-corner.ensures.rect
    (λ e. false-true (sym c.if-is_empty.false ∙ c.is_empty.ensures.list.1 e)) c.extents-area.ensures.value in
    subst (λ (d : Point). AllByRecursion (λ r. AreInReach (shifted r d)) c.args.part.now) (sym c.from_corner-by.ensures)
    (region_in_reach c.args.part.now (from_corner area zero_point) c.invariant-2.ensures (seen_on g.C.Client are) (placed_near area domain is))

pub size_of-requires : goal.size_of-requires
size_of-requires g c =
    let are : AreSeen g.C.Client c.args.self.now c.tree-tree.result.now c.args.leaf c.args.part.now = record {
      stands = c.invariant.ensures.stands;
      tree = c.tree-tree.ensures.value ∙ c.self.invariant.kept.tree ∙ ap (λ v. (state g.C.Client v).tree) c.self.view_is;
      list = c.invariant-2.ensures;
      visible = c.requires.part;
    } in
    let area = c.extents-area.result in
    let domain = leaf_domain c.tree-tree.result.now c.args.leaf in
    let is : IsPlaced area domain = seen_placed g.C.Client are c.corner_of-corner.ensures.rect
    (λ e. false-true (sym c.if-is_empty.false ∙ c.is_empty.ensures.list.1 e)) c.extents-area.ensures.value in
    placed_small area domain is

pub blank-requires : goal.blank-requires
blank-requires g c =
    let are : AreSeen g.C.Client c.args.self.now c.tree-tree.result.now c.args.leaf c.args.part.now = record {
      stands = c.invariant.ensures.stands;
      tree = c.tree-tree.ensures.value ∙ c.self.invariant.kept.tree ∙ ap (λ v. (state g.C.Client v).tree) c.self.view_is;
      list = c.invariant-2.ensures;
      visible = c.requires.part;
    } in
    let area = c.extents-area.result in
    let domain = leaf_domain c.tree-tree.result.now c.args.leaf in
    let is : IsPlaced area domain = seen_placed g.C.Client are c.corner_of-corner.ensures.rect
    (λ e. false-true (sym c.if-is_empty.false ∙ c.is_empty.ensures.list.1 e)) c.extents-area.ensures.value in
    subst IsScreenSize (sym c.size_of.ensures) (placed_size area domain is)

pub paint_window-requires-clause-origin : goal.paint_window-requires-clause-origin
paint_window-requires-clause-origin g c κs within =
    let are : AreSeen g.C.Client c.args.self.now c.tree-tree.result.now c.args.leaf c.args.part.now = record {
      stands = c.invariant.ensures.stands;
      tree = c.tree-tree.ensures.value ∙ c.self.invariant.kept.tree ∙ ap (λ v. (state g.C.Client v).tree) c.self.view_is;
      list = c.invariant-2.ensures;
      visible = c.requires.part;
    } in
    let area = c.extents-area.result in
    let domain = leaf_domain c.tree-tree.result.now c.args.leaf in
    let is : IsPlaced area domain = seen_placed g.C.Client are c.corner_of-corner.ensures.rect
    (λ e. false-true (sym c.if-is_empty.false ∙ c.is_empty.ensures.list.1 e)) c.extents-area.ensures.value in
    subst IsOrigin (sym (c.from_corner-origin.ensures ∙ ap (from_corner area) c.corner_of-corner.ensures.value))
    (placed_origin area domain is c.corner_of-corner.ensures.domain)

pub paint_window-requires-clause-part : goal.paint_window-requires-clause-part
paint_window-requires-clause-part g c κs within =
    let are : AreSeen g.C.Client c.args.self.now c.tree-tree.result.now c.args.leaf c.args.part.now = record {
      stands = c.invariant.ensures.stands;
      tree = c.tree-tree.ensures.value ∙ c.self.invariant.kept.tree ∙ ap (λ v. (state g.C.Client v).tree) c.self.view_is;
      list = c.invariant-2.ensures;
      visible = c.requires.part;
    } in
    let area = c.extents-area.result in
    let domain = leaf_domain c.tree-tree.result.now c.args.leaf in
    let is : IsPlaced area domain = seen_placed g.C.Client are c.corner_of-corner.ensures.rect
    (λ e. false-true (sym c.if-is_empty.false ∙ c.is_empty.ensures.list.1 e)) c.extents-area.ensures.value in
    let moved : IsMoved area c.args.part.now c.in_ok-here.here c.from_corner-by.result = record {
      full = is.full;
      round = c.extents-area.ensures.points;
      way = c.from_corner-by.ensures;
      points = c.in_ok-here.ensures.points;
    } in
    moved_on c.in-Ok.wanted.size (ap (λ w. w.size) c.in-Ok.ensures ∙ c.size_of.ensures) moved

pub pixels_at-pixels-requires : goal.pixels_at-pixels-requires
pixels_at-pixels-requires g c =
    let are : AreSeen g.C.Client c.args.self.now c.tree-tree.result.now c.args.leaf c.args.part.now = record {
      stands = c.invariant.ensures.stands;
      tree = c.tree-tree.ensures.value ∙ c.self.invariant.kept.tree ∙ ap (λ v. (state g.C.Client v).tree) c.self.view_is;
      list = c.invariant-2.ensures;
      visible = c.requires.part;
    } in
    let area = c.extents-area.result in
    let domain = leaf_domain c.tree-tree.result.now c.args.leaf in
    let is : IsPlaced area domain = seen_placed g.C.Client are c.corner_of-corner.ensures.rect
    (λ e. false-true (sym c.if-is_empty.false ∙ c.is_empty.ensures.list.1 e)) c.extents-area.ensures.value in
    let moved : IsMoved area c.args.part.now c.in_ok-here.here c.from_corner-by.result = record {
      full = is.full;
      round = c.extents-area.ensures.points;
      way = c.from_corner-by.ensures;
      points = c.in_ok-here.ensures.points;
    } in
    record {
      on = moved_on c.paint_window.new.wanted.size
          (c.in-Ok-paint_window.ensures.size ∙ ap (λ w. w.size) c.in-Ok.ensures ∙ c.size_of.ensures) moved;
    }

pub returns-clause-many : goal.returns-clause-many
returns-clause-many g c =
    subst (λ n. IfOk c.pixels_at-pixels.result (λ v. length v.items ≡ n))
    (ap total_area c.in_ok-here.ensures.rects
    ∙ total_area-moved c.from_corner-by.result c.args.part.now (AreInOrder-canonical c.args.part.now c.invariant-2.ensures))
    c.pixels_at-pixels.ensures.many

pub returns-clause-colours : goal.returns-clause-colours
returns-clause-colours g c =
    let m = state g.C.Client c.args.self.now in
    let leaf = c.args.leaf in
    let part = c.args.part.now in
    let area = c.extents-area.result in
    let by = c.from_corner-by.result in
    let tree = c.tree-tree.ensures.value ∙ c.self.invariant.kept.tree ∙ ap (λ v. (state g.C.Client v).tree) c.self.view_is in
    let origin : c.from_corner-origin.result ≡ from_corner area (leaf_corner m.tree leaf) =
    c.from_corner-origin.ensures
    ∙ ap (from_corner area) (c.corner_of-corner.ensures.value ∙ ap (λ t. leaf_corner t leaf) tree) in
    let there : Point → Point = λ p. screen_point c.from_corner-origin.result (in_leaf m.tree leaf p) in
    let back : (p : Point) → before_shift (there p) by ≡ p = λ p.
    ap (λ (o : Point). before_shift (screen_point o (in_leaf m.tree leaf p)) by) origin
    ∙ ap (λ (d : Point). before_shift (screen_point (from_corner area (leaf_corner m.tree leaf)) (in_leaf m.tree leaf p)) d) c.from_corner-by.ensures
    ∙ placed_back area (leaf_corner m.tree leaf) p in
    let place : (p : Point) → place_in c.in_ok-here.here (there p) ≡ place_in part p = λ p.
    ap (λ rs. place_in rs (there p)) c.in_ok-here.ensures.rects
    ∙ place_in-moved by part (there p) (AreInOrder-canonical part c.invariant-2.ensures)
    ∙ ap (place_in part) (back p) in
    let lies : (p : Point) → holds part p ≡ true → holds c.in_ok-here.here (there p) ≡ true = λ p held.
    c.in_ok-here.ensures.points (there p) ∙ ap (holds part) (back p) ∙ held in
    IfOk-weaker c.pixels_at-pixels.result _ _
    (λ v pixels p held.
    ap (λ n. slice_index v.items n) (sym (place p))
    ∙ pixels (there p) (lies p held)
    ∙ c.in-Ok-paint_window.ensures.painted p (c.requires.part p held) (lies p held))
    c.pixels_at-pixels.ensures.pixels
