use Rattle.std.proofs.Common.{subst, sym, ap, ◌∙◌, arith}
use Rattle.tr_forest.specs.Edits.{IsEdit}
use Rattle.tr_tree.specs.Trees.{Seen}
use Rattle.tr_tree.specs.Ready.{keeps_shapes}
use Rattle.tr_tree.proofs.LayoutLemmas.{laid_out_tinted, laid_out_rescreened, places_edited, seen_edited}
use Rattle.tr_tree.proofs.KeepLemmas.{shapes_kept}
use Rattle.tr_tree.proofs.StayLemmas.{laid_out_lifted, moved_others, moved_placed, offset_child, offset_laid, offset_others, offset_placed}
use Rattle.tr_tree.proofs.trees.Tree.edit.Goals as goal

pub invariant_of-self-in-Tint : goal.invariant_of-self-in-Tint
invariant_of-self-in-Tint c =
    laid_out_tinted c.self.inside.forest c.edit.new.self c.args.edit.now c.in-Tint.node c.in-Tint.tint
    c.self.inside.size c.size_after-self-inside.result c.self.inside.layout
    c.in-Tint.is (subst (λ (t : Seen). IsEdit t.nodes c.args.edit.now) (sym c.self.view_is) c.requires)
    c.in_ok-edit.ensures.ok c.size_after-self-inside.ensures c.self.invariant

pub invariant_of-self-in-Rescreen : goal.invariant_of-self-in-Rescreen
invariant_of-self-in-Rescreen c =
    laid_out_rescreened c.self.inside.forest c.edit.new.self c.args.edit.now c.in-Rescreen.kind
    c.self.inside.size c.size_after-self-inside.result c.self.inside.layout
    c.in-Rescreen.is c.in_ok-edit.ensures.ok c.size_after-self-inside.ensures c.self.invariant

pub place-requires-clause-places : goal.place-requires-clause-places
place-requires-clause-places c =
    places_edited c.self.inside.forest c.edit.new.self c.args.edit.now c.self.inside.layout c.in_ok-edit.ensures.ok c.self.invariant.places

pub place-requires-clause-shapes : goal.place-requires-clause-shapes
place-requires-clause-shapes c =
    shapes_kept c.self.inside.forest c.edit.new.self c.args.edit.now c.self.inside.layout c.invariant.ensures
    (subst (λ (t : Seen). IsEdit t.nodes c.args.edit.now) (sym c.self.view_is) c.requires) c.in_ok-edit.ensures.allowed
    (sym c.keeps_shapes.ensures ∙ c.if-keeps_shapes.true) c.in_ok-edit.ensures.ok c.self.invariant.shapes

pub fill-requires-clause-places : goal.fill-requires-clause-places
fill-requires-clause-places c =
    places_edited c.self.inside.forest c.edit.new.self c.args.edit.now c.self.inside.layout c.in_ok-edit.ensures.ok c.self.invariant.places

pub returns-in-Tint-clause-ok : goal.returns-in-Tint-clause-ok
returns-in-Tint-clause-ok c =
    seen_edited _ c.args.self.now c.edit.new.self c.size_after-self-inside.result c.kind_after-self-inside.result c.args.edit.now
    c.self.view_is c.in_ok-edit.ensures.ok c.size_after-self-inside.ensures c.kind_after-self-inside.ensures

pub returns-in-Rescreen-clause-ok : goal.returns-in-Rescreen-clause-ok
returns-in-Rescreen-clause-ok c =
    seen_edited _ c.args.self.now c.edit.new.self c.size_after-self-inside.result c.kind_after-self-inside.result c.args.edit.now
    c.self.view_is c.in_ok-edit.ensures.ok c.size_after-self-inside.ensures c.kind_after-self-inside.ensures

pub invariant_of-self-in-Lift : goal.invariant_of-self-in-Lift
invariant_of-self-in-Lift c =
    let t = c.self.inside.forest in
    let fits = subst (λ (t : Seen). IsEdit t.nodes c.args.edit.now) (sym c.self.view_is) c.requires in
    laid_out_lifted t c.edit.new.self c.args.edit.now c.in-Lift.child
    c.self.inside.size c.size_after-self-inside.result c.self.inside.layout
    c.in-Lift.is c.invariant.ensures fits c.in_ok-edit.ensures.allowed c.in_ok-edit.ensures.ok c.size_after-self-inside.ensures
    (shapes_kept t c.edit.new.self c.args.edit.now c.self.inside.layout c.invariant.ensures fits c.in_ok-edit.ensures.allowed
    (ap keeps_shapes c.in-Lift.is) c.in_ok-edit.ensures.ok c.self.invariant.shapes)
    c.self.invariant

pub place_moved-requires-clause-shapes : goal.place_moved-requires-clause-shapes
place_moved-requires-clause-shapes c =
    shapes_kept c.self.inside.forest c.edit.new.self c.args.edit.now c.self.inside.layout c.invariant.ensures
    (subst (λ (t : Seen). IsEdit t.nodes c.args.edit.now) (sym c.self.view_is) c.requires) c.in_ok-edit.ensures.allowed
    (ap keeps_shapes c.in-Move.is) c.in_ok-edit.ensures.ok c.self.invariant.shapes

pub place_moved-requires-clause-placed : goal.place_moved-requires-clause-placed
place_moved-requires-clause-placed c =
    moved_placed c.self.inside.forest c.edit.new.self c.args.edit.now c.in-Move.child c.in-Move.at c.in-Move.is c.invariant.ensures
    (subst (λ (t : Seen). IsEdit t.nodes c.args.edit.now) (sym c.self.view_is) c.requires) c.in_ok-edit.ensures.allowed c.in_ok-edit.ensures.ok

pub place_moved-requires-clause-others : goal.place_moved-requires-clause-others
place_moved-requires-clause-others c =
    let t = c.self.inside.forest in
    let fits = subst (λ (t : Seen). IsEdit t.nodes c.args.edit.now) (sym c.self.view_is) c.requires in
    moved_others t c.edit.new.self c.args.edit.now c.in-Move.child c.in-Move.at
    c.self.inside.size c.size_after-self-inside.result c.self.inside.layout
    c.in-Move.is c.invariant.ensures fits c.in_ok-edit.ensures.allowed c.in_ok-edit.ensures.ok c.size_after-self-inside.ensures
    (shapes_kept t c.edit.new.self c.args.edit.now c.self.inside.layout c.invariant.ensures fits c.in_ok-edit.ensures.allowed
    (ap keeps_shapes c.in-Move.is) c.in_ok-edit.ensures.ok c.self.invariant.shapes)
    c.self.invariant

pub invariant_of-self-then-children-lt1 : goal.invariant_of-self-then-children-lt1
invariant_of-self-then-children-lt1 c =
    let t = c.self.inside.forest in
    let fits = subst (λ (t : Seen). IsEdit t.nodes c.args.edit.now) (sym c.self.view_is) c.requires in
    offset_laid t c.edit.new.self c.args.edit.now c.in-Offset.node c.in-Offset.by c.children.result.now
    c.self.inside.size c.size_after-self-inside.result c.self.inside.layout
    c.in-Offset.is c.invariant.ensures fits c.in_ok-edit.ensures.allowed c.in_ok-edit.ensures.ok c.size_after-self-inside.ensures
    c.children.ensures (omega (arith, c.in_default-children.len_below))
    (shapes_kept t c.edit.new.self c.args.edit.now c.self.inside.layout c.invariant.ensures fits c.in_ok-edit.ensures.allowed
    (ap keeps_shapes c.in-Offset.is) c.in_ok-edit.ensures.ok c.self.invariant.shapes)
    c.self.invariant

pub place_moved-requires-in-len1-up-clause-shapes : goal.place_moved-requires-in-len1-up-clause-shapes
place_moved-requires-in-len1-up-clause-shapes c =
    let t = c.self.inside.forest in
    let fits = subst (λ (t : Seen). IsEdit t.nodes c.args.edit.now) (sym c.self.view_is) c.requires in
    shapes_kept t c.edit.new.self c.args.edit.now c.self.inside.layout c.invariant.ensures fits c.in_ok-edit.ensures.allowed
    (ap keeps_shapes c.in-Offset.is) c.in_ok-edit.ensures.ok c.self.invariant.shapes

pub place_moved-requires-in-len1-up-clause-child : goal.place_moved-requires-in-len1-up-clause-child
place_moved-requires-in-len1-up-clause-child c =
    let t = c.self.inside.forest in
    let fits = subst (λ (t : Seen). IsEdit t.nodes c.args.edit.now) (sym c.self.view_is) c.requires in
    offset_child t c.edit.new.self c.args.edit.now c.children.result.now (record { 0 = 0 }) c.in-Offset.node
    c.invariant.ensures fits c.in_ok-edit.ensures.allowed c.in_ok-edit.ensures.ok c.children.ensures (omega (arith, c.in-len1-up.len_at_least))

pub place_moved-requires-in-len1-up-clause-placed : goal.place_moved-requires-in-len1-up-clause-placed
place_moved-requires-in-len1-up-clause-placed c =
    let t = c.self.inside.forest in
    let fits = subst (λ (t : Seen). IsEdit t.nodes c.args.edit.now) (sym c.self.view_is) c.requires in
    offset_placed t c.edit.new.self c.args.edit.now c.in-Offset.node c.in-Offset.by c.children.result.now (record { 0 = 0 })
    c.in-Offset.is c.invariant.ensures fits c.in_ok-edit.ensures.allowed c.in_ok-edit.ensures.ok
    c.children.ensures (omega (arith, c.in-len1-up.len_at_least))

pub place_moved-requires-in-len1-up-clause-others : goal.place_moved-requires-in-len1-up-clause-others
place_moved-requires-in-len1-up-clause-others c =
    let t = c.self.inside.forest in
    let fits = subst (λ (t : Seen). IsEdit t.nodes c.args.edit.now) (sym c.self.view_is) c.requires in
    offset_others t c.edit.new.self c.args.edit.now c.in-Offset.node c.in-Offset.by c.children.result.now (record { 0 = 0 })
    c.self.inside.size c.size_after-self-inside.result c.self.inside.layout
    c.in-Offset.is c.invariant.ensures fits c.in_ok-edit.ensures.allowed c.in_ok-edit.ensures.ok c.size_after-self-inside.ensures
    c.children.ensures (omega (arith, c.in-len1-up.len_at_least))
    (shapes_kept t c.edit.new.self c.args.edit.now c.self.inside.layout c.invariant.ensures fits c.in_ok-edit.ensures.allowed
    (ap keeps_shapes c.in-Offset.is) c.in_ok-edit.ensures.ok c.self.invariant.shapes)
    c.self.invariant
