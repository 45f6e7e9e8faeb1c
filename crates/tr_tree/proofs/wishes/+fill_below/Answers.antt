use Rattle.std.proofs.Common.{◌≡◌, ◌+◌, ◌<◌, ◌≤◌, length, get_or, sym, subst, ap, ◌∙◌, true, List, rules, arith}
use Rattle.std.proofs.Math.ListN.{length-set}
use Rattle.tr_base.specs.declared.NodeId.{NodeId}
use Rattle.tr_base.specs.declared.Shapes.{Shapes}
use Rattle.tr_forest.specs.Nodes.{IsNode, node}
use Rattle.tr_forest.specs.Families.{depth, is_among}
use Rattle.tr_forest.proofs.FamilyLemmas.{among_at, child_is_node, depth_child}
use Rattle.tr_tree.specs.Filling.{HasChildren}
use Rattle.tr_tree.proofs.FillLemmas.{filling_init, filling_next, filling_children, filling_last}
use Rattle.tr_tree.proofs.wishes.+fill_below.Goals as goal

pub fill_below-requires : goal.fill_below-requires
fill_below-requires t c =
    let d : NodeId = record { 0 = 0 } in
    let cs = c.children-c-items.result.now in
    let lt : c.loop-c.c-index < length cs = omega arith in
    let among : is_among (get_or cs c.loop-c.c-index d) (node c.args.forest.now c.args.n).children ≡ true =
    sym (ap (is_among (get_or cs c.loop-c.c-index d)) c.children-c-items.ensures) ∙ among_at cs c.loop-c.c-index d lt in
    let inside : IsNode c.args.forest.now (get_or cs c.loop-c.c-index d) =
    child_is_node c.args.forest.now c.args.n (get_or cs c.loop-c.c-index d) c.requires.forest among in
    let deep : depth c.args.forest.now (get_or cs c.loop-c.c-index d) ≡ depth c.args.forest.now c.args.n + 1 =
    depth_child c.args.forest.now c.args.n (get_or cs c.loop-c.c-index d) c.requires.forest among in
    let most : depth c.args.forest.now (get_or cs c.loop-c.c-index d) ≤ 16 = c.requires.forest.depths (get_or cs c.loop-c.c-index d) in (
      omega (arith, c.decreases),
      (
        c.requires.forest,
        (
          inside,
          (
            c.loop-c.invariant.room ∙ c.requires.room,
            c.loop-c.invariant.count ∙ c.requires.count,
          ),
        ),
      ),
    )

pub loop-c-init : goal.loop-c-init
loop-c-init t c = record {
  room = search rules;
  count = search rules;
  filling = filling_init c.args.forest.now c.args.n c.children-c-items.result.now c.args.shapes.now.items c.children-c-items.ensures;
}

pub loop-c-preserved : goal.loop-c-preserved
loop-c-preserved t c = record {
  room = c.fill_below.ensures.room ∙ c.loop-c.invariant.room;
  count = c.fill_below.ensures.count ∙ c.loop-c.invariant.count;
  filling = filling_next c.args.forest.now c.args.n c.children-c-items.result.now c.loop-c.c-index (record { 0 = 0 }) c.args.shapes.now.items
      c.loop-c.shapes.items c.fill_below.new.shapes.items (omega arith) c.loop-c.invariant.filling c.fill_below.ensures.fills;
}

pub shape_above-requires-clause-children : goal.shape_above-requires-clause-children
shape_above-requires-clause-children t c =
    subst (λ (xs : List Shapes). HasChildren c.args.forest.now c.args.n xs) (sym c.deref.ensures.value)
    (filling_children c.args.forest.now c.args.n c.children-c-items.result.now c.loop-c.c-index
    c.args.shapes.now.items c.loop-c.shapes.items (omega arith) c.loop-c.invariant.filling)

pub returns-clause-fills : goal.returns-clause-fills
returns-clause-fills t c =
    rw c.from.ensures
    (filling_last c.args.forest.now c.requires.forest c.args.n c.children-c-items.result.now c.loop-c.c-index
    c.args.shapes.now.items c.loop-c.shapes.items c.shape_above.result
    (omega arith) c.loop-c.invariant.filling
    (omega (arith, c.requires.node.within, c.loop-c.invariant.count, c.requires.count)) c.shape_above.ensures.shapes)

pub shape_above-requires-clause-room : goal.shape_above-requires-clause-room
shape_above-requires-clause-room t c = c.loop-c.invariant.room ∙ c.requires.room

pub shape_above-requires-clause-count : goal.shape_above-requires-clause-count
shape_above-requires-clause-count t c = ap length c.deref.ensures.value ∙ c.loop-c.invariant.count ∙ c.requires.count

pub returns-clause-room : goal.returns-clause-room
returns-clause-room t c = c.shape_above.ensures.room ∙ c.loop-c.invariant.room

pub returns-clause-count : goal.returns-clause-count
returns-clause-count t c = length-set c.loop-c.shapes.items c.from.result c.shape_above.result ∙ c.loop-c.invariant.count
