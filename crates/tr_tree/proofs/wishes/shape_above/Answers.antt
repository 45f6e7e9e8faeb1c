use Rattle.std.proofs.Common.{◌≡◌, List, length, take, map, sym, ap, subst, ◌∙◌, arith}
use Rattle.std.proofs.lemmas.List.{length-map}
use Rattle.tr_base.specs.declared.Shapes.{Shapes}
use Rattle.tr_forest.specs.Nodes.{IsNodeKind, node}
use Rattle.tr_forest.specs.declared.NodeKind.{NodeKind}
use Rattle.tr_tree.specs.Wishes.{shape_of}
use Rattle.tr_tree.specs.Tables.{shape_in}
use Rattle.tr_tree.proofs.KinLemmas.{few_children, children_within}
use Rattle.tr_tree.proofs.FillLemmas.{shape_above_is}
use Rattle.tr_tree.proofs.wishes.shape_above.Goals as goal

pub gather-requires-clause-room : goal.gather-requires-clause-room
gather-requires-clause-room c =
    omega (arith, few_children c.args.forest.now c.requires.forest c.args.n c.requires.node, ap length c.children-children.ensures)

pub gather-requires-clause-within : goal.gather-requires-clause-within
gather-requires-clause-within c =
    rw (c.children-children.ensures, c.requires.count) (children_within c.args.forest.now c.requires.forest c.args.n)

pub shape_of-requires-clause-count : goal.shape_of-requires-clause-count
shape_of-requires-clause-count c =
    rw (c.deref.ensures.value, c.gather.ensures.shapes, length-map)
    (omega (arith, few_children c.args.forest.now c.requires.forest c.args.n c.requires.node, ap length c.children-children.ensures, c.requires.forest.count))

pub returns-clause-shapes : goal.returns-clause-shapes
returns-clause-shapes c =
    let gathered : take (length c.children-children.result.now) c.deref.result.now
    ≡ map (shape_in c.args.table.now) (node c.args.forest.now c.args.n).children =
    ap (take (length c.children-children.result.now)) c.deref.ensures.value
    ∙ c.gather.ensures.shapes
    ∙ ap (map (shape_in c.args.table.now)) c.children-children.ensures in
    c.shape_of.ensures ∙ ap (λ (k : NodeKind). shape_of k (take (length c.children-children.result.now) c.deref.result.now)) c.kind_of.ensures
    ∙ shape_above_is c.args.forest.now c.requires.forest c.args.n c.args.table.now
    (take (length c.children-children.result.now) c.deref.result.now) c.requires.children gathered

pub shape_of-requires-clause-kind : goal.shape_of-requires-clause-kind
shape_of-requires-clause-kind c = subst IsNodeKind (sym c.kind_of.ensures) (c.requires.forest.kinds c.args.n)

pub slice_bounds-shape_of-end : goal.slice_bounds-shape_of-end
slice_bounds-shape_of-end c =
    let cs = c.children-children.result.now in
    sym (ap (λ (l : List Shapes). length (take (length cs) l)) c.deref.ensures.value ∙ ap length c.gather.ensures.shapes
    ∙ length-map cs (shape_in c.args.table.now))

pub returns-clause-room : goal.returns-clause-room
returns-clause-room c = c.gather.ensures.count
