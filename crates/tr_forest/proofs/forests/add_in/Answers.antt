use Rattle.std.proofs.Common.{◌≡◌, sym, ap, ◌∙◌, subst, List, ◌++◌, ◌∷◌, []}
use Rattle.tr_base.specs.declared.NodeId.{NodeId}
use Rattle.tr_forest.specs.Nodes.{Nodes}
use Rattle.tr_forest.specs.Tables.{IsLeafTable}
use Rattle.tr_forest.proofs.Adding.{CanAdd, added, kept_leaf, kept_other}
use Rattle.tr_forest.proofs.forests.add_in.Goals as goal

pub returns-in_ok-push-clause-kept : goal.returns-in_ok-push-clause-kept
returns-in_ok-push-clause-kept c =
    let can : CanAdd c.args.family.now c.args.kind =
    record { room = c.requires.room; range = c.requires.kind; shown = c.requires.shown; leaf = c.requires.leaf } in
    let n : NodeId = record { 0 = c.count.result } in
    let table : c.push.new.self.items ≡ c.args.leaves.now.items ++ n ∷ [] = c.in_ok-push.ensures.items
    ∙ ap (λ (ns : List NodeId). ns ++ n ∷ []) c.in_ok-reserve.ensures.items in
    subst (λ (t : Nodes). IsLeafTable t c.push.new.self.items) (sym c.in_ok-add.ensures.ok)
    (subst (λ (ns : List NodeId). IsLeafTable (added c.args.family.now c.args.kind c.args.tint) ns) (sym table)
    (kept_leaf c.args.family.now c.args.leaves.now.items c.args.kind c.args.tint n c.requires.kept can (sym c.if-is_leaf.ensures) c.count.ensures))

pub returns-else-is_leaf-clause-kept : goal.returns-else-is_leaf-clause-kept
returns-else-is_leaf-clause-kept c =
    let can : CanAdd c.args.family.now c.args.kind =
    record { room = c.requires.room; range = c.requires.kind; shown = c.requires.shown; leaf = c.requires.leaf } in
    subst (λ (t : Nodes). IsLeafTable t c.reserve.new.self.items) (sym c.in_ok-add.ensures.ok)
    (subst (λ (ns : List NodeId). IsLeafTable (added c.args.family.now c.args.kind c.args.tint) ns) (sym c.in_ok-reserve.ensures.items)
    (kept_other c.args.family.now c.args.leaves.now.items c.args.kind c.args.tint c.requires.kept can (sym c.if-is_leaf.ensures)))
