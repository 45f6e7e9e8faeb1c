use Rattle.std.proofs.Common.{ℕ, subst, ◌∙◌, rules, arith}
use Rattle.tr_base.specs.declared.NodeId.{NodeId}
use Rattle.tr_tree.proofs.FillLemmas.{AreFilled, filled_init, filled_top, filled_below, all_filled, hangs_there}
use Rattle.tr_tree.proofs.wishes.fill_shapes.Goals as goal
use Rattle.tr_tree.proofs.wishes.fill_shapes.Goals.{then-is_none, else-is_none}

pub loop-k-init : goal.loop-k-init
loop-k-init c = record {
  room = search rules;
  count = search rules;
  filled = filled_init c.args.forest.now c.args.shapes.now.items;
}

pub loop-k-preserved : goal.loop-k-preserved
loop-k-preserved c =
    let n : NodeId = record { 0 = c.loop-k.k } in
    elim c.if-is_none.branch [
      | then-is_none w ↦ rw (w.room-is, w.shapes-is) (record {
        room = w.fill_below.ensures.room ∙ c.loop-k.invariant.room;
        count = w.fill_below.ensures.count ∙ c.loop-k.invariant.count;
        filled = filled_top c.args.forest.now n c.loop-k.shapes.items w.fill_below.new.shapes.items c.loop-k.invariant.filled w.fill_below.ensures.fills;
      })
      | else-is_none w ↦ rw (w.room-is, w.shapes-is) (record {
        room = c.loop-k.invariant.room;
        count = c.loop-k.invariant.count;
        filled = filled_below c.args.forest.now n c.loop-k.shapes.items c.loop-k.invariant.filled
            (λ e. hangs_there c.parent.result c.is_none.result c.is_none.ensures w.if-is_none.false (c.parent.ensures ∙ e));
      })
    ]

pub returns-clause-shapes : goal.returns-clause-shapes
returns-clause-shapes c =
    all_filled c.args.forest.now c.count-count.ensures.invariant c.loop-k.shapes.items
    (omega (arith, c.loop-k.invariant.count, c.requires.count))
    (subst (λ (k : ℕ). AreFilled c.args.forest.now k c.loop-k.shapes.items) (omega (arith, c.count-count.ensures.count)) c.loop-k.invariant.filled)
