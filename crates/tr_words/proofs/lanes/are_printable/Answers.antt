use Rattle.std.proofs.Common.{◌-◌, ◌*◌, length, sym, ◌∙◌, arith}
use Rattle.tr_words.proofs.LaneLemmas.{some_unprintable, printable_further, printable_last}
use Rattle.tr_words.proofs.lanes.are_printable.Goals as goal

pub returns-then-has_unprintable : goal.returns-then-has_unprintable
returns-then-has_unprintable c =
    sym (some_unprintable c.args.line.now (c.loop-block.block * 16) (omega arith) (sym c.has_unprintable.ensures ∙ c.if-has_unprintable.true))

pub loop-block-preserved : goal.loop-block-preserved
loop-block-preserved c =
    let at = c.loop-block.block * 16 in
    printable_further c.args.line.now at at _ (omega arith) (sym c.has_unprintable.ensures ∙ c.if-has_unprintable.false) (omega arith) (omega arith)
    c.loop-block.invariant

pub returns : goal.returns
returns c =
    printable_last c.args.line.now (length c.args.line.now - 16) (c.loop-block.block * 16) c.has_unprintable-2.result (omega arith) (omega arith)
    c.loop-block.invariant c.has_unprintable-2.ensures
