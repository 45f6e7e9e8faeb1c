use Rattle.std.proofs.Common.{◌+◌, ◌-◌, ◌*◌, length, arith}
use Rattle.memchr.specs.Find.{Passes, is_byte}
use Rattle.tr_words.proofs.LaneLemmas.{nowhere_further, first_further, first_of_last}
use Rattle.tr_words.proofs.lanes.first_space.Goals as goal

pub returns-in-Some : goal.returns-in-Some
returns-in-Some c =
    let at = c.loop-block.block * 16 in (
      first_further (Passes (is_byte 32) c.args.text.now) at at (at + 16) (length c.args.text.now) c.in-Some.at (omega arith) (omega arith)
          c.loop-block.invariant c.in-Some.ensures.0,
      c.in-Some.ensures.1,
    )

pub loop-block-preserved : goal.loop-block-preserved
loop-block-preserved c =
    let at = c.loop-block.block * 16 in
    nowhere_further (Passes (is_byte 32) c.args.text.now) at at (at + 16) _ (omega arith) c.loop-block.invariant c.in_default.ensures (omega arith)

pub returns : goal.returns
returns c =
    let at = length c.args.text.now - 16 in
    first_of_last (Passes (is_byte 32) c.args.text.now) at (c.loop-block.block * 16) (at + 16) (length c.args.text.now) c.space_from-2.result
    (omega arith) (omega arith) c.loop-block.invariant c.space_from-2.ensures
