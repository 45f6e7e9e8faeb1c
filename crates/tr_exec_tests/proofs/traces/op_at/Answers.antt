use Rattle.std.proofs.Common.{length}
use Rattle.tr_exec.proofs.TracedLemmas.{near-origin, pixels_part, text_part}
use Rattle.tr_exec_tests.proofs.traces.op_at.Goals as goal

pub earlier-requires-clause-delta : goal.earlier-requires-clause-delta
earlier-requires-clause-delta c = near-origin c.in-Pixels.delta (rw c.in-Pixels.is at c.requires.near).1

pub at-requires : goal.at-requires
at-requires c =
    rw (c.pixmap.ensures, c.earlier.ensures.value)
    (pixels_part c.in-Pixels.clip c.in-Pixels.src.size c.in-Pixels.delta c.args.q (rw c.in-Pixels.is at c.requires.area))

pub cell_bit-requires : goal.cell_bit-requires
cell_bit-requires c =
    rw c.earlier-in-Text.ensures.value
    (text_part c.in-Text.clip (length c.in-Text.text) c.in-Text.at c.args.q (rw c.in-Text.is at c.requires.area))
