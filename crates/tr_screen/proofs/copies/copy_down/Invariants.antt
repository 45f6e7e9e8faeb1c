use Rattle.std.proofs.Common.{◌*◌}
use Rattle.tr_screen.specs.Copies.{IsCopied}
use Rattle.tr_screen.proofs.copies.copy_down.Given as goal

-- i pieces are copied
abbrev pub invariant-loop-i : goal.invariant-loop-i
invariant-loop-i l = IsCopied l.fn.pixels l.pixels l.from l.to (l.i * l.piece)
