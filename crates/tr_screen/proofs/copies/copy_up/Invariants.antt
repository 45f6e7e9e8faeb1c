use Rattle.std.proofs.Common.{◌+◌, ◌*◌, ◌-◌, ◌/◌}
use Rattle.tr_screen.specs.Copies.{IsCopied}
use Rattle.tr_screen.proofs.copies.copy_up.Given as goal

-- all pieces from i on are copied
abbrev pub invariant-loop-i : goal.invariant-loop-i
invariant-loop-i l = IsCopied l.fn.pixels l.pixels (l.from + (l.rest + l.i * l.piece)) (l.to + (l.rest + l.i * l.piece)) ((l.count / l.piece - l.i) * l.piece)
