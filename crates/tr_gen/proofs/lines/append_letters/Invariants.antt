use Rattle.std.proofs.Common.{◌≡◌}
use Rattle.tr_gen.specs.Lines.{letters}
use Rattle.tr_gen.specs.Writing.{continued}
use Rattle.tr_gen.proofs.lines.append_letters.Given as goal

-- the letters so far stand behind what was there
abbrev pub invariant-loop-letter : goal.invariant-loop-letter
invariant-loop-letter l = l.script ≡ continued l.fn.script (letters l._letter)
