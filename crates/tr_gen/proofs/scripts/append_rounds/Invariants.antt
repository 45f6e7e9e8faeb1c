use Rattle.std.proofs.Common.{◌≡◌}
use Rattle.tr_gen.specs.Scripts.{rounds_lines}
use Rattle.tr_gen.specs.Writing.{continued, drawn_text}
use Rattle.tr_gen.proofs.scripts.append_rounds.Given as goal

-- the rounds so far stand behind what was there
abbrev pub invariant-loop-before : goal.invariant-loop-before
invariant-loop-before l = l.script ≡ continued l.fn.script (drawn_text (rounds_lines l.before))
