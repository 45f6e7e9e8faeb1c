use Rattle.std.proofs.Common.{◌≡◌, length}
use Rattle.tr_exec.proofs.GlyphLemmas.{IsPutTo}
use Rattle.tr_exec.proofs.strokes.put_eight.Given as goal

abbrev pub invariant-loop-v : goal.invariant-loop-v
invariant-loop-v l = (length l.bits ≡ 640) × IsPutTo l.fn.glyphs l.fn.bits l.bits l.at l.v
