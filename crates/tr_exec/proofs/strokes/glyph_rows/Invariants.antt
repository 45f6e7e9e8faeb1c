use Rattle.std.proofs.Common.{◌≡◌, ◌*◌, length}
use Rattle.tr_exec.proofs.GlyphLemmas.{AreRowsTo}
use Rattle.tr_exec.proofs.strokes.glyph_rows.Given as goal

abbrev pub invariant-loop-i : goal.invariant-loop-i
invariant-loop-i l = (length l.bits ≡ 640) × AreRowsTo l.glyphs l.bits (8 * l.i)
