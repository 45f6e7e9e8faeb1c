use Rattle.std.proofs.Common.{◌≡◌, length}
use Rattle.std.specs.Prelude.{slice_index}
use Rattle.tr_base.specs.Fonts.{glyph_of}
use Rattle.tr_exec.proofs.GlyphLemmas.{AreGlyphsTo}
use Rattle.tr_exec.proofs.strokes.gather.Given as goal

abbrev pub invariant-loop-i : goal.invariant-loop-i
invariant-loop-i l = (length l.glyphs ≡ 640) × AreGlyphsTo (λ k. glyph_of l.font (slice_index l.text k)) l.glyphs l.i
