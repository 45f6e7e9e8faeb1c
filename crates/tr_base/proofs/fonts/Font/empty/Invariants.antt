use Rattle.std.proofs.Common.{◌≡◌, replicate}
use Rattle.tr_base.specs.Fonts.{box_glyph}
use Rattle.tr_base.proofs.fonts.Font.empty.Given as goal

abbrev pub invariant-loop-done : goal.invariant-loop-done
invariant-loop-done l = l.glyphs.items ≡ replicate l.done box_glyph
