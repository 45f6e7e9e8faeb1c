use Rattle.std.proofs.Common.{rules}
use Rattle.tr_exec.proofs.GlyphLemmas.{eight_more}
use Rattle.tr_exec.proofs.strokes.glyph_rows.Goals as goal

pub loop-i-preserved : goal.loop-i-preserved
loop-i-preserved c = (
  search rules,
  eight_more c.gather.new.glyphs c.loop-i.bits c.put_eight.new.bits c.loop-i.i c.loop-i.invariant.1 c.put_eight.ensures.put c.put_eight.ensures.before,
)
