use Rattle.tr_base.proofs.FontLemmas.{IsPutTo}
use Rattle.tr_base.proofs.fonts.put_glyph.Given as goal

abbrev pub invariant-loop-v : goal.invariant-loop-v
invariant-loop-v l = IsPutTo l.glyph l.fn.pixels l.pixels l.place l.v
