use Rattle.std.proofs.Common.{ℕ, arith, rules}
use Rattle.std.specs.Prelude.{slice_index}
use Rattle.tr_base.specs.Fonts.{glyph_of}
use Rattle.tr_exec.proofs.GlyphLemmas.{one_glyph}
use Rattle.tr_exec.proofs.strokes.gather.Goals as goal

pub loop-i-preserved : goal.loop-i-preserved
loop-i-preserved c =
    let glyph = λ (k : ℕ). glyph_of c.args.font.now (slice_index c.args.text.now k) in
    let more = one_glyph glyph c.loop-i.glyphs c.glyph_of.result c.loop-i.i c.loop-i.invariant.1 c.glyph_of.ensures.value (search rules)
    (omega (arith, c.requires, c.loop-i-test.true, c.loop-i.invariant.0)) in
    (search rules, rw (c.put_glyph.ensures) more)
