use Rattle.std.proofs.Common.{◌≡◌, ◌+◌, ◌-◌, length, refl, arith, rules}
use Rattle.std.proofs.lemmas.Simd.{put_chunk_is}
use Rattle.tr_exec.proofs.strokes.put_glyph.Goals as goal

pub returns : goal.returns
returns c =
    let eight : length c.args.glyph.now ≡ 8 = search rules in
    let part : c.args.at + 8 - c.args.at ≡ 8 = omega arith in
    rw (c.copy_from_slice.ensures.after, put_chunk_is c.args.at c.args.glyphs.now c.args.glyph.now (omega arith), eight, part) refl
