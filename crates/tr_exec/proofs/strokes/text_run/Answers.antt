use Rattle.std.proofs.Common.{◌≡◌, ◌+◌, ◌-◌, ◌*◌, ◌/◌, length, take, drop, refl, w32, SFits, ap, ◌∙◌, arith, rules}
use Rattle.std.specs.Prelude.{unsigned_abs, slice_index}
use Rattle.std.proofs.lemmas.Int.{ints, to_z-of_z}
use Rattle.tr_kernel.specs.Masks.{painted}
use Rattle.tr_exec.proofs.StrokeLemmas.{columns_fit, bit_of_text}
use Rattle.tr_exec.proofs.strokes.text_run.Goals as goal

pub returns : goal.returns
returns c = λ k lt.
    let fits_h : SFits w32 c.args.at.h = search rules in
    let fits_v : SFits w32 c.args.at.v = search rules in
    let glyphs = c.args.glyphs.now in
    let h : c.unsigned_abs-h.result ≡ unsigned_abs c.args.at.h = rw (to_z-of_z w32 c.args.at.h fits_h) at c.unsigned_abs-h.ensures.value in
    let v : c.unsigned_abs.result ≡ unsigned_abs c.args.at.v = rw (to_z-of_z w32 c.args.at.v fits_v) at c.unsigned_abs.ensures.value in
    let first = unsigned_abs c.args.at.h in
    let row = unsigned_abs c.args.at.v in
    let within = columns_fit c.args.at.v 1 8 c.requires.north (omega (arith, ints, c.requires.south)) in
    let from = 80 * row + first / 8 in
    let bits =
    bit_of_text glyphs.font.now glyphs.text.now glyphs.bits
    (take (80 * row + 80 - from) (drop from glyphs.bits)) first row (length c.args.pixels.now)
    glyphs.rows (omega (arith, within)) c.invariant.ensures.short refl
    (columns_fit c.args.at.h (length c.args.pixels.now) _ c.requires.west c.requires.east) k lt in
    rw (h, v) at (c.cells.ensures.each k lt) ∙ ap (λ b. painted c.args.mask.now b (slice_index c.args.pixels.now k)) bits
