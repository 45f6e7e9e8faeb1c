use Rattle.std.proofs.Common.{◌≡◌, length, cond, w32, SFits, ap, ◌∙◌, rules}
use Rattle.std.specs.Prelude.{unsigned_abs}
use Rattle.std.proofs.lemmas.Int.{to_z-of_z}
use Rattle.tr_exec.proofs.StrokeLemmas.{columns_fit, bit_of_letters}
use Rattle.tr_exec.proofs.strokes.letters_run.Goals as goal

pub returns : goal.returns
returns c = λ k lt.
    let fits_h : SFits w32 c.args.at.h = search rules in
    let fits_v : SFits w32 c.args.at.v = search rules in
    let lettering = c.args.lettering.now in
    let h : c.unsigned_abs-h.result ≡ unsigned_abs c.args.at.h = rw (to_z-of_z w32 c.args.at.h fits_h) at c.unsigned_abs-h.ensures.value in
    let v : c.unsigned_abs.result ≡ unsigned_abs c.args.at.v = rw (to_z-of_z w32 c.args.at.v fits_v) at c.unsigned_abs.ensures.value in
    let fits = columns_fit c.args.at.h (length c.args.pixels.now) _ c.requires.west c.requires.east in
    let bits =
    bit_of_letters lettering.font.now lettering.text.now c.letters_from.result.now (unsigned_abs c.args.at.h) (unsigned_abs c.args.at.v)
    (length c.args.pixels.now) (rw h at c.letters_from.ensures.letters) fits k lt in
    rw (h, v) at (c.letter_row.ensures k lt) ∙ ap (λ b. cond b lettering.one lettering.zero) bits
