use Rattle.std.proofs.Common.{◌+◌, ◌∙◌, bit_xor, refl, arith}
use Rattle.tr_kernel.proofs.LetterLemmas.{pixel_is}
use Rattle.tr_kernel.proofs.letters.letter_row.Goals as goal

pub returns : goal.returns
returns c k lt =
    let l = c.args.letters.now in
    c.write_letters.ensures k lt
    ∙ pixel_is l.font.now c.row.result.now l.text.now l.v (record { zero = c.args.zero; change = bit_xor c.args.one c.args.zero }) c.args.one
    (k + l.phase) c.requires.printable c.row.ensures.each refl c.ranges.one.fits c.ranges.zero.fits (omega (arith, c.requires.enough))
