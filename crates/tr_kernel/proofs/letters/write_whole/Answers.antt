use Rattle.std.proofs.Common.{◌≡◌, ℕ, ◌+◌, ◌-◌, ◌*◌, ◌/◌, sym, ap, ◌∙◌, length, get_or, arith}
use Rattle.tr_kernel.specs.Letters.{inked, pixel_in}
use Rattle.tr_kernel.proofs.DoneLemmas.{many_done}
use Rattle.tr_kernel.proofs.LetterLemmas.{lanes_of_pair, pixel_of_letter}
use Rattle.tr_kernel.proofs.letters.write_whole.Goals as goal

pub loop-i-preserved : goal.loop-i-preserved
loop-i-preserved c =
    let source = c.args.source.now in
    let text = c.args.text.now in
    let i = c.loop-i.i in
    let lanes = c.pair_pixels.result in
    let long = c.pair_pixels.ensures.lanes in
    many_done (λ k. inked c.args.inks (pixel_in source text k)) c.args.row.now c.loop-i.row (16 * i) c.loop-i.invariant (16 * i) lanes (16 * (i + 1))
    (omega arith) (omega arith) (omega arith) (omega arith)
    (λ h lt. lanes_of_pair source text lanes c.args.inks i c.place_of-near.result c.place_of-far.result c.place_of-near.ensures c.place_of-far.ensures
    c.pair_pixels.ensures.near c.pair_pixels.ensures.far h (omega arith))

pub returns-then-text-eq1 : goal.returns-then-text-eq1
returns-then-text-eq1 c k lt =
    let source = c.args.source.now in
    let text = c.args.text.now in
    let last : ℕ = length text - 1 in
    let pairs : c.loop-i.i ≡ length text / 2 = omega (arith, c.loop-i-test.false, c.loop-i.auto.i-end) in
    let done =
    many_done (λ k. inked c.args.inks (pixel_in source text k)) c.args.row.now c.loop-i.row (16 * c.loop-i.i) c.loop-i.invariant
    (8 * last) c.letter_pixels.result (8 * length text)
    (omega (arith, c.letter_pixels.ensures.lanes)) (omega arith) (omega arith) (omega (arith, c.loop-i.auto.row, c.requires.whole))
    (λ h lt. c.letter_pixels.ensures.each h (omega (arith, c.letter_pixels.ensures.lanes))
    ∙ ap (λ p. inked c.args.inks (get_or source (p + h) 0)) c.place_of.ensures
    ∙ ap (inked c.args.inks) (sym (pixel_of_letter source text last h (omega (arith, c.letter_pixels.ensures.lanes))))) in
    done.done k (omega (arith, c.requires.whole))
