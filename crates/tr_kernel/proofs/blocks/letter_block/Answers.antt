use Rattle.std.proofs.Common.{◌≡◌, ◌*◌, ◌+◌, ◌-◌, ◌/◌, ℕ, List, cond, length, get_or, bit_xor, [], ◌∷◌, ap, ◌∙◌, arith}
use Rattle.tr_base.specs.Fonts.{pixel_of_bit}
use Rattle.tr_kernel.specs.Letters.{bit_in_letters, inked}
use Rattle.tr_kernel.proofs.LetterLemmas.{two_colours}
use Rattle.tr_kernel.proofs.BlockLemmas.{no_columns, columns_written, pair_bits, single_bits, printable_pair, printable_single}
use Rattle.tr_kernel.proofs.blocks.letter_block.Goals as goal

pub loop-i-init : goal.loop-i-init
loop-i-init c = no_columns _ _ _ _

pub write_pair-requires-clause-printable : goal.write_pair-requires-clause-printable
write_pair-requires-clause-printable c =
    let text = c.bytes-text.result.now in
    let i = c.loop-i.i in
    printable_pair text (2 * i) (2 * i + 1) (rw (← c.bytes-text.ensures.value) at c.bytes-text.ensures.invariant.printable)
    (omega (arith, c.loop-i-test.true)) (omega (arith, c.loop-i-test.true))

pub write_single-requires-clause-printable : goal.write_single-requires-clause-printable
write_single-requires-clause-printable c =
    let text = c.bytes-text.result.now in
    printable_single text (length text - 1) (rw (← c.bytes-text.ensures.value) at c.bytes-text.ensures.invariant.printable)
    (omega (arith, c.if-text-eq1.true))

pub loop-i-preserved : goal.loop-i-preserved
loop-i-preserved c =
    let a = c.args in
    let l = a.lettering.now in
    let text = c.bytes-text.result.now in
    let font = l.font.now in
    let i = c.loop-i.i in
    let long = ap (λ (t : List ℕ). length t) c.bytes-text.ensures.value in
    let pair : List ℕ = get_or text (2 * i) 0 ∷ get_or text (2 * i + 1) 0 ∷ [] in
    columns_written (λ v k. cond (bit_in_letters font text v k) l.one l.zero)
    (λ v k. inked (record { zero = l.zero; change = bit_xor l.one l.zero }) (pixel_of_bit (bit_in_letters font pair v k)))
    a.block (16 * i) 16 (16 * (i + 1)) a.pixels.now c.loop-i.pixels _ (omega arith) (omega (arith, c.loop-i-test.true, c.requires.apart, long))
    c.loop-i.invariant c.write_pair.ensures
    (λ v h lv lh. two_colours (bit_in_letters font pair v h) l.one l.zero (omega (arith, c.fits-lettering)) (omega (arith, c.fits-lettering))
    ∙ ap (λ b. cond b l.one l.zero) (pair_bits font text i v h lh))

pub returns-then-text-eq1 : goal.returns-then-text-eq1
returns-then-text-eq1 c =
    let a = c.args in
    let l = a.lettering.now in
    let text = c.bytes-text.result.now in
    let font = l.font.now in
    let last : ℕ = length text - 1 in
    let letter : List ℕ = get_or text last 0 ∷ [] in
    let long = ap (λ (t : List ℕ). length t) c.bytes-text.ensures.value in
    let pairs : c.loop-i.i ≡ length text / 2 = omega (arith, c.loop-i-test.false, c.loop-i.auto.i-end) in
    let before : 16 * c.loop-i.i ≡ 8 * last = omega (arith, c.if-text-eq1.true) in
    rw (← c.bytes-text.ensures.value)
    (columns_written (λ v k. cond (bit_in_letters font text v k) l.one l.zero)
    (λ v k. inked (record { zero = l.zero; change = bit_xor l.one l.zero }) (pixel_of_bit (bit_in_letters font letter v k)))
    a.block (8 * last) 8 (8 * length text) a.pixels.now c.loop-i.pixels _ (omega (arith, c.if-text-eq1.true)) (omega (arith, c.requires.apart, long))
    (rw before at c.loop-i.invariant) c.write_single.ensures
    (λ v h lv lh. two_colours (bit_in_letters font letter v h) l.one l.zero (omega (arith, c.fits-lettering)) (omega (arith, c.fits-lettering))
    ∙ ap (λ b. cond b l.one l.zero) (single_bits font text last v h lh)))

pub returns-else-text-eq1 : goal.returns-else-text-eq1
returns-else-text-eq1 c =
    let text = c.bytes-text.result.now in
    let all : 16 * c.loop-i.i ≡ 8 * length text = omega (arith, c.loop-i-test.false, c.loop-i.auto.i-end, c.if-text-eq1.false) in
    rw (← c.bytes-text.ensures.value) (rw all at c.loop-i.invariant)
