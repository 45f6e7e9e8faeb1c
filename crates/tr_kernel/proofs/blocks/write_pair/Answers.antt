use Rattle.std.proofs.Common.{◌≡◌, ◌*◌, ◌≤◌, length, arith, rules}
use Rattle.std.proofs.Math.Nat.{mul-le-mul_right}
use Rattle.tr_base.specs.Fonts.{pixel_of_bit}
use Rattle.tr_kernel.specs.Letters.{bit_in_letters, inked}
use Rattle.tr_kernel.proofs.BlockLemmas.{no_rows, row_written, pair_lanes, lanes_of_bits}
use Rattle.tr_kernel.proofs.blocks.write_pair.Goals as goal

pub loop-v-init : goal.loop-v-init
loop-v-init c = no_rows _ _ _ _

pub loop-v-preserved : goal.loop-v-preserved
loop-v-preserved c =
    let a = c.args in
    let v = c.loop-v.v in
    let source = c.row.result.now in
    let lanes = c.pair_pixels.result in
    let two : length a.pair ≡ 2 = search rules in
    let room : v * a.block.stride ≤ 7 * a.block.stride = mul-le-mul_right a.block.stride (omega (arith, c.loop-v-test.true)) in
    row_written (λ v k. inked a.inks (pixel_of_bit (bit_in_letters a.font.now a.pair v k))) a.block 16 v a.pixels.now c.loop-v.pixels lanes
    c.loop-v.invariant c.requires.apart c.pair_pixels.ensures.lanes (omega (arith, room, c.requires.room, c.loop-v.auto.pixels))
    (λ h lt. lanes_of_bits a.font.now source a.pair lanes v a.inks c.requires.printable c.row.ensures.each h (omega (arith, two, lt))
    (pair_lanes source a.pair lanes a.inks c.place_of-west.result c.place_of-east.result c.place_of-west.ensures c.place_of-east.ensures
    c.pair_pixels.ensures.near c.pair_pixels.ensures.far h lt))
