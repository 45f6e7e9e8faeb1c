use Rattle.std.proofs.Common.{◌≡◌, ◌+◌, ◌-◌, ◌≤◌, arith}
use Rattle.tr_region.specs.Rows.{in_band}
use Rattle.tr_repair.specs.Walks.{in_columns, in_row}
use Rattle.tr_repair.proofs.WalkLemmas.{part_of_row, band_of_row}
use Rattle.tr_repair.proofs.MoveLemmas.{moves_fewer, rows_back, rows_straight, rows_from_north}
use Rattle.tr_repair.proofs.moving.move_band_back.Goals as goal

pub move_rows-requires-clause-straight : goal.move_rows-requires-clause-straight
move_rows-requires-clause-straight c =
    let all = rw c.size.ensures.value at (c.are_whole.ensures c.if-are_whole.true) in
    rows_straight c.args.screen.now.size c.args.delta
    c.args.band.now.rects.now c.args.band.now.north c.args.band.now.south
    c.size.ensures.invariant.size.some_wide c.if-band.true all c.requires.moves

pub move_rows-requires-clause-from_north : goal.move_rows-requires-clause-from_north
move_rows-requires-clause-from_north c =
    let all = rw c.size.ensures.value at (c.are_whole.ensures c.if-are_whole.true) in
    rows_from_north c.args.screen.now.size c.args.delta
    c.args.band.now.rects.now c.args.band.now.north c.args.band.now.south
    c.size.ensures.invariant.size.some_wide c.if-band.true all c.requires.moves

pub loop-v-preserved : goal.loop-v-preserved
loop-v-preserved c =
    let rects = c.args.band.now.rects.now in
    let north = c.args.band.now.north in
    let south = c.args.band.now.south in
    let v = c.loop-v.v - 1 in
    let next : c.loop-v.v ≡ v + 1 = omega (arith, c.loop-v-test.true) in
    let to : v + 1 ≤ south = omega (arith, c.loop-v.auto.v, c.requires.order, c.loop-v-test.true) in
    let moves =
    moves_fewer c.args.screen.now.size c.args.delta (in_band north south rects) (in_row v rects) c.requires.moves
    (λ p t. band_of_row rects north south v p (omega (arith, c.loop-v-test.true)) (omega arith) t) in
    record {
      rows = omega (arith, c.loop-v-test.true);
      done = rows_back (in_columns rects) (in_row v rects)
          v (v + 1) south c.args.delta c.args.screen.now c.loop-v.screen _ moves
          c.move_row_back.ensures (omega arith) to c.requires.way (part_of_row rects v) (rw next at c.loop-v.invariant.done);
    }

pub returns : goal.returns
returns c =
    let first : c.loop-v.v ≡ c.args.band.now.north = omega (arith, c.loop-v-test.false, c.loop-v.invariant.rows) in
    rw first at c.loop-v.invariant.done
