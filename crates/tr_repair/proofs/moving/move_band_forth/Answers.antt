use Rattle.std.proofs.Common.{◌+◌, arith}
use Rattle.tr_region.specs.Rows.{in_band}
use Rattle.tr_repair.specs.Walks.{in_columns, in_row}
use Rattle.tr_repair.proofs.WalkLemmas.{part_of_row, band_of_row}
use Rattle.tr_repair.proofs.MoveLemmas.{moves_fewer, rows_forth, rows_straight, rows_from_south}
use Rattle.tr_repair.proofs.moving.move_band_forth.Goals as goal

pub move_rows-requires-clause-straight : goal.move_rows-requires-clause-straight
move_rows-requires-clause-straight c =
    let all = rw c.size.ensures.value at (c.are_whole.ensures c.if-are_whole.true) in
    rows_straight c.args.screen.now.size c.args.delta
    c.args.band.now.rects.now c.args.band.now.north c.args.band.now.south
    c.size.ensures.invariant.size.some_wide c.if-band.true all c.requires.moves

pub move_rows-requires-clause-from_south : goal.move_rows-requires-clause-from_south
move_rows-requires-clause-from_south c =
    let all = rw c.size.ensures.value at (c.are_whole.ensures c.if-are_whole.true) in
    rows_from_south c.args.screen.now.size c.args.delta
    c.args.band.now.rects.now c.args.band.now.north c.args.band.now.south
    c.size.ensures.invariant.size.some_wide c.if-band.true all c.requires.moves

pub loop-v-preserved : goal.loop-v-preserved
loop-v-preserved c =
    let rects = c.args.band.now.rects.now in
    let north = c.args.band.now.north in
    let south = c.args.band.now.south in
    let v = c.loop-v.v in
    let moves =
    moves_fewer c.args.screen.now.size c.args.delta (in_band north south rects) (in_row v rects) c.requires.moves
    (λ p t. band_of_row rects north south v p (omega (arith, c.loop-v.auto.v)) c.loop-v-test.true t) in
    rows_forth (in_columns rects) (in_row v rects)
    north v (v + 1) c.args.delta c.args.screen.now c.loop-v.screen _ moves
    c.move_row_forth.ensures (omega arith) (omega arith) c.requires.way (part_of_row rects v) c.loop-v.invariant
