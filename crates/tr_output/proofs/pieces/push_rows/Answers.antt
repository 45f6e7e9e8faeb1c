use Rattle.std.proofs.Common.{◌≡◌, ◌<◌, length, ap, arith}
use Rattle.tr_output.proofs.PieceLemmas.{room_next, rows_more}
use Rattle.tr_output.proofs.pieces.push_rows.Goals as goal

pub loop-v-preserved : goal.loop-v-preserved
loop-v-preserved c =
    let high : c.size-v-end.result.high ≡ c.args.screen.now.size.high = ap (λ size. size.high) c.size-v-end.ensures.value in
    let less : c.loop-v.v < c.args.screen.now.size.high = omega arith in
    let within : c.loop-v.v < length c.args.screen.now.rows = omega (arith, c.row.ensures.invariant.high) in
    let next = room_next c.args.screen.now.size.high c.loop-v.v c.args.screen.now.size.wide less in
    record {
      text = rows_more _ _ _ c.args.screen.now.rows c.loop-v.v c.row.result.now within c.row.ensures.value c.loop-v.invariant.text c.push_row.ensures.text;
      within = c.push_row.ensures.within;
      pieces = omega (arith, c.push_row.ensures.count, c.push_row.ensures.room, c.loop-v.invariant.pieces);
      pixels = omega (arith, next, c.row.ensures.wide, c.push_row.ensures.pixels, c.loop-v.invariant.pixels);
    }
