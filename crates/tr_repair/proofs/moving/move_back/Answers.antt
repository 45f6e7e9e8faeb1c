use Rattle.std.proofs.Common.{sym, ◌∙◌, arith}
use Rattle.std.proofs.lemmas.Bool.{and_parts}
use Rattle.tr_region.specs.Points.{holds}
use Rattle.tr_region.specs.Rows.{in_band}
use Rattle.tr_screen.specs.Runs.{in_rows}
use Rattle.tr_repair.proofs.WalkLemmas.{band_to}
use Rattle.tr_repair.proofs.MoveLemmas.{moves_fewer, rows_back}
use Rattle.tr_repair.proofs.moving.move_back.Goals as goal

pub loop-v-preserved : goal.loop-v-preserved
loop-v-preserved c =
    let region = c.args.within.now in
    let band = c.last_band-band.result in
    let high = c.args.screen.now.size.high in
    let v = c.loop-v.v in
    let same = band_to region band.rects.now band.north band.south v c.last_band-band.ensures.to c.last_band-band.ensures.points in
    let moves =
    moves_fewer c.args.screen.now.size c.args.delta (holds region) (in_band band.north band.south band.rects.now)
    c.requires.moves (λ p t. (and_parts (in_rows band.north v p) (holds region p) (sym (same p) ∙ t)).1) in
    record {
      rows = omega (arith, c.last_band-band.ensures.order, c.last_band-band.ensures.to, c.loop-v.invariant.rows);
      done = rows_back (holds region) (in_band band.north band.south band.rects.now)
          band.north v high c.args.delta c.args.screen.now c.loop-v.screen _ moves
          c.move_band_back.ensures (omega (arith, c.last_band-band.ensures.order, c.last_band-band.ensures.to))
          c.loop-v.invariant.rows c.requires.way same c.loop-v.invariant.done;
    }
