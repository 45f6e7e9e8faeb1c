use Rattle.std.proofs.Common.{sym, ◌∙◌, arith}
use Rattle.std.proofs.lemmas.Bool.{and_parts}
use Rattle.tr_region.specs.Points.{holds}
use Rattle.tr_region.specs.Rows.{in_band}
use Rattle.tr_screen.specs.Runs.{in_rows}
use Rattle.tr_repair.proofs.WalkLemmas.{band_from}
use Rattle.tr_repair.proofs.MoveLemmas.{moves_fewer, rows_forth}
use Rattle.tr_repair.proofs.moving.move_forth.Goals as goal

pub loop-v-preserved : goal.loop-v-preserved
loop-v-preserved c =
    let region = c.args.within.now in
    let band = c.first_band-band.result in
    let v = c.loop-v.v in
    let same = band_from region band.rects.now v band.north band.south c.first_band-band.ensures.from c.first_band-band.ensures.points in
    let moves =
    moves_fewer c.args.screen.now.size c.args.delta (holds region) (in_band band.north band.south band.rects.now)
    c.requires.moves (λ p t. (and_parts (in_rows v band.south p) (holds region p) (sym (same p) ∙ t)).1) in
    record {
      rows = c.first_band-band.ensures.to;
      done = rows_forth (holds region) (in_band band.north band.south band.rects.now)
          0 v band.south c.args.delta c.args.screen.now c.loop-v.screen _ moves
          c.move_band_forth.ensures (omega arith) (omega (arith, c.first_band-band.ensures.from, c.first_band-band.ensures.order))
          c.requires.way same c.loop-v.invariant.done;
    }
