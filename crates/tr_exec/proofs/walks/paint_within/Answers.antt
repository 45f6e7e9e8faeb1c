use Rattle.std.proofs.Common.{sym, ◌∙◌, arith}
use Rattle.std.proofs.lemmas.Bool.{true≢false}
use Rattle.tr_base.proofs.RectLemmas.{cast-in_reach, is_full}
use Rattle.tr_region.specs.Points.{holds}
use Rattle.tr_region.specs.Rows.{in_band}
use Rattle.tr_screen.proofs.Repainting.{repaints_same}
use Rattle.tr_exec.specs.Walks.{in_area}
use Rattle.tr_exec.proofs.PaintLemmas.{on_sized, rows_had, rows_paint, band_in_area, band_on, walk_whole}
use Rattle.tr_exec.proofs.walks.paint_within.Goals as goal

pub paint_band-requires-clause-high : goal.paint_band-requires-clause-high
paint_band-requires-clause-high g c =
    rw (c.loop-v.invariant.done.size, ← c.size-high.ensures.value) (omega (arith, c.first_band-band.ensures.to, c.nearest_row-south.ensures.to))

pub paint_band-requires-clause-rows : goal.paint_band-requires-clause-rows
paint_band-requires-clause-rows g c = λ v from to.
    let area = g.B.Brush.area c.args.brush.now in
    let full = is_full c.area-area.result c.is_empty.ensures.invariant (λ e. true≢false (sym (c.is_empty.ensures.value.1 e) ∙ c.if-is_empty.false)) in
    let across = (rw c.area-area.ensures at full).0 in
    let north = rw (cast-in_reach _ c.north.ensures.reach, c.north.ensures.value, c.area-area.ensures) at c.nearest_row-v.ensures in
    let south = rw (cast-in_reach _ c.south.ensures.reach, c.south.ensures.value, c.area-area.ensures) at c.nearest_row-south.ensures in
    rows_had area c.size-high.result.high _ _ across north south v
    (omega (arith, c.loop-v.invariant.rows, c.first_band-band.ensures.from, from))
    (omega (arith, c.first_band-band.ensures.to, to))

pub paint_band-requires-clause-on : goal.paint_band-requires-clause-on
paint_band-requires-clause-on g c =
    let area = g.B.Brush.area c.args.brush.now in
    let region = c.args.visible.now in
    let band = c.first_band-band.result in
    let old = c.args.screen.now in
    on_sized old.size c.loop-v.screen.size (in_area (in_band band.north band.south band.rects.now) area) c.loop-v.invariant.done.size
    (band_on region band.rects.now area c.loop-v.v band.north band.south c.first_band-band.ensures.from c.first_band-band.ensures.points old.size c.requires)

pub loop-v-preserved : goal.loop-v-preserved
loop-v-preserved g c =
    let area = g.B.Brush.area c.args.brush.now in
    let region = c.args.visible.now in
    let band = c.first_band-band.result in
    let same = band_in_area region band.rects.now area c.loop-v.v band.north band.south c.first_band-band.ensures.from c.first_band-band.ensures.points in
    record {
      rows = omega (arith, c.loop-v.invariant.rows, c.first_band-band.ensures.from, c.first_band-band.ensures.order);
      done = rows_paint (in_area (holds region) area) (in_area (in_band band.north band.south band.rects.now) area) _
          c.loop-v.v band.south (g.B.Brush.pixel c.args.brush.now) c.args.screen.now c.loop-v.screen _
          c.loop-v.invariant.rows (omega (arith, c.first_band-band.ensures.from, c.first_band-band.ensures.order))
          c.paint_band.ensures same c.loop-v.invariant.done;
    }

pub returns : goal.returns
returns g c =
    let area = g.B.Brush.area c.args.brush.now in
    let size = c.args.screen.now.size in
    let north = rw (cast-in_reach _ c.north.ensures.reach, c.north.ensures.value, c.area-area.ensures, c.size-high.ensures.value) at c.nearest_row-v.ensures in
    let south =
    rw (cast-in_reach _ c.south.ensures.reach, c.south.ensures.value, c.area-area.ensures, c.size-high.ensures.value) at c.nearest_row-south.ensures in
    repaints_same _ _ _ _ _ c.loop-v.invariant.done
    (λ p on. walk_whole (holds c.args.visible.now) area size _ _ north south c.loop-v.v c.loop-v-test.false p on)
