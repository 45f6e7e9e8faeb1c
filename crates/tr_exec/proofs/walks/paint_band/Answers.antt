use Rattle.std.proofs.Common.{refl, subst}
use Rattle.tr_base.proofs.RectLemmas.{cast-in_reach}
use Rattle.tr_exec.specs.Walks.{IsRowOf}
use Rattle.tr_exec.proofs.PaintLemmas.{one_rect}
use Rattle.tr_exec.proofs.walks.paint_band.Goals as goal

pub paint_single-requires-clause-row : goal.paint_single-requires-clause-row
paint_single-requires-clause-row g c =
    let west = cast-in_reach _ c.west.ensures.reach in
    let east = cast-in_reach _ c.east.ensures.reach in
    subst (IsRowOf (g.B.Brush.area c.args.brush.now) c.args.band.now.rects.now)
    (one_rect c.between-row.result.now 0 c.index-row-0.result c.if-row-eq1.true refl c.index-row-0.is)
    (record {
      columns = rw (west, c.west.ensures.value, east, c.east.ensures.value, c.area-area.ensures) at c.between-row.ensures.columns;
      apart = c.between-row.ensures.apart;
      meet = rw (west, c.west.ensures.value, east, c.east.ensures.value, c.area-area.ensures) at c.between-row.ensures.meet;
    })

pub paint_rows-requires-clause-row : goal.paint_rows-requires-clause-row
paint_rows-requires-clause-row g c =
    let west = cast-in_reach _ c.west.ensures.reach in
    let east = cast-in_reach _ c.east.ensures.reach in
    record {
      columns = rw (west, c.west.ensures.value, east, c.east.ensures.value, c.area-area.ensures) at c.between-row.ensures.columns;
      apart = c.between-row.ensures.apart;
      meet = rw (west, c.west.ensures.value, east, c.east.ensures.value, c.area-area.ensures) at c.between-row.ensures.meet;
    }
