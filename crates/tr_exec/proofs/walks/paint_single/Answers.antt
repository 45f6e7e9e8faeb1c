use Rattle.tr_region.specs.Rows.{in_band}
use Rattle.tr_screen.specs.Runs.{in_rows}
use Rattle.tr_exec.specs.Walks.{in_area}
use Rattle.tr_exec.proofs.PaintLemmas.{rows_filled, whole_rows}
use Rattle.tr_exec.proofs.walks.paint_single.Goals as goal

pub returns-in-Some : goal.returns-in-Some
returns-in-Some g c =
    let area = g.B.Brush.area c.args.brush.now in
    let n = c.args.band.now.north in
    let s = c.args.band.now.south in
    let rects = c.args.band.now.rects.now in
    let wide = rw (c.in-Some.is, c.size-wide.ensures.value) at c.filling_of_rows.ensures in
    rows_filled (in_area (in_band n s rects) area) (in_rows n s) c.in-Some.pixel (g.B.Brush.pixel c.args.brush.now) c.args.screen.now c.fill_rows.new.self
    c.fill_rows.ensures (whole_rows c.args.screen.now.size rects area c.args.rect n s wide.area wide.rect c.requires.row.columns c.requires.rows) wide.pixel
