use Rattle.std.proofs.Common.{ap, ◌∙◌}
use Rattle.tr_base.specs.declared.Point.{Point}
use Rattle.tr_base.specs.Ops.{resolved}
use Rattle.tr_base.specs.Pixmaps.{pixmap_at}
use Rattle.tr_exec.proofs.BrushLemmas.{run_in_picture, east-is}
use Rattle.tr_exec.proofs.brushes.PixelsBrushBrush.paint.Goals as goal

pub pixels_run-requires : goal.pixels_run-requires
pixels_run-requires c =
    let brush = c.args.self.now in
    let size = brush.src.now.size in
    let within = run_in_picture c.args.run brush.area brush.at size.wide size.high c.requires.some c.requires.within brush.within in
    rw (c.start_in.ensures, c.requires.long) (record { west = within.west; east = within.east; north = within.north; south = within.south })

pub returns : goal.returns
returns c = λ k lt.
    let brush = c.args.self.now in
    rw c.start_in.ensures at (c.pixels_run.ensures k lt) ∙ ap (λ (p : Point). resolved brush.kind (pixmap_at brush.src.now p)) (east-is c.args.run brush.at k)
