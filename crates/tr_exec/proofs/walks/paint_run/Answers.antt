use Rattle.std.proofs.Common.{◌≡◌, length, arith}
use Rattle.tr_screen.specs.Runs.{width_of}
use Rattle.tr_screen.proofs.Repainting.{painted_by}
use Rattle.tr_exec.proofs.walks.paint_run.Goals as goal

pub returns : goal.returns
returns g c =
    let r = c.args.run in
    let w = c.paint.new.pixels in
    let wide : length w ≡ width_of r = omega (arith, c.paint.auto.pixels, c.run_mut.ensures.wide) in
    painted_by (g.B.Brush.pixel c.args.brush.now) r c.args.screen.now _ w c.run_mut.result.now
    c.requires.on c.run_mut.ensures.wide (c.run_mut.ensures.paints w wide) c.paint.ensures c.run_mut.ensures.value
