use Rattle.std.proofs.Common.{◌≡◌, ℤ, pos, ◌+ℤ◌, ◌-ℤ◌, ap, ◌∙◌, arith}
use Rattle.std.specs.Prelude.{slice_index}
use Rattle.std.proofs.lemmas.Int.{ints}
use Rattle.tr_base.specs.Tiles.{tile_bit}
use Rattle.tr_kernel.specs.Masks.{painted}
use Rattle.tr_exec.proofs.brushes.TextureBrushBrush.paint.Goals as goal

pub returns : goal.returns
returns c = λ k lt.
    let brush = c.args.self.now in
    let run = c.args.run in
    let further : ((run.west +ℤ pos 0) -ℤ brush.at.h) +ℤ pos k ≡ (run.west +ℤ pos k) -ℤ brush.at.h = omega (arith, ints) in
    rw c.start_in.ensures at (c.texture_run.ensures k lt)
    ∙ ap (λ (h : ℤ). painted brush.mask.now (tile_bit brush.tile.now h (run.v -ℤ brush.at.v)) (slice_index c.args.pixels.now k)) further
