use Rattle.std.proofs.Common.{◌-◌, ◌==◌, ℕ, w32, SFits, ap, sym, ◌∙◌, rules}
use Rattle.std.specs.Prelude.{slice_index}
use Rattle.std.specs.Int.{bit_at}
use Rattle.std.proofs.lemmas.Int.{to_z-of_z}
use Rattle.tr_base.specs.Tiles.{tile_index}
use Rattle.tr_kernel.specs.Masks.{painted}
use Rattle.tr_exec.proofs.StrokeLemmas.{place-later}
use Rattle.tr_exec.proofs.strokes.texture_run.Goals as goal

pub returns : goal.returns
returns c = λ k lt.
    let x = c.args.at.h in
    let fits_h : SFits w32 c.args.at.h = search rules in
    let fits_v : SFits w32 c.args.at.v = search rules in
    let byte : ℕ = slice_index c.args.tile.now.rows (tile_index c.args.at.v) in
    let old = slice_index c.args.pixels.now k in
    let row = rw (to_z-of_z w32 c.args.at.v fits_v) at c.tile_row.ensures in
    let place = rw (to_z-of_z w32 c.args.at.h fits_h) at c.place_of.ensures.value in
    rw (row, place) at (c.row.ensures.each k lt)
    ∙ ap (λ n. painted c.args.mask.now (bit_at byte (7 - n) == 1) old) (sym (place-later x k))
