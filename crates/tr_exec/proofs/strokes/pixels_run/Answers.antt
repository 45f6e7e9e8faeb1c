use Rattle.std.proofs.Common.{◌≡◌, length, w32, SFits, ap, ◌∙◌, rules}
use Rattle.std.specs.Prelude.{unsigned_abs}
use Rattle.std.proofs.lemmas.Int.{to_z-of_z}
use Rattle.tr_base.specs.Ops.{resolved}
use Rattle.tr_exec.proofs.StrokeLemmas.{run_of_pixmap}
use Rattle.tr_exec.proofs.strokes.pixels_run.Goals as goal

pub returns : goal.returns
returns c = λ k lt.
    let fits_h : SFits w32 c.args.at.h = search rules in
    let fits_v : SFits w32 c.args.at.v = search rules in
    let west : c.unsigned_abs-west.result ≡ unsigned_abs c.args.at.h = rw (to_z-of_z w32 c.args.at.h fits_h) at c.unsigned_abs-west.ensures.value in
    let row : c.row_of.result ≡ unsigned_abs c.args.at.v = rw (to_z-of_z w32 c.args.at.v fits_v) at c.row_of.ensures.value in
    let long : length c.copy_row.new.to ≡ length c.args.pixels.now = search rules in
    c.resolve_row.ensures k (rw long lt)
    ∙ ap (λ x. resolved c.args.kind x) (run_of_pixmap c.args.src.now c.args.at (length c.args.pixels.now) c.row-row.result.now c.copy_row.new.to c.requires
    (rw row at c.row-row.ensures.value) (rw west at c.copy_row.ensures) k lt)
