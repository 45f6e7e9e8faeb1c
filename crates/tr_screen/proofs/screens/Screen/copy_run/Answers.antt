use Rattle.std.proofs.Common.{List, ℕ, get_or, ap, ◌∙◌, arith}
use Rattle.tr_screen.specs.Pictures.{pixel_of}
use Rattle.tr_screen.specs.Runs.{in_run, column_in}
use Rattle.tr_screen.proofs.ReadingLemmas.{get_or-run_by}
use Rattle.tr_screen.proofs.Repainting.{repaints_by}
use Rattle.tr_screen.proofs.screens.Screen.copy_run.Goals as goal

pub returns : goal.returns
returns c =
    let other = c.args.other.now in
    let r = c.args.run in
    let w = c.copy_row.new.to in
    let read = c.copy_row.ensures ∙ c.run.ensures.pixels in
    repaints_by (in_run r) (λ p. get_or w (column_in r p) 0) (pixel_of other) c.args.self.now _
    (c.run_mut.ensures.paints w (omega (arith, c.copy_row.auto.to, c.run_mut.ensures.wide)))
    (λ p t. ap (λ (l : List ℕ). get_or l (column_in r p) 0) read ∙ get_or-run_by (pixel_of other) other.size r c.requires.from p t)
