use Rattle.std.proofs.Common.{◌≡◌, ℕ, List, Some, Result, Ok, Err, subst, ap, ◌∙◌}
use Rattle.std.specs.Prelude.{IfOk, slice_get, unwrap_or}
use Rattle.tr_paint.specs.Traces.{look_of}
use Rattle.tr_windows.specs.Presents.{Present}
use Rattle.tr_windows.specs.Promises.{RepaintsWindow}
use Rattle.tr_windows.proofs.HeldLemmas.{read_is}
use Rattle.tr_windows.proofs.windows.Windows.repainting.Goals as goal

-- so what repaints the one repaints the other
of_window : {A B E : Type 0} (made : Result B E) (repaints : A → B → Type 0) (v : A) (ws : List A) (n : ℕ) →
    ((w : A) → slice_get ws n ≡ Some w → v ≡ w) → IfOk made (λ b. repaints v b) →
    IfOk made (λ b. (w : A) → slice_get ws n ≡ Some w → repaints w b)
of_window (Err e) repaints v ws n is h = h
of_window (Ok b) repaints v ws n is h = λ w at. subst (λ x. repaints x b) (is w at) h

pub returns : goal.returns
returns g c =
    let look = look_of c.args.env.now.kind c.args.env.now.font.now in
    of_window c.repainting.result (λ w painting. RepaintsWindow g.C.Client look c.args.exposure.now w (unwrap_or painting w.batch))
    c.index.result.now c.args.self.now c.args.leaf.0
    (λ w at. read_is c.self.inside.windows.items c.from.result c.args.leaf.0 c.index.result.now w c.index.ensures c.from.ensures
    (ap (λ (ws : List (Present g.row.C.Denot)). slice_get ws c.args.leaf.0) c.self.view_is ∙ at)) c.repainting.ensures
