use Rattle.std.proofs.Common.{◌≡◌, ℕ, List, Option, Some, None, Result, Ok, Err, subst, ap, ◌∙◌}
use Rattle.std.specs.Prelude.{IfOk, IfSome, slice_get}
use Rattle.tr_paint.specs.Traces.{look_of}
use Rattle.tr_windows.specs.Presents.{Present}
use Rattle.tr_windows.specs.Promises.{FlushesByPainting}
use Rattle.tr_windows.proofs.HeldLemmas.{read_is}
use Rattle.tr_windows.proofs.windows.Windows.flushing.Goals as goal

-- so what flushes the one flushes the other
of_window : {A B E : Type 0} (made : Result (Option B) E) (flushes : A → B → Type 0) (v : A) (ws : List A) (n : ℕ) →
    ((w : A) → slice_get ws n ≡ Some w → v ≡ w) → IfOk made (λ o. IfSome o (λ b. flushes v b)) →
    IfOk made (λ o. IfSome o (λ b. (w : A) → slice_get ws n ≡ Some w → flushes w b))
of_window (Err e) flushes v ws n is h = h
of_window (Ok None) flushes v ws n is h = h
of_window (Ok (Some b)) flushes v ws n is h = λ w at. subst (λ x. flushes x b) (is w at) h

pub returns : goal.returns
returns g c =
    let look = look_of c.args.env.now.kind c.args.env.now.font.now in
    of_window c.flushing.result (λ w batch. FlushesByPainting g.C.Client look c.args.exposure.now w batch) c.index.result.now c.args.self.now c.args.leaf.0
    (λ w at. read_is c.self.inside.windows.items c.from.result c.args.leaf.0 c.index.result.now w c.index.ensures c.from.ensures
    (ap (λ (ws : List (Present g.row.C.Denot)). slice_get ws c.args.leaf.0) c.self.view_is ∙ at)) c.flushing.ensures
