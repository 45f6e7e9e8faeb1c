use Rattle.std.proofs.Common.{◌≡◌, Bool, true, false, cond, List, [], refl, ap, sym, ◌∙◌}
use Rattle.tr_paint.specs.declared.Paint.{Paint}
use Rattle.tr_mail.specs.Deliveries.{is_reshaped}
use Rattle.tr_machine.proofs.ListLemmas.{unchanged}
use Rattle.tr_windows.specs.Presents.{Present, batch_at, without_batch, without_old_batch}
use Rattle.tr_windows.proofs.ChangeLemmas.{unchanged_at}
use Rattle.tr_windows.proofs.windows.Windows.refit_leaf.Goals as goal

-- a window for which nothing waits stays as it is
idle : {C : Type 0} (b : Bool) (w : Present C) → w.batch ≡ [] → cond b (without_batch w) w ≡ w
idle true w none = ap (λ (cs : List Paint). record { content = w.content; batch = cs }) (sym none)
idle false w none = refl

pub returns-then-is_empty : goal.returns-then-is_empty
returns-then-is_empty g c =
    let none : batch_at c.args.self.now c.args.leaf ≡ [] = sym c.batch.ensures ∙ c.is_empty.ensures.0 c.if-is_empty.true in
    sym (unchanged_at (without_old_batch c.args.was.now c.args.is.now c.args.leaf) c.args.self.now c.args.leaf.0
    (λ w at. idle (is_reshaped c.args.was.now c.args.is.now c.args.leaf) w (rw at at none)))

pub returns-else-is_reshaped : goal.returns-else-is_reshaped
returns-else-is_reshaped g c =
    let same : is_reshaped c.args.was.now c.args.is.now c.args.leaf ≡ false = sym c.is_reshaped.ensures ∙ c.if-is_reshaped.false in
    sym (unchanged (without_old_batch c.args.was.now c.args.is.now c.args.leaf) c.args.self.now c.args.leaf.0 (λ w. rw same refl))
