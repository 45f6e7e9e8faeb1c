use Rattle.std.proofs.Common.{List, [], length, take, ap, ◌∙◌}
use Rattle.std.proofs.Math.Seq.{take-append_seam}
use Rattle.tr_base.specs.declared.Kind.TheVariants.{Mono}
use Rattle.tr_base.proofs.ResultFacts.{on_err}
use Rattle.tr_paint.specs.declared.Paint.{Paint}
use Rattle.tr_paint.specs.Traces.{look_of}
use Rattle.w_edit.proofs.editors.Editor.take.Goals as goal

pub returns-clause-patch : goal.returns-clause-patch
returns-clause-patch c = λ look. rw c.view.ensures at (c.in_ok-put_patch.ensures.ok look)

pub returns-in_err-make-clause-batch_err : goal.returns-in_err-make-clause-batch_err
returns-in_err-make-clause-batch_err c =
    let put = c.in_ok-put_patch.ensures.ok (look_of Mono []) in
    on_err _ (ap (λ (ps : List Paint). take (length c.args.batch.now) ps) put ∙ take-append_seam c.args.batch.now _)
