use Rattle.w_edit.proofs.EditLemmas.{front_stays}
use Rattle.tr_base.proofs.ResultFacts.{on_err}
use Rattle.w_edit.proofs.views.View.join_lines.Goals as goal

pub returns-in_err-put-clause-err : goal.returns-in_err-put-clause-err
returns-in_err-put-clause-err c = on_err _ (front_stays _ _ _ _ c.in_ok-push.ensures.ok c.in_err-put.ensures.err)

pub returns-in_err-put-2-clause-err : goal.returns-in_err-put-2-clause-err
returns-in_err-put-2-clause-err c =
    on_err _ (front_stays _ _ _ _ c.in_ok-push.ensures.ok (front_stays _ _ _ _ c.in_ok-put.ensures.ok c.in_err-put-2.ensures.err))
