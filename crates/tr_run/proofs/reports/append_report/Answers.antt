use Rattle.std.proofs.Common.{◌≡◌, ℕ, List, ◌++◌, sym, ap, ◌∙◌, append_assoc}
use Rattle.std.specs.Prelude.{Result, OnOk, OnErr}
use Rattle.std.proofs.lemmas.Result.{on_err_weaker, on_ok_weaker}
use Rattle.tr_run.proofs.reports.append_report.Goals as goal

-- what the tail of a text grows by, the text grows by
grown : {T E : Type 0} (r : Result T E) (kept tail text new old : List ℕ) → kept ++ tail ≡ old → OnOk r (new ≡ tail ++ text) →
    OnOk r (kept ++ new ≡ old ++ text)
grown r kept tail text new old whole more =
    on_ok_weaker r
    (λ is. ap (λ (t : List ℕ). kept ++ t) is ∙ sym (append_assoc kept tail text) ∙ ap (λ (t : List ℕ). t ++ text) whole) more

-- a text whose tail is as before
unchanged : {T E : Type 0} (r : Result T E) (kept tail new old : List ℕ) → kept ++ tail ≡ old → OnErr r (new ≡ tail) → OnErr r (kept ++ new ≡ old)
unchanged r kept tail new old whole same = on_err_weaker r (λ is. ap (λ (t : List ℕ). kept ++ t) is ∙ whole) same

pub returns-in-Peek-clause-ok : goal.returns-in-Peek-clause-ok
returns-in-Peek-clause-ok g c = rw c.in-Peek.is (grown c.append_peek.result _ _ _ _ _ c.out.view_is c.append_peek.ensures.ok)

pub returns-in-Peek-clause-err : goal.returns-in-Peek-clause-err
returns-in-Peek-clause-err g c = unchanged c.append_peek.result _ _ _ _ c.out.view_is c.append_peek.ensures.err

pub returns-in-Journal-clause-ok : goal.returns-in-Journal-clause-ok
returns-in-Journal-clause-ok g c = rw c.in-Journal.is (grown c.append_journal.result _ _ _ _ _ c.out-in-Journal.view_is c.append_journal.ensures.ok)

pub returns-in-Journal-clause-err : goal.returns-in-Journal-clause-err
returns-in-Journal-clause-err g c = unchanged c.append_journal.result _ _ _ _ c.out-in-Journal.view_is c.append_journal.ensures.err

pub returns-in-Where-clause-ok : goal.returns-in-Where-clause-ok
returns-in-Where-clause-ok g c = rw c.in-Where.is (grown c.append_place.result _ _ _ _ _ c.out-in-Where.view_is c.append_place.ensures.ok)

pub returns-in-Where-clause-err : goal.returns-in-Where-clause-err
returns-in-Where-clause-err g c = unchanged c.append_place.result _ _ _ _ c.out-in-Where.view_is c.append_place.ensures.err

pub returns-in-Inbox-clause-ok : goal.returns-in-Inbox-clause-ok
returns-in-Inbox-clause-ok g c =
    rw (c.in-Inbox.is, sym c.inbox.ensures) (grown c.inbox-in-Inbox.result _ _ _ _ _ c.out-in-Inbox.view_is c.inbox-in-Inbox.ensures.ok)

pub returns-in-Inbox-clause-err : goal.returns-in-Inbox-clause-err
returns-in-Inbox-clause-err g c = unchanged c.inbox-in-Inbox.result _ _ _ _ c.out-in-Inbox.view_is c.inbox-in-Inbox.ensures.err
