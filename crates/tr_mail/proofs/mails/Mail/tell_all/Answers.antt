use Rattle.std.proofs.Common.{refl, sym, ap, subst, ◌∙◌, add-one, arith}
use Rattle.tr_mail.specs.Mails.{Mails}
use Rattle.tr_mail.specs.Deliveries.{tell, tell_below}
use Rattle.tr_mail.specs.Bounds.{IsUnbounded}
use Rattle.tr_mail.proofs.BoundLemmas.{told-unbounded}
use Rattle.tr_mail.proofs.mails.Mail.tell_all.Goals as goal

pub returns-then-not-self-clause-sent : goal.returns-then-not-self-clause-sent
returns-then-not-self-clause-sent c =
    sym (told-unbounded c.args.tree.now (record { mail = c.args.self.now; sent = c.args.out.now })
    (subst (λ (m : Mails). IsUnbounded m.desk) c.self.view_is (c.self.invariant.1 c.if-not-self.true)))

pub loop-n-init : goal.loop-n-init
unfolding tell_below
loop-n-init c = record { sent = refl; few = omega arith; cursor = refl; inboxes = refl }

pub loop-n-preserved : goal.loop-n-preserved
unfolding tell_below
loop-n-preserved c = record {
  sent = rw add-one (c.tell.ensures.sent ∙ ap (tell c.args.tree.now (record { 0 = c.loop-n.n })) c.loop-n.invariant.sent);
  few = omega arith;
  cursor = c.tell.ensures.cursor ∙ c.loop-n.invariant.cursor;
  inboxes = omega arith;
}
