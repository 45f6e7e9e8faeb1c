use Rattle.std.proofs.Common.{refl, ap, ◌∙◌, add-one, arith}
use Rattle.tr_mail.specs.Deliveries.{reshape, reshape_below}
use Rattle.tr_mail.proofs.mails.Mail.reshape_all.Goals as goal

pub loop-n-init : goal.loop-n-init
unfolding reshape_below
loop-n-init c = record { sent = refl; few = omega arith; inboxes = refl }

pub loop-n-preserved : goal.loop-n-preserved
unfolding reshape_below
loop-n-preserved c = record {
  sent = rw add-one (c.reshape.ensures.sent ∙ ap (reshape c.args.was.now c.args.is.now (record { 0 = c.loop-n.n })) c.loop-n.invariant.sent);
  few = omega arith;
  inboxes = omega arith;
}
