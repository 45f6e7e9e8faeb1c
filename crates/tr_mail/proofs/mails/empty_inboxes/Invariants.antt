use Rattle.std.proofs.Common.{◌≡◌}
use Rattle.std.proofs.Math.ListN.{replicate}
use Rattle.tr_mail.specs.Mails.{nothing}
use Rattle.tr_mail.proofs.mails.empty_inboxes.Given as goal

abbrev pub invariant-loop-leaf : goal.invariant-loop-leaf
invariant-loop-leaf l = l.inboxes.items ≡ replicate l._leaf nothing
