use Rattle.std.proofs.Common.{◌≡◌, ◌≤◌, ◌+◌, length}
use Rattle.tr_mail.specs.Mails.{Sending}
use Rattle.tr_mail.specs.Deliveries.{reshape_below}
use Rattle.tr_mail.proofs.mails.Mail.reshape_all.Given as goal

-- the leaves below n were told
abbrev pub invariant-loop-n : goal.invariant-loop-n
invariant-loop-n l =
    let now : Sending = record { mail = l.self; sent = l.out } in
    record {
      sent : now ≡ reshape_below l.n l.was l.is (record { mail = l.fn.self; sent = l.fn.out });
      few : length l.out ≤ length l.fn.out + l.n;
      inboxes : length l.self.inboxes ≡ length l.fn.self.inboxes;
    }
