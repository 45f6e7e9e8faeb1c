use Rattle.std.proofs.Common.{◌≡◌, ◌<◌, ℕ, false, get_or}
use Rattle.tr_desk.specs.Desks.{untold}
use Rattle.tr_mail.specs.Bounds.{is_bounded}
use Rattle.tr_mail.proofs.mails.Mail.is_any_bounded.Given as goal

-- the cages of the leaves below n are everywhere
abbrev pub invariant-loop-n : goal.invariant-loop-n
invariant-loop-n l = (k : ℕ) → k < l.n → is_bounded (get_or l.self.desk.leaves k untold).cage ≡ false
