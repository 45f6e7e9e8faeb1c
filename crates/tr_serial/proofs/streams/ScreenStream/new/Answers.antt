use Rattle.std.proofs.Common.{ℕ, List, [], sym, subst}
use Rattle.tr_mirror.specs.Updates.{HasSent}
use Rattle.tr_serial.proofs.streams.ScreenStream.new.Goals as goal

pub returns : goal.returns
returns c = record {
  bytes = c.new-2.ensures.items;
  sent = subst (λ (b : List ℕ). HasSent c.new.result b []) (sym c.new-2.ensures.items) c.new.ensures.sent;
}
