use Rattle.std.proofs.Common.{◌≡◌, ℕ, ◌+◌, ◌<◌, length, get_or}
use Rattle.tr_journal.specs.declared.steps.Actor.TheVariants.{Leaf}
use Rattle.tr_server.specs.Passes.{fresh_pass}
use Rattle.tr_server.proofs.servers.add_workers.Given as goal

-- so many clients have their passes, with a part of the ledger each
abbrev pub invariant-loop-n : goal.invariant-loop-n
invariant-loop-n g l = record {
  parts : l.all.parts + l.n ≡ l.fn.all.parts;
  none : l.all.amount ≡ 0;
  count : length l.workers.items ≡ l.n;
  fresh : (i : ℕ) (d : _) → i < l.n → get_or l.workers.items i d ≡ fresh_pass (Leaf (record { 0 = i }));
}
