use Rattle.std.proofs.Common.{◌≡◌, ◌+◌}
use Rattle.tr_server.specs.Servers.{AreLeavesInOrder}
use Rattle.tr_server.proofs.servers.windows_of.Given as goal

-- so many windows were made, with a part of the ledger each
abbrev pub invariant-loop-n : goal.invariant-loop-n
invariant-loop-n g l = record {
  parts : l.all.parts + l.n ≡ l.fn.all.parts;
  none : l.all.amount ≡ 0;
  windows : AreLeavesInOrder l.n l.windows.items;
}
