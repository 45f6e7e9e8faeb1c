use Rattle.std.proofs.Common.{◌≤◌, ◌-◌, vec_len}
use Rattle.tr_io.specs.Streams.{Fell}
use Rattle.tr_player.proofs.streams.read_up_to.Given as goal

-- nothing is lost, and no more is read than may be
abbrev pub invariant-loop-bytes : goal.invariant-loop-bytes
invariant-loop-bytes g l = record {
  taken : Fell (g.S.Source.left l.fn.source) (g.S.Source.left l.source) l.bytes.items;
  most : vec_len l.bytes ≤ l.most;
  rising : g.S.Source.faults l.fn.source ≤ g.S.Source.faults l.source;
}

abbrev pub decreases-loop-bytes : goal.decreases-loop-bytes
decreases-loop-bytes g l = l.most - vec_len l.bytes
