use Rattle.std.proofs.Common.{◌<◌, ◌^◌}
use Rattle.tr_base.specs.declared.NodeId.{NodeId}
use Rattle.tr_forest.specs.Nodes.{node}
use Rattle.tr_stage.specs.Stages.{state}
use Rattle.tr_serial.proofs.values.have_tints.Given as goal

-- so it is with the nodes so far
abbrev pub invariant-loop-n : goal.invariant-loop-n
invariant-loop-n g l = (n : NodeId) → n.0 < l.n → (node (state g.C.Client l.stage).tree.nodes n).tint < 2 ^ 8
