use Rattle.std.proofs.Common.{◌≡◌}
use Rattle.std.proofs.Math.ListN.{replicate}
use Rattle.tr_audit.specs.Progress.{no_progress}
use Rattle.tr_audit.proofs.progress.no_progress.Given as goal

abbrev pub invariant-loop-rank : goal.invariant-loop-rank
invariant-loop-rank l = l.progress.items ≡ replicate l._rank no_progress
