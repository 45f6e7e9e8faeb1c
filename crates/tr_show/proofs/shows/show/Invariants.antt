use Rattle.std.proofs.Common.{◌≤◌, length}
use Rattle.tr_mirror.specs.Readings.{longest_stream}
use Rattle.tr_show.proofs.PassLemmas.{HasShown}
use Rattle.tr_show.proofs.shows.show.Given as goal

-- what was read is shown, and the stream isn't too long
abbrev pub invariant-loop-rest : goal.invariant-loop-rest
invariant-loop-rest l = record {
  shown : HasShown l.stream l.rest l.text l.mirror;
  short : length l.stream ≤ longest_stream;
}

abbrev pub decreases-loop-rest : goal.decreases-loop-rest
decreases-loop-rest l = length l.rest
