use Rattle.std.proofs.Common.{◌≡◌, ◌≤◌, length}
use Rattle.tr_mirror.specs.Automata.{IsReading}
use Rattle.tr_mirror.proofs.PieceLemmas.{HasRead}
use Rattle.tr_mirror.proofs.mirrors.Mirror.feed_to_cut.Given as goal

-- a front of the piece was read, of which at most the last byte ended a cut
abbrev pub invariant-loop-self : goal.invariant-loop-self
invariant-loop-self l = record {
  reading : IsReading l.self-inside.reader;
  read : HasRead l.fn.self l.self-inside.reader l.piece l.rest;
  begins : length l.rest ≤ length l.piece;
  cuts : l.cuts ≡ l.fn.self.standing.cuts;
}

abbrev pub decreases-loop-self : goal.decreases-loop-self
decreases-loop-self l = length l.rest
