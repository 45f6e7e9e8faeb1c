use Rattle.std.proofs.Common.{length}
use Rattle.tr_forest.specs.Nodes.{leaf_count}
use Rattle.tr_journal.specs.Openings.{font_of, tree_of}
use Rattle.tr_server_tests.proofs.sessions.played_on.Given as goal

-- the session's ledger
abbrev pub ghosts-session-L-Ledger : goal.ghosts-session-L-Ledger
ghosts-session-L-Ledger g a = record { name = a.blank.name; parts = a.blank.parts }

-- its numbers are those of the stage, and the entries that it keeps are those of the journal
abbrev pub ghosts-session-L-Session : goal.ghosts-session-L-Session
ghosts-session-L-Session g a = record {
  nodes = length (tree_of a.stage.opening).nodes.entries;
  leaves = leaf_count (tree_of a.stage.opening).nodes;
  entries = length a.stage.journal;
  kept = a.stage.journal;
  font = font_of a.stage.opening;
}
