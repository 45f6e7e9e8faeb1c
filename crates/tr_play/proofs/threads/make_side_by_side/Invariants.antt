use Rattle.std.proofs.Common.{length}
use Rattle.tr_forest.specs.Nodes.{leaf_count}
use Rattle.tr_journal.specs.Openings.{font_of, tree_of}
use Rattle.tr_play.proofs.threads.make_side_by_side.Given as goal

-- the ledger is that of the blank, and the session is named by the numbers of the stage and its journal
abbrev pub ghosts-session-L-Ledger : goal.ghosts-session-L-Ledger
ghosts-session-L-Ledger g a = record { name = a.blank.name; parts = a.blank.parts }

abbrev pub ghosts-session-L-Session : goal.ghosts-session-L-Session
ghosts-session-L-Session g a = record {
  nodes = length (tree_of a.stage.opening).nodes.entries;
  leaves = leaf_count (tree_of a.stage.opening).nodes;
  entries = length a.stage.journal;
  kept = a.stage.journal;
  font = font_of a.stage.opening;
}
