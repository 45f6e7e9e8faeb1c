use Rattle.std.proofs.Common.{◌≡◌, map, take}
use Rattle.tr_journal.specs.Openings.{contents_of}
use Rattle.tr_windows.specs.Presents.{with_empty_batch}
use Rattle.tr_windows.proofs.windows.idle_windows.Given as goal

-- the windows of the contents so far
abbrev pub invariant-loop-n : goal.invariant-loop-n
invariant-loop-n g l = l.windows.items ≡ map with_empty_batch (take l.n (contents_of l.opening))
