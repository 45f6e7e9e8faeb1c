use Rattle.std.proofs.Common.{◌≡◌, ◌++◌, drop}
use Rattle.std.specs.Vec.Iter.{into_iter_items, into_iter_len}
use Rattle.trestle.proofs.runs.after_name.Given as goal

-- those that were taken, and those to come, are those after the first
abbrev pub invariant-loop-argument : goal.invariant-loop-argument
invariant-loop-argument l = l.arguments.items ++ into_iter_items l.rest ≡ drop 1 (into_iter_items l.fn.all)

abbrev pub decreases-loop-argument : goal.decreases-loop-argument
decreases-loop-argument l = into_iter_len l.rest
