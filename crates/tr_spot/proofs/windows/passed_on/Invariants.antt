use Rattle.std.proofs.Common.{◌≡◌, ℕ, ◌<◌, get_or}
use Rattle.tr_spot.proofs.NodeLemmas.{zero_node}
use Rattle.tr_spot.proofs.windows.passed_on.Given as goal

-- none of the siblings so far is the child
abbrev pub invariant-loop-count : goal.invariant-loop-count
invariant-loop-count l = (j : ℕ) → j < l.count → (get_or l.siblings j zero_node).0 ≡ l.child.0 → ⊥
