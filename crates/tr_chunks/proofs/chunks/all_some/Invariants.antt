use Rattle.std.proofs.Common.{◌≡◌, map, Some}
use Rattle.tr_chunks.proofs.chunks.all_some.Given as goal

abbrev pub invariant-loop-one : goal.invariant-loop-one
invariant-loop-one g l = map (λ x. Some x) l.all.items ≡ l.yielded
