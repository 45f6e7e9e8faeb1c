use Rattle.std.proofs.Common.{◌≡◌, ℕ, ◌<◌, length, get_or}
use Rattle.tr_base.specs.Rects.{empty_rect}
use Rattle.tr_tree.proofs.domains.clear.Given as goal

-- the nodes so far lie nowhere
abbrev pub invariant-loop-n : goal.invariant-loop-n
invariant-loop-n l = record {
  count : length l.domains.items ≡ length l.fn.domains.items;
  empty : (k : ℕ) → k < l.n → get_or l.domains.items k empty_rect ≡ empty_rect;
}
