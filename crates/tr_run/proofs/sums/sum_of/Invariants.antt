use Rattle.std.proofs.Common.{◌≡◌, ◌≤◌, ◌*◌, take, sum_by}
use Rattle.tr_run.proofs.sums.sum_of.Given as goal

-- the sum of the pixels of the rows so far
abbrev pub invariant-loop-v : goal.invariant-loop-v
invariant-loop-v l = record {
  sum : l.sum ≡ sum_by (λ row. sum_by (λ pixel. pixel) row) (take l.v l.screen.rows);
  most : l.sum ≤ 261120 * l.v;
}
