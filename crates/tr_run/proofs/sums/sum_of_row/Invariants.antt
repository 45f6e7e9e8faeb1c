use Rattle.std.proofs.Common.{◌≡◌, ◌≤◌, ◌*◌, take, sum_by}
use Rattle.tr_run.proofs.sums.sum_of_row.Given as goal

-- the sum of the pixels so far
abbrev pub invariant-loop-pixel : goal.invariant-loop-pixel
invariant-loop-pixel l = record {
  sum : l.sum ≡ sum_by (λ pixel. pixel) (take l.pixel-index l.row);
  most : l.sum ≤ 255 * l.pixel-index;
}
