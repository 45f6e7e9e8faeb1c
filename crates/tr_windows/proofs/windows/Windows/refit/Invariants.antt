use Rattle.std.proofs.Common.{◌≡◌, length}
use Rattle.tr_windows.specs.Presents.{without_old_batch}
use Rattle.tr_windows.proofs.ChangeLemmas.{changed_below}
use Rattle.tr_windows.proofs.windows.Windows.refit.Given as goal

-- the windows below n are seen to
abbrev pub invariant-loop-n : goal.invariant-loop-n
invariant-loop-n g l = record {
  done : l.self ≡ changed_below l.n (λ k. without_old_batch l.was l.is (record { 0 = k })) l.fn.self;
  count : length l.self ≡ length l.fn.self;
}
