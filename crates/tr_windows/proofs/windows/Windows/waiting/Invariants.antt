use Rattle.std.proofs.Common.{◌≡◌, take}
use Rattle.tr_windows.specs.Promises.{waiting_in}
use Rattle.tr_windows.proofs.windows.Windows.waiting.Given as goal

-- the commands of the windows so far
abbrev pub invariant-loop-window : goal.invariant-loop-window
invariant-loop-window g l = l.waiting ≡ waiting_in (take l.window-index l.window-items)
