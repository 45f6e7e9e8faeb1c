use Rattle.std.proofs.Common.{◌≡◌, ℕ, ◌<◌, get_or}
use Rattle.w_canvas.specs.declared.canvases.Figure.{Figure}
use Rattle.w_canvas.proofs.canvases.are_same.Given as goal

-- the figures so far are the same
abbrev pub invariant-loop-i : goal.invariant-loop-i
invariant-loop-i l = (k : ℕ) (d : Figure) → k < l.i → get_or l.figures k d ≡ get_or l.others k d
