use Rattle.std.proofs.Common.{◌≡◌, ◌++◌, take}
use Rattle.w_canvas.specs.Canvases.{canvas_paints}
use Rattle.w_canvas.proofs.canvases.push_paints.Given as goal

-- the figures so far are painted
abbrev pub invariant-loop-figure : goal.invariant-loop-figure
invariant-loop-figure l = l.batch ≡ l.fn.batch ++ canvas_paints l.part (take l.figure-index l.figures)
