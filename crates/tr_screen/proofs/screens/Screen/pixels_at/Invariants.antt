use Rattle.std.proofs.Common.{◌≡◌, take}
use Rattle.tr_screen.specs.Pictures.{pixel_of}
use Rattle.tr_screen.specs.Readings.{rects_by}
use Rattle.tr_screen.proofs.screens.Screen.pixels_at.Given as goal

-- the rectangles so far are read
abbrev pub invariant-loop-rect : goal.invariant-loop-rect
invariant-loop-rect l = l.pixels.items ≡ rects_by (pixel_of l.self) (take l.rect-index l.rects)
