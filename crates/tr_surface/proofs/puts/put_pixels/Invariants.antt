use Rattle.std.proofs.Common.{◌≡◌, take}
use Rattle.tr_region.specs.Areas.{total_area}
use Rattle.tr_region.specs.Points.{holds}
use Rattle.tr_screen.specs.Runs.{Repaints}
use Rattle.tr_surface.proofs.PutLemmas.{pixel_at}
use Rattle.tr_surface.proofs.puts.put_pixels.Given as goal

-- the pixels of the rectangles so far are put
abbrev pub invariant-loop-rect : goal.invariant-loop-rect
invariant-loop-rect l = record {
  from : l.from ≡ total_area (take l.rect-index l.rects);
  paints : Repaints (holds (take l.rect-index l.rects)) (pixel_at l.pixels (take l.rect-index l.rects)) l.fn.screen l.screen;
}
