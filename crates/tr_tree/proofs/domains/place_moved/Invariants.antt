use Rattle.std.proofs.Common.{◌≡◌, length, map, take, All}
use Rattle.tr_base.specs.Rects.{Edges}
use Rattle.tr_base.specs.Layouts.{farthest, preferred_place, IsNear}
use Rattle.tr_tree.proofs.domains.place_moved.Given as goal

abbrev pub invariant-loop-i : goal.invariant-loop-i
invariant-loop-i l = record {
  count : length l.places ≡ length l.fn.places;
  so_far : take l.i l.places ≡ map (preferred_place l.rect l.by) (take l.i l.shapes);
  near : All (λ (child : Edges). IsNear farthest child l.rect) (take l.i l.places);
}
