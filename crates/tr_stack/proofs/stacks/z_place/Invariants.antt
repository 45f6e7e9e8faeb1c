use Rattle.std.proofs.Common.{◌≡◌, take, All}
use Rattle.tr_base.specs.Rects.{Edges}
use Rattle.tr_base.specs.Layouts.{farthest, IsNear}
use Rattle.tr_stack.specs.Stacks.{z_places}
use Rattle.tr_stack.proofs.stacks.z_place.Given as goal

-- the children so far have their places, which are near the node
abbrev pub invariant-loop-i : goal.invariant-loop-i
invariant-loop-i l = record {
  so_far : l.places.items ≡ take l.i (z_places l.rect l.at l.children);
  near : All (λ (child : Edges). IsNear farthest child l.rect) l.places.items;
}
