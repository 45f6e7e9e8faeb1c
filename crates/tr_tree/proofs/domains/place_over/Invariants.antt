use Rattle.std.proofs.Common.{◌≡◌, length, take, All}
use Rattle.tr_base.specs.Rects.{Edges}
use Rattle.tr_base.specs.Layouts.{farthest, IsNear}
use Rattle.tr_stack.specs.Stacks.{z_places}
use Rattle.tr_tree.specs.Laying.{offsets_of}
use Rattle.tr_tree.proofs.domains.place_over.Given as goal

-- the children so far have their places, which are near the node
abbrev pub invariant-loop-i : goal.invariant-loop-i
invariant-loop-i l = record {
  count : length l.places ≡ length l.fn.places;
  so_far : take l.i l.places ≡ take l.i (z_places l.parent.rect (offsets_of l.parent.forest.now l.parent.n) l.parent.shapes.now);
  near : All (λ (child : Edges). IsNear farthest child l.parent.rect) (take l.i l.places);
}
