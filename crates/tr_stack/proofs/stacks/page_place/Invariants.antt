use Rattle.std.proofs.Common.{◌≡◌, All}
use Rattle.tr_base.specs.Rects.{Edges}
use Rattle.tr_base.specs.Layouts.{IsPartOf}
use Rattle.tr_stack.specs.Stacks.{page_places}
use Rattle.tr_stack.proofs.stacks.page_place.Given as goal

-- the children so far have their places, which are parts of the node
abbrev pub invariant-loop-k : goal.invariant-loop-k
invariant-loop-k l = record {
  so_far : l.places.items ≡ page_places l.rect l.per l.page l.k;
  part : All (λ (child : Edges). IsPartOf child l.rect) l.places.items;
}
