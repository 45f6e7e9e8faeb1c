use Rattle.std.proofs.Common.{◌≡◌, take, All}
use Rattle.tr_base.specs.Rects.{Edges}
use Rattle.tr_tree.proofs.domains.fill.Given as goal

abbrev pub invariant-loop-place : goal.invariant-loop-place
invariant-loop-place l = All (λ (r : Edges). r ≡ l.rect) (take l.place-index l.places)
