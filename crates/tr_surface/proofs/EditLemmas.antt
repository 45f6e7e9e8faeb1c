-- What an edit leaves, and which child it moves.
use Rattle.std.proofs.Common.{arith, ◌≡◌, Option, Some, None, refl, sym, subst}
use Rattle.std.proofs.lemmas.Option.{none-some}
use Rattle.tr_base.specs.declared.NodeId.{NodeId}
use Rattle.tr_forest.specs.declared.Edit.{Edit}
use Rattle.tr_forest.specs.declared.Edit.TheVariants as edits
use Rattle.tr_forest.specs.Nodes.{IsNode}
use Rattle.tr_forest.specs.Forests.{IsForest}
use Rattle.tr_forest.specs.Edits.{IsEdit, edited, refusal}
use Rattle.tr_forest.proofs.Keeping.{Follows}
use Rattle.tr_forest.proofs.Editing.{follows_edited}
use Rattle.tr_tree.specs.Trees.{Seen, size_after, edited_tree}
use Rattle.tr_spot.specs.Spots.{HasRoot}
use Rattle.std.specs.Prelude.{IfSome, IsSome}
use Rattle.tr_surface.specs.TreeSteps.{if_placed, moved_child}
use Rattle.tr_surface.specs.Survivors.{IsLike}
use Rattle.tr_surface.proofs.PixelLemmas.{IsMove}

pub like_edited : (was : Seen) (edit : Edit) → IsForest was.nodes → IsEdit was.nodes edit → refusal was.nodes edit ≡ None → IsLike was (edited_tree was edit)
like_edited was edit forest fits allowed =
    let f : Follows was.nodes (edited was.nodes edit) = follows_edited was.nodes edit forest fits allowed in
    record { leaves = f.values.leaf; count = f.values.count; root = f.values.root }

pub forest_edited : (was : Seen) (edit : Edit) → IsForest was.nodes → IsEdit was.nodes edit → refusal was.nodes edit ≡ None → IsForest (edited was.nodes edit)
forest_edited was edit forest fits allowed = (follows_edited was.nodes edit forest fits allowed).forest

-- what was a node is one
pub nodes_still : (was is : Seen) → IsLike was is → (o : Option NodeId) → IfSome o (IsNode was.nodes) → IfSome o (IsNode is.nodes)
nodes_still was is like None h = tt
nodes_still was is like (Some n) h = record { within = omega (arith, h.within, like.count) }

-- an edit that moves a child leaves the size
none_moved : (was : Seen) (child : NodeId) {X : Type 0} → if_placed was None ≡ Some child → X
none_moved was child h = absurd (none-some child h)

size_stays : (was : Seen) (edit : Edit) (child : NodeId) → moved_child was edit ≡ Some child → size_after edit was.size ≡ was.size
size_stays was (edits.Resize size) child h = none_moved was child h
size_stays was edit child h = refl

pub rooted : (was is : Seen) → IsLike was is → HasRoot was → HasRoot is
rooted was is like root = subst (λ (o : Option NodeId). IsSome o) (sym like.root) root

pub move_edited : (was : Seen) (edit : Edit) → HasRoot was → IsLike was (edited_tree was edit) → IsMove was (edited_tree was edit) (moved_child was edit)
move_edited was edit root like = record { root = rooted was (edited_tree was edit) like root; size = λ child h. size_stays was edit child h }
