-- What the definitions say of three nodes, computed.
use Rattle.std.proofs.Common.{◌≡◌, ℕ, pos, [], ◌∷◌, Some, None, refl}
use Rattle.tr_base.specs.declared.NodeId.{NodeId}
use Rattle.tr_forest.specs.declared.kinds.NodeKind.{NodeKind}
use Rattle.tr_forest.specs.declared.kinds.NodeKind.TheVariants as kinds
use Rattle.tr_forest.specs.declared.edits.Edit.{Edit}
use Rattle.tr_forest.specs.declared.edits.Edit.TheVariants as edits
use Rattle.tr_forest.specs.declared.edits.NodeFault.TheVariants as faults
use Rattle.tr_forest.specs.Nodes.{Nodes, node, new_entry}
use Rattle.tr_forest.specs.Families.{depth, height, depth_within, height_within, is_under_within}
use Rattle.tr_forest.specs.Edits.{edited, refusal}

abbrev id : ℕ → NodeId
id n = record { 0 = n }

-- a child is attached to a parent, at (0, 0)
abbrev put : ℕ → ℕ → Edit
put child parent = edits.Attach (id child) (id parent) (record { h = pos 0; v = pos 0 })

-- three nodes of one kind, of which 1 and then 2 are attached to 0
abbrev family : NodeKind → Nodes
family kind = edited (edited (record { entries = new_entry kind 0 ∷ new_entry kind 0 ∷ new_entry kind 0 ∷ []; root = None }) (put 1 0)) (put 2 0)

-- a Z has the newest child in front, another node has it last
newest_in_front : (node (family kinds.Z) (id 0)).children ≡ id 2 ∷ id 1 ∷ []
newest_in_front = refl

newest_last : (node (family kinds.H) (id 0)).children ≡ id 1 ∷ id 2 ∷ []
newest_last = refl

lifted : (node (edited (family kinds.Z) (edits.Lift (id 1))) (id 0)).children ≡ id 1 ∷ id 2 ∷ []
lifted = refl

-- a T forgets the child that it showed by name when that leaves, and no other
forgets : (node (edited (edited (family (kinds.T None)) (edits.Show (id 0) (id 1))) (edits.Detach (id 1))) (id 0)).kind ≡ kinds.T None
forgets = refl

remembers : (node (edited (edited (family (kinds.T None)) (edits.Show (id 0) (id 1))) (edits.Detach (id 2))) (id 0)).kind ≡ kinds.T (Some (id 1))
remembers = refl

-- depths count from the topmost node, heights from the lowest
deep : depth (family kinds.V) (id 2) ≡ 2
unfolding depth_within
deep = refl

high : height (family kinds.V) (id 0) ≡ 2
unfolding height_within
high = refl

-- the first of several faults is named
cycle : refusal (family kinds.V) (put 0 1) ≡ Some faults.Cycle
unfolding is_under_within
cycle = refl

attached : refusal (edited (family kinds.V) (edits.Detach (id 2))) (put 1 0) ≡ Some faults.Attached
unfolding is_under_within
attached = refl

full : refusal (family (kinds.Border 1)) (put 2 0) ≡ Some faults.Occupied
unfolding is_under_within
full = refl

-- an edit with no fault
free : refusal (edited (family kinds.V) (edits.Detach (id 2))) (put 2 1) ≡ None
unfolding is_under_within depth_within height_within
free = refl
