-- What a point belongs to is a leaf or a node of the tree, and has a name.
use Rattle.std.proofs.Common.{◌≡◌, ◌<◌, Bool, true, false, cond, Option, Some, None, length, refl, ap, arith}
use Rattle.std.specs.Prelude.{⊤}
use Rattle.tr_base.specs.declared.Point.{Point}
use Rattle.tr_base.specs.declared.NodeId.{NodeId}
use Rattle.tr_base.specs.declared.Spot.{Spot}
use Rattle.tr_base.specs.declared.Spot.TheVariants as spots
use Rattle.tr_base.specs.Rects.{has_point, whole_of}
use Rattle.tr_forest.specs.declared.NodeKind.{NodeKind}
use Rattle.tr_forest.specs.declared.NodeKind.TheVariants as kinds
use Rattle.tr_forest.specs.Nodes.{Nodes, IsNode, leaf_count, leaf_of, node}
use Rattle.tr_forest.specs.Families.{levels}
use Rattle.tr_forest.specs.Forests.{IsForest}
use Rattle.tr_tree.specs.Trees.{Seen}
use Rattle.tr_spot.specs.Spots.{owner, spot, spot_below, spot_on}
use Rattle.tr_spot.proofs.GainLemmas.{owner_is_node}
use Rattle.tr_journal.specs.Names.{Names}
use Rattle.tr_dump.specs.Names.{IsNamedSpot}
use Rattle.tr_run.specs.Views.{AreNamed}

-- the spot is that of a leaf or a node of the tree, or off the screen
abbrev pub IsWithin : Nodes → Spot → Type 0
IsWithin t (spots.Leaf leaf at size kind) = leaf.0 < leaf_count t
IsWithin t (spots.Frame n tint kind) = IsNode t n
IsWithin t spots.Off = ⊤

-- the spot of a node
by_kind : (t : Seen) → IsForest t.nodes → (p : Point) (n : NodeId) → IsNode t.nodes n → (kind : NodeKind) → (node t.nodes n).kind ≡ kind →
    IsWithin t.nodes (spot_on t p n kind)
by_kind t forest p n is (kinds.Leaf leaf shapes) e = forest.numbered n leaf (ap leaf_of e)
by_kind t forest p n is kind e = is

-- the spot of a point of the screen
by_root : (t : Seen) → IsForest t.nodes → (p : Point) (o : Option NodeId) → t.nodes.root ≡ o → IsWithin t.nodes (spot_below t p o)
by_root t forest p None e = tt
by_root t forest p (Some root) e =
    by_kind t forest p (owner t root p) (owner_is_node levels t forest root p (forest.root root e)) (node t.nodes (owner t root p)).kind refl

-- the spot of each point
pub spot_within : (t : Seen) → IsForest t.nodes → (p : Point) → IsWithin t.nodes (spot t p)
spot_within t forest p = by_screen (has_point (whole_of t.size) p) (by_root t forest p t.nodes.root refl)
  where
    by_screen : (b : Bool) → IsWithin t.nodes (spot_below t p t.nodes.root) → IsWithin t.nodes (cond b (spot_below t p t.nodes.root) spots.Off)
    by_screen true h = h
    by_screen false h = tt

-- it has a name, where as many nodes and leaves have names
pub spot_named : (names : Names) (old t : Nodes) (s : Spot) → AreNamed names old → length t.entries ≡ length old.entries →
    leaf_count t ≡ leaf_count old → IsWithin t s → IsNamedSpot names s
spot_named names old t (spots.Leaf leaf at size kind) named nodes leaves within = record { within = omega (arith, named.leaves, leaves, within) }
spot_named names old t (spots.Frame n tint kind) named nodes leaves within = record { within = omega (arith, named.nodes, nodes, within.within) }
spot_named names old t spots.Off named nodes leaves within = tt
