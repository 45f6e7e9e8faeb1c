-- What belongs to a node lies on the screen.
use Rattle.std.proofs.Common.{◌≡◌, Bool, true, false, ◌&&◌, refl, sym, ap, ◌∙◌}
use Rattle.tr_base.specs.declared.Point.{Point}
use Rattle.tr_base.specs.declared.NodeId.{NodeId}
use Rattle.tr_base.specs.Rects.{has_point, whole_of}
use Rattle.tr_base.proofs.BoolLemmas.{and_false}
use Rattle.tr_forest.specs.Families.{levels}
use Rattle.tr_forest.specs.Forests.{IsForest}
use Rattle.tr_tree.specs.Trees.{Seen}
use Rattle.tr_spot.specs.Spots.{spot, is_spot_of}
use Rattle.tr_spot.specs.Ways.{comes_to, ends_at, is_it}
use Rattle.tr_spot.proofs.SpotLemmas.{spot_is}
use Rattle.tr_spot.proofs.WayLemmas.{leads}

-- what belongs to a node lies on the screen
pub own_on : (t : Seen) → IsForest t.nodes → (n : NodeId) (p : Point) →
    (has_point (whole_of t.size) p && is_spot_of t n (spot t p)) ≡ is_spot_of t n (spot t p)
own_on t forest n p =
    ap (λ b. has_point (whole_of t.size) p && b) (sym (spot_is t forest p n))
    ∙ both (has_point (whole_of t.size) p) (is_it n (ends_at t p t.nodes.root))
    ∙ spot_is t forest p n
  where
    both : (a b : Bool) → (a && (a && b)) ≡ (a && b)
    both true b = refl
    both false b = refl

-- and so does each point at which the walk comes to a node
pub comes_on : (t : Seen) → IsForest t.nodes → (n : NodeId) (p : Point) → (has_point (whole_of t.size) p && comes_to t p n) ≡ comes_to t p n
comes_on t forest n p = by_test (comes_to t p n) refl
  where
    by_test : (b : Bool) → comes_to t p n ≡ b → (has_point (whole_of t.size) p && comes_to t p n) ≡ comes_to t p n
    by_test true e = ap (λ b. b && comes_to t p n) (leads levels t forest p n e).screen
    by_test false e = ap (λ b. has_point (whole_of t.size) p && b) e ∙ and_false (has_point (whole_of t.size) p) ∙ sym e
