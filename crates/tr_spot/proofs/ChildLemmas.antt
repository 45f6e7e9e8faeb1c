-- The first of a node's children whose domain has a point, and what their domains leave of a region.
use Rattle.std.proofs.Common.{◌≡◌, ℕ, zero, suc, ◌+◌, ◌-◌, ◌<◌, ◌≤◌, Bool, true, false, cond, ◌&&◌, ◌||◌, not, take, drop, List, [], ◌∷◌, Option, Some, None, Result, IfOk, length, get_or, refl, sym, ap, ◌∙◌, add-one, arith}
use Rattle.tr_forest.proofs.FamilyLemmas.{same_id}
use Rattle.std.proofs.Math.Seq.{drop-cons}
use Rattle.std.proofs.lemmas.List.{length-drop}
use Rattle.std.proofs.lemmas.Result.{IfOk-weaker}
use Rattle.tr_base.specs.declared.Point.{Point}
use Rattle.tr_base.specs.declared.NodeId.{NodeId}
use Rattle.tr_base.specs.Rects.{Edges, has_point}
use Rattle.tr_base.proofs.RectLemmas.{false-true}
use Rattle.tr_base.proofs.BoolLemmas.{and_false}
use Rattle.tr_region.specs.Points.{holds}
use Rattle.tr_tree.specs.Trees.{Seen}
use Rattle.tr_tree.specs.Places.{domain}
use Rattle.tr_spot.specs.Ways.{front, is_it, is_nobody}
use Rattle.tr_spot.proofs.NodeLemmas.{find_passes, zero_node}
use Rattle.tr_spot.proofs.WayLemmas.{it_is, equal_test, other_test}

-- the children from one on
pub drop_next : (cs : List NodeId) (i : ℕ) → i < length cs → drop i cs ≡ get_or cs i zero_node ∷ drop (i + 1) cs
drop_next cs i lt = rw add-one (drop-cons cs i zero_node lt)

-- the next one comes first among those that are left
front_next : (t : Seen) (p : Point) (i : ℕ) (cs : List NodeId) → i < length cs →
    front t p (drop i cs) ≡ cond (has_point (domain t (get_or cs i zero_node)) p) (Some (get_or cs i zero_node)) (front t p (drop (i + 1) cs))
front_next t p i cs lt = ap (front t p) (drop_next cs i lt)

-- ---- what goes on to one child

-- where the child's domain lacks the point, the walk doesn't go on to it
not_there : (t : Seen) (p : Point) (child : NodeId) (cs : List NodeId) → has_point (domain t child) p ≡ false → is_it child (front t p cs) ≡ false
not_there t p child cs out = by_test (is_it child (front t p cs)) refl
  where
    by_test : (b : Bool) → is_it child (front t p cs) ≡ b → b ≡ false
    by_test true e = absurd (false-true (sym out ∙ find_passes (λ c. has_point (domain t c) p) cs child (it_is child (front t p cs) e)))
    by_test false e = refl

-- it goes on to the child where the child's domain has the point, and that of no sibling in front
goes_there : (t : Seen) (p : Point) (child : NodeId) (cs : List NodeId) (k : ℕ) → k < length cs → (get_or cs k zero_node).0 ≡ child.0 →
    ((j : ℕ) → j < k → (get_or cs j zero_node).0 ≡ child.0 → ⊥) →
    (has_point (domain t child) p && is_nobody (front t p (take k cs))) ≡ is_it child (front t p cs)
goes_there t p child [] k lt same others = absurd (omega arith)
goes_there t p child (c ∷ cs) zero lt same others = by_test (has_point (domain t child) p) refl
  where
    has : has_point (domain t c) p ≡ has_point (domain t child) p
    has = ap (λ (n : NodeId). has_point (domain t n) p) (same_id c child same)

    by_test : (b : Bool) → has_point (domain t child) p ≡ b → (b && true) ≡ is_it child (front t p (c ∷ cs))
    by_test true e = sym (ap (λ b. is_it child (cond b (Some c) (front t p cs))) (has ∙ e) ∙ equal_test c.0 child.0 same)
    by_test false e = sym (not_there t p child (c ∷ cs) e)
goes_there t p child (c ∷ cs) (suc k) lt same others =
    by_test (has_point (domain t c) p) (goes_there t p child cs k (omega arith) same (λ j h. others (suc j) (omega arith)))
  where
    by_test : (b : Bool) → (has_point (domain t child) p && is_nobody (front t p (take k cs))) ≡ is_it child (front t p cs) →
        (has_point (domain t child) p && is_nobody (cond b (Some c) (front t p (take k cs)))) ≡ is_it child (cond b (Some c) (front t p cs))
    by_test true h = and_false (has_point (domain t child) p) ∙ sym (other_test c.0 child.0 (others 0 (omega arith)))
    by_test false h = h

pub goes_on : (t : Seen) (p : Point) (child : NodeId) (cs : List NodeId) (k : ℕ) (part : Bool) → k < length cs → (get_or cs k zero_node).0 ≡ child.0 →
    ((j : ℕ) → j < k → (get_or cs j zero_node).0 ≡ child.0 → ⊥) →
    ((part && has_point (domain t child) p) && is_nobody (front t p (take k cs))) ≡ (part && is_it child (front t p cs))
goes_on t p child cs k part lt same others =
    and_same part (has_point (domain t child) p) (is_nobody (front t p (take k cs))) ∙ ap (λ b. part && b) (goes_there t p child cs k lt same others)
  where
    and_same : (a b c : Bool) → ((a && b) && c) ≡ (a && (b && c))
    and_same true b c = refl
    and_same false b c = refl

-- to a node that isn't among the children it never goes on
pub goes_nowhere : (t : Seen) (p : Point) (child : NodeId) (cs : List NodeId) (k : ℕ) (part : Bool) → length cs ≤ k →
    ((j : ℕ) → j < k → (get_or cs j zero_node).0 ≡ child.0 → ⊥) → false ≡ (part && is_it child (front t p cs))
goes_nowhere t p child cs k part le others = sym (ap (λ b. part && b) (nobody cs (λ j h. others j (omega arith))) ∙ and_false part)
  where
    nobody : (cs : List NodeId) → ((j : ℕ) → j < length cs → (get_or cs j zero_node).0 ≡ child.0 → ⊥) → is_it child (front t p cs) ≡ false
    nobody [] f = refl
    nobody (c ∷ cs) f = by_test (has_point (domain t c) p) (nobody cs (λ j h. f (suc j) (omega arith)))
      where
        by_test : (b : Bool) → is_it child (front t p cs) ≡ false → is_it child (cond b (Some c) (front t p cs)) ≡ false
        by_test true e = other_test c.0 child.0 (f 0 (omega arith))
        by_test false e = e

-- ---- what no child has

-- a child takes away what its domain has
uncovered_step : (l b : Bool) (rest : Option NodeId) (c : NodeId) → ((l && not b) && is_nobody rest) ≡ (l && is_nobody (cond b (Some c) rest))
uncovered_step true true rest c = refl
uncovered_step true false rest c = refl
uncovered_step false true rest c = refl
uncovered_step false false rest c = refl

pub uncovered_next : (t : Seen) (p : Point) (i : ℕ) (cs : List NodeId) (left rest : Bool) → i < length cs →
    rest ≡ (left && not (has_point (domain t (get_or cs i zero_node)) p)) →
    (rest && is_nobody (front t p (drop (i + 1) cs))) ≡ (left && is_nobody (front t p (drop i cs)))
uncovered_next t p i cs left rest lt is =
    ap (λ b. b && is_nobody (front t p (drop (i + 1) cs))) is
    ∙ uncovered_step left (has_point (domain t (get_or cs i zero_node)) p) (front t p (drop (i + 1) cs)) (get_or cs i zero_node)
    ∙ ap (λ (o : Option NodeId). left && is_nobody o) (sym (front_next t p i cs lt))

-- ---- what some node's domain has

pub length_left : (cs : List NodeId) (k : ℕ) → length (drop k cs) ≡ length cs - k
length_left cs k = length-drop k cs

pub some_left : (cs : List NodeId) (k : ℕ) → k < length cs → 0 < length (drop k cs)
some_left cs k lt = omega (arith, length_left cs k)

-- a single node's
pub covered_one : (t : Seen) (p : Point) (cs : List NodeId) (n : NodeId) → length cs ≡ 1 → n ≡ get_or cs 0 zero_node →
    has_point (domain t n) p ≡ not (is_nobody (front t p cs))
covered_one t p [] n one is = absurd (omega arith)
covered_one t p (c ∷ []) n one is = ap (λ (m : NodeId). has_point (domain t m) p) is ∙ by_test (has_point (domain t c) p)
  where
    by_test : (b : Bool) → b ≡ not (is_nobody (cond b (Some c) None))
    by_test true = refl
    by_test false = refl
covered_one t p (c ∷ d ∷ cs) n one is = absurd (omega arith)

-- what either half has
pub covered_halves : (t : Seen) (p : Point) (cs : List NodeId) (k : ℕ) →
    (not (is_nobody (front t p (take k cs))) || not (is_nobody (front t p (drop k cs)))) ≡ not (is_nobody (front t p cs))
covered_halves t p cs zero = refl
covered_halves t p [] (suc k) = refl
covered_halves t p (c ∷ cs) (suc k) = by_test (has_point (domain t c) p) (covered_halves t p cs k)
  where
    by_test : (b : Bool) →
        (not (is_nobody (front t p (take k cs))) || not (is_nobody (front t p (drop k cs)))) ≡ not (is_nobody (front t p cs)) →
        (not (is_nobody (cond b (Some c) (front t p (take k cs)))) || not (is_nobody (front t p (drop k cs))))
        ≡ not (is_nobody (cond b (Some c) (front t p cs)))
    by_test true e = refl
    by_test false e = e

-- what none of the nodes that are left has, where the others have nothing of it
pub outside_left : (l a b : Bool) → a ≡ not b → (l && not a) ≡ (l && b)
outside_left l a true e = ap (λ x. l && not x) e
outside_left l a false e = ap (λ x. l && not x) e

-- ---- answers

-- a region that holds the points of one test holds those of an equal one
pub holds_as : {E : Type 0} (answer : Result (List Edges) E) (a b : Point → Bool) → ((p : Point) → a p ≡ b p) →
    IfOk answer (λ r. (p : Point) → holds r p ≡ a p) → IfOk answer (λ r. (p : Point) → holds r p ≡ b p)
holds_as answer a b same h = IfOk-weaker answer (λ r. (p : Point) → holds r p ≡ a p) (λ r. (p : Point) → holds r p ≡ b p) (λ r k p. k p ∙ same p) h
