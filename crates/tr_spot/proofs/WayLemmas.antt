-- The nodes to which the walk from the root comes, by their parents, and the node at which it ends.
use Rattle.std.proofs.Common.{◌≡◌, ℕ, zero, suc, ◌+◌, ◌≤◌, Bool, true, false, cond, ◌&&◌, ◌==◌, Option, Some, None, refl, sym, ap, subst, ◌∙◌, arith}
use Rattle.std.proofs.lemmas.Bool.Decides.{nat_tests}
use Rattle.tr_base.specs.declared.Point.{Point}
use Rattle.tr_base.specs.declared.NodeId.{NodeId}
use Rattle.tr_base.specs.Rects.{has_point, whole_of}
use Rattle.tr_base.proofs.RectLemmas.{false-true}
use Rattle.tr_forest.specs.Nodes.{Nodes, node}
use Rattle.tr_forest.specs.Families.{levels, depth, depth_within, deeper, of_parent}
use Rattle.tr_forest.specs.Forests.{IsForest}
use Rattle.tr_forest.specs.Edits.{is_root}
use Rattle.tr_forest.proofs.FamilyLemmas.{same_id, no_depth}
use Rattle.tr_tree.specs.Trees.{Seen}
use Rattle.tr_spot.specs.Spots.{followed, owner, owner_within}
use Rattle.tr_spot.specs.Ways.{front, is_it, is_nobody, comes_below, comes_within, comes_to, ends_at, owns}
use Rattle.tr_spot.proofs.NodeLemmas.{IsBelow}
use Rattle.tr_spot.proofs.OwnerLemmas.{front_below, owner_stays, owner_goes_on}

-- ---- tests

pub equal_numbers : (m n : ℕ) → (m == n) ≡ true → m ≡ n
equal_numbers m n h = grind (arith, nat_tests)

pub equal_test : (m n : ℕ) → m ≡ n → (m == n) ≡ true
equal_test m n h = grind (arith, nat_tests)

pub other_test : (m n : ℕ) → (m ≡ n → ⊥) → (m == n) ≡ false
other_test m n h = grind (arith, nat_tests)

pub and_left : (a b : Bool) → (a && b) ≡ true → a ≡ true
and_left true b h = refl
and_left false b h = absurd (false-true h)

pub and_right : (a b : Bool) → (a && b) ≡ true → b ≡ true
and_right true b h = h
and_right false b h = absurd (false-true h)

pub same_tests : (a b : Bool) → (a ≡ true → b ≡ true) → (b ≡ true → a ≡ true) → a ≡ b
same_tests true true f g = refl
same_tests true false f g = sym (f refl)
same_tests false true f g = g refl
same_tests false false f g = refl

pub it_is : (n : NodeId) (o : Option NodeId) → is_it n o ≡ true → o ≡ Some n
it_is n None h = absurd (false-true h)
it_is n (Some m) h = ap (λ (k : NodeId). Some k) (same_id m n (equal_numbers m.0 n.0 h))

nobody_is : (o : Option NodeId) → is_nobody o ≡ true → o ≡ None
nobody_is None h = refl
nobody_is (Some m) h = absurd (false-true h)

-- ---- one step

comes_below_same : (t : Seen) (p : Point) (n : NodeId) (o : Option NodeId) (u v : NodeId → Bool) (dep : NodeId → ℕ) (m : ℕ) →
    deeper o dep ≤ suc m → ((q : NodeId) → dep q ≤ m → u q ≡ v q) → comes_below t p n o u ≡ comes_below t p n o v
comes_below_same t p n None u v dep m h ih = refl
comes_below_same t p n (Some q) u v dep m h ih = ap (λ b. b && is_it n (front t p (node t.nodes q).children)) (ih q (omega arith))

comes_enough : (f : ℕ) (t : Seen) (p : Point) (n : NodeId) → depth_within f t.nodes n ≤ f → comes_within (suc f) t p n ≡ comes_within f t p n
unfolding comes_within depth_within
comes_enough zero t p n h = absurd (no_depth t.nodes n h)
comes_enough (suc f) t p n h =
    ap (λ b. cond (is_root t.nodes n) (has_point (whole_of t.size) p) b)
    (comes_below_same t p n (node t.nodes n).parent (comes_within (suc f) t p) (comes_within f t p)
    (depth_within f t.nodes) f h (λ q k. comes_enough f t p q k))

comes_next : (t : Seen) (p : Point) (n : NodeId) →
    comes_within (suc levels) t p n ≡ cond (is_root t.nodes n) (has_point (whole_of t.size) p) (comes_below t p n (node t.nodes n).parent (comes_to t p))
unfolding comes_within
comes_next t p n = refl

comes_law : (t : Seen) → IsForest t.nodes → (p : Point) (n : NodeId) →
    comes_to t p n ≡ cond (is_root t.nodes n) (has_point (whole_of t.size) p) (comes_below t p n (node t.nodes n).parent (comes_to t p))
comes_law t forest p n = sym (comes_enough levels t p n (forest.depths n)) ∙ comes_next t p n

-- it comes to the root at each point of the screen
pub comes_root : (t : Seen) → IsForest t.nodes → (p : Point) (n : NodeId) → is_root t.nodes n ≡ true → comes_to t p n ≡ has_point (whole_of t.size) p
comes_root t forest p n root = comes_law t forest p n ∙ rw root refl

-- to another node without a parent it never comes
pub comes_nowhere : (t : Seen) → IsForest t.nodes → (p : Point) (n : NodeId) → is_root t.nodes n ≡ false →
    (node t.nodes n).parent ≡ None → comes_to t p n ≡ false
comes_nowhere t forest p n other top = comes_law t forest p n ∙ rw (other, top) refl

-- to a child it comes through its parent
pub comes_parent : (t : Seen) → IsForest t.nodes → (p : Point) (n parent : NodeId) → is_root t.nodes n ≡ false → (node t.nodes n).parent ≡ Some parent →
    comes_to t p n ≡ (comes_to t p parent && is_it n (front t p (node t.nodes parent).children))
comes_parent t forest p n parent other up = comes_law t forest p n ∙ rw (other, up) refl

-- the root is told by its number, and is no child
root_is : (o : Option NodeId) (n : NodeId) → of_parent o (λ root. root.0 == n.0) ≡ true → o ≡ Some n
root_is None n h = absurd (false-true h)
root_is (Some m) n h = ap (λ (k : NodeId). Some k) (same_id m n (equal_numbers m.0 n.0 h))

pub child_no_root : (t : Nodes) → IsForest t → (parent n : NodeId) → (node t n).parent ≡ Some parent → is_root t n ≡ false
child_no_root t forest parent n up = by_test (is_root t n) refl
  where
    by_test : (b : Bool) → is_root t n ≡ b → b ≡ false
    by_test true is = absurd (let none : None ≡ Some parent = sym (forest.top n (root_is t.root n is)) ∙ up in cc none)
    by_test false is = refl

-- ---- where the walk comes to a node, the owner at the root is the owner at the node

pub record Leads (t : Seen) (p : Point) (n : NodeId) : Type 0 where
  pub screen : has_point (whole_of t.size) p ≡ true
  pub root : NodeId
  pub is_root : t.nodes.root ≡ Some root
  pub owner : owner t root p ≡ owner t n p

leads_below : (f : ℕ) (t : Seen) → IsForest t.nodes → (p : Point) (n : NodeId) → ((q : NodeId) → comes_within f t p q ≡ true → Leads t p q) →
    (o : Option NodeId) → comes_below t p n o (comes_within f t p) ≡ true → Leads t p n
leads_below f t forest p n above None k = absurd (false-true k)
leads_below f t forest p n above (Some q) k =
    let way : Leads t p q = above q (and_left _ _ k) in
    record {
      screen = way.screen;
      root = way.root;
      is_root = way.is_root;
      owner = way.owner ∙ owner_goes_on t forest q n p (it_is n _ (and_right (comes_within f t p q) _ k));
    }

leads_root : (t : Seen) (p : Point) (n : NodeId) (below : Bool) → (below ≡ true → Leads t p n) → (b : Bool) → is_root t.nodes n ≡ b →
    cond b (has_point (whole_of t.size) p) below ≡ true → Leads t p n
leads_root t p n below up true is k = record { screen = k; root = n; is_root = root_is t.nodes.root n is; owner = refl }
leads_root t p n below up false is k = up k

pub leads : (f : ℕ) (t : Seen) → IsForest t.nodes → (p : Point) (n : NodeId) → comes_within f t p n ≡ true → Leads t p n
unfolding comes_within
leads zero t forest p n h = absurd (false-true h)
leads (suc f) t forest p n h =
    leads_root t p n (comes_below t p n (node t.nodes n).parent (comes_within f t p))
    (leads_below f t forest p n (λ q k. leads f t forest p q k) (node t.nodes n).parent) (is_root t.nodes n) refl h

-- ---- the walk ends at a node to which it comes, and where no child has the point

pub record Ends (t : Seen) (p : Point) (n : NodeId) : Type 0 where
  pub comes : comes_to t p n ≡ true
  pub none : front t p (node t.nodes n).children ≡ None

-- where no level is left there is no child to go on to
ends_deepest : (t : Seen) → IsForest t.nodes → (p : Point) (n : NodeId) → levels ≤ depth t.nodes n → (o : Option NodeId) →
    front t p (node t.nodes n).children ≡ o → o ≡ None
ends_deepest t forest p n k None e = refl
ends_deepest t forest p n k (Some c) e = absurd (let below : IsBelow t.nodes n c = front_below t forest n c p e in omega (arith, below.deeper, below.most))

ends_below : (f : ℕ) (t : Seen) → IsForest t.nodes → (p : Point) (n : NodeId) → comes_to t p n ≡ true →
    ((c : NodeId) → IsBelow t.nodes n c → comes_to t p c ≡ true → Ends t p (owner_within f t c p)) →
    (o : Option NodeId) → front t p (node t.nodes n).children ≡ o → Ends t p (followed n (λ c. owner_within f t c p) o)
ends_below f t forest p n h down None e = record { comes = h; none = e }
ends_below f t forest p n h down (Some c) e =
    let below : IsBelow t.nodes n c = front_below t forest n c p e in
    down c below (comes_parent t forest p c n (child_no_root t.nodes forest n c below.parent) below.parent ∙ rw (h, e) (equal_test c.0 c.0 refl))

ends : (f : ℕ) (t : Seen) → IsForest t.nodes → (p : Point) (n : NodeId) → comes_to t p n ≡ true → levels ≤ f + depth t.nodes n → Ends t p (owner_within f t n p)
unfolding owner_within
ends zero t forest p n h k = record { comes = h; none = ends_deepest t forest p n (omega arith) (front t p (node t.nodes n).children) refl }
ends (suc f) t forest p n h k =
    ends_below f t forest p n h (λ c below comes. ends f t forest p c comes (omega (arith, below.deeper))) (front t p (node t.nodes n).children) refl

-- the node at which the walk from the root ends owns the point
pub owns_end : (t : Seen) (p : Point) (n root : NodeId) → t.nodes.root ≡ Some root → has_point (whole_of t.size) p ≡ true →
    owner t root p ≡ n → owns t p n ≡ true
owns_end t p n root is_root screen end =
    ap (λ b. b && is_it n (ends_at t p t.nodes.root)) screen
    ∙ ap (λ (o : Option NodeId). is_it n (ends_at t p o)) is_root
    ∙ equal_test _ _ (ap (λ (m : NodeId). m.0) end)

-- a node owns the points at which the walk comes to it and finds no child to go on to
pub owns_is : (t : Seen) → IsForest t.nodes → (p : Point) (n : NodeId) → (comes_to t p n && is_nobody (front t p (node t.nodes n).children)) ≡ owns t p n
owns_is t forest p n = same_tests _ _ there back
  where
    there : (comes_to t p n && is_nobody (front t p (node t.nodes n).children)) ≡ true → owns t p n ≡ true
    there h =
        let way : Leads t p n = leads levels t forest p n (and_left _ _ h) in
        let none : front t p (node t.nodes n).children ≡ None = nobody_is _ (and_right (comes_to t p n) _ h) in
        owns_end t p n way.root way.is_root way.screen (way.owner ∙ owner_stays t forest n p none)

    by_root : (o : Option NodeId) → t.nodes.root ≡ o → has_point (whole_of t.size) p ≡ true → is_it n (ends_at t p o) ≡ true → Ends t p n
    by_root None e screen h = absurd (false-true h)
    by_root (Some root) e screen h =
        let rooted : is_root t.nodes root ≡ true = rw e (equal_test root.0 root.0 refl) in
        let at : Ends t p (owner t root p) = ends levels t forest p root (comes_root t forest p root rooted ∙ screen) (omega arith) in
        subst (λ (m : NodeId). Ends t p m) (same_id _ n (equal_numbers _ n.0 h)) at

    back : owns t p n ≡ true → (comes_to t p n && is_nobody (front t p (node t.nodes n).children)) ≡ true
    back h =
        let at : Ends t p n = by_root t.nodes.root refl (and_left _ _ h) (and_right (has_point (whole_of t.size) p) _ h) in
        rw (at.comes, at.none) refl
