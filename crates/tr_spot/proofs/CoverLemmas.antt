-- Where a child has moved with all below it, or has come in front: what lies elsewhere owns what it owned, where the walk doesn't come to the child,
-- and what lies below the child owns the points to which the walk comes, of those that it owned before they moved.
use Rattle.std.proofs.Common.{◌≡◌, ℕ, zero, suc, ◌+◌, ◌≤◌, Bool, true, false, cond, not, ◌||◌, ◌==◌, List, [], ◌∷◌, Option, Some, None, refl, sym, ap, ◌∙◌, arith}
use Rattle.std.specs.List.{find}
use Rattle.tr_base.specs.declared.Point.{Point}
use Rattle.tr_base.specs.declared.Size.{Size}
use Rattle.tr_base.specs.declared.NodeId.{NodeId}
use Rattle.tr_base.specs.Rects.{before_shift, has_point, whole_of}
use Rattle.tr_base.proofs.RectLemmas.{false-true}
use Rattle.tr_forest.specs.Nodes.{Nodes, node}
use Rattle.tr_forest.specs.Families.{levels, depth, is_among, is_under, is_under_within, of_parent}
use Rattle.tr_forest.specs.Forests.{IsForest}
use Rattle.tr_forest.specs.Edits.{without}
use Rattle.tr_forest.proofs.FamilyLemmas.{by_id, depth_child, test_apart, test_same, tested_same, under_itself, under_law, under_suc, under_zero, same_id, hanger_is_node, parent_case, under_deeper}
use Rattle.tr_forest.proofs.Lists.{among_left, among_rest}
use Rattle.tr_tree.specs.Trees.{Seen}
use Rattle.tr_tree.specs.Places.{domain}
use Rattle.tr_spot.specs.Spots.{followed, owner, owner_within}
use Rattle.tr_spot.specs.Ways.{comes_to, ends_at, front, is_it, is_nobody, owns}
use Rattle.tr_spot.specs.Changes.{without_child}
use Rattle.tr_spot.specs.Covers.{IsCarried, comes_upon, lies_under}
use Rattle.tr_spot.proofs.NodeLemmas.{find_among}
use Rattle.tr_spot.proofs.OwnerLemmas.{followed_same}
use Rattle.tr_spot.proofs.ChangeLemmas.{among_others, find_same}
use Rattle.tr_spot.proofs.WayLemmas.{Leads, and_left, and_right, child_no_root, comes_parent, equal_numbers, leads, owns_end, owns_is}

-- ---- the child, and others

-- a node is that child, or another one
by_child : {P : Type 0} (child : Option NodeId) (d : NodeId) → (child ≡ Some d → P) → ((child ≡ Some d → ⊥) → P) → P
by_child None d is other = other (λ e. cc)
by_child (Some c) d is other = by_id c d (λ e. is (ap (λ (k : NodeId). Some k) e)) (λ ne. other (λ e. let same : c ≡ d = cc in test_apart c d ne same))

-- what isn't found may as well be left out
skips : (test : NodeId → Bool) (n : NodeId) (cs : List NodeId) → (find test cs ≡ Some n → ⊥) → find test (without n cs) ≡ find test cs
skips test n [] h = refl
skips test n (c ∷ cs) h = by_id c n
    (λ same. here same (off (test c) refl same) (skips test n cs))
    (λ other. ap (λ b. find test (cond (not b) (c ∷ without n cs) (without n cs))) other ∙ there (test c) refl (skips test n cs))
  where
    off : (b : Bool) → test c ≡ b → c ≡ n → test c ≡ false
    off true e same = absurd (h (ap (λ b. cond b (Some c) (find test cs)) e ∙ ap (λ (k : NodeId). Some k) same))
    off false e same = e

    here : c ≡ n → test c ≡ false → ((find test cs ≡ Some n → ⊥) → find test (without n cs) ≡ find test cs) →
        find test (without n (c ∷ cs)) ≡ find test (c ∷ cs)
    here same none rest =
        ap (λ b. find test (cond (not b) (c ∷ without n cs) (without n cs))) (test_same c n same)
        ∙ rest (λ e. h (ap (λ b. cond b (Some c) (find test cs)) none ∙ e))
        ∙ sym (ap (λ b. cond b (Some c) (find test cs)) none)

    there : (b : Bool) → test c ≡ b → ((find test cs ≡ Some n → ⊥) → find test (without n cs) ≡ find test cs) →
        cond (test c) (Some c) (find test (without n cs)) ≡ cond (test c) (Some c) (find test cs)
    there true e rest = rw e refl
    there false e rest = rw e (rest (λ k. h (ap (λ b. cond b (Some c) (find test cs)) e ∙ k)))

find_skips : (test : NodeId → Bool) (child : Option NodeId) (cs : List NodeId) → ((n : NodeId) → child ≡ Some n → find test cs ≡ Some n → ⊥) →
    find test (without_child child cs) ≡ find test cs
find_skips test None cs h = refl
find_skips test (Some n) cs h = skips test n cs (λ e. h n refl e)

-- a list that doesn't have a node is none the shorter without it
without_none : (n : NodeId) (cs : List NodeId) → is_among n cs ≡ false → without n cs ≡ cs
without_none n [] h = refl
without_none n (c ∷ cs) h = by_test (c.0 == n.0) refl h (without_none n cs)
  where
    by_test : (b : Bool) → (c.0 == n.0) ≡ b → (b || is_among n cs) ≡ false → (is_among n cs ≡ false → without n cs ≡ cs) →
        cond (not (c.0 == n.0)) (c ∷ without n cs) (without n cs) ≡ c ∷ cs
    by_test true e k rest = absurd (false-true (sym k))
    by_test false e k rest = ap (λ b. cond (not b) (c ∷ without n cs) (without n cs)) e ∙ ap (λ (ks : List NodeId). c ∷ ks) (rest k)

-- one of a list without the child isn't the child
not_child : (child : Option NodeId) (d : NodeId) (cs : List NodeId) → is_among d (without_child child cs) ≡ true → child ≡ Some d → ⊥
not_child None d cs h e = cc
not_child (Some c) d cs h e =
    let same : c ≡ d = cc in
    test_apart d c (among_left d c cs h).1 (sym same)

-- a child of the one list, other than that child, is one of the other list too
among_both : (child : Option NodeId) (d : NodeId) (cs ks : List NodeId) → without_child child cs ≡ without_child child ks → (child ≡ Some d → ⊥) →
    is_among d cs ≡ true → is_among d ks ≡ true
among_both None d cs ks same other h = ap (λ (ls : List NodeId). is_among d ls) (sym same) ∙ h
among_both (Some c) d cs ks same other h = by_id d c
    (λ e. absurd (other (ap (λ (k : NodeId). Some k) (sym e))))
    (λ ne. (among_left d c ks (ap (λ (ls : List NodeId). is_among d ls) (sym same) ∙ among_rest d c cs ne ∙ h)).0)

-- ---- what lies below the child

child_under : (t : Nodes) (child : Option NodeId) (d : NodeId) → child ≡ Some d → lies_under t child d ≡ true
child_under t child d e = ap (λ (o : Option NodeId). lies_under t o d) e ∙ under_itself levels t d d refl

-- another node does where its parent does
under_parent : (t : Nodes) → IsForest t → (child : Option NodeId) (n d : NodeId) → (node t d).parent ≡ Some n → (child ≡ Some d → ⊥) →
    lies_under t child d ≡ lies_under t child n
under_parent t forest None n d up other = refl
under_parent t forest (Some c) n d up other =
    under_law t c d forest
    ∙ ap (λ b. b || of_parent (node t d).parent (is_under t c)) (by_test (d.0 == c.0) refl)
    ∙ ap (λ (o : Option NodeId). of_parent o (is_under t c)) up
  where
    by_test : (b : Bool) → (d.0 == c.0) ≡ b → (d.0 == c.0) ≡ false
    by_test true h = absurd (other (ap (λ (k : NodeId). Some k) (sym (tested_same d c h))))
    by_test false h = h

lies_below : (t : Nodes) → IsForest t → (child : Option NodeId) (n d : NodeId) → ((child ≡ Some d → ⊥) → (node t d).parent ≡ Some n) →
    lies_under t child n ≡ true → lies_under t child d ≡ true
lies_below t forest child n d up h = by_child child d (λ e. child_under t child d e) (λ other. under_parent t forest child n d (up other) other ∙ h)

-- in both trees the children of a node hang below it in the new one, but for the child
abbrev Hang : Seen → Nodes → Option NodeId → Type 0
Hang t new child = (n d : NodeId) → is_among d (node t.nodes n).children ≡ true → (child ≡ Some d → ⊥) → (node new d).parent ≡ Some n

hang_is : (by : Point) (child : Option NodeId) (was is : Seen) → IsCarried by child was is → Hang is is.nodes child
hang_is by child was is c n d among other = c.after.children n d among

hang_was : (by : Point) (child : Option NodeId) (was is : Seen) → IsCarried by child was is → Hang was is.nodes child
hang_was by child was is c n d among other =
    c.after.children n d (among_both child d (node was.nodes n).children (node is.nodes n).children (sym (c.alike.children n)) other among)

-- the walk stays below the child
walk_stays : (f : ℕ) (t : Seen) (new : Nodes) → IsForest new → (child : Option NodeId) → Hang t new child → (p : Point) (n : NodeId) →
    lies_under new child n ≡ true → lies_under new child (owner_within f t n p) ≡ true
unfolding owner_within
walk_stays zero t new forest child hang p n h = h
walk_stays (suc f) t new forest child hang p n h =
    by_front (λ d k. walk_stays f t new forest child hang p d k) (front t p (node t.nodes n).children) refl
  where
    by_front : ((d : NodeId) → lies_under new child d ≡ true → lies_under new child (owner_within f t d p) ≡ true) →
        (o : Option NodeId) → front t p (node t.nodes n).children ≡ o → lies_under new child (followed n (λ d. owner_within f t d p) o) ≡ true
    by_front rest None e = h
    by_front rest (Some d) e =
        rest d (lies_below new forest child n d (hang n d (find_among (λ k. has_point (domain t k) p) (node t.nodes n).children d e)) h)

-- ---- where neither walk comes to the child, both come to the same owner

-- a child to which the walk goes on isn't that child, if the owner doesn't lie below it
other_child : (f : ℕ) (t : Seen) (new : Nodes) → IsForest new → (child : Option NodeId) → Hang t new child → (p : Point) (n : NodeId) →
    lies_under new child (followed n (λ d. owner_within f t d p) (front t p (node t.nodes n).children)) ≡ false →
    (d : NodeId) → child ≡ Some d → front t p (node t.nodes n).children ≡ Some d → ⊥
other_child f t new forest child hang p n out d e found =
    false-true (sym out ∙ ap (λ (o : Option NodeId). lies_under new child (followed n (λ k. owner_within f t k p) o)) found
    ∙ walk_stays f t new forest child hang p d (child_under new child d e))

-- the same child is in front in both trees
front_apart : (by : Point) (child : Option NodeId) (was is : Seen) → IsCarried by child was is → (p : Point) (n : NodeId) →
    lies_under is.nodes child n ≡ false → ((d : NodeId) → child ≡ Some d → front is p (node is.nodes n).children ≡ Some d → ⊥) →
    ((d : NodeId) → child ≡ Some d → front was p (node was.nodes n).children ≡ Some d → ⊥) →
    front is p (node is.nodes n).children ≡ front was p (node was.nodes n).children
front_apart by child was is c p n out new old =
    let in_is : NodeId → Bool = λ d. has_point (domain is d) p in
    let in_was : NodeId → Bool = λ d. has_point (domain was d) p in
    sym (find_skips in_is child (node is.nodes n).children new)
    ∙ find_same in_is in_was (without_child child (node is.nodes n).children) (λ d h. same d h)
    ∙ ap (λ (ks : List NodeId). find in_was ks) (c.alike.children n)
    ∙ find_skips in_was child (node was.nodes n).children old
  where
    same : (d : NodeId) → is_among d (without_child child (node is.nodes n).children) ≡ true → has_point (domain is d) p ≡ has_point (domain was d) p
    same d h =
        let up : (node is.nodes d).parent ≡ Some n = c.after.children n d (among_others child d (node is.nodes n).children h) in
        c.still d p (hanger_is_node is.nodes d n up)
        (under_parent is.nodes c.after child n d up (not_child child d (node is.nodes n).children h) ∙ out)

owner_apart : (f : ℕ) (by : Point) (child : Option NodeId) (was is : Seen) → IsCarried by child was is → (p : Point) (n : NodeId) →
    lies_under is.nodes child n ≡ false → lies_under is.nodes child (owner_within f is n p) ≡ false →
    lies_under is.nodes child (owner_within f was n p) ≡ false → owner_within f is n p ≡ owner_within f was n p
unfolding owner_within
owner_apart zero by child was is c p n out new old = refl
owner_apart (suc f) by child was is c p n out new old =
    ap (λ (o : Option NodeId). followed n (λ d. owner_within f is d p) o) same
    ∙ followed_same n (front was p (node was.nodes n).children) (λ d. owner_within f is d p) (λ d. owner_within f was d p)
    (λ d e. owner_apart f by child was is c p d (below d e) (still_new d e) (still_old d e))
  where
    old_other : (d : NodeId) → child ≡ Some d → front was p (node was.nodes n).children ≡ Some d → ⊥
    old_other = other_child f was is.nodes c.after child (hang_was by child was is c) p n old

    same : front is p (node is.nodes n).children ≡ front was p (node was.nodes n).children
    same = front_apart by child was is c p n out (other_child f is is.nodes c.after child (hang_is by child was is c) p n new) old_other

    below : (d : NodeId) → front was p (node was.nodes n).children ≡ Some d → lies_under is.nodes child d ≡ false
    below d e =
        let other : child ≡ Some d → ⊥ = λ k. old_other d k e in
        let among : is_among d (node was.nodes n).children ≡ true = find_among (λ k. has_point (domain was k) p) (node was.nodes n).children d e in
        under_parent is.nodes c.after child n d (hang_was by child was is c n d among other) other ∙ out

    still_new : (d : NodeId) → front was p (node was.nodes n).children ≡ Some d → lies_under is.nodes child (owner_within f is d p) ≡ false
    still_new d e = sym (ap (λ (o : Option NodeId). lies_under is.nodes child (followed n (λ k. owner_within f is k p) o)) (same ∙ e)) ∙ new

    still_old : (d : NodeId) → front was p (node was.nodes n).children ≡ Some d → lies_under is.nodes child (owner_within f was d p) ≡ false
    still_old d e = sym (ap (λ (o : Option NodeId). lies_under is.nodes child (followed n (λ k. owner_within f was k p) o)) e) ∙ old

-- ---- below the child the walk comes to the same owner as before the move

-- a node that isn't the top lies below it where its parent does
above : (f : ℕ) (t : Nodes) (top n : NodeId) → (n.0 == top.0) ≡ false → is_under_within (suc f) t top n ≡ true →
    (q : NodeId) × ((node t n).parent ≡ Some q) × (is_under_within f t top q ≡ true)
above f t top n ne h =
    parent_case (node t n).parent (is_under_within f t top)
    (sym (under_suc f t top n ∙ ap (λ b. b || of_parent (node t n).parent (is_under_within f t top)) ne) ∙ h)

-- so the top is no child of what lies below it
no_child : (t : Nodes) → IsForest t → (top n : NodeId) → is_under t top n ≡ true → is_among top (node t n).children ≡ false
no_child t forest top n h = by_test (is_among top (node t n).children) refl
  where
    by_test : (b : Bool) → is_among top (node t n).children ≡ b → b ≡ false
    by_test true e =
        let deep : depth t top ≡ depth t n + 1 = depth_child t n top forest e in
        let less : depth t top ≤ depth t n = under_deeper levels t forest top n h in
        absurd (omega arith)
    by_test false e = refl

-- what lies below the child has lain below it
under_was : (f : ℕ) (by : Point) (c : NodeId) (was is : Seen) → IsCarried by (Some c) was is → (n : NodeId) →
    is_under_within f is.nodes c n ≡ true → is_under_within f was.nodes c n ≡ true
under_was zero by c was is carried n h = under_zero was.nodes c n ∙ sym (under_zero is.nodes c n) ∙ h
under_was (suc f) by c was is carried n h = by_id n c
    (λ same. under_itself (suc f) was.nodes c n same)
    (λ ne.
    let up = above f is.nodes c n ne h in
    let other : Some c ≡ Some n → ⊥ = λ e. (let same : c ≡ n = cc in test_apart n c ne (sym same)) in
    let among : is_among n (node is.nodes up.0).children ≡ true = carried.after.parents n up.0 up.1 in
    let old : (node was.nodes n).parent ≡ Some up.0 = carried.before.children up.0 n
    (among_both (Some c) n (node is.nodes up.0).children (node was.nodes up.0).children (carried.alike.children up.0) other among) in
    under_suc f was.nodes c n
    ∙ ap (λ b. b || of_parent (node was.nodes n).parent (is_under_within f was.nodes c)) ne
    ∙ ap (λ (o : Option NodeId). of_parent o (is_under_within f was.nodes c)) old
    ∙ under_was f by c was is carried up.0 up.2)

-- it has the same children in both trees
same_children : (by : Point) (child : Option NodeId) (was is : Seen) → IsCarried by child was is → (n : NodeId) → lies_under is.nodes child n ≡ true →
    (node is.nodes n).children ≡ (node was.nodes n).children
same_children by None was is carried n h = absurd (false-true h)
same_children by (Some c) was is carried n h =
    sym (without_none c (node is.nodes n).children (no_child is.nodes carried.after c n h))
    ∙ carried.alike.children n
    ∙ without_none c (node was.nodes n).children (no_child was.nodes carried.before c n (under_was levels by c was is carried n h))

owner_moved : (f : ℕ) (by : Point) (child : Option NodeId) (was is : Seen) → IsCarried by child was is → (p : Point) (n : NodeId) →
    lies_under is.nodes child n ≡ true → owner_within f is n p ≡ owner_within f was n (before_shift p by)
unfolding owner_within
owner_moved zero by child was is c p n h = refl
owner_moved (suc f) by child was is c p n h =
    followed_same n (front is p (node is.nodes n).children) (λ d. owner_within f is d p) (λ d. owner_within f was d q)
    (λ d e. owner_moved f by child was is c p d (below d (find_among (λ k. has_point (domain is k) p) (node is.nodes n).children d e)))
    ∙ ap (λ (o : Option NodeId). followed n (λ d. owner_within f was d q) o)
    (find_same (λ d. has_point (domain is d) p) (λ d. has_point (domain was d) q) (node is.nodes n).children (λ d among. same d among)
    ∙ ap (λ (ks : List NodeId). front was q ks) (same_children by child was is c n h))
  where
    q : Point
    q = before_shift p by

    below : (d : NodeId) → is_among d (node is.nodes n).children ≡ true → lies_under is.nodes child d ≡ true
    below d among = lies_below is.nodes c.after child n d (λ other. c.after.children n d among) h

    same : (d : NodeId) → is_among d (node is.nodes n).children ≡ true → has_point (domain is d) p ≡ has_point (domain was d) q
    same d among = c.moved d p (hanger_is_node is.nodes d n (c.after.children n d among)) (below d among)

-- ---- the walk, and whom it comes to

-- where it comes to a node, it has come to what lies above
climbs : (f : ℕ) (t : Seen) → IsForest t.nodes → (p : Point) (top n : NodeId) → is_under_within f t.nodes top n ≡ true → comes_to t p n ≡ true →
    comes_to t p top ≡ true
climbs zero t forest p top n h comes = ap (λ (k : NodeId). comes_to t p k) (sym (tested_same n top (sym (under_zero t.nodes top n) ∙ h))) ∙ comes
climbs (suc f) t forest p top n h comes = by_id n top
    (λ same. ap (λ (k : NodeId). comes_to t p k) (sym same) ∙ comes)
    (λ ne.
    let up = above f t.nodes top n ne h in
    climbs f t forest p top up.0 up.2
    (and_left (comes_to t p up.0) (is_it n (front t p (node t.nodes up.0).children))
    (sym (comes_parent t forest p n up.0 (child_no_root t.nodes forest up.0 n up.1) up.1) ∙ comes)))

owner_reached : (t : Seen) → IsForest t.nodes → (p : Point) (top n : NodeId) → is_under t.nodes top n ≡ true → owns t p n ≡ true → comes_to t p top ≡ true
owner_reached t forest p top n h mine =
    climbs levels t forest p top n h
    (and_left (comes_to t p n) (is_nobody (front t p (node t.nodes n).children)) (owns_is t forest p n ∙ mine))

-- the walk to an owner begins at the root
record IsOwned (t : Seen) (p : Point) (n : NodeId) : Type 0 where
  screen : has_point (whole_of t.size) p ≡ true
  root : NodeId
  is_root : t.nodes.root ≡ Some root
  owner : owner t root p ≡ n

owned : (t : Seen) (p : Point) (n : NodeId) → owns t p n ≡ true → IsOwned t p n
owned t p n h = by_root t.nodes.root refl (and_right (has_point (whole_of t.size) p) (is_it n (ends_at t p t.nodes.root)) h)
  where
    by_root : (o : Option NodeId) → t.nodes.root ≡ o → is_it n (ends_at t p o) ≡ true → IsOwned t p n
    by_root None e k = absurd (false-true k)
    by_root (Some root) e k = record {
      screen = and_left (has_point (whole_of t.size) p) (is_it n (ends_at t p t.nodes.root)) h;
      root = root;
      is_root = e;
      owner = same_id (owner t root p) n (equal_numbers (owner t root p).0 n.0 k);
    }

-- two roots are one
same_root : (t : Seen) (a b : NodeId) → t.nodes.root ≡ Some a → t.nodes.root ≡ Some b → a ≡ b
same_root t a b e f = cc

-- where it comes to the child, the owner is the one below the child
owner_below : (t : Seen) → IsForest t.nodes → (p : Point) (c n : NodeId) → comes_to t p c ≡ true → owns t p n ≡ true → owner t c p ≡ n
owner_below t forest p c n comes mine =
    let way : Leads t p c = leads levels t forest p c comes in
    let end : IsOwned t p n = owned t p n mine in
    sym way.owner ∙ ap (λ (k : NodeId). owner t k p) (same_root t way.root end.root way.is_root end.is_root) ∙ end.owner

-- ---- who owns a point afterwards

-- a node that doesn't lie below the child has what it had, but for what the child covers
pub owns_apart : (by : Point) (child : Option NodeId) (was is : Seen) → IsCarried by child was is → (n : NodeId) (p : Point) →
    lies_under is.nodes child n ≡ false → owns was p n ≡ true → owns is p n ≡ not (comes_upon is p child)
owns_apart by child was is c n p out mine = by_comes child c out (comes_upon is p child) refl
  where
    old : IsOwned was p n
    old = owned was p n mine

    same_owner : (o : Option NodeId) → IsCarried by o was is → lies_under is.nodes o n ≡ false →
        lies_under is.nodes o (owner is old.root p) ≡ false → owns is p n ≡ true
    same_owner o c out new =
        owns_end is p n old.root (c.alike.root ∙ old.is_root) (ap (λ (s : Size). has_point (whole_of s) p) c.alike.size ∙ old.screen)
        (owner_apart levels by o was is c p old.root (top (lies_under is.nodes o old.root) refl) new
        (ap (λ (k : NodeId). lies_under is.nodes o k) old.owner ∙ out) ∙ old.owner)
      where
        top : (b : Bool) → lies_under is.nodes o old.root ≡ b → lies_under is.nodes o old.root ≡ false
        top true e = absurd (false-true (sym out ∙ ap (λ (k : NodeId). lies_under is.nodes o k) (sym old.owner)
            ∙ walk_stays levels was is.nodes c.after o (hang_was by o was is c) p old.root e))
        top false e = e

    by_comes : (o : Option NodeId) → IsCarried by o was is → lies_under is.nodes o n ≡ false → (b : Bool) → comes_upon is p o ≡ b →
        owns is p n ≡ not (comes_upon is p o)
    by_comes None c out b e = same_owner None c out refl
    by_comes (Some k) c out true e = ap (λ b. b) (by_owns (owns is p n) refl) ∙ sym (ap not e)
      where
        by_owns : (b : Bool) → owns is p n ≡ b → owns is p n ≡ false
        by_owns true h = absurd (false-true (sym out ∙ ap (λ (m : NodeId). is_under is.nodes k m) (sym (owner_below is c.after p k n e h))
            ∙ walk_stays levels is is.nodes c.after (Some k) (hang_is by (Some k) was is c) p k (under_itself levels is.nodes k k refl)))
        by_owns false h = h
    by_comes (Some k) c out false e = same_owner (Some k) c out (by_under (is_under is.nodes k o) refl) ∙ sym (ap not e)
      where
        o : NodeId
        o = owner is old.root p

        by_under : (b : Bool) → is_under is.nodes k o ≡ b → is_under is.nodes k o ≡ false
        by_under true h = absurd (false-true (sym e ∙ owner_reached is c.after p k o h
            (owns_end is p o old.root (c.alike.root ∙ old.is_root) (ap (λ (s : Size). has_point (whole_of s) p) c.alike.size ∙ old.screen) refl)))
        by_under false h = h

-- a node below the child has the points to which the walk comes, of those that it had before they moved
pub owns_under : (by : Point) (child : Option NodeId) (was is : Seen) → IsCarried by child was is → (n : NodeId) (p : Point) →
    lies_under is.nodes child n ≡ true → owns was (before_shift p by) n ≡ true → owns is p n ≡ comes_upon is p child
owns_under by None was is c n p in_it mine = absurd (false-true in_it)
owns_under by (Some k) was is c n p in_it mine = by_comes (comes_to is p k) refl
  where
    q : Point
    q = before_shift p by

    was_below : owner was k q ≡ n
    was_below = owner_below was c.before q k n
        (owner_reached was c.before q k n (under_was levels by k was is c n in_it) mine) mine

    by_owns : (b : Bool) → owns is p n ≡ b → comes_to is p k ≡ false → owns is p n ≡ false
    by_owns true h e = absurd (false-true (sym e ∙ owner_reached is c.after p k n in_it h))
    by_owns false h e = h

    by_comes : (b : Bool) → comes_to is p k ≡ b → owns is p n ≡ comes_to is p k
    by_comes true e =
        let way : Leads is p k = leads levels is c.after p k e in
        owns_end is p n way.root way.is_root way.screen
        (way.owner ∙ owner_moved levels by (Some k) was is c p k (under_itself levels is.nodes k k refl) ∙ was_below) ∙ sym e
    by_comes false e = by_owns (owns is p n) refl e ∙ sym e
