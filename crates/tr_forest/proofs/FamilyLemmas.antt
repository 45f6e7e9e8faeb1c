-- Who lies below whom in a forest: no count of steps is left.
use Rattle.std.proofs.Common.{◌≡◌, ℕ, zero, suc, ◌+◌, ◌<◌, ◌≤◌, Bool, true, false, ◌||◌, ◌==◌, ◌⊎◌, inl, inr, List, [], ◌∷◌, Option, Some, None, length, get_or, nat_lt, refl, sym, ap, ◌∙◌, arith}
use Rattle.std.proofs.lemmas.Bool.Decides.{nat_tests}
use Rattle.std.proofs.Math.ListN.{get_or-eq_default}
use Rattle.tr_base.specs.declared.NodeId.{NodeId}
use Rattle.tr_base.specs.Layouts.{greatest_by}
use Rattle.tr_base.proofs.BoolLemmas.{or_true}
use Rattle.tr_forest.specs.Nodes.{Entry, Nodes, IsNode, node, new_entry}
use Rattle.tr_forest.specs.declared.kinds.NodeKind.TheVariants as kinds
use Rattle.tr_forest.specs.Families.{levels, is_among, deeper, depth_within, depth, height_within, height, of_parent, is_under_within, is_under}
use Rattle.tr_forest.specs.Forests.{IsForest}

-- numbers of nodes

pub same_id : (a b : NodeId) → a.0 ≡ b.0 → a ≡ b
same_id a b h = let id : ℕ → NodeId = λ k. record { 0 = k } in ap id h

pub test_same : (a b : NodeId) → a ≡ b → (a.0 == b.0) ≡ true
test_same a b h = let same : a.0 ≡ b.0 = ap (λ (n : NodeId). n.0) h in grind (arith, nat_tests)

pub test_apart : (a b : NodeId) → (a.0 == b.0) ≡ false → a ≡ b → ⊥
test_apart a b h e = let test : (a.0 == b.0) ≡ true = test_same a b e in cc

pub tested_same : (a b : NodeId) → (a.0 == b.0) ≡ true → a ≡ b
tested_same a b h = same_id a b (grind (arith, nat_tests))

-- a split by whether two numbers are equal
pub by_id : {P : Type 0} (a b : NodeId) → (a ≡ b → P) → ((a.0 == b.0) ≡ false → P) → P
by_id {P = P} a b same apart = by_test (a.0 == b.0) refl
  where
    by_test : (t : Bool) → (a.0 == b.0) ≡ t → P
    by_test true h = same (tested_same a b h)
    by_test false h = apart h

-- lists of children

pub among_first : (n : NodeId) (ns : List NodeId) → is_among n (n ∷ ns) ≡ true
among_first n ns = rw (test_same n n refl) refl

pub among_later : (n m : NodeId) (ns : List NodeId) → is_among n ns ≡ true → is_among n (m ∷ ns) ≡ true
among_later n m ns h = ap (λ b. (m.0 == n.0) || b) h ∙ or_true (m.0 == n.0)

pub among_split : (n m : NodeId) (ns : List NodeId) → is_among n (m ∷ ns) ≡ true → (n ≡ m) ⊎ (is_among n ns ≡ true)
among_split n m ns h = by_test (m.0 == n.0) refl h
  where
    by_test : (b : Bool) → (m.0 == n.0) ≡ b → (b || is_among n ns) ≡ true → (n ≡ m) ⊎ (is_among n ns ≡ true)
    by_test true e h = inl (sym (tested_same m n e))
    by_test false e h = inr h

pub among_at : (ns : List NodeId) (k : ℕ) (d : NodeId) → k < length ns → is_among (get_or ns k d) ns ≡ true
among_at [] k d h = absurd (omega arith)
among_at (n ∷ ns) zero d h = among_first n ns
among_at (n ∷ ns) (suc k) d h = among_later (get_or ns k d) n ns (among_at ns k d (omega arith))

-- who is a node

-- past the nodes there is nothing
pub none_there : (t : Nodes) (n : NodeId) → length t.entries ≤ n.0 → node t n ≡ new_entry kinds.H 0
none_there t n h = get_or-eq_default t.entries (new_entry kinds.H 0) h

pub by_within : {P : Type 0} (t : Nodes) (n : NodeId) → (IsNode t n → P) → (node t n ≡ new_entry kinds.H 0 → P) → P
by_within {P = P} t n within past = by_test (nat_lt n.0 (length t.entries)) refl
  where
    by_test : (b : Bool) → nat_lt n.0 (length t.entries) ≡ b → P
    by_test true h = within (record { within = grind (arith, nat_tests) })
    by_test false h = past (none_there t n (grind (arith, nat_tests)))

-- a node that has a child is a node
pub holder_is_node : (t : Nodes) (n child : NodeId) → is_among child (node t n).children ≡ true → IsNode t n
holder_is_node t n child h = by_within t n (λ is. is)
    (λ none. let no : is_among child [] ≡ true = sym (ap (λ (e : Entry). is_among child e.children) none) ∙ h in absurd cc)

-- a node that has a parent is a node
pub hanger_is_node : (t : Nodes) (n parent : NodeId) → (node t n).parent ≡ Some parent → IsNode t n
hanger_is_node t n parent h = by_within t n (λ is. is)
    (λ none. let no : None ≡ Some parent = sym (ap (λ (e : Entry). e.parent) none) ∙ h in absurd cc)

-- a child is a node
pub child_is_node : (t : Nodes) (n child : NodeId) → IsForest t → is_among child (node t n).children ≡ true → IsNode t child
child_is_node t n child f h = hanger_is_node t child n (f.children n child h)

-- a parent is a node
pub parent_is_node : (t : Nodes) (n parent : NodeId) → IsForest t → (node t n).parent ≡ Some parent → IsNode t parent
parent_is_node t n parent f h = holder_is_node t parent n (f.parents n parent h)

-- depths

pub deeper_enough : (o : Option NodeId) (u v : NodeId → ℕ) (m : ℕ) → deeper o v ≤ suc m → ((p : NodeId) → v p ≤ m → u p ≡ v p) → deeper o u ≡ deeper o v
deeper_enough None u v m h ih = refl
deeper_enough (Some p) u v m h ih = ap (λ k. k + 1) (ih p (omega arith))

pub depth_zero : (t : Nodes) (n : NodeId) → depth_within 0 t n ≡ 1
unfolding depth_within
depth_zero t n = refl

pub depth_suc : (f : ℕ) (t : Nodes) (n : NodeId) → depth_within (suc f) t n ≡ deeper (node t n).parent (depth_within f t)
unfolding depth_within
depth_suc f t n = refl

pub no_depth : (t : Nodes) (n : NodeId) → depth_within 0 t n ≤ 0 → ⊥
no_depth t n h = let one : depth_within 0 t n ≡ 1 = depth_zero t n in omega arith

pub depth_enough : (f : ℕ) (t : Nodes) (n : NodeId) → depth_within f t n ≤ f → depth_within (suc f) t n ≡ depth_within f t n
unfolding depth_within
depth_enough zero t n h = absurd (no_depth t n h)
depth_enough (suc f) t n h = deeper_enough (node t n).parent (depth_within (suc f) t) (depth_within f t) f h (λ p k. depth_enough f t p k)

-- a node is one deeper than its parent, and one without a parent is the first
pub depth_law : (t : Nodes) (n : NodeId) → IsForest t → depth t n ≡ deeper (node t n).parent (depth t)
depth_law t n f = sym (depth_enough 16 t n (f.depths n)) ∙ depth_suc 16 t n

-- a child is one deeper
pub depth_child : (t : Nodes) (n child : NodeId) → IsForest t → is_among child (node t n).children ≡ true → depth t child ≡ depth t n + 1
depth_child t n child f h = depth_law t child f ∙ ap (λ o. deeper o (depth t)) (f.children n child h)

pub deeper_same : (o : Option NodeId) (u v : NodeId → ℕ) → ((p : NodeId) → o ≡ Some p → u p ≡ v p) → deeper o u ≡ deeper o v
deeper_same None u v h = refl
deeper_same (Some p) u v h = ap (λ k. k + 1) (h p refl)

pub deeper_le : (o : Option NodeId) (u v : NodeId → ℕ) → ((p : NodeId) → u p ≤ v p) → deeper o u ≤ deeper o v
deeper_le None u v h = omega arith
deeper_le (Some p) u v h = let le : u p ≤ v p = h p in omega arith

deeper_some : (o : Option NodeId) (u : NodeId → ℕ) → 1 ≤ deeper o u
deeper_some None u = omega arith
deeper_some (Some p) u = omega arith

pub depth_some : (f : ℕ) (t : Nodes) (n : NodeId) → 1 ≤ depth_within f t n
unfolding depth_within
depth_some zero t n = omega arith
depth_some (suc f) t n = deeper_some (node t n).parent (depth_within f t)

-- heights

pub greatest_same : (ns : List NodeId) (u v : NodeId → ℕ) → ((n : NodeId) → is_among n ns ≡ true → u n ≡ v n) → greatest_by u ns ≡ greatest_by v ns
greatest_same [] u v h = refl
greatest_same (x ∷ xs) u v h =
    let first : u x ≡ v x = h x (among_first x xs) in
    let rest : greatest_by u xs ≡ greatest_by v xs = greatest_same xs u v (λ c k. h c (among_later c x xs k)) in
    rw (first, rest) refl

pub greatest_none : (ns : List NodeId) (u : NodeId → ℕ) → ((n : NodeId) → is_among n ns ≡ true → ⊥) → greatest_by u ns ≡ 0
greatest_none [] u h = refl
greatest_none (x ∷ xs) u h = absurd (h x (among_first x xs))

pub greatest_member : (ns : List NodeId) (u : NodeId → ℕ) (n : NodeId) → is_among n ns ≡ true → u n ≤ greatest_by u ns
greatest_member [] u n h = cc
greatest_member (x ∷ xs) u n h =
    elim (among_split n x xs h) [
      | inl e ↦ (let same : u n ≡ u x = ap u e in omega arith)
      | inr k ↦
          (let le : u n ≤ greatest_by u xs = greatest_member xs u n k in omega arith)
    ]

pub height_zero : (t : Nodes) (n : NodeId) → height_within 0 t n ≡ 1
unfolding height_within
height_zero t n = refl

pub height_suc : (f : ℕ) (t : Nodes) (n : NodeId) → height_within (suc f) t n ≡ greatest_by (height_within f t) (node t n).children + 1
unfolding height_within
height_suc f t n = refl

height_enough : (f : ℕ) (t : Nodes) (n : NodeId) → IsForest t → levels ≤ f + depth t n → height_within (suc f) t n ≡ height_within f t n
unfolding height_within
height_enough zero t n forest h = ap (λ k. k + 1) (greatest_none (node t n).children (height_within zero t) (λ c e.
    let deep : depth t c ≡ depth t n + 1 = depth_child t n c forest e in
    let most : depth t c ≤ levels = forest.depths c in
    omega arith))
height_enough (suc f) t n forest h = ap (λ k. k + 1) (greatest_same (node t n).children (height_within (suc f) t) (height_within f t) (λ c e.
    let deep : depth t c ≡ depth t n + 1 = depth_child t n c forest e in
    height_enough f t c forest (omega arith)))

-- a node is one higher than the highest of its children
pub height_law : (t : Nodes) (n : NodeId) → IsForest t → height t n ≡ greatest_by (height t) (node t n).children + 1
height_law t n forest = sym (height_enough 16 t n forest (omega arith)) ∙ height_suc 16 t n

-- who is under whom

pub under_zero : (t : Nodes) (top n : NodeId) → is_under_within 0 t top n ≡ (n.0 == top.0)
unfolding is_under_within
under_zero t top n = refl

pub under_suc : (f : ℕ) (t : Nodes) (top n : NodeId) → is_under_within (suc f) t top n ≡
    ((n.0 == top.0) || of_parent (node t n).parent (is_under_within f t top))
unfolding is_under_within
under_suc f t top n = refl

of_parent_enough : (o : Option NodeId) (u v : NodeId → Bool) (d : NodeId → ℕ) (m : ℕ) → deeper o d ≤ suc m → ((p : NodeId) → d p ≤ m → u p ≡ v p) →
    of_parent o u ≡ of_parent o v
of_parent_enough None u v d m h ih = refl
of_parent_enough (Some p) u v d m h ih = ih p (omega arith)

under_enough : (f : ℕ) (t : Nodes) (top n : NodeId) → depth_within f t n ≤ f → is_under_within (suc f) t top n ≡ is_under_within f t top n
unfolding is_under_within depth_within
under_enough zero t top n h = absurd (no_depth t n h)
under_enough (suc f) t top n h = ap (λ b. (n.0 == top.0) || b)
    (of_parent_enough (node t n).parent (is_under_within (suc f) t top) (is_under_within f t top) (depth_within f t) f h (λ p k. under_enough f t top p k))

-- a node is under itself, and under whom its parent is
pub under_law : (t : Nodes) (top n : NodeId) → IsForest t → is_under t top n ≡ ((n.0 == top.0) || of_parent (node t n).parent (is_under t top))
under_law t top n f = sym (under_enough 16 t top n (f.depths n)) ∙ under_suc 16 t top n

pub under_itself : (f : ℕ) (t : Nodes) (top n : NodeId) → n ≡ top → is_under_within f t top n ≡ true
under_itself zero t top n h = under_zero t top n ∙ test_same n top h
under_itself (suc f) t top n h = under_suc f t top n ∙ rw (test_same n top h) refl

-- a child of n, and a node that is under it
pub record IsBelowChild (f : ℕ) (t : Nodes) (n m : NodeId) : Type 0 where
  pub child : NodeId
  pub among : is_among child (node t n).children ≡ true
  pub under : is_under_within f t child m ≡ true

pub parent_case : (o : Option NodeId) (up : NodeId → Bool) → of_parent o up ≡ true → (q : NodeId) × (o ≡ Some q) × (up q ≡ true)
parent_case None up h = cc
parent_case (Some p) up h = (p, refl, h)

-- a child of n is under itself
is_child : (f : ℕ) (t : Nodes) (n m q : NodeId) → IsForest t → (node t m).parent ≡ Some q → q ≡ n → IsBelowChild f t n m
is_child f t n m q forest up e = record {
  child = m;
  among = forest.parents m n (up ∙ ap (λ (k : NodeId). Some k) e);
  under = under_itself f t m m refl;
}

-- who is under n, but isn't n, is under a child of n
pub under_child : (f : ℕ) (t : Nodes) (n m : NodeId) → IsForest t → is_under_within (suc f) t n m ≡ true → (m.0 == n.0) ≡ false → IsBelowChild f t n m
under_child zero t n m forest h ne =
    let above : of_parent (node t m).parent (is_under_within 0 t n) ≡ true = sym (under_suc 0 t n m ∙ rw ne refl) ∙ h in
    let up = parent_case (node t m).parent (is_under_within 0 t n) above in
    is_child 0 t n m up.0 forest up.1 (tested_same up.0 n (sym (under_zero t n up.0) ∙ up.2))
under_child (suc f) t n m forest h ne =
    let above : of_parent (node t m).parent (is_under_within (suc f) t n) ≡ true = sym (under_suc (suc f) t n m ∙ rw ne refl) ∙ h in
    let up = parent_case (node t m).parent (is_under_within (suc f) t n) above in
    by_id up.0 n (λ e. is_child (suc f) t n m up.0 forest up.1 e) (λ other.
    let found : IsBelowChild f t n up.0 = under_child f t n up.0 forest up.2 other in
    record {
      child = found.child;
      among = found.among;
      under = under_suc f t found.child m ∙ ap (λ o. (m.0 == found.child.0) || of_parent o (is_under_within f t found.child)) up.1
          ∙ ap (λ b. (m.0 == found.child.0) || b) found.under ∙ or_true (m.0 == found.child.0);
    })

under_less : (f : ℕ) (t : Nodes) (top n : NodeId) → is_under_within f t top n ≡ true → is_under_within (suc f) t top n ≡ true
under_less zero t top n h = under_suc 0 t top n ∙ ap (λ b. b || of_parent (node t n).parent (is_under_within 0 t top)) (sym (under_zero t top n) ∙ h)
under_less (suc f) t top n h = by_id n top (λ e. under_itself (suc (suc f)) t top n e) (λ ne.
    let above : of_parent (node t n).parent (is_under_within f t top) ≡ true = sym (under_suc f t top n ∙ rw ne refl) ∙ h in
    let up = parent_case (node t n).parent (is_under_within f t top) above in
    under_suc (suc f) t top n ∙ rw (up.1, under_less f t top up.0 up.2) (or_true (n.0 == top.0)))

under_holder_here : (f : ℕ) (t : Nodes) (n child m : NodeId) → (node t child).parent ≡ Some n → m ≡ child → is_under_within (suc f) t n m ≡ true
under_holder_here f t n child m h e =
    let up : (node t m).parent ≡ Some n = ap (λ (k : NodeId). (node t k).parent) e ∙ h in
    under_suc f t n m ∙ rw (up, under_itself f t n n refl) (or_true (m.0 == n.0))

-- who is under a child of n is under n, a step further
under_holder : (f : ℕ) (t : Nodes) (n child m : NodeId) → (node t child).parent ≡ Some n → is_under_within f t child m ≡ true →
    is_under_within (suc f) t n m ≡ true
under_holder zero t n child m h under = under_holder_here zero t n child m h (tested_same m child (sym (under_zero t child m) ∙ under))
under_holder (suc f) t n child m h under = by_id m child (λ e. under_holder_here (suc f) t n child m h e) (λ ne.
    let above : of_parent (node t m).parent (is_under_within f t child) ≡ true = sym (under_suc f t child m ∙ rw ne refl) ∙ under in
    let up = parent_case (node t m).parent (is_under_within f t child) above in
    under_suc (suc f) t n m ∙ rw (up.1, under_holder f t n child up.0 h up.2) (or_true (m.0 == n.0)))

-- who is under a child of n is under n
pub under_up : (t : Nodes) (n child m : NodeId) → IsForest t → is_among child (node t n).children ≡ true → is_under t child m ≡ true → is_under t n m ≡ true
under_up t n child m f h under = sym (under_enough 16 t n m (f.depths m)) ∙ under_holder 16 t n child m (f.children n child h) under

-- a child of n, and a node that is under it, with no count
pub record IsUnderChild (t : Nodes) (n m : NodeId) : Type 0 where
  pub child : NodeId
  pub among : is_among child (node t n).children ≡ true
  pub under : is_under t child m ≡ true

-- who is under n is n, or is under one of its children
pub under_split : (t : Nodes) (n m : NodeId) → IsForest t → is_under t n m ≡ true → (m ≡ n) ⊎ IsUnderChild t n m
under_split t n m f h = by_id m n (λ e. inl e) (λ ne.
    let found : IsBelowChild 15 t n m = under_child 15 t n m f h ne in
    inr (record { child = found.child; among = found.among; under = under_less 15 t found.child m found.under }))

-- what lies below a node lies no higher
pub under_deeper : (f : ℕ) (t : Nodes) → IsForest t → (top n : NodeId) → is_under_within f t top n ≡ true → depth t top ≤ depth t n
under_deeper zero t forest top n h =
    let same : n ≡ top = tested_same n top (sym (under_zero t top n) ∙ h) in omega (arith, ap (depth t) same)
under_deeper (suc f) t forest top n h = by_id n top
    (λ same. omega (arith, ap (depth t) same))
    (λ other. by_parent (node t n).parent refl (λ p k. under_deeper f t forest top p k)
    (sym (under_suc f t top n ∙ ap (λ b. b || of_parent (node t n).parent (is_under_within f t top)) other) ∙ h))
  where
    by_parent : (o : Option NodeId) → (node t n).parent ≡ o → ((p : NodeId) → is_under_within f t top p ≡ true → depth t top ≤ depth t p) →
        of_parent o (is_under_within f t top) ≡ true → depth t top ≤ depth t n
    by_parent None e above k = absurd cc
    by_parent (Some p) e above k =
        let up : depth t top ≤ depth t p = above p k in
        let deep : depth t n ≡ depth t p + 1 = depth_child t p n forest (forest.parents n p e) in
        omega arith
