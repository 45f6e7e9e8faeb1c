-- The table that is filled from the root downwards has the domains.
use Rattle.std.proofs.Common.{◌≡◌, ◌≢◌, ℕ, ◌+◌, ◌-◌, ◌<◌, ◌≤◌, Bool, true, false, not, ◌==◌, eqb, ◌⊎◌, inl, inr, List, [], ◌∷◌, Some, None, length, get_or, set, take, drop, All, AllPairs, refl, sym, ap, subst, ◌∙◌, arith}
use Rattle.std.proofs.lemmas.Bool.Decides.{nat_tests}
use Rattle.std.proofs.lemmas.List.{get_or-set_same, get_or-set_other, get_or-take, get_or_default, get_or_read, drop_more, drop_all}
use Rattle.tr_base.specs.declared.NodeId.{NodeId}
use Rattle.tr_base.specs.Rects.{Edges, empty_rect, whole_of, IsScreenSize}
use Rattle.tr_forest.specs.Nodes.{node}
use Rattle.tr_forest.specs.Families.{is_among, depth, is_under}
use Rattle.tr_forest.specs.Forests.{IsForest}
use Rattle.tr_tree.specs.Trees.{Seen}
use Rattle.tr_tree.specs.Places.{child_places, domain}
use Rattle.tr_tree.specs.Tables.{domain_in}
use Rattle.tr_tree.specs.Laying.{Spreads, StandsInNode, ArePlaced, IsAt, HasDomain, Lays}
use Rattle.tr_forest.proofs.FamilyLemmas.{by_id, same_id, test_apart, among_at, among_split, depth_child, depth_some, under_itself, under_split}
use Rattle.tr_tree.proofs.KinLemmas.{place_among}
use Rattle.tr_tree.proofs.FitLemmas.{fits_empty, all_or, at_empty, at_more, at_child, root_at}
use Rattle.tr_tree.proofs.DomainLemmas.{child_domain, root_domain, loose_domain, no_root, off_root}

-- ---- spreading places over the table

-- one more child has its place, the others theirs, and all others are as they were
pub record Spreading (cs : List NodeId) (places old : List Edges) (i : ℕ) (now : List Edges) : Type 0 where
  pub placed : (k : ℕ) (d : NodeId) → k < i → domain_in now (get_or cs k d) ≡ get_or places k empty_rect
  pub others : (m : NodeId) → is_among m cs ≡ false → domain_in now m ≡ domain_in old m

pub spread_none : (cs : List NodeId) (places old : List Edges) → Spreading cs places old 0 old
spread_none cs places old = record { placed = λ k d lt. absurd (omega arith); others = λ m h. refl }

pub spread_more : (cs : List NodeId) (places old : List Edges) (i : ℕ) (now : List Edges) (c : NodeId) (r : Edges) →
    AllPairs (λ a b. a.0 ≢ b.0) cs → All (λ (n : NodeId). n.0 < length now) cs → i < length cs → c ≡ get_or cs i c → r ≡ get_or places i empty_rect →
    Spreading cs places old i now → Spreading cs places old (i + 1) (set now c.0 r)
spread_more cs places old i now c r once within lt is at s = record {
  placed = λ k d le. by_last k d (eqb k i) refl le;
  others = λ m h.
      get_or-set_other now c.0 m.0 r empty_rect
      (λ e. let listed : is_among m cs ≡ true = subst (λ (n : NodeId). is_among n cs ≡ true) (sym (same_id m c e ∙ is)) (among_at cs i c lt) in cc)
      ∙ s.others m h;
}
  where
    by_last : (k : ℕ) (d : NodeId) (b : Bool) → eqb k i ≡ b → k < i + 1 → domain_in (set now c.0 r) (get_or cs k d) ≡ get_or places k empty_rect
    by_last k d true e le =
        let same : k ≡ i = grind (arith, nat_tests) in
        let child : get_or cs k d ≡ c = ap (λ j. get_or cs j d) same ∙ get_or_default cs i d c lt ∙ sym is in
        let below : c.0 < length now = subst (λ (n : NodeId). n.0 < length now) (sym is) (within i c lt) in
        ap (domain_in (set now c.0 r)) child ∙ get_or-set_same now c.0 r empty_rect below ∙ at ∙ ap (λ j. get_or places j empty_rect) (sym same)
    by_last k d false e le =
        let earlier : k < i = grind (arith, nat_tests) in
        let apart : (get_or cs k d).0 ≢ (get_or cs i d).0 = once k i d earlier lt in
        let child : get_or cs i d ≡ c = get_or_default cs i d c lt ∙ sym is in
        get_or-set_other now c.0 (get_or cs k d).0 r empty_rect (subst (λ (n : NodeId). (get_or cs k d).0 ≢ n.0) child apart) ∙ s.placed k d earlier

pub spread_all : (cs : List NodeId) (places old : List Edges) (i : ℕ) (now : List Edges) → length cs ≤ i → Spreading cs places old i now →
    Spreads cs places old now
spread_all cs places old i now le s = record { placed = λ k d lt. s.placed k d (omega arith); others = s.others }

-- ---- going down

-- the children have their places
pub child_stands : (t : Seen) → IsForest t.nodes → (n : NodeId) (places old new : List Edges) (k : ℕ) (d : NodeId) → HasDomain t n old →
    ArePlaced t.nodes n (domain t n) (take (length (node t.nodes n).children) places) → Spreads (node t.nodes n).children places old new →
    k < length (node t.nodes n).children →
    HasDomain t (get_or (node t.nodes n).children k d) new
child_stands t forest n places old new k d s are spread lt =
    let cs : List NodeId = (node t.nodes n).children in
    let c : NodeId = get_or cs k d in
    let place : Edges = get_or (child_places t.nodes n (domain t n)) k empty_rect in
    let is : domain t c ≡ place = child_domain t forest n k d lt in
    let deep : depth t.nodes c ≡ depth t.nodes n + 1 = depth_child t.nodes n c forest (among_at cs k d lt) in
    let some : 1 ≤ depth t.nodes n = depth_some 16 t.nodes n in
    let fit : All (StandsInNode (domain t n)) (child_places t.nodes n (domain t n)) = subst (All (StandsInNode (domain t n))) are.right are.fit in
    let far : IsAt (depth t.nodes n - 1 + 1) place = at_child (depth t.nodes n - 1) (domain t n) place s.at
    (all_or (StandsInNode (domain t n)) (child_places t.nodes n (domain t n)) k empty_rect fit (fits_empty (domain t n))) in
    record {
      right = spread.placed k d lt ∙ sym (get_or-take (length cs) places k empty_rect lt) ∙ ap (λ (l : List Edges). get_or l k empty_rect) are.right ∙ sym is;
      at = subst (IsAt (depth t.nodes c - 1)) (sym is) (at_more (depth t.nodes n - 1 + 1) (depth t.nodes c - 1) place (omega arith) far);
    }

-- the walk below n has come so far: its children stand, and what lies below them is laid, or they are still to come
pub record Laying (t : Seen) (n : NodeId) (old : List Edges) (cs rest : List NodeId) (now : List Edges) : Type 0 where
  pub stays : (m : NodeId) → HasDomain t m old → HasDomain t m now
  pub here : HasDomain t n now
  pub children : (c : NodeId) → is_among c cs ≡ true → HasDomain t c now
  pub done : (c m : NodeId) → is_among c cs ≡ true → is_under t.nodes c m ≡ true → HasDomain t m now ⊎ (is_among c rest ≡ true)

pub laying_first : (t : Seen) → IsForest t.nodes → (n : NodeId) (places old new : List Edges) → HasDomain t n old →
    ArePlaced t.nodes n (domain t n) (take (length (node t.nodes n).children) places) → Spreads (node t.nodes n).children places old new →
    Laying t n old (node t.nodes n).children (node t.nodes n).children new
laying_first t forest n places old new s are spread = record {
  stays = λ m h. by_test m h (is_among m (node t.nodes n).children) refl;
  here = by_test n s (is_among n (node t.nodes n).children) refl;
  children = λ c h. child c h;
  done = λ c m h k. inr h;
}
  where
    child : (c : NodeId) → is_among c (node t.nodes n).children ≡ true → HasDomain t c new
    child c h =
        let at = place_among c (node t.nodes n).children h in
        subst (λ (m : NodeId). HasDomain t m new) at.is (child_stands t forest n places old new at.place c s are spread at.within)

    by_test : (m : NodeId) → HasDomain t m old → (b : Bool) → is_among m (node t.nodes n).children ≡ b → HasDomain t m new
    by_test m h true k = child m k
    by_test m h false k = record { right = spread.others m k ∙ h.right; at = h.at }

-- the same with the children and the rectangle as they were read
pub laying_from : (t : Seen) → IsForest t.nodes → (n : NodeId) (cs : List NodeId) (rect : Edges) (places old new : List Edges) →
    cs ≡ (node t.nodes n).children →
    rect ≡ domain t n → HasDomain t n old → ArePlaced t.nodes n rect (take (length cs) places) → Spreads cs places old new → Laying t n old cs cs new
laying_from t forest n cs rect places old new is here s are spread =
    subst (λ (l : List NodeId). ArePlaced t.nodes n (domain t n) (take (length l) places) → Spreads l places old new → Laying t n old l l new) (sym is)
    (λ a b. laying_first t forest n places old new s a b) (subst (λ (r : Edges). ArePlaced t.nodes n r (take (length cs) places)) here are) spread

pub laying_next : (t : Seen) → IsForest t.nodes → (n : NodeId) (i : ℕ) (old : List Edges) (cs : List NodeId) (c : NodeId) (now new : List Edges) →
    i < length cs → c ≡ get_or cs i c → Laying t n old cs (drop i cs) now → Lays t c now new → Laying t n old cs (drop (i + 1) cs) new
laying_next t forest n i old cs c now new lt is l lays =
    let next : drop i cs ≡ c ∷ drop (i + 1) cs = drop_more cs i c lt ∙ ap (λ (m : NodeId). m ∷ drop (i + 1) cs) (sym is) in
    record {
      stays = λ m h. lays.stays m (l.stays m h);
      here = lays.stays n l.here;
      children = λ m h. lays.stays m (l.children m h);
      done = λ e m h k. elim (l.done e m h k) [
        | inl laid ↦ inl (lays.stays m laid)
        | inr later ↦ (elim (among_split e c (drop (i + 1) cs) (sym (ap (is_among e) next) ∙ later)) [
          | inl same ↦ inl (lays.below m (sym (ap (λ (j : NodeId). is_under t.nodes j m) same) ∙ k))
          | inr rest ↦ inr rest
        ])
      ];
    }

pub laying_last : (t : Seen) → IsForest t.nodes → (n : NodeId) (i : ℕ) (old now : List Edges) → length (node t.nodes n).children ≤ i →
    Laying t n old (node t.nodes n).children (drop i (node t.nodes n).children) now → Lays t n old now
laying_last t forest n i old now le l = record {
  stays = l.stays;
  below = λ m h. elim (under_split t.nodes n m forest h) [
    | inl same ↦ subst (λ (j : NodeId). HasDomain t j now) (sym same) l.here
    | inr found ↦ elim (l.done found.child m found.among found.under) [
      | inl laid ↦ laid
      | inr later ↦ (let no : is_among found.child [] ≡ true = sym (ap (is_among found.child) (drop_all i (node t.nodes n).children le)) ∙ later in absurd cc)
    ]
  ];
}

pub laying_end : (t : Seen) → IsForest t.nodes → (n : NodeId) (cs : List NodeId) (i : ℕ) (old now : List Edges) → cs ≡ (node t.nodes n).children →
    length cs ≤ i →
    Laying t n old cs (drop i cs) now → Lays t n old now
laying_end t forest n cs i old now is le l =
    subst (λ (l : List NodeId). length l ≤ i → Laying t n old l (drop i l) now → Lays t n old now) (sym is)
    (λ most m. laying_last t forest n i old now most m) le l

-- without children nothing is to be done
pub laying_nothing : (t : Seen) → IsForest t.nodes → (n : NodeId) (cs : List NodeId) (old : List Edges) → cs ≡ (node t.nodes n).children →
    (length cs == 0) ≡ true → HasDomain t n old → Lays t n old old
laying_nothing t forest n [] old is none s =
    laying_end t forest n [] 0 old old is (omega arith)
    (record { stays = λ m h. h; here = s; children = λ c h. cc; done = λ c m h k. cc })
laying_nothing t forest n (c ∷ cs) old is none s = let no : length (c ∷ cs) ≡ 0 = grind (arith, nat_tests) in absurd (omega arith)

-- the rectangle that was read from the table
pub domain_read : (t : Seen) (n : NodeId) (table : List Edges) (i : ℕ) (r : Edges) → n.0 < length table → i ≡ n.0 → r ≡ get_or table i r →
    domain_in table n ≡ domain t n → r ≡ domain t n
domain_read t n table i r lt at is right = get_or_read table n.0 r lt (is ∙ ap (λ k. get_or table k r) at) empty_rect ∙ right

-- ---- from an empty table

empty_laid : (t : Seen) (table : List Edges) (n : NodeId) → domain_in table n ≡ empty_rect → domain t n ≡ empty_rect → HasDomain t n table
empty_laid t table n none is = record { right = none ∙ sym is; at = subst (IsAt (depth t.nodes n - 1)) (sym is) (at_empty (depth t.nodes n - 1)) }

-- without a root the empty table is right
pub laid_none : (t : Seen) → IsForest t.nodes → (table : List Edges) → t.nodes.root ≡ None → ((n : NodeId) → domain_in table n ≡ empty_rect) →
    (n : NodeId) → HasDomain t n table
laid_none t forest table none empty n = empty_laid t table n (empty n) (loose_domain t forest (λ _. true) (no_root t.nodes none) n refl)

pub root_stands : (t : Seen) → IsForest t.nodes → IsScreenSize t.size → (root : NodeId) (table : List Edges) (r : Edges) → t.nodes.root ≡ Some root →
    root.0 < length table → r ≡ whole_of t.size → HasDomain t root (set table root.0 r)
root_stands t forest size root table r is lt whole =
    let domain_is : domain t root ≡ whole_of t.size = root_domain t forest root is in
    record {
      right = get_or-set_same table root.0 r empty_rect lt ∙ whole ∙ sym domain_is;
      at = subst (IsAt (depth t.nodes root - 1)) (sym domain_is) (at_more 0 (depth t.nodes root - 1) (whole_of t.size) (omega arith) (root_at t.size size));
    }

-- the walk from the root over an empty table gives all domains
pub laid_all : (t : Seen) → IsForest t.nodes → (root : NodeId) (table new : List Edges) (r : Edges) → t.nodes.root ≡ Some root →
    ((n : NodeId) → domain_in table n ≡ empty_rect) → Lays t root (set table root.0 r) new → (n : NodeId) → HasDomain t n new
laid_all t forest root table new r is empty lays n = by_test (is_under t.nodes root n) refl
  where
    by_test : (b : Bool) → is_under t.nodes root n ≡ b → HasDomain t n new
    by_test true h = lays.below n h
    by_test false h =
        let none : domain t n ≡ empty_rect = loose_domain t forest (λ m. not (is_under t.nodes root m)) (off_root t.nodes forest root is) n (ap not h) in
        lays.stays n (by_id n root
        (λ same. let yes : is_under t.nodes root n ≡ true = ap (is_under t.nodes root) same ∙ under_itself 16 t.nodes root root refl in absurd cc)
        (λ other. empty_laid t (set table root.0 r) n (get_or-set_other table root.0 n.0 r empty_rect (λ e. test_apart n root other (same_id n root e))
        ∙ empty n) none))
