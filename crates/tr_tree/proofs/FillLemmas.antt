-- The table of shapes that is filled upwards has the shapes.
use Rattle.std.proofs.Common.{◌≡◌, ◌≢◌, ℕ, ◌+◌, ◌<◌, ◌≤◌, ◌⊎◌, inl, inr, Bool, true, false, ◌==◌, not, nat_lt, List, [], ◌∷◌, Option, Some, None, map, drop, set, length, get_or, refl, sym, ap, subst, ◌∙◌, add-one, arith}
use Rattle.std.specs.Prelude.{is_some}
use Rattle.std.proofs.Math.Seq.{drop-cons}
use Rattle.std.proofs.lemmas.Bool.Decides.{nat_tests}
use Rattle.std.proofs.lemmas.List.{get_or-set_same, get_or-set_other, get_or_past, drop_all}
use Rattle.tr_base.specs.declared.NodeId.{NodeId}
use Rattle.tr_base.specs.declared.Shapes.{Shapes}
use Rattle.tr_forest.specs.Nodes.{Nodes, node}
use Rattle.tr_forest.specs.Families.{levels, is_among, is_under}
use Rattle.tr_forest.specs.Forests.{IsForest}
use Rattle.tr_tree.specs.Wishes.{shape, shape_of, no_shapes}
use Rattle.tr_tree.specs.Tables.{shape_in}
use Rattle.tr_tree.specs.Filling.{AreKeptOrRight, Fills, HasChildren}
use Rattle.tr_forest.proofs.FamilyLemmas.{among_split, by_id, under_split}
use Rattle.tr_tree.proofs.TopLemmas.{IsTopOf, numbers_apart, top_of, under_own}
use Rattle.tr_tree.proofs.ShapeLemmas.{map_among, shape_law, shape_outside}

-- the shapes of a node whose children's shapes the table has
pub shape_above_is : (t : Nodes) → IsForest t → (n : NodeId) (table gathered : List Shapes) → HasChildren t n table →
    gathered ≡ map (shape_in table) (node t n).children → shape_of (node t n).kind gathered ≡ shape t n
shape_above_is t forest n table gathered has is =
    ap (shape_of (node t n).kind) (is ∙ map_among (node t n).children (shape_in table) (shape t) has.right) ∙ sym (shape_law t forest n)

-- on the way over the children of n: what lies below a child is right, or the child is still to come
pub record Filling (t : Nodes) (n : NodeId) (rest : List NodeId) (old now : List Shapes) : Type 0 where
  pub others : AreKeptOrRight t old now
  pub done : (c m : NodeId) → is_among c (node t n).children ≡ true → is_under t c m ≡ true →
      (shape_in now m ≡ shape t m) ⊎ (is_among c rest ≡ true)

-- what is right stays right
kept : (t : Nodes) (old new : List Shapes) (m : NodeId) → AreKeptOrRight t old new → shape_in old m ≡ shape t m → shape_in new m ≡ shape t m
kept t old new m others right = elim (others.each m) [ inl same ↦ same ∙ right | inr now ↦ now ]

kept_along : (t : Nodes) (old now new : List Shapes) → AreKeptOrRight t old now → AreKeptOrRight t now new → AreKeptOrRight t old new
kept_along t old now new first second = record {
  each = λ m. elim (second.each m) [
    | inl same ↦ (elim (first.each m) [ inl still ↦ inl (same ∙ still) | inr right ↦ inr (same ∙ right) ])
    | inr right ↦ inr right
  ];
}

kept_itself : (t : Nodes) (old : List Shapes) → AreKeptOrRight t old old
kept_itself t old = record { each = λ m. inl refl }

pub filling_init : (t : Nodes) (n : NodeId) (cs : List NodeId) (old : List Shapes) → cs ≡ (node t n).children → Filling t n cs old old
filling_init t n cs old is = record { others = kept_itself t old; done = λ c m h k. inr (ap (is_among c) is ∙ h) }

pub filling_next : (t : Nodes) (n : NodeId) (cs : List NodeId) (i : ℕ) (d : NodeId) (old now new : List Shapes) → i < length cs →
    Filling t n (drop i cs) old now → Fills t (get_or cs i d) now new → Filling t n (drop (i + 1) cs) old new
filling_next t n cs i d old now new lt filling fills =
    let next : drop i cs ≡ get_or cs i d ∷ drop (i + 1) cs = rw add-one (drop-cons cs i d lt) in
    record {
      others = kept_along t old now new filling.others fills.others;
      done = λ c m h k. elim (filling.done c m h k) [
        | inl right ↦ inl (kept t now new m fills.others right)
        | inr later ↦ (elim (among_split c (get_or cs i d) (drop (i + 1) cs) (sym (ap (is_among c) next) ∙ later)) [
          | inl same ↦ inl (fills.below m (sym (ap (λ (j : NodeId). is_under t j m) same) ∙ k))
          | inr rest ↦ inr rest
        ])
      ];
    }

-- with no child left, what lies below the children is right
done_below : (t : Nodes) (n : NodeId) (cs : List NodeId) (i : ℕ) (old now : List Shapes) → length cs ≤ i → Filling t n (drop i cs) old now →
    (c m : NodeId) → is_among c (node t n).children ≡ true → is_under t c m ≡ true → shape_in now m ≡ shape t m
done_below t n cs i old now le filling c m h k = elim (filling.done c m h k) [
  | inl right ↦ right
  | inr later ↦ (let no : is_among c [] ≡ true = sym (ap (is_among c) (drop_all i cs le)) ∙ later in absurd cc)
]

pub filling_children : (t : Nodes) (n : NodeId) (cs : List NodeId) (i : ℕ) (old now : List Shapes) → length cs ≤ i →
    Filling t n (drop i cs) old now → HasChildren t n now
filling_children t n cs i old now le filling = record { right = λ c h. done_below t n cs i old now le filling c c h (under_own t c) }

set_here : (t : Nodes) (n : NodeId) (now : List Shapes) (x : Shapes) → n.0 < length now → x ≡ shape t n → shape_in (set now n.0 x) n ≡ shape t n
set_here t n now x lt is = get_or-set_same now n.0 x no_shapes lt ∙ is

set_other : (n m : NodeId) (now : List Shapes) (x : Shapes) → (m.0 == n.0) ≡ false → shape_in (set now n.0 x) m ≡ shape_in now m
set_other n m now x ne = get_or-set_other now n.0 m.0 x no_shapes (numbers_apart m n ne)

kept_set : (t : Nodes) (n : NodeId) (now : List Shapes) (x : Shapes) → n.0 < length now → x ≡ shape t n → AreKeptOrRight t now (set now n.0 x)
kept_set t n now x lt is = record {
  each = λ m. by_id m n
      (λ same. inr (subst (λ (k : NodeId). shape_in (set now n.0 x) k ≡ shape t k) (sym same) (set_here t n now x lt is)))
      (λ ne. inl (set_other n m now x ne));
}

-- the place of n itself is written last
pub filling_last : (t : Nodes) → IsForest t → (n : NodeId) (cs : List NodeId) (i : ℕ) (old now : List Shapes) (x : Shapes) → length cs ≤ i →
    Filling t n (drop i cs) old now → n.0 < length now → x ≡ shape t n → Fills t n old (set now n.0 x)
filling_last t forest n cs i old now x le filling lt is = record {
  others = kept_along t old now (set now n.0 x) filling.others (kept_set t n now x lt is);
  below = λ m h. elim (under_split t n m forest h) [
    | inl same ↦ subst (λ (k : NodeId). shape_in (set now n.0 x) k ≡ shape t k) (sym same) (set_here t n now x lt is)
    | inr found ↦ kept t now (set now n.0 x) m (kept_set t n now x lt is) (done_below t n cs i old now le filling found.child m found.among found.under)
  ];
}

-- what lies below the topmost nodes among the first k nodes is right
pub record AreFilled (t : Nodes) (k : ℕ) (now : List Shapes) : Type 0 where
  pub done : (top m : NodeId) → top.0 < k → (node t top).parent ≡ None → is_under t top m ≡ true → shape_in now m ≡ shape t m

pub filled_init : (t : Nodes) (now : List Shapes) → AreFilled t 0 now
filled_init t now = record { done = λ top m lt loose h. absurd (omega arith) }

earlier : (a b : NodeId) → a.0 < b.0 + 1 → (a.0 == b.0) ≡ false → a.0 < b.0
earlier a b lt ne = let other : a.0 ≢ b.0 = numbers_apart a b ne in omega arith

-- one more node, where it is a topmost one, and where it isn't
pub filled_top : (t : Nodes) (n : NodeId) (now new : List Shapes) → AreFilled t n.0 now → Fills t n now new → AreFilled t (n.0 + 1) new
filled_top t n now new filled fills = record {
  done = λ top m lt loose h. by_id top n
      (λ same. fills.below m (sym (ap (λ (j : NodeId). is_under t j m) same) ∙ h))
      (λ ne. kept t now new m fills.others (filled.done top m (earlier top n lt ne) loose h));
}

pub filled_below : (t : Nodes) (n : NodeId) (now : List Shapes) → AreFilled t n.0 now → ((node t n).parent ≡ None → ⊥) → AreFilled t (n.0 + 1) now
filled_below t n now filled hangs = record {
  done = λ top m lt loose h. by_id top n
      (λ same. absurd (hangs (ap (λ (j : NodeId). (node t j).parent) (sym same) ∙ loose)))
      (λ ne. filled.done top m (earlier top n lt ne) loose h);
}

-- what a test for a parent says
pub hangs_there : (o : Option NodeId) (none : Bool) → is_some o ≡ not none → none ≡ false → o ≡ None → ⊥
hangs_there None none e h k = cc
hangs_there (Some p) none e h k = cc

-- each node lies below a topmost one
pub all_filled : (t : Nodes) → IsForest t → (now : List Shapes) → length now ≡ length t.entries → AreFilled t (length t.entries) now →
    (n : NodeId) → shape_in now n ≡ shape t n
all_filled t forest now count filled n = elim (split n.0 (length t.entries)) [
  | inl within ↦ (let top : IsTopOf levels t n = top_of t forest n (record { within = within }) in filled.done top.top n top.inside.within top.loose top.under)
  | inr past ↦ get_or_past now n.0 no_shapes (omega arith) ∙ sym (shape_outside t n past)
]
  where
    split : (a b : ℕ) → (a < b) ⊎ (b ≤ a)
    split a b = by_test (nat_lt a b) refl
      where
        by_test : (r : Bool) → nat_lt a b ≡ r → (a < b) ⊎ (b ≤ a)
        by_test true h = inl (grind (arith, nat_tests))
        by_test false h = inr (grind (arith, nat_tests))
