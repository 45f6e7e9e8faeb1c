-- Lists of children: one is added, one is taken out.
use Rattle.std.proofs.Common.{◌≡◌, ℕ, ◌+◌, ◌<◌, ◌≤◌, Bool, true, false, cond, not, ◌&&◌, ◌||◌, ◌==◌, ◌≢◌, List, [], ◌∷◌, ◌++◌, length, get_or, refl, sym, ap, ◌∙◌, length-append, arith}
use Rattle.std.specs.List.{AllPairs}
use Rattle.std.proofs.lemmas.Bool.Decides.{nat_tests}
use Rattle.std.proofs.lemmas.List.Folds.{list_any-append}
use Rattle.std.proofs.lemmas.List.Kept.{AllPairs-cons, AllPairs-filter}
use Rattle.std.proofs.lemmas.List.Quantifiers.{all_pairs_push}
use Rattle.std.proofs.lemmas.List.Elements.{filter_passes}
use Rattle.std.proofs.lemmas.List.Sums.{length-filter, count_by-le-length}
use Rattle.tr_base.specs.declared.NodeId.{NodeId}
use Rattle.tr_base.proofs.BoolLemmas.{and_true}
use Rattle.tr_forest.specs.Families.{is_among}
use Rattle.tr_forest.specs.Edits.{without}
use Rattle.tr_forest.proofs.FamilyLemmas.{same_id, by_id, among_first, among_at}

-- no two of a list are one
abbrev pub AreApart : List NodeId → Type 0
AreApart ns = AllPairs (λ a b. a.0 ≢ b.0) ns

-- a list with one more, in front or behind
abbrev pub joined : Bool → NodeId → List NodeId → List NodeId
joined front n ns = cond front (n ∷ ns) (ns ++ n ∷ [])

or_last : (a b : Bool) → (a || (b || false)) ≡ (b || a)
or_last true true = refl
or_last true false = refl
or_last false true = refl
or_last false false = refl

pub among_joined : (front : Bool) (m n : NodeId) (ns : List NodeId) → is_among m (joined front n ns) ≡ ((n.0 == m.0) || is_among m ns)
among_joined true m n ns = refl
among_joined false m n ns = list_any-append (λ (k : NodeId). k.0 == m.0) ns (n ∷ []) ∙ or_last (is_among m ns) (n.0 == m.0)

pub length_joined : (front : Bool) (n : NodeId) (ns : List NodeId) → length (joined front n ns) ≡ length ns + 1
length_joined true n ns = omega arith
length_joined false n ns = omega (arith, length-append ns (n ∷ []))

-- who isn't in a list differs from each of its items
differs : (n : NodeId) (ns : List NodeId) (k : ℕ) (d : NodeId) → is_among n ns ≡ false → k < length ns → (get_or ns k d).0 ≢ n.0
differs n ns k d h lt e =
    let same : get_or ns k d ≡ n = same_id (get_or ns k d) n e in
    let among : is_among n ns ≡ true = ap (λ m. is_among m ns) (sym same) ∙ among_at ns k d lt in
    cc

pub apart_joined : (front : Bool) (n : NodeId) (ns : List NodeId) → AreApart ns → is_among n ns ≡ false → AreApart (joined front n ns)
apart_joined true n ns h none = AllPairs-cons (λ a b. a.0 ≢ b.0) n ns (λ k d lt e. differs n ns k d none lt (sym e)) h
apart_joined false n ns h none = all_pairs_push (λ a b. a.0 ≢ b.0) ns n h (λ k d lt. differs n ns k d none lt)

-- one is taken out

eq_sym : (a b : ℕ) → (a == b) ≡ (b == a)
eq_sym a b = grind (arith, nat_tests)

branch : (t : Bool) (m x : NodeId) (ns : List NodeId) → is_among m (cond (not t) (x ∷ ns) ns) ≡ cond t (is_among m ns) ((x.0 == m.0) || is_among m ns)
branch true m x ns = refl
branch false m x ns = refl

pick : (t s u a : Bool) → (t ≡ true → s ≡ u) → (t ≡ false → s ≡ true → u ≡ false) → cond t (a && not u) (s || (a && not u)) ≡ ((s || a) && not u)
pick true true true true h k = refl
pick true true true false h k = refl
pick true true false a h k = (let no : true ≡ false = h refl in cc)
pick true false true a h k = (let no : false ≡ true = h refl in cc)
pick true false false a h k = refl
pick false true true a h k = (let no : true ≡ false = k refl refl in cc)
pick false true false a h k = refl
pick false false true true h k = refl
pick false false true false h k = refl
pick false false false a h k = refl

pub among_without : (m n : NodeId) (ns : List NodeId) → is_among m (without n ns) ≡ (is_among m ns && not (m.0 == n.0))
among_without m n [] = refl
among_without m n (x ∷ xs) =
    branch (x.0 == n.0) m x (without n xs)
    ∙ ap (λ b. cond (x.0 == n.0) b ((x.0 == m.0) || b)) (among_without m n xs)
    ∙ pick (x.0 == n.0) (x.0 == m.0) (m.0 == n.0) (is_among m xs) (λ h. grind (arith, nat_tests)) (λ h k. grind (arith, nat_tests))

pub length_without : (n : NodeId) (ns : List NodeId) → length (without n ns) ≤ length ns
length_without n ns = omega (arith, length-filter (λ (c : NodeId). not (c.0 == n.0)) ns, count_by-le-length (λ (c : NodeId). not (c.0 == n.0)) ns)

pub apart_without : (n : NodeId) (ns : List NodeId) → AreApart ns → AreApart (without n ns)
apart_without n ns h = AllPairs-filter (λ a b. a.0 ≢ b.0) (λ c. not (c.0 == n.0)) ns h

pub apart_lifted : (n : NodeId) (ns : List NodeId) → AreApart ns → AreApart (n ∷ without n ns)
apart_lifted n ns h = AllPairs-cons (λ a b. a.0 ≢ b.0) n (without n ns) (λ k d lt e.
    let passes : not ((get_or (without n ns) k d).0 == n.0) ≡ true = filter_passes (λ (c : NodeId). not (c.0 == n.0)) ns k d lt in
    let test : ((get_or (without n ns) k d).0 == n.0) ≡ true = grind (arith, nat_tests) in
    cc) (apart_without n ns h)

-- who stays of a list when another one is taken out
pub among_rest : (m n : NodeId) (ns : List NodeId) → (m.0 == n.0) ≡ false → is_among m (without n ns) ≡ is_among m ns
among_rest m n ns h = among_without m n ns ∙ ap (λ b. is_among m ns && not b) h ∙ and_true (is_among m ns)

and_parts : (a b : Bool) → (a && not b) ≡ true → (a ≡ true) × (b ≡ false)
and_parts true true h = cc
and_parts true false h = (refl, refl)
and_parts false b h = cc

-- who is in what is left was there, and isn't the one that was taken out
pub among_left : (m n : NodeId) (ns : List NodeId) → is_among m (without n ns) ≡ true → (is_among m ns ≡ true) × ((m.0 == n.0) ≡ false)
among_left m n ns h = and_parts (is_among m ns) (m.0 == n.0) (sym (among_without m n ns) ∙ h)

pub among_lifted : (m n : NodeId) (ns : List NodeId) → is_among n ns ≡ true → is_among m (n ∷ without n ns) ≡ is_among m ns
among_lifted m n ns h = by_id m n
    (λ e. ap (λ k. is_among k (n ∷ without n ns)) e ∙ among_first n (without n ns) ∙ sym (ap (λ k. is_among k ns) e ∙ h))
    (λ ne. ap (λ b. b || is_among m (without n ns)) (eq_sym n.0 m.0 ∙ ne) ∙ among_rest m n ns ne)

shorter_by : (b : Bool) (x : NodeId) (xs ys : List NodeId) → length ys ≤ length xs → (b ≡ false → length ys < length xs) →
    length (cond (not b) (x ∷ ys) ys) < length (x ∷ xs)
shorter_by true x xs ys le lt = omega arith
shorter_by false x xs ys le lt = let less : length ys < length xs = lt refl in omega arith

-- one of a list is taken out
pub shorter : (n : NodeId) (ns : List NodeId) → is_among n ns ≡ true → length (without n ns) < length ns
shorter n [] h = cc
shorter n (x ∷ xs) h = shorter_by (x.0 == n.0) x xs (without n xs) (length_without n xs) (λ e. shorter n xs (sym (ap (λ b. b || is_among n xs) e) ∙ h))
