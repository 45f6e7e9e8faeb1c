-- How many points are bad: those of the screen less the good ones of each node.
use Rattle.std.proofs.Common.{◌≡◌, ℕ, zero, suc, ◌+◌, ◌*◌, ◌<◌, ◌≤◌, pos, Bool, true, false, cond, not, ◌&&◌, ◌||◌, ◌⊎◌, inl, inr, List, [], take, length, get_or, refl, sym, ap, ◌∙◌, arith}
use Rattle.std.proofs.lemmas.Bool.{cases_lt}
use Rattle.std.proofs.lemmas.List.{get_or-take, get_or_default, length-take-le, take_all}
use Rattle.std.proofs.lemmas.List.Folds.{list_any_more}
use Rattle.tr_base.specs.declared.Point.{Point}
use Rattle.tr_base.specs.declared.Size.{Size}
use Rattle.tr_base.specs.declared.NodeId.{NodeId}
use Rattle.tr_base.specs.Rects.{Edges, has_point, whole_of}
use Rattle.tr_base.proofs.PlaceLemmas.{in_whole, whole_has}
use Rattle.tr_region.specs.Points.{count_below, count_in_square, holds, sum_below}
use Rattle.tr_region.proofs.CountLemmas.{count_below-same, sum_below-add, sum_below-same}
use Rattle.tr_forest.specs.Forests.{IsForest}
use Rattle.tr_tree.specs.Trees.{Seen}
use Rattle.tr_surface.specs.Counts.{count_on}
use Rattle.tr_surface.specs.Surfaces.{AreOwn, Shown, any_holds, is_bad, is_on}
use Rattle.tr_surface.proofs.SurvivorLemmas.{owns_point}
use Rattle.tr_surface.proofs.GoodLemmas.{any_none, bad_is, one_owner}

-- ---- counts

-- one where the test is passed, and none where it isn't
abbrev pub one : Bool → ℕ
one b = cond b 1 0

count-apart : (n : ℕ) (both f g : ℕ → Bool) → ((x : ℕ) → one (both x) ≡ one (f x) + one (g x)) → count_below n both ≡ count_below n f + count_below n g
unfolding count_below
count-apart zero both f g each = refl
count-apart (suc n) both f g each =
    let before : count_below n both ≡ count_below n f + count_below n g = count-apart n both f g each in
    let here : one (both n) ≡ one (f n) + one (g n) = each n in
    omega (arith, before, here)

-- points that pass one of two tests that exclude each other
pub count_on-apart : (size : Size) (both f g : Point → Bool) → ((p : Point) → one (both p) ≡ one (f p) + one (g p)) →
    count_on size both ≡ count_on size f + count_on size g
count_on-apart size both f g each =
    sum_below-same size.high _ _ (λ v. count-apart size.wide (λ h. both (at h v)) (λ h. f (at h v)) (λ h. g (at h v)) (λ h. each (at h v)))
    ∙ sum_below-add size.high (λ v. count_below size.wide (λ h. f (at h v))) (λ v. count_below size.wide (λ h. g (at h v)))
  where
    at : ℕ → ℕ → Point
    at h v = record { h = pos h; v = pos v }

-- tests that agree count as many points
pub count_on-same : (size : Size) (f g : Point → Bool) → ((p : Point) → f p ≡ g p) → count_on size f ≡ count_on size g
count_on-same size f g same =
    sum_below-same size.high _ _ (λ v. count_below-same size.wide _ _ (λ h. same (record { h = pos h; v = pos v })))

-- all points of a screen
count-all : (n : ℕ) (test : ℕ → Bool) → ((x : ℕ) → x < n → test x ≡ true) → count_below n test ≡ n
unfolding count_below
count-all zero test all = refl
count-all (suc n) test all =
    let before : count_below n test ≡ n = count-all n test (λ x lt. all x (omega arith)) in
    let here : one (test n) ≡ 1 = ap one (all n (omega arith)) in
    omega (arith, before, here)

sum-all : (n k : ℕ) (f : ℕ → ℕ) → ((x : ℕ) → x < n → f x ≡ k) → sum_below n f ≡ n * k
unfolding sum_below
sum-all zero k f all = let none : sum_below 0 f ≡ 0 = refl in omega (arith, none)
sum-all (suc n) k f all =
    let before : sum_below n f ≡ n * k = sum-all n k f (λ x lt. all x (omega arith)) in
    let here : f n ≡ k = all n (omega arith) in
    omega (arith, before, here)

pub count_on-all : (size : Size) → count_on size (λ p. has_point (whole_of size) p) ≡ size.high * size.wide
count_on-all size =
    sum-all size.high size.wide (λ v. count_below size.wide (λ h. has_point (whole_of size) (record { h = pos h; v = pos v })))
    (λ v above. count-all size.wide (λ h. has_point (whole_of size) (record { h = pos h; v = pos v })) (λ h left. whole_has size h v left above))

-- ---- a greater square

pub sum_below-cut : (n k : ℕ) (f : ℕ → ℕ) → k ≤ n → ((x : ℕ) → k ≤ x → f x ≡ 0) → sum_below n f ≡ sum_below k f
unfolding sum_below
sum_below-cut zero k f within off = let none : 0 ≡ k = omega arith in ap (λ i. sum_below i f) none
sum_below-cut (suc n) k f within off = by_place (cases_lt k (suc n)) (λ h. sum_below-cut n k f h off)
  where
    by_place : (k < suc n) ⊎ (suc n ≤ k) → (k ≤ n → sum_below n f ≡ sum_below k f) → sum_below n f + f n ≡ sum_below k f
    by_place (inl before) rest = omega (arith, rest (omega (arith, before)), off n (omega (arith, before)))
    by_place (inr beyond) rest = let same : suc n ≡ k = omega (arith, within, beyond) in ap (λ i. sum_below i f) same

pub count_below-cut : (n k : ℕ) (test : ℕ → Bool) → k ≤ n → ((x : ℕ) → k ≤ x → test x ≡ false) → count_below n test ≡ count_below k test
unfolding count_below
count_below-cut zero k test within off = let none : 0 ≡ k = omega arith in ap (λ i. count_below i test) none
count_below-cut (suc n) k test within off = by_place (cases_lt k (suc n)) (λ h. count_below-cut n k test h off)
  where
    by_place : (k < suc n) ⊎ (suc n ≤ k) → (k ≤ n → count_below n test ≡ count_below k test) →
        count_below n test + cond (test n) 1 0 ≡ count_below k test
    by_place (inl before) rest =
        let none : one (test n) ≡ 0 = ap one (off n (omega (arith, before))) in
        omega (arith, rest (omega (arith, before)), none)
    by_place (inr beyond) rest = let same : suc n ≡ k = omega (arith, within, beyond) in ap (λ i. count_below i test) same

pub count_below-none : (n : ℕ) (test : ℕ → Bool) → ((x : ℕ) → test x ≡ false) → count_below n test ≡ 0
unfolding count_below
count_below-none zero test off = refl
count_below-none (suc n) test off = rw (count_below-none n test off, off n) refl

pub off_screen : (size : Size) (h v : ℕ) → (h < size.wide → v < size.high → ⊥) → has_point (whole_of size) (record { h = pos h; v = pos v }) ≡ false
off_screen size h v out = by_test (has_point (whole_of size) p) refl
  where
    p : Point
    p = record { h = pos h; v = pos v }

    by_test : (b : Bool) → has_point (whole_of size) p ≡ b → b ≡ false
    by_test true on = absurd (out (in_whole size p on).1 (in_whole size p on).0)
    by_test false off = refl

-- points that lie on a screen are counted in a greater square as on the screen
pub count_square : (size : Size) (test : Point → Bool) (n : ℕ) → size.wide ≤ n → size.high ≤ n →
    ((p : Point) → has_point (whole_of size) p ≡ false → test p ≡ false) →
    sum_below n (λ v. count_below n (λ h. test (record { h = pos h; v = pos v }))) ≡ count_on size test
count_square size test n across down off =
    sum_below-cut n size.high (λ v. count_below n (λ h. test (record { h = pos h; v = pos v }))) down
    (λ v beyond. count_below-none n (λ h. test (record { h = pos h; v = pos v }))
    (λ h. off _ (off_screen size h v (λ left above. omega (arith, above, beyond)))))
    ∙ sum_below-same size.high _ _ (λ v. count_below-cut n size.wide (λ h. test (record { h = pos h; v = pos v })) across
    (λ h beyond. off _ (off_screen size h v (λ left above. omega (arith, left, beyond)))))

-- ---- the good points of one node after another

-- the points of the screen that are none of the first so many nodes' good ones
abbrev pub left_after : Seen → List (List Edges) → ℕ → Point → Bool
left_after t good k p = is_on t p && not (any_holds (take k good) p)

-- a point of a node is none of the good ones of the nodes before
none_before : (t : Seen) → IsForest t.nodes → (good : List (List Edges)) → AreOwn t good → (k : ℕ) → k < length good → (p : Point) →
    holds (get_or good k []) p ≡ true → any_holds (take k good) p ≡ false
none_before t forest good own k lt p h = any_none (take k good) p (λ i less. each i less (holds (get_or (take k good) i []) p) refl)
  where
    at : NodeId
    at = record { 0 = k }

    each : (i : ℕ) → i < length (take k good) → (b : Bool) → holds (get_or (take k good) i []) p ≡ b → b ≡ false
    each i less false e = refl
    each i less true e =
        let few : length (take k good) ≡ k = length-take-le k good (omega (arith, lt)) in
        let before : i < k = omega (arith, less, few) in
        let here : NodeId = record { 0 = i } in
        let held : holds (get_or good i []) p ≡ true = sym (ap (λ (r : List Edges). holds r p) (get_or-take k good i [] before)) ∙ e in
        let same : here ≡ at = one_owner t forest here at p
        (own.points here p (record { within = omega (arith, before, lt, own.count) }) held)
        (own.points at p (record { within = omega (arith, lt, own.count) }) h) in
        let number : i ≡ k = ap (λ (n : NodeId). n.0) same in
        absurd (omega (arith, before, number))

-- a good point of a node lies on the screen
pub item_on : (t : Seen) → IsForest t.nodes → (good : List (List Edges)) → AreOwn t good → (k : ℕ) (d : List Edges) → k < length good → d ≡ get_or good k d →
    (p : Point) → holds d p ≡ true → is_on t p ≡ true
item_on t forest good own k d lt is p h =
    let at : NodeId = record { 0 = k } in
    (owns_point t forest at p (own.points at p (record { within = omega (arith, lt, own.count) })
    (ap (λ (r : List Edges). holds r p) (sym (is ∙ get_or_default good k d [] lt)) ∙ h))).on

-- one node more
pub count_more : (t : Seen) → IsForest t.nodes → t.size.wide ≤ 1024 → t.size.high ≤ 1024 → (good : List (List Edges)) → AreOwn t good →
    (k : ℕ) (d : List Edges) → k < length good → d ≡ get_or good k d →
    count_on t.size (left_after t good k) ≡ count_on t.size (left_after t good (k + 1)) + count_in_square 1024 d
count_more t forest across down good own k d lt is =
    count_on-apart t.size (left_after t good k) (left_after t good (k + 1)) (λ p. holds d p) each
    ∙ ap (λ n. count_on t.size (left_after t good (k + 1)) + n) (sym (count_square t.size (λ p. holds d p) 1024 across down off))
  where
    item : d ≡ get_or good k []
    item = is ∙ get_or_default good k d [] lt

    on : (p : Point) → holds d p ≡ true → is_on t p ≡ true
    on = item_on t forest good own k d lt is

    off : (p : Point) → has_point (whole_of t.size) p ≡ false → holds d p ≡ false
    off p out = by_test (holds d p) refl
      where
        by_test : (b : Bool) → holds d p ≡ b → b ≡ false
        by_test true h = sym (on p h) ∙ out
        by_test false h = refl

    more : (p : Point) → any_holds (take (k + 1) good) p ≡ (any_holds (take k good) p || holds d p)
    more p = list_any_more (λ r. holds r p) good k d lt ∙ ap (λ (r : List Edges). any_holds (take k good) p || holds r p) (sym is)

    by_tests : (screen before here : Bool) → (here ≡ true → screen ≡ true) → (here ≡ true → before ≡ false) →
        one (screen && not before) ≡ one (screen && not (before || here)) + one here
    by_tests true false true f g = refl
    by_tests true true true f g = let h : true ≡ false = g refl in cc
    by_tests false before true f g = let h : false ≡ true = f refl in cc
    by_tests true true false f g = refl
    by_tests true false false f g = refl
    by_tests false before false f g = refl

    each : (p : Point) → one (left_after t good k p) ≡ one (left_after t good (k + 1) p) + one (holds d p)
    each p =
        by_tests (is_on t p) (any_holds (take k good) p) (holds d p) (on p)
        (λ h. none_before t forest good own k lt p (ap (λ (r : List Edges). holds r p) (sym item) ∙ h))
        ∙ sym (ap (λ x. one (is_on t p && not x) + one (holds d p)) (more p))

-- at first, and at the end
pub count_none : (t : Seen) (good : List (List Edges)) → count_on t.size (left_after t good 0) ≡ t.size.high * t.size.wide
count_none t good = count_on-same t.size (left_after t good 0) (λ p. is_on t p) (λ p. and_true (is_on t p)) ∙ count_on-all t.size
  where
    and_true : (b : Bool) → (b && true) ≡ b
    and_true true = refl
    and_true false = refl

pub count_end : (s : Shown) (k : ℕ) → length s.good ≤ k → count_on s.tree.size (left_after s.tree s.good k) ≡ count_on s.tree.size (is_bad s)
count_end s k all = count_on-same s.tree.size (left_after s.tree s.good k) (is_bad s)
    (λ p. ap (λ (g : List (List Edges)). is_on s.tree p && not (any_holds g p)) (take_all k s.good all) ∙ sym (bad_is s p))

-- the points that are left once one node more is seen to
pub left_more : (t : Seen) (good : List (List Edges)) (k : ℕ) (d : List Edges) → k < length good → d ≡ get_or good k d → (p : Point) →
    (left_after t good k p && not (holds d p)) ≡ left_after t good (k + 1) p
left_more t good k d lt is p =
    by_tests (is_on t p) (any_holds (take k good) p) (holds d p)
    ∙ sym (ap (λ b. is_on t p && not b)
    (list_any_more (λ r. holds r p) good k d lt ∙ ap (λ (r : List Edges). any_holds (take k good) p || holds r p) (sym is)))
  where
    by_tests : (a b c : Bool) → ((a && not b) && not c) ≡ (a && not (b || c))
    by_tests true true c = refl
    by_tests true false c = refl
    by_tests false b c = refl

pub left_end : (s : Shown) (k : ℕ) → length s.good ≤ k → (p : Point) → left_after s.tree s.good k p ≡ is_bad s p
left_end s k all p = ap (λ (g : List (List Edges)). is_on s.tree p && not (any_holds g p)) (take_all k s.good all) ∙ sym (bad_is s p)
