-- Where the children of a Z, a T and a Page stand.
use Rattle.std.proofs.Common.{◌≡◌, ℕ, ◌+◌, ◌*◌, ◌/◌, ◌%◌, ◌<◌, ◌≤◌, zero, suc, pos, ◌+ℤ◌, ◌≤ℤ◌, ℤ, Bool, true, false, cond, inl, eqb, List, [], ◌∷◌, length, get_or, refl, sym, ap, ◌∙◌, arith}
use Rattle.std.specs.Prelude.{All}
use Rattle.std.proofs.lemmas.Int.{ints}
use Rattle.std.proofs.lemmas.List.Elements.{All-nil, All-cons}
use Rattle.std.proofs.lemmas.Nat.{div-add-mod', mod_below}
use Rattle.std.proofs.lemmas.Bool.Decides.{nat_tests}
use Rattle.std.proofs.Math.Nat.{mul-le-mul_right, mul-div-le}
use Rattle.tr_base.specs.declared.points.Point.{Point}
use Rattle.tr_base.specs.declared.shapes.Shapes.{Shapes}
use Rattle.tr_base.specs.Rects.{Edges, IsRect, empty_rect, sides_of}
use Rattle.tr_base.specs.Layouts.{preferred_place, IsPartOf, ShareNoPoint}
use Rattle.tr_base.proofs.LayoutLemmas.{empty_is_rect, part_of_empty, part-placed, part_itself, apart_down, apart_empty_left, apart_empty_right}
use Rattle.tr_stack.specs.Stacks.{z_places, t_place, page_strip, page_place}

pub length-z_places : (e : Edges) (ats : List Point) (cs : List Shapes) → length ats ≡ length cs → length (z_places e ats cs) ≡ length cs
length-z_places e [] [] h = refl
length-z_places e [] (c ∷ cs) h = absurd (omega arith)
length-z_places e (at ∷ ats) [] h = absurd (omega arith)
length-z_places e (at ∷ ats) (c ∷ cs) h = omega (arith, length-z_places e ats cs (omega arith))

pub get_or-z_places : (e : Edges) (ats : List Point) (cs : List Shapes) (k : ℕ) (a : Point) (s : Shapes) (d : Edges) → k < length ats → k < length cs →
    get_or (z_places e ats cs) k d ≡ preferred_place e (get_or ats k a) (get_or cs k s)
get_or-z_places e [] cs k a s d h l = absurd (omega arith)
get_or-z_places e (at ∷ ats) [] k a s d h l = absurd (omega arith)
get_or-z_places e (at ∷ ats) (c ∷ cs) zero a s d h l = refl
get_or-z_places e (at ∷ ats) (c ∷ cs) (suc k) a s d h l = get_or-z_places e ats cs k a s d (omega arith) (omega arith)

-- what the loop places is the child's place
pub z_place_read : (e : Edges) (ats : List Point) (cs : List Shapes) (i : ℕ) (a : Point) (child : Shapes) (r : Edges) → i < length ats → i < length cs →
    child ≡ get_or cs i child → r ≡ preferred_place e (get_or ats i a) child → r ≡ get_or (z_places e ats cs) i r
z_place_read e ats cs i a child r short lt is place =
    place ∙ ap (λ (s : Shapes). preferred_place e (get_or ats i a) s) is ∙ sym (get_or-z_places e ats cs i a child r short lt)

-- what holds of the whole rectangle and of the empty one holds of each child of a T
pub by_t_place : (P : Edges → Type 0) (e : Edges) (shown k : ℕ) → P e → P empty_rect → P (t_place e shown k)
by_t_place P e shown k whole none = by_test (eqb k shown)
  where
    by_test : (b : Bool) → P (cond b e empty_rect)
    by_test true = whole
    by_test false = none

pub t_part : (e : Edges) (shown k : ℕ) → IsPartOf (t_place e shown k) e
t_part e shown k = by_t_place (λ (r : Edges). IsPartOf r e) e shown k (part_itself e) (inl refl)

pub t_empty : (e : Edges) (shown k : ℕ) → e ≡ empty_rect → t_place e shown k ≡ empty_rect
t_empty e shown k h = by_t_place (λ (r : Edges). r ≡ empty_rect) e shown k h refl

-- a T shows one child at most
pub t_apart : (e : Edges) (shown i j : ℕ) → i < j → ShareNoPoint (t_place e shown i) (t_place e shown j)
t_apart e shown i j lt = by_tests (eqb i shown) (eqb j shown) refl refl
  where
    by_tests : (a b : Bool) → eqb i shown ≡ a → eqb j shown ≡ b → ShareNoPoint (cond a e empty_rect) (cond b e empty_rect)
    by_tests true true h k = absurd (grind (arith, nat_tests))
    by_tests true false h k = apart_empty_right e
    by_tests false b h k = apart_empty_left (cond b e empty_rect)

-- the k-th of some strips ends within the height
pub strip_within : (high per k : ℕ) → k < per → k * (high / per) + high / per ≤ high
strip_within high per k lt = omega (arith, mul-le-mul_right (high / per) (suc_le k per lt), mul-div-le high per)
  where
    suc_le : (k per : ℕ) → k < per → k + 1 ≤ per
    suc_le k per lt = omega arith

pub strip_part : (e : Edges) (per k : ℕ) → IsRect e → k < per → IsPartOf (page_strip e per k) e
strip_part e per k is lt =
    let height = (sides_of e).1 / per in
    part-placed e 0 (k * height) ((sides_of e).0, height) is (omega arith) (strip_within (sides_of e).1 per k lt)

-- the strips of an empty node are empty
pub strip_empty : (per k : ℕ) → k < per → page_strip empty_rect per k ≡ empty_rect
strip_empty per k lt =
    part_of_empty (pos 0 +ℤ pos 0) (pos 0 +ℤ pos 0 +ℤ pos 0) (pos 0 +ℤ pos (k * (0 / per))) (pos 0 +ℤ pos (k * (0 / per)) +ℤ pos (0 / per))
    (strip_part empty_rect per k empty_is_rect lt)

-- a later strip begins where the earlier one ends, or beyond
pub strips_apart : (e : Edges) (per a b : ℕ) → a < b → ShareNoPoint (page_strip e per a) (page_strip e per b)
strips_apart e per a b lt =
    let h : ℕ = (sides_of e).1 / per in
    let wide : ℕ = (sides_of e).0 in
    apart_down (e.west +ℤ pos 0) (e.west +ℤ pos 0 +ℤ pos wide) (e.north +ℤ pos (a * h)) (e.north +ℤ pos (a * h) +ℤ pos h)
    (e.west +ℤ pos 0) (e.west +ℤ pos 0 +ℤ pos wide) (e.north +ℤ pos (b * h)) (e.north +ℤ pos (b * h) +ℤ pos h)
    (below e.north (a * h) h (b * h) (later h))
  where
    later : (h : ℕ) → a * h + h ≤ b * h
    later h = let le : a + 1 ≤ b = omega arith in omega (arith, mul-le-mul_right h le)

    below : (n : ℤ) (x h y : ℕ) → x + h ≤ y → (n +ℤ pos x +ℤ pos h) ≤ℤ (n +ℤ pos y)
    below n x h y le = omega (arith, ints)

-- what holds of each strip and of the empty rectangle holds of each child of a Page
pub by_page_place : (P : Edges → Type 0) (e : Edges) (per page k : ℕ) → P (page_strip e per (k % per)) → P empty_rect → P (page_place e per page k)
by_page_place P e per page k on off = by_test (eqb (k / per) page)
  where
    by_test : (b : Bool) → P (cond b (page_strip e per (k % per)) empty_rect)
    by_test true = on
    by_test false = off

pub page_part : (e : Edges) (per page k : ℕ) → IsRect e → 1 ≤ per → IsPartOf (page_place e per page k) e
page_part e per page k is some =
    by_page_place (λ (r : Edges). IsPartOf r e) e per page k (strip_part e per (k % per) is (mod_below k per some)) (inl refl)

pub page_apart : (e : Edges) (per page i j : ℕ) → 1 ≤ per → i < j → ShareNoPoint (page_place e per page i) (page_place e per page j)
page_apart e per page i j some lt = by_tests (eqb (i / per) page) (eqb (j / per) page) refl refl
  where
    later : i / per ≡ page → j / per ≡ page → i % per < j % per
    later h k =
        let first : page * per + i % per ≡ i = rw h at (div-add-mod' i per) in
        let second : page * per + j % per ≡ j = rw k at (div-add-mod' j per) in
        omega arith

    by_tests : (a b : Bool) → eqb (i / per) page ≡ a → eqb (j / per) page ≡ b →
        ShareNoPoint (cond a (page_strip e per (i % per)) empty_rect) (cond b (page_strip e per (j % per)) empty_rect)
    by_tests true true h k = strips_apart e per (i % per) (j % per) (later (grind (arith, nat_tests)) (grind (arith, nat_tests)))
    by_tests true false h k = apart_empty_right (page_strip e per (i % per))
    by_tests false b h k = apart_empty_left (cond b (page_strip e per (j % per)) empty_rect)

pub page_empty : (e : Edges) (per page k : ℕ) → 1 ≤ per → e ≡ empty_rect → page_place e per page k ≡ empty_rect
page_empty e per page k some h =
    ap (λ (r : Edges). page_place r per page k) h
    ∙ by_page_place (λ (r : Edges). r ≡ empty_rect) empty_rect per page k (strip_empty per (k % per) (mod_below k per some)) refl

-- nothing of an empty Z is shown
pub z_empty : (e : Edges) (ats : List Point) (cs : List Shapes) → e ≡ empty_rect → All (λ (r : Edges). r ≡ empty_rect) (z_places e ats cs)
z_empty e [] cs h = All-nil (λ (r : Edges). r ≡ empty_rect)
z_empty e (at ∷ ats) [] h = All-nil (λ (r : Edges). r ≡ empty_rect)
z_empty e (at ∷ ats) (c ∷ cs) h =
    All-cons (λ (r : Edges). r ≡ empty_rect) (preferred_place e at c) (z_places e ats cs) (ap (λ (r : Edges). preferred_place r at c) h) (z_empty e ats cs h)
