-- The sums of commands in a row.
use Rattle.std.proofs.Common.{◌≡◌, ◌≢◌, ℕ, ◌+◌, ◌-◌, ◌*◌, ◌^◌, Bool, true, false, ◌||◌, List, [], ◌∷◌, ◌++◌, refl, sym, ap, ◌∙◌, ⊎_elim, arith, zero-add}
use Rattle.std.specs.Prelude.{min, int_lt}
use Rattle.std.proofs.lemmas.Bool.{or_cases, and_parts, or_left, or_right}
use Rattle.std.proofs.lemmas.List.Folds.{list_any-append}
use Rattle.std.proofs.lemmas.List.Sums.{sum_by-append}
use Rattle.std.proofs.lemmas.List.Elements.{All-append, All-weaker, All-nil, All-cons}
use Rattle.tr_base.specs.declared.Point.{Point}
use Rattle.tr_base.specs.Rects.{Edges, IsRect, empty_rect, has_point}
use Rattle.tr_paint.specs.declared.paints.Paint.{Paint}
use Rattle.tr_paint.specs.declared.paints.Paint.TheVariants.{Scroll}
use Rattle.tr_paint.specs.declared.sums.Scrolls.{Scrolls}
use Rattle.tr_paint.specs.declared.sums.Scrolls.TheVariants.{Absent, Alike, Various}
use Rattle.tr_paint.specs.Paints.{area, has_area}
use Rattle.tr_paint.specs.Batches.{touches, IsBatch}
use Rattle.tr_paint.specs.Hulls.{HasAll}
use Rattle.tr_paint.proofs.HullLemmas.{lies}
use Rattle.tr_paint.specs.Sums.{points_in, weight, cost_of, is_spoil, has_spoil, IsOneOf, AreScrolls, IsHull}

-- the least rectangle round those of two lists
pub hull-append : (e a b : Edges) (xs ys : List Paint) → HasAll e (has_point a) → HasAll e (has_point b) →
    ((outer : Edges) → HasAll outer (has_point a) → HasAll outer (has_point b) → HasAll outer (has_point e)) →
    IsHull a xs → IsHull b ys → IsHull e (xs ++ ys)
hull-append e a b xs ys first second least some others = record {
  touched = λ q h.
      ⊎_elim (λ (k : touches xs q ≡ true). first q (some.touched q k)) (λ (k : touches ys q ≡ true). second q (others.touched q k))
      (or_cases (touches xs q) (touches ys q) (sym (both q) ∙ h));
  least = λ outer all.
      least outer (some.least outer (λ q k. all q (both q ∙ or_left (touches xs q) (touches ys q) k)))
      (others.least outer (λ q k. all q (both q ∙ or_right (touches xs q) (touches ys q) k)));
}
  where
    both : (q : Point) → touches (xs ++ ys) q ≡ (touches xs q || touches ys q)
    both q = list_any-append (λ c. has_point (area c) q) xs ys

-- the area of one command is its hull
pub hull-one : (c : Paint) → IsHull (area c) (c ∷ [])
hull-one c = record {
  touched = λ q h. or_none (has_point (area c) q) h;
  least = λ outer all q h. all q (or_left (has_point (area c) q) false h);
}
  where
    or_none : (b : Bool) → (b || false) ≡ true → b ≡ true
    or_none true h = refl
    or_none false h = h

-- the cost of two lists
pub cost-append : (m n : ℕ) (xs ys : List Paint) → m ≡ cost_of xs → n ≡ cost_of ys → min (m + n) (2 ^ 64 - 1) ≡ cost_of (xs ++ ys)
cost-append m n xs ys hm hn =
    let sum = sum_by-append (λ (c : Paint). points_in (area c) * weight c) xs ys in
    omega (arith, sum)

-- the scrolls of two lists
pub scrolls-append : (s t both : Scrolls) (xs ys : List Paint) → ((c : Paint) → IsOneOf s c → IsOneOf both c) →
    ((c : Paint) → IsOneOf t c → IsOneOf both c) → AreScrolls s xs → AreScrolls t ys → AreScrolls both (xs ++ ys)
scrolls-append s t both xs ys first second some others =
    All-append (IsOneOf both) xs ys (All-weaker (IsOneOf s) (IsOneOf both) first xs some) (All-weaker (IsOneOf t) (IsOneOf both) second ys others)

pub scrolls-one : (s : Scrolls) (c : Paint) → IsOneOf s c → AreScrolls s (c ∷ [])
scrolls-one s c is = All-cons (IsOneOf s) c [] is (All-nil (IsOneOf s))

-- what is no scroll is allowed by any summary
pub no_scroll-one : (s : Scrolls) (c : Paint) → IsOneOf Absent c → IsOneOf s c
no_scroll-one s (Scroll clip delta) h = absurd h
no_scroll-one Absent c h = h
no_scroll-one (Alike clip delta) c h = tt
no_scroll-one Various c h = tt

-- the cost of one command
pub cost-one : (c : Paint) (n : ℕ) → n ≡ min (points_in (area c) * weight c) (2 ^ 64 - 1) → n ≡ cost_of (c ∷ [])
cost-one c n h = h ∙ ap (λ (k : ℕ). min k (2 ^ 64 - 1)) (sym (zero-add (points_in (area c) * weight c)))

-- what is no spoil adds none
pub spoils-still : (c : Paint) (xs : List Paint) → is_spoil c ≡ false → has_spoil xs ≡ has_spoil (xs ++ c ∷ [])
spoils-still c xs h =
    sym (list_any-append is_spoil xs (c ∷ []) ∙ ap (λ (b : Bool). has_spoil xs || (b || false)) h ∙ alone (has_spoil xs))
  where
    alone : (b : Bool) → (b || false) ≡ b
    alone true = refl
    alone false = refl

-- two batches in a row are one
pub batch-append : (xs ys : List Paint) → IsBatch xs → IsBatch ys → IsBatch (xs ++ ys)
batch-append [] ys some others = others
batch-append (x ∷ xs) ys some others = (some.0, batch-append xs ys some.1 others)

-- a command whose area isn't the empty rectangle is kept
pub full-area : (c : Paint) (e : Edges) → e ≡ area c → IsRect e → e ≢ empty_rect → has_area c ≡ true
full-area c e is rect full = ap (λ (r : Edges). int_lt r.west r.east) (sym is) ∙ (and_parts _ _ (lies e rect full)).0
