-- Tests of the points of a screen, and what each point of it belongs to.
use Rattle.std.proofs.Common.{◌≡◌, ℕ, zero, suc, ◌+◌, ◌<◌, ℤ, pos, negsuc, Bool, true, false, ◌&&◌, cond, Option, Some, None, ◌⊎◌, inl, inr, refl, sym, ap, subst, ◌∙◌, arith}
use Rattle.std.specs.Prelude.{IsSome, nat_lt}
use Rattle.std.proofs.lemmas.Bool.{and_from, cases_lt}
use Rattle.std.proofs.lemmas.Bool.Decides.{nat_tests}
use Rattle.std.proofs.lemmas.Int.{ints}
use Rattle.tr_base.specs.declared.Point.{Point}
use Rattle.tr_base.specs.declared.Size.{Size}
use Rattle.tr_base.specs.declared.NodeId.{NodeId}
use Rattle.tr_base.specs.declared.LeafId.{LeafId}
use Rattle.tr_base.specs.declared.Spot.TheVariants as spots
use Rattle.tr_base.specs.Rects.{between, has_point, whole_of}
use Rattle.tr_base.proofs.RectLemmas.{false-true, has_point-rect_of}
use Rattle.tr_region.specs.Points.{count_below, sum_below}
use Rattle.tr_forest.specs.declared.NodeKind.{NodeKind}
use Rattle.tr_forest.specs.declared.NodeKind.TheVariants as kinds
use Rattle.tr_forest.specs.Nodes.{node, leaf_count, leaf_of}
use Rattle.tr_forest.specs.Forests.{IsForest}
use Rattle.tr_tree.specs.Trees.{Seen}
use Rattle.tr_spot.specs.Spots.{HasRoot, owner, spot, spot_on, spot_below, is_in_leaf}
use Rattle.tr_spot.proofs.WayLemmas.{and_left, and_right, equal_test}
use Rattle.tr_surface.specs.Surfaces.{is_on, is_frame}
use Rattle.tr_surface.specs.Counts.{any_on, count_on}

-- ---- counts and sums over the numbers below another

-- a number below n that passes the test
abbrev Passes : ℕ → (ℕ → Bool) → Type 0
Passes n test = (k : ℕ) × (k < n) × (test k ≡ true)

-- where none is counted the test fails at each number
none_below : (n : ℕ) (test : ℕ → Bool) → count_below n test ≡ 0 → (k : ℕ) → k < n → test k ≡ false
unfolding count_below
none_below zero test none k lt = absurd (omega arith)
none_below (suc n) test none k lt = elim (cases_lt k n) [
  | inl less ↦ none_below n test (omega arith) k less
  | inr le ↦ (let same : n ≡ k = omega arith in subst (λ j. test j ≡ false) same (last (test n) (omega arith)))
]
  where
    last : (b : Bool) → ◌≡◌ {A = ℕ} (cond b 1 0) 0 → b ≡ false
    last true h = absurd (omega arith)
    last false h = refl

-- where some is counted there is one that passes it
some_below : (n : ℕ) (test : ℕ → Bool) → 0 < count_below n test → Passes n test
unfolding count_below
some_below zero test some = absurd (omega arith)
some_below (suc n) test some = by_test (test n) refl (some_below n test) some
  where
    by_test : (b : Bool) → test n ≡ b → (0 < count_below n test → Passes n test) → 0 < count_below n test + cond b 1 0 → Passes (suc n) test
    by_test true is before more = (n, omega arith, is)
    by_test false is before more = let found = before (omega arith) in (found.0, omega arith, found.2)

-- a sum that is zero has zeros alone
zeros_below : (n : ℕ) (f : ℕ → ℕ) → sum_below n f ≡ 0 → (k : ℕ) → k < n → f k ≡ 0
unfolding sum_below
zeros_below zero f none k lt = absurd (omega arith)
zeros_below (suc n) f none k lt = elim (cases_lt k n) [
  | inl less ↦ zeros_below n f (omega arith) k less
  | inr le ↦ (let same : n ≡ k = omega arith in subst (λ j. f j ≡ 0) same (omega arith))
]

-- another sum has more than zeros
more_below : (n : ℕ) (f : ℕ → ℕ) → 0 < sum_below n f → (k : ℕ) × (k < n) × (0 < f k)
unfolding sum_below
more_below zero f some = absurd (omega arith)
more_below (suc n) f some = elim (cases_lt 0 (f n)) [
  | inl more ↦ (n, omega arith, more)
  | inr none ↦ (let found = more_below n f (omega arith) in (found.0, omega arith, found.2))
]

-- ---- the points of a screen by their columns and rows

-- a point by its column and row
abbrev point_at : ℕ → ℕ → Point
point_at column row = record { h = pos column; v = pos row }

-- the point of a screen of this size that has this column and row
record IsAt (size : Size) (p : Point) : Type 0 where
  column : ℕ
  row : ℕ
  across : column < size.wide
  down : row < size.high
  is : point_at column row ≡ p

-- a number from 0 on and before n lies below it
before_end : (n k : ℕ) → between (pos 0) (pos n) (pos k) ≡ true → k < n
before_end n k h = grind (arith, ints)

-- no negative number does
no_negative : (n k : ℕ) → between (pos 0) (pos n) (negsuc k) ≡ true → ⊥
no_negative n k h = grind (arith, ints)

-- each number below n is such a one
within_end : (n k : ℕ) → k < n → between (pos 0) (pos n) (pos k) ≡ true
within_end n k h = grind (arith, ints)

-- which number it is
number_of : (n : ℕ) (x : ℤ) → between (pos 0) (pos n) x ≡ true → (k : ℕ) × (k < n) × (pos k ≡ x)
number_of n (pos k) h = (k, before_end n k h, refl)
number_of n (negsuc k) h = absurd (no_negative n k h)

-- each point of the screen has a column and a row
at_point : (size : Size) (p : Point) → has_point (whole_of size) p ≡ true → IsAt size p
at_point size p on = record {
  column = h.0;
  row = v.0;
  across = h.1;
  down = v.1;
  is = ap (λ x. pointed x (pos v.0)) h.2 ∙ ap (λ y. pointed p.h y) v.2;
}
  where
    pointed : ℤ → ℤ → Point
    pointed x y = record { h = x; v = y }

    both : between (pos 0) (pos size.wide) p.h && between (pos 0) (pos size.high) p.v ≡ true
    both = sym (has_point-rect_of (pos 0) (pos size.wide) (pos 0) (pos size.high) p) ∙ on

    h : (k : ℕ) × (k < size.wide) × (pos k ≡ p.h)
    h = number_of size.wide p.h (and_left (between (pos 0) (pos size.wide) p.h) (between (pos 0) (pos size.high) p.v) both)

    v : (k : ℕ) × (k < size.high) × (pos k ≡ p.v)
    v = number_of size.high p.v (and_right (between (pos 0) (pos size.wide) p.h) (between (pos 0) (pos size.high) p.v) both)

-- a column and a row within the size are those of a point of the screen
on_screen : (size : Size) (column row : ℕ) → column < size.wide → row < size.high → has_point (whole_of size) (point_at column row) ≡ true
on_screen size column row across down =
    has_point-rect_of (pos 0) (pos size.wide) (pos 0) (pos size.high) (point_at column row)
    ∙ and_from _ _ (within_end size.wide column across) (within_end size.high row down)

-- a count of which the test fails that it is more than zero
no_more : (n : ℕ) → nat_lt 0 n ≡ false → n ≡ 0
no_more n h = grind (arith, nat_tests)

-- and one that passes it
some_more : (n : ℕ) → nat_lt 0 n ≡ true → 0 < n
some_more n h = grind (arith, nat_tests)

-- where no point of a screen passes a test, it fails at each of them
pub none_on : (size : Size) (test : Point → Bool) → any_on size test ≡ false → (p : Point) → has_point (whole_of size) p ≡ true → test p ≡ false
none_on size test none p on =
    let at : IsAt size p = at_point size p on in
    let in_row : ℕ → ℕ → Bool = λ row column. test (point_at column row) in
    let row_is = zeros_below size.high (λ row. count_below size.wide (in_row row)) (no_more (count_on size test) none) at.row at.down in
    subst (λ (q : Point). test q ≡ false) at.is (none_below size.wide (in_row at.row) row_is at.column at.across)

-- where some point of a screen passes a test, there is one
pub some_on : (size : Size) (test : Point → Bool) → any_on size test ≡ true → (p : Point) × (has_point (whole_of size) p ≡ true) × (test p ≡ true)
some_on size test some =
    let in_row : ℕ → ℕ → Bool = λ row column. test (point_at column row) in
    let row = more_below size.high (λ row. count_below size.wide (in_row row)) (some_more (count_on size test) some) in
    let column = some_below size.wide (in_row row.0) row.2 in
    (point_at column.0 row.0, on_screen size column.0 row.0 column.1 row.1, column.2)

-- ---- what a point of the screen belongs to

-- a leaf below the count of leaves whose visible point it is
pub record IsOwned (t : Seen) (p : Point) : Type 0 where
  pub leaf : LeafId
  pub below : leaf.0 < leaf_count t.nodes
  pub visible : is_in_leaf leaf (spot t p) ≡ true

-- a leaf's point or a frame's
abbrev pub IsCovered : Seen → Point → Type 0
IsCovered t p = IsOwned t p ⊎ (is_frame (spot t p) ≡ true)

-- each point of the screen is such a one
pub covered : (t : Seen) (p : Point) → IsForest t.nodes → HasRoot t → is_on t p ≡ true → IsCovered t p
covered t p forest root on = by_root t.nodes.root root is
  where
    is : spot t p ≡ spot_below t p t.nodes.root
    is = ap (λ b. cond b (spot_below t p t.nodes.root) spots.Off) on

    by_kind : (n : NodeId) (kind : NodeKind) → (node t.nodes n).kind ≡ kind → spot t p ≡ spot_on t p n kind → IsCovered t p
    by_kind n (kinds.Leaf leaf shapes) e s = inl (record {
      leaf = leaf;
      below = forest.numbered n leaf (ap leaf_of e);
      visible = ap (is_in_leaf leaf) s ∙ equal_test leaf.0 leaf.0 refl;
    })
    by_kind n kind e s = inr (ap is_frame s)

    by_root : (o : Option NodeId) → IsSome o → spot t p ≡ spot_below t p o → IsCovered t p
    by_root None none s = absurd (false-true none)
    by_root (Some r) some s = by_kind (owner t r p) (node t.nodes (owner t r p)).kind refl s
