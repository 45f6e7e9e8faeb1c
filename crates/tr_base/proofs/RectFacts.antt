-- Facts of rectangles and of what lies between edges, for the crates above.
use Rattle.std.proofs.Common.{◌≡◌, ℤ, ◌≤ℤ◌, ◌<ℤ◌, true, false, ◌&&◌, w32, to_z, of_z, SFits, refl, sym, ap, ◌∙◌, arith, Bool, cond, pos}
use Rattle.std.specs.Prelude.{int_lt, unsigned_abs}
use Rattle.std.specs.Bool.{Decides}
use Rattle.std.specs.Ordering.{int_eq}
use Rattle.std.proofs.lemmas.Int.{clamps, ints, to_z-of_z}
use Rattle.std.proofs.lemmas.Bool.Decides.{Decides-and, Decides-int_eq, Decides-like}
use Rattle.std.specs.Int.{int_min, int_max}
use Rattle.tr_base.specs.Rects.{AreInReach, Edges, InReach, between, empty_rect, rect_of}
use Rattle.tr_base.proofs.RectLemmas.{cast-in_reach}

pub between-within : (low high x : ℤ) → low ≤ℤ x → x <ℤ high → between low high x ≡ true
between-within low high x h k = grind (arith, ints)

pub between-before : (low high y : ℤ) → y <ℤ low → between low high y ≡ false
between-before low high y h = grind (arith, ints)

pub between-beyond : (low high y : ℤ) → high ≤ℤ y → between low high y ≡ false
between-beyond low high y h = grind (arith, ints)

-- edges with points between them are those of their rectangle
pub rect_of-full : (w e n s : ℤ) → w <ℤ e → n <ℤ s → rect_of w e n s ≡ record { west = w; east = e; north = n; south = s }
rect_of-full w e n s h k =
    let across : int_lt w e ≡ true = grind (arith, ints) in
    let down : int_lt n s ≡ true = grind (arith, ints) in
    rw (across, down) refl

-- two coordinates within reach that have the same bits are equal
pub same_bits : (x y : ℤ) → InReach x → SFits w32 y → of_z w32 x ≡ of_z w32 y → x ≡ y
same_bits x y reach fits e = sym (cast-in_reach x reach) ∙ ap (to_z w32) e ∙ to_z-of_z w32 y fits

-- a rectangle is told by its edges
pub edges_are : (e : Edges) (west east north south : ℤ) → west ≡ e.west → east ≡ e.east → north ≡ e.north → south ≡ e.south →
    (let r : Edges = record { west = west; east = east; north = north; south = south } in r ≡ e)
edges_are e west east north south w x n s = rw (w, x, n, s) refl

-- equal edges are told one by one
pub same_edges : (a b : Edges) → Decides (int_eq a.west b.west && (int_eq a.east b.east && (int_eq a.north b.north && int_eq a.south b.south))) (a ≡ b)
same_edges a b = Decides-like _ joined parted
    (Decides-and _ _ (Decides-int_eq a.west b.west)
    (Decides-and _ _ (Decides-int_eq a.east b.east) (Decides-and _ _ (Decides-int_eq a.north b.north) (Decides-int_eq a.south b.south))))
  where
    joined : (a.west ≡ b.west) × ((a.east ≡ b.east) × ((a.north ≡ b.north) × (a.south ≡ b.south))) → a ≡ b
    joined h = edges b.west b.east b.north b.south h.0 h.1.0 h.1.1.0 h.1.1.1
      where
        edges : (w e n s : ℤ) → a.west ≡ w → a.east ≡ e → a.north ≡ n → a.south ≡ s →
            (let r : Edges = record { west = w; east = e; north = n; south = s } in a ≡ r)
        edges w e n s p q r t = rw (← p, ← q, ← r, ← t) refl

    parted : a ≡ b → (a.west ≡ b.west) × ((a.east ≡ b.east) × ((a.north ≡ b.north) × (a.south ≡ b.south)))
    parted h = (ap (λ (r : Edges). r.west) h, (ap (λ (r : Edges). r.east) h, (ap (λ (r : Edges). r.north) h, ap (λ (r : Edges). r.south) h)))

pub between_parts : (low high x : ℤ) → between low high x ≡ true → (low ≤ℤ x) × (x <ℤ high)
between_parts low high x h = (grind (arith, ints), grind (arith, ints))

-- what lies between the edges of one of two intervals lies between the outer edges
pub between-hull_left : (a b c d x : ℤ) → between a c x ≡ true → between (int_min a b) (int_max c d) x ≡ true
between-hull_left a b c d x h = grind (arith, ints, clamps)

pub between-hull_right : (a b c d x : ℤ) → between b d x ≡ true → between (int_min a b) (int_max c d) x ≡ true
between-hull_right a b c d x h = grind (arith, ints, clamps)

-- the lesser and the greater of two coordinates, in either order
pub int_min_comm : (a b : ℤ) → int_min a b ≡ int_min b a
int_min_comm a b = grind (arith, ints, clamps)

pub int_max_comm : (a b : ℤ) → int_max a b ≡ int_max b a
int_max_comm a b = grind (arith, ints, clamps)

-- a number that isn't negative
pub abs_is : (z : ℤ) → pos 0 ≤ℤ z → pos (unsigned_abs z) ≡ z
abs_is z h = grind (arith, ints)

-- the rectangle of edges within reach is within reach
pub rect_of-in_reach : (w e n s : ℤ) → InReach w → InReach e → InReach n → InReach s → AreInReach (rect_of w e n s)
rect_of-in_reach w e n s hw he hn hs = by_test (int_lt w e && int_lt n s)
  where
    none : InReach (pos 0)
    none = record { low = omega (arith, ints); high = omega (arith, ints) }

    by_test : (b : Bool) → AreInReach (cond b (record { west = w; east = e; north = n; south = s }) empty_rect)
    by_test true = record { west = hw; east = he; north = hn; south = hs }
    by_test false = record { west = none; east = none; north = none; south = none }
