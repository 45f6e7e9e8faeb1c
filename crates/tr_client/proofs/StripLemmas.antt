-- The strips of a window: which points they have, and what commands make of them.
use Rattle.std.proofs.Common.{◌≡◌, ℕ, ◌+◌, ◌*◌, ◌/◌, ◌<◌, ◌==◌, ℤ, pos, neg_ℤ, ◌-ℤ◌, ◌≤ℤ◌, Bool, true, false, ◌&&◌, cond, refl, sym, ap, ◌∙◌, arith}
use Rattle.std.specs.Prelude.{nat_lt, nat_le, unsigned_abs}
use Rattle.std.proofs.lemmas.Int.{ints}
use Rattle.std.proofs.lemmas.Bool.Decides.{nat_tests}
use Rattle.std.proofs.lemmas.Bool.{and_parts}
use Rattle.tr_base.specs.declared.Point.{Point}
use Rattle.tr_base.specs.declared.Size.{Size}
use Rattle.tr_base.specs.declared.Op.TheVariants.{Bg}
use Rattle.tr_base.specs.Rects.{between, before_shift, empty_rect, has_point, rect_of, whole_of}
use Rattle.tr_base.proofs.RectLemmas.{has_point-rect_of}
use Rattle.tr_paint.specs.declared.Paint.TheVariants.{Tint, Scroll}
use Rattle.tr_paint.specs.Traces.{Look, Keep, From, Value}
use Rattle.tr_paint.proofs.RunLemmas.{left, run_one}
use Rattle.tr_client.specs.Texts.{strip_of, strips_between, upwards, downwards}

-- a point of a window lies no higher than its first row
pub rows-from : (size : Size) (q : Point) → has_point (whole_of size) q ≡ true → pos 0 ≤ℤ q.v
rows-from size q here = first q.v (and_parts _ _ (sym (has_point-rect_of (pos 0) (pos size.wide) (pos 0) (pos size.high) q) ∙ here)).1
  where
    first : (v : ℤ) → between (pos 0) (pos size.high) v ≡ true → pos 0 ≤ℤ v
    first v h = grind (arith, ints)

-- a point of a window lies in some of its strips where its own strip is one of them
pub area-has : (size : Size) (above end : ℕ) (q : Point) → has_point (whole_of size) q ≡ true →
    has_point (strips_between size above end) q ≡ nat_le above (strip_of q) && nat_lt (strip_of q) end
area-has size above end q here =
    let both = and_parts _ _ (sym (has_point-rect_of (pos 0) (pos size.wide) (pos 0) (pos size.high) q) ∙ here) in
    has_point-rect_of (pos 0) (pos size.wide) (pos (8 * above)) (pos (8 * end)) q
    ∙ ap (λ b. b && between (pos (8 * above)) (pos (8 * end)) q.v) both.0
    ∙ down above end q.v (rows-from size q here)
  where
    down : (above end : ℕ) (v : ℤ) → pos 0 ≤ℤ v →
        between (pos (8 * above)) (pos (8 * end)) v ≡ nat_le above (unsigned_abs v / 8) && nat_lt (unsigned_abs v / 8) end
    down above end v inside = grind (arith, ints, nat_tests)

-- and in one strip where it is its own
pub strip-has : (size : Size) (i : ℕ) (q : Point) → has_point (whole_of size) q ≡ true → has_point (strips_between size i (i + 1)) q ≡ (strip_of q == i)
strip-has size i q here = area-has size i (i + 1) q here ∙ tests i (strip_of q)
  where
    tests : (i k : ℕ) → nat_le i k && nat_lt k (i + 1) ≡ (k == i)
    tests i k = grind (arith, nat_tests)

-- a window without columns has no strip
pub no_columns : (size : Size) (above end : ℕ) → size.wide ≡ 0 → strips_between size above end ≡ empty_rect
no_columns size above end flat = ap (λ (wide : ℕ). rect_of (pos 0) (pos wide) (pos (8 * above)) (pos (8 * end))) flat

-- a scroll gives the points of its strips what others had
pub scroll-left : (look : Look) (size : Size) (above end : ℕ) (delta : Point) (picture : Point → ℕ) (q : Point) → has_point (whole_of size) q ≡ true →
    run_one look (Scroll (strips_between size above end) delta) picture q
    ≡ cond (nat_le above (strip_of q) && nat_lt (strip_of q) end) (picture (before_shift q delta)) (picture q)
scroll-left look size above end delta picture q here =
    ap (λ b. left look.kind (cond b (From (before_shift q delta)) Keep) picture q) (area-has size above end q here)
    ∙ by_test (nat_le above (strip_of q) && nat_lt (strip_of q) end)
  where
    by_test : (b : Bool) → left look.kind (cond b (From (before_shift q delta)) Keep) picture q ≡ cond b (picture (before_shift q delta)) (picture q)
    by_test true = refl
    by_test false = refl

-- and the background makes them 0
pub cleared-left : (look : Look) (size : Size) (above end : ℕ) (picture : Point → ℕ) (q : Point) → has_point (whole_of size) q ≡ true →
    run_one look (Tint (strips_between size above end) Bg) picture q ≡ cond (nat_le above (strip_of q) && nat_lt (strip_of q) end) 0 (picture q)
cleared-left look size above end picture q here =
    ap (λ b. left look.kind (cond b (Value 0) Keep) picture q) (area-has size above end q here)
    ∙ by_test (nat_le above (strip_of q) && nat_lt (strip_of q) end)
  where
    by_test : (b : Bool) → left look.kind (cond b (Value 0) Keep) picture q ≡ cond b 0 (picture q)
    by_test true = refl
    by_test false = refl

-- the point one line below lies in the next strip, and the one above in the strip before
pub below-strip : (q : Point) → pos 0 ≤ℤ q.v → strip_of (before_shift q upwards) ≡ strip_of q + 1
below-strip q inside = lower q.v inside
  where
    lower : (v : ℤ) → pos 0 ≤ℤ v → unsigned_abs (v -ℤ neg_ℤ (pos 8)) / 8 ≡ unsigned_abs v / 8 + 1
    lower v inside = grind (arith, ints)

pub above-strip : (q : Point) → pos 0 ≤ℤ q.v → 0 < strip_of q → strip_of q ≡ strip_of (before_shift q downwards) + 1
above-strip q inside some = higher q.v inside some
  where
    higher : (v : ℤ) → pos 0 ≤ℤ v → 0 < unsigned_abs v / 8 → unsigned_abs v / 8 ≡ unsigned_abs (v -ℤ pos 8) / 8 + 1
    higher v inside some = grind (arith, ints)

-- neither lies above the first row
pub below-inside : (q : Point) → pos 0 ≤ℤ q.v → pos 0 ≤ℤ (before_shift q upwards).v
below-inside q inside = lower q.v inside
  where
    lower : (v : ℤ) → pos 0 ≤ℤ v → pos 0 ≤ℤ (v -ℤ neg_ℤ (pos 8))
    lower v inside = omega (arith, ints)

pub above-inside : (q : Point) → pos 0 ≤ℤ q.v → 0 < strip_of q → pos 0 ≤ℤ (before_shift q downwards).v
above-inside q inside some = higher q.v inside some
  where
    higher : (v : ℤ) → pos 0 ≤ℤ v → 0 < unsigned_abs v / 8 → pos 0 ≤ℤ (v -ℤ pos 8)
    higher v inside some = grind (arith, ints)

-- a line down and a line up is the same point
pub there_and_back : (q : Point) → before_shift (before_shift q downwards) upwards ≡ q
there_and_back q = rw (across q.h, down q.v) refl
  where
    across : (h : ℤ) → h -ℤ pos 0 -ℤ pos 0 ≡ h
    across h = omega (arith, ints)

    down : (v : ℤ) → v -ℤ pos 8 -ℤ neg_ℤ (pos 8) ≡ v
    down v = omega (arith, ints)
