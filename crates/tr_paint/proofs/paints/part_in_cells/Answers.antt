use Rattle.std.proofs.Common.{◌≡◌, ◌*◌, ℤ, pos, ◌+ℤ◌, length, Bool, true, false, ◌&&◌, cond, refl, sym, ap, ◌∙◌, arith}
use Rattle.std.specs.Prelude.{int_lt}
use Rattle.std.specs.Int.{int_min, int_max}
use Rattle.std.proofs.lemmas.Int.{ints, clamps}
use Rattle.tr_base.specs.Rects.{Edges, InReach, empty_rect, meet_of, rect_of}
use Rattle.tr_base.proofs.RectLemmas.{cast-max, cast-min, cast-rect}
use Rattle.tr_paint.specs.Paints.{IsNearZero}
use Rattle.tr_paint.proofs.paints.part_in_cells.Goals as goal

-- no point lies between edges that exclude each other, across or down
flat-across : (w e n s : ℤ) → int_lt w e ≡ false → rect_of w e n s ≡ empty_rect
flat-across w e n s h = ap (λ (b : Bool). cond (b && int_lt n s) (record { west = w; east = e; north = n; south = s }) empty_rect) h

flat-down : (w e n s : ℤ) → int_lt n s ≡ false → rect_of w e n s ≡ empty_rect
flat-down w e n s h =
    ap (λ (b : Bool). cond (int_lt w e && b) (record { west = w; east = e; north = n; south = s }) empty_rect) h ∙ none (int_lt w e)
  where
    none : (b : Bool) → cond (b && false) (record { west = w; east = e; north = n; south = s }) empty_rect ≡ empty_rect
    none true = refl
    none false = refl

apart : (a b x y : ℤ) → int_lt x y ≡ false → int_lt (int_max a x) (int_min b y) ≡ false
apart a b x y h = grind (arith, ints, clamps)

at_none : (a b : ℤ) → int_lt (int_max a (pos 0)) (int_min b (pos 0)) ≡ false
at_none a b = grind (arith, ints, clamps)

-- what meets the rectangle of some edges lies between these
meet-edges : (a : Edges) (w e n s : ℤ) →
    meet_of a (rect_of w e n s) ≡ rect_of (int_max a.west w) (int_min a.east e) (int_max a.north n) (int_min a.south s)
meet-edges a w e n s = by_tests (int_lt w e) (int_lt n s) refl refl
  where
    none : meet_of a empty_rect ≡ empty_rect
    none = flat-across (int_max a.west (pos 0)) (int_min a.east (pos 0)) (int_max a.north (pos 0)) (int_min a.south (pos 0)) (at_none a.west a.east)

    by_tests : (p q : Bool) → int_lt w e ≡ p → int_lt n s ≡ q →
        meet_of a (cond (p && q) (record { west = w; east = e; north = n; south = s }) empty_rect)
        ≡ rect_of (int_max a.west w) (int_min a.east e) (int_max a.north n) (int_min a.south s)
    by_tests true true h k = refl
    by_tests true false h k =
        none ∙ sym (flat-down (int_max a.west w) (int_min a.east e) (int_max a.north n) (int_min a.south s) (apart a.north a.south n s k))
    by_tests false q h k =
        none ∙ sym (flat-across (int_max a.west w) (int_min a.east e) (int_max a.north n) (int_min a.south s) (apart a.west a.east w e h))

-- a near coordinate is within reach
near_reach : (x : ℤ) → IsNearZero x → InReach x
near_reach x near = record { low = omega (arith, ints, near.low); high = omega (arith, ints, near.high) }

pub returns : goal.returns
returns c =
    let at = c.args.at in
    let clip = c.args.clip.now in
    let h = near_reach at.h c.requires.h in
    let v = near_reach at.v c.requires.v in
    let wide = 8 * length c.args.text.now in
    let last : c.moved-east.result ≡ at.h +ℤ pos wide =
    omega (arith, ints, c.moved-east.ensures.value, c.wide_of.ensures.value, c.wide_of.ensures.limit, h.low, h.high) in
    let lowest : c.moved-south.result ≡ at.v +ℤ pos 8 = omega (arith, ints, c.moved-south.ensures.value, v.low, v.high) in
    cast-rect _ _ _ _ _ _ _ _ _ c.greater.ensures.reach c.lesser.ensures.reach c.greater-2.ensures.reach c.lesser-2.ensures.reach c.edges.ensures.edges
    (cast-max clip.west at.h _ _ _ c.west.ensures.value refl c.west.ensures.reach h c.greater.ensures.value)
    (cast-min clip.east (at.h +ℤ pos wide) _ _ _ c.east.ensures.value last c.east.ensures.reach c.moved-east.ensures.reach c.lesser.ensures.value)
    (cast-max clip.north at.v _ _ _ c.north.ensures.value refl c.north.ensures.reach v c.greater-2.ensures.value)
    (cast-min clip.south (at.v +ℤ pos 8) _ _ _ c.south.ensures.value lowest c.south.ensures.reach c.moved-south.ensures.reach c.lesser-2.ensures.value)
    ∙ sym (meet-edges clip at.h (at.h +ℤ pos wide) at.v (at.v +ℤ pos 8))
