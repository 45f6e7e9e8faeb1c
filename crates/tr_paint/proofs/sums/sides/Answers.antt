use Rattle.std.proofs.Common.{◌≡◌, ℤ, ◌-ℤ◌, w32, to_z, of_z, refl, arith}
use Rattle.std.specs.Prelude.{unsigned_abs}
use Rattle.std.proofs.lemmas.Int.{ints}
use Rattle.tr_base.specs.Rects.{InReach}
use Rattle.tr_base.proofs.RectLemmas.{cast-in_reach}
use Rattle.tr_paint.proofs.sums.sides.Goals as goal

-- the distance of two coordinates within reach passes unchanged through 32 bits
cast-apart : (p q : ℤ) → InReach p → InReach q → to_z w32 (of_z w32 (p -ℤ q)) ≡ p -ℤ q
cast-apart p q h k = omega (arith, ints)

side : (x y p q : ℤ) → p ≡ x → q ≡ y → InReach p → InReach q →
    unsigned_abs (to_z w32 (of_z w32 (to_z w32 (of_z w32 p) -ℤ to_z w32 (of_z w32 q)))) ≡ unsigned_abs (x -ℤ y)
side x y p q e f h k = rw (cast-in_reach p h, cast-in_reach q k, cast-apart p q h k, e, f) refl

pub returns-clause-value : goal.returns-clause-value
returns-clause-value c =
    let wide = side _ _ _ _ c.east.ensures.value c.west.ensures.value c.east.ensures.reach c.west.ensures.reach in
    let high = side _ _ _ _ c.south.ensures.value c.north.ensures.value c.south.ensures.reach c.north.ensures.reach in
    rw (wide, high) refl
