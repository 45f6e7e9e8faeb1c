-- Tests of bytes, lane by lane, for the crates above.
use Rattle.std.proofs.Common.{◌≡◌, Bool, true, false, cond, ◌||◌, bit_or, refl}
use lib.Lanes.{top}

-- of two tests of a lane, one passed
pub either_lane : (s t : Bool) → top 7 (bit_or (cond s 255 0) (cond t 255 0)) ≡ (s || t)
either_lane true true = refl
either_lane true false = refl
either_lane false true = refl
either_lane false false = refl
