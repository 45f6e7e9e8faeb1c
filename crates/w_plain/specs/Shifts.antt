-- The range of a tile's moves.
use Rattle.std.specs.Prelude.{pos, neg_ℤ, ◌≤ℤ◌}
use Rattle.tr_base.specs.declared.Point.{Point}

-- each coordinate is at most 4096 away from 0
pub record IsShift (p : Point) : Type 0 where
  pub west : neg_ℤ (pos 4096) ≤ℤ p.h
  pub east : p.h ≤ℤ pos 4096
  pub north : neg_ℤ (pos 4096) ≤ℤ p.v
  pub south : p.v ≤ℤ pos 4096
