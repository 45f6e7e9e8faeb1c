-- Points, and distances that they may be moved by.
use Rattle.std.specs.Prelude.{pos, neg_ℤ, ◌≤ℤ◌, ◌<ℤ◌}
use Rattle.tr_base.specs.declared.points.Point.{Point}

-- the point lies in the square from -524,288 on and before 524,288 both ways
pub record IsAround (p : Point) : Type 0 where
  pub west : neg_ℤ (pos 524288) ≤ℤ p.h
  pub east : p.h <ℤ pos 524288
  pub north : neg_ℤ (pos 524288) ≤ℤ p.v
  pub south : p.v <ℤ pos 524288

-- a distance is at most 262,144 each way
pub record IsDistance (delta : Point) : Type 0 where
  pub west : neg_ℤ (pos 262144) ≤ℤ delta.h
  pub east : delta.h ≤ℤ pos 262144
  pub north : neg_ℤ (pos 262144) ≤ℤ delta.v
  pub south : delta.v ≤ℤ pos 262144
