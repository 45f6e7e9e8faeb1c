-- The number of points of a screen that pass a test.
use Rattle.std.specs.Prelude.{ℕ, pos, nat_lt, Bool}
use Rattle.tr_base.specs.declared.Point.{Point}
use Rattle.tr_base.specs.declared.Size.{Size}
use Rattle.tr_region.specs.Points.{count_below, sum_below}

-- the number of points of a screen of this size that pass the test
abbrev pub count_on : Size → (Point → Bool) → ℕ
count_on size test = sum_below size.high (λ v. count_below size.wide (λ h. test (record { h = pos h; v = pos v })))

-- some point of a screen of this size passes the test
abbrev pub any_on : Size → (Point → Bool) → Bool
any_on size test = nat_lt 0 (count_on size test)
