-- Points of a window and of the screen.
use Rattle.std.proofs.Common.{◌≡◌, ℤ, refl, arith}
use Rattle.std.proofs.lemmas.Int.{ints}
use Rattle.tr_base.specs.declared.Point.{Point}
use Rattle.tr_base.specs.Rects.{before_shift}
use Rattle.tr_exec.specs.Executions.{screen_point}

-- points whose coordinates are equal
pub points : (a b c d : ℤ) → a ≡ c → b ≡ d → (let p : Point = record { h = a; v = b } in let q : Point = record { h = c; v = d } in p ≡ q)
points a b c d h v = rw (h, v) refl

-- a point of the screen, looked at in the window and placed again
pub placed-before : (origin p : Point) → screen_point origin (before_shift p origin) ≡ p
placed-before o p = points _ _ _ _ (omega (arith, ints)) (omega (arith, ints))

-- a point of the window, placed and looked at again
pub before-placed : (origin q : Point) → before_shift (screen_point origin q) origin ≡ q
before-placed o q = points _ _ _ _ (omega (arith, ints)) (omega (arith, ints))

-- a source, placed, is the source of what is placed
pub placed-source : (origin q delta : Point) → screen_point origin (before_shift q delta) ≡ before_shift (screen_point origin q) delta
placed-source o q d = points _ _ _ _ (omega (arith, ints)) (omega (arith, ints))

-- the source of a point of the screen, looked at in the window
pub source-before : (origin p delta : Point) → before_shift (before_shift p origin) delta ≡ before_shift (before_shift p delta) origin
source-before o p d = points _ _ _ _ (omega (arith, ints)) (omega (arith, ints))

-- a point of what begins at q in the window is a point of what begins at q, placed, on the screen
pub before-both : (origin p q : Point) → before_shift (before_shift p origin) q ≡ before_shift p (screen_point origin q)
before-both o p q = points _ _ _ _ (omega (arith, ints)) (omega (arith, ints))
