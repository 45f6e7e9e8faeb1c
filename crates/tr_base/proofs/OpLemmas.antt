-- What painting leaves is a value of the kind.
use Rattle.std.proofs.Common.{ℕ, ◌<◌, ◌^◌, ◌==◌, Bool, true, false, cond, arith}
use Rattle.tr_base.specs.declared.ops.Kind.{Kind}
use Rattle.tr_base.specs.declared.ops.Kind.TheVariants.{Mono, Map4, Map8}
use Rattle.tr_base.specs.Ops.{resolved, exchanged, IsPixel}

-- each kind has 0 and 1
pub pixel-bit : (kind : Kind) (n : ℕ) → n < 2 → IsPixel kind n
pixel-bit Mono n h = h
pixel-bit Map4 n h = omega arith
pixel-bit Map8 n h = omega arith

-- what a kind has for a byte is one of its values, as a byte that is set
pub pixel-resolved : (kind : Kind) (n : ℕ) → n < 2 ^ 8 → IsPixel kind (resolved kind n)
pixel-resolved Mono n h = omega arith
pixel-resolved Map4 n h = omega arith
pixel-resolved Map8 n h = h

-- an exchange of two values of a kind keeps its values
pub pixel-exchanged : (kind : Kind) (x y old : ℕ) → IsPixel kind x → IsPixel kind y → IsPixel kind old → IsPixel kind (exchanged x y old)
pixel-exchanged kind x y old hx hy hold = by_tests (old == x) (old == y)
  where
    by_tests : (first second : Bool) → IsPixel kind (cond first y (cond second x old))
    by_tests true second = hy
    by_tests false true = hx
    by_tests false false = hold
