-- Private contracts alone cite this file.
-- The effect of lanes on a pixel.
use Rattle.std.specs.Prelude.{◌≡◌, ℕ, ◌<◌, ◌^◌, ◌==◌, ◌||◌, Bool, if◌then◌else◌, bit_and, bit_or, bit_xor}
use Rattle.tr_kernel.specs.declared.lanes.Step.{Step}
use Rattle.tr_kernel.specs.declared.lanes.Steps.{Steps}
use Rattle.tr_kernel.specs.Masks.{Painting, painted}

-- x and y are exchanged, by their differing bits
abbrev pub flipped : ℕ → ℕ → ℕ → ℕ
flipped x y old = bit_xor old (if (old == x) || (old == y) then bit_xor x y else 0)

-- the pixel after a step
abbrev pub stepped : Step → ℕ → ℕ
stepped s old = bit_or (bit_and (flipped s.x s.y old) s.kept) s.written

-- neither step exchanges pixels
pub record AreStill (s : Steps) : Type 0 where
  pub one : s.one.x ≡ s.one.y
  pub zero : s.zero.x ≡ s.zero.y

-- the pixel after the step for its bit
abbrev pub stepped_by : Steps → Bool → ℕ → ℕ
stepped_by s bit old = stepped (if bit then s.one else s.zero) old

-- the steps change each byte as the painting does
pub record AreStepsOf (m : Painting) (s : Steps) : Type 0 where
  pub same : (bit : Bool) (old : ℕ) → old < 2 ^ 8 → stepped_by s bit old ≡ painted m bit old
