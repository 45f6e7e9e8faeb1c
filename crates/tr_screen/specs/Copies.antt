-- Private contracts alone cite this file.
-- The effect of a copy within a row of pixels, and of a fill.
use Rattle.std.specs.Prelude.{◌≡◌, ℕ, ◌+◌, ◌<◌, ◌≤◌, List, slice_index}

-- the n pixels at `to` become those that were at `from`, and all others stay
pub record IsCopied (old new : List ℕ) (from to n : ℕ) : Type 0 where
  pub copied : (k : ℕ) → k < n → slice_index new (to + k) ≡ slice_index old (from + k)
  pub before : (k : ℕ) → k < to → slice_index new k ≡ slice_index old k
  pub behind : (k : ℕ) → to + n ≤ k → slice_index new k ≡ slice_index old k

-- the n pixels from `start` on have this value, and all others stay
pub record IsFilled (old new : List ℕ) (start n value : ℕ) : Type 0 where
  pub filled : (k : ℕ) → k < n → slice_index new (start + k) ≡ value
  pub before : (k : ℕ) → k < start → slice_index new k ≡ slice_index old k
  pub behind : (k : ℕ) → start + n ≤ k → slice_index new k ≡ slice_index old k
