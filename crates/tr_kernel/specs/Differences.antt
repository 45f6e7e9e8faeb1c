-- The places at which two rows of one length differ.
use Rattle.std.specs.Prelude.{◌≡◌, ◌≢◌, ℕ, ◌<◌, ◌==◌, not, Bool, List, length, slice_index}

-- two pixels differ
abbrev pub differ : ℕ × ℕ → Bool
differ p = not (p.0 == p.1)

-- the rows differ at this place, and at none before it
pub record IsFirstDifference (a b : List ℕ) (k : ℕ) : Type 0 where
  pub within : k < length a
  pub here : slice_index a k ≢ slice_index b k
  pub before : (j : ℕ) → j < k → slice_index a j ≡ slice_index b j

-- the rows differ at this place, and at none after it
pub record IsLastDifference (a b : List ℕ) (k : ℕ) : Type 0 where
  pub within : k < length a
  pub here : slice_index a k ≢ slice_index b k
  pub behind : (j : ℕ) → k < j → j < length a → slice_index a j ≡ slice_index b j
