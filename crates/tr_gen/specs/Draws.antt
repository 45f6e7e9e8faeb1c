-- Pseudorandom numbers: each comes from a state, and each draw replaces the state.
use Rattle.std.specs.Prelude.{ℕ, ◌+◌, ◌*◌, ◌/◌, ◌%◌, ◌^◌, List, length, slice_index}

-- a value made with draws, and the state after them
pub record DrawnValue (A : Type 0) : Type 0 where
  pub value : A
  pub state : ℕ

-- values made with draws are functions of the state before them
abbrev pub Drawing : Type 0 → Type 0
Drawing A = ℕ → DrawnValue A

-- this value, without a draw
abbrev pub give : {A : Type 0} → A → Drawing A
give value state = record { value = value; state = state }

-- first the one, then the drawing that its value gives, with the draws after it
infixl 10 ◌>>=◌
abbrev pub ◌>>=◌ : {A B : Type 0} → Drawing A → (A → Drawing B) → Drawing B
(first >>= next) state = let made = first state in next made.value made.state

-- the state after a draw, by a linear congruential generator
unfoldable pub next_state : ℕ → ℕ
next_state state = (state * 1664525 + 1013904223) % 2 ^ 32

-- a number below k, from the upper half of a state
unfoldable pub number_below : ℕ → ℕ → ℕ
number_below k state = (state / 65536) % k

-- a draw replaces the state, and then gives a number below k
abbrev pub draw : ℕ → Drawing ℕ
draw k state = record { value = number_below k (next_state state); state = next_state state }

-- one of these bytes
abbrev pub pick : List ℕ → Drawing ℕ
pick bytes = do
  index ← draw (length bytes)
  give (slice_index bytes index)
