-- Counts of calls and of faults, kept in 64 bits.
use Rattle.std.specs.Prelude.{◌≡◌, ℕ, ◌+◌, ◌-◌, ◌^◌, ◌<◌, ◌⊎◌, min, Result, Ok, Err}

-- the last value of a count: it stops there
abbrev pub last_count : ℕ
last_count = 2 ^ 64 - 1

-- the count after one more
abbrev pub next_count : ℕ → ℕ
next_count n = min (n + 1) last_count

-- the count of faults after a call with this result
abbrev pub faults_after : {T E : Type 0} → Result T E → ℕ → ℕ
faults_after (Ok x) faults = faults
faults_after (Err e) faults = next_count faults

-- a fault was counted between the two counts, or the later count is at its last value
abbrev pub HasFault : ℕ → ℕ → Type 0
HasFault before after = (before < after) ⊎ (after ≡ last_count)
