-- The results of the system's answers to a read or a write.
use Rattle.std.specs.Prelude.{◌≡◌, ℕ, ◌-◌, ◌^◌, Bool, false, ◌&&◌, ◌==◌, ◌⊎◌, nat_lt, List, [], ◌∷◌, ◌++◌, length, All, Option, None, Some, Result, Ok, Err, ℤ, pos, if◌then◌else◌}
use Rattle.std.specs.IoError.{error_kind, raw_os_error}
use Rattle.std.specs.declared.io.Error.{Error}
use Rattle.std.specs.declared.io.ErrorKind.{ErrorKind}
use Rattle.std.specs.declared.io.ErrorKind.TheVariants.{Interrupted}
use Rattle.tr_io.specs.declared.streams.Failed.{Failed}
use Rattle.tr_io.specs.declared.attempts.Attempt.{Attempt}
use Rattle.tr_io.specs.declared.attempts.Attempt.TheVariants.{Moved, Again, Fault}

-- the system's error number says that the stream is closed
abbrev pub is_closed : Option ℤ → Bool
is_closed (Some (pos n)) = n == 9
is_closed _ = false

-- a call that a signal interrupted is made again, and any other error is a fault
abbrev pub failed_attempt : ErrorKind → Attempt
failed_attempt Interrupted = Again
failed_attempt _ = Fault

-- a read moves the bytes that the system counts, and none if the input is closed
abbrev pub read_attempt : Result ℕ Error → Attempt
read_attempt (Ok n) = Moved n
read_attempt (Err e) = if is_closed (raw_os_error e) then Moved 0 else failed_attempt (error_kind e)

-- a write moves the bytes that the system counts; none of a piece that isn't empty is a fault
abbrev pub write_attempt : List ℕ → Result ℕ Error → Attempt
write_attempt piece (Ok n) = if n == 0 && nat_lt 0 (length piece) then Fault else Moved n
write_attempt piece (Err e) = failed_attempt (error_kind e)

-- an attempt that is made again has no result yet, and a fault is answered as a failure
abbrev pub settled : Attempt → Option (Result ℕ Failed)
settled (Moved n) = Some (Ok n)
settled Again = None
settled Fault = Some (Err (record {}))

-- the system's answers grew by n interruptions
pub record Tried (attempt : Result ℕ Error → Attempt) (n : ℕ) (before after : List (Result ℕ Error)) : Type 0 where
  pub tries : List (Result ℕ Error)
  pub answers : after ≡ before ++ tries
  pub interrupted : All (λ answer. attempt answer ≡ Again) tries
  pub count : length tries ≡ n

-- the call was made again as long as a signal interrupted it, and its last answer decided the result; after
-- 2^64 - 1 interruptions the call fails
abbrev pub Asked : (Result ℕ Error → Attempt) → Result ℕ Failed → List (Result ℕ Error) → List (Result ℕ Error) → Type 0
Asked attempt result before after =
    ((n : ℕ) × (last : Result ℕ Error) × (between : List (Result ℕ Error))
    × Tried attempt n before between × (after ≡ between ++ last ∷ []) × (settled (attempt last) ≡ Some result))
    ⊎ (Tried attempt (2 ^ 64 - 1) before after × (result ≡ Err (record {})))

-- the system gave one more answer
abbrev pub Answered : Result ℕ Error → List (Result ℕ Error) → List (Result ℕ Error) → Type 0
Answered answer before after = after ≡ before ++ answer ∷ []

-- a fact of the answers before and after, if they are told
abbrev pub OfKnown : {A : Type 0} → Option A → Option A → (A → A → Type 0) → Type 0
OfKnown None after P = Unit {0}
OfKnown (Some before) None P = ⊥
OfKnown (Some before) (Some after) P = P before after
