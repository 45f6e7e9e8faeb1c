-- What was appended to bytes, and what is left of it.
use Rattle.std.proofs.Common.{◌≡◌, ◌≤◌, List, ℕ, ◌++◌, length, take, ap, sym, ◌∙◌, arith}
use Rattle.std.proofs.Math.Seq.{take-append_seam, take-length}
use Rattle.std.proofs.lemmas.List.{length-append, length-take, take-take}
use Rattle.tr_mirror.specs.Updates.{StartsWith}

-- bytes begin with themselves
pub starts_itself : (new old : List ℕ) → new ≡ old → StartsWith new old
starts_itself new old is = record { front = rw is (take-length old) }

-- what begins with bytes to which something was appended, begins with what it was appended to
pub starts_before : (new mid old more : List ℕ) → StartsWith new mid → mid ≡ old ++ more → StartsWith new old
starts_before new mid old more starts is =
    let shorter : length old ≤ length mid = omega (arith, ap length is, length-append old more) in
    let front : take (length old) new ≡ take (length old) mid =
    sym (take-take (length old) (length mid) new shorter) ∙ ap (take (length old)) starts.front in
    record { front = front ∙ ap (take (length old)) is ∙ take-append_seam old more }

-- where bytes begin with those that begin with others, they begin with these
pub starts_on : (new mid old : List ℕ) → StartsWith new mid → StartsWith mid old → StartsWith new old
starts_on new mid old starts first =
    let shorter : length old ≤ length mid = omega (arith, ap length first.front, length-take (length old) mid) in
    record { front = sym (take-take (length old) (length mid) new shorter) ∙ ap (take (length old)) starts.front ∙ first.front }

-- and they go on doing so where more is appended
pub starts_more : (new mid old more : List ℕ) → StartsWith mid old → new ≡ mid ++ more → StartsWith new old
starts_more new mid old more first is =
    let front : take (length mid) new ≡ mid = ap (take (length mid)) is ∙ take-append_seam mid more in
    starts_on new mid old (record { front = front }) first
