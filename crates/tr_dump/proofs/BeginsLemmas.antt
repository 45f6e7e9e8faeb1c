-- What was appended to a text, and what is left of it.
use Rattle.std.proofs.Common.{◌≡◌, ◌≤◌, List, ℕ, ◌++◌, length, take, ap, sym, ◌∙◌, arith}
use Rattle.std.proofs.Math.Seq.{take-append_seam, take-length}
use Rattle.std.proofs.lemmas.List.{length-append, take-take}
use Rattle.tr_dump.specs.Begins.{Begins}

-- a text begins with itself
pub begins_itself : (new old : List ℕ) → new ≡ old → Begins new old
begins_itself new old is = record { front = rw is (take-length old) }

-- what begins with a text to which something was appended, begins with what it was appended to
pub begins_before : (new mid old text : List ℕ) → Begins new mid → mid ≡ old ++ text → Begins new old
begins_before new mid old text begins is =
    let shorter : length old ≤ length mid = omega (arith, ap length is, length-append old text) in
    let front : take (length old) new ≡ take (length old) mid =
    sym (take-take (length old) (length mid) new shorter) ∙ ap (take (length old)) begins.front in
    record { front = front ∙ ap (take (length old)) is ∙ take-append_seam old text }
