use Rattle.std.proofs.Common.{◌≡◌, ◌^◌, ◌-◌, ℕ, List, length, min, take}
use Rattle.tr_output.specs.Pieces.{pieces_text}
use Rattle.tr_output.proofs.pieces.len_of_all.Given as goal

-- the length so far
abbrev pub invariant-loop-piece : goal.invariant-loop-piece
invariant-loop-piece l =
    (pixels : List ℕ) → length pixels ≡ l.many → l.len ≡ min (length (pieces_text pixels (take l.piece-index l.pieces))) (2 ^ 64 - 1)
