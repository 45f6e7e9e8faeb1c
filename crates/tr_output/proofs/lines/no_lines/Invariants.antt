use Rattle.std.proofs.Common.{◌≡◌, ℕ, List, vec_len}
use Rattle.std.specs.Prelude.{All}
use Rattle.tr_output.specs.Lines.{SpellsRow}
use Rattle.tr_output.proofs.lines.no_lines.Given as goal

-- the lines so far are of no pixels
abbrev pub invariant-loop : goal.invariant-loop
invariant-loop l = record {
  lines : (pixels : List ℕ) → All (SpellsRow pixels) l.lines.items;
  count : vec_len l.lines ≡ l.counter;
}
