use Rattle.std.proofs.Common.{◌≡◌, ◌+◌, ◌*◌, ◌≤◌, ◌-◌, ◌++◌, length, take, vec_len, vec_capacity}
use Rattle.std.specs.Prelude.{All}
use Rattle.std.specs.List.{flat_map}
use Rattle.tr_output.specs.Texts.{row_text}
use Rattle.tr_output.specs.Pieces.{IsPieceWithin, pieces_text}
use Rattle.tr_output.proofs.pieces.push_rows.Given as goal

-- the lines of the rows so far came behind the pieces, and there is room for the others
abbrev pub invariant-loop-v : goal.invariant-loop-v
invariant-loop-v l = record {
  text : pieces_text l.pixels.items l.pieces.items
      ≡ pieces_text l.fn.pixels.items l.fn.pieces.items ++ flat_map row_text (take l.v l.screen.rows);
  within : All (IsPieceWithin (length l.pixels.items)) l.pieces.items;
  pieces : vec_len l.pieces + (l.screen.size.high - l.v) ≤ vec_capacity l.pieces;
  pixels : vec_len l.pixels + (l.screen.size.high - l.v) * l.screen.size.wide ≤ vec_capacity l.pixels;
}
