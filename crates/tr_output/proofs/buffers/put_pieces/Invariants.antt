use Rattle.std.proofs.Common.{◌≡◌, ◌≤◌, take, vec_len}
use Rattle.std.specs.Prelude.{All}
use Rattle.tr_output.specs.Lines.{SpellsRow}
use Rattle.tr_output.specs.Pieces.{pieces_text}
use Rattle.tr_output.specs.Sending.{Sends}
use Rattle.tr_output.proofs.buffers.put_pieces.Given as goal

-- the pieces so far were sent, or are in the buffer
abbrev pub invariant-loop-index : goal.invariant-loop-index
invariant-loop-index g l = record {
  sends : Sends g.K.Sink l.fn.sink l.sink l.fn.buffer.bytes.items l.buffer.bytes.items
      (pieces_text l.pixels (take l.index l.pieces));
  lines : All (SpellsRow l.pixels) l.buffer.lines.items;
  count : vec_len l.buffer.lines ≡ 8;
  rising : g.K.Sink.faults l.fn.sink ≤ g.K.Sink.faults l.sink;
}
