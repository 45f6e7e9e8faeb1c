use Rattle.std.proofs.Common.{◌≤◌, ◌-◌, ◌+◌, length, take}
use Rattle.tr_io.specs.Streams.{Grew}
use Rattle.tr_output.proofs.sinks.write_all.Given as goal

-- the sink has taken the text so far, and has room for the rest
abbrev pub invariant-loop-written : goal.invariant-loop-written
invariant-loop-written g l = record {
  grew : Grew (g.K.Sink.written l.fn.sink) (g.K.Sink.written l.sink) (take l.written l.text);
  some : l.written ≤ length l.text;
  room : g.K.Sink.room l.fn.sink ≤ g.K.Sink.room l.sink + l.written;
  enough : length l.text ≤ g.K.Sink.room l.sink + l.written;
  rising : g.K.Sink.faults l.fn.sink ≤ g.K.Sink.faults l.sink;
}

abbrev pub decreases-loop-written : goal.decreases-loop-written
decreases-loop-written g l = length l.text - l.written
