use Rattle.std.proofs.Common.{◌≡◌, ◌≤◌, ◌+◌, length, take, drop}
use Rattle.tr_widget.specs.Widgets.{widget_words}
use Rattle.tr_serial.specs.Outputs.{cues}
use Rattle.tr_serial.specs.Screens.{report_count}
use Rattle.tr_serial.specs.Streams.{Mirrors}
use Rattle.tr_serial.proofs.CueLemmas.{is_later}
use Rattle.tr_serial.proofs.mirrors.mirror_parts.Given as goal

-- the parts so far were played, and there is room for the reports of those to come
abbrev pub invariant-loop-part : goal.invariant-loop-part
invariant-loop-part g l = record {
  can_next : (goal.iterator-loop-part g).can_next l.part-iterator;
  is_finite : (goal.iterator-loop-part g).is_finite l.part-iterator;
  mirrors : Mirrors g.C.Client widget_words l.fn.run l.run (cues (take (length l.yielded) l.fn.parts.items)) l.fn.stream l.stream;
  few : l.stream.writer.cuts + report_count (drop (length l.yielded) l.fn.parts.items) ≤ 64;
  later : l.is_later ≡ is_later (length l.yielded);
}
