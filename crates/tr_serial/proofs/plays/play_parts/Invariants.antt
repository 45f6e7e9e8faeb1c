use Rattle.std.proofs.Common.{◌≡◌, length, take}
use Rattle.tr_run.specs.Views.{Does}
use Rattle.tr_widget.specs.Widgets.{widget_words}
use Rattle.tr_serial.specs.Outputs.{cues}
use Rattle.tr_serial.proofs.CueLemmas.{is_later}
use Rattle.tr_serial.proofs.plays.play_parts.Given as goal

-- the parts so far were played, and the next one is a later one if there were any
abbrev pub invariant-loop-part : goal.invariant-loop-part
invariant-loop-part g l = record {
  can_next : (goal.iterator-loop-part g).can_next l.part-iterator;
  is_finite : (goal.iterator-loop-part g).is_finite l.part-iterator;
  did : Does g.C.Client widget_words l.fn.run l.run (cues (take (length l.yielded) l.fn.parts.items));
  later : l.is_later ≡ is_later (length l.yielded);
}
