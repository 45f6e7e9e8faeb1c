use Rattle.std.proofs.Common.{◌≡◌, take}
use Rattle.tr_widget.specs.Widgets.{widget_words}
use Rattle.tr_run.specs.declared.modes.Mode.TheVariants.{Serial}
use Rattle.tr_parts.specs.Runs.{HasPlayedParts}
use Rattle.tr_parts.proofs.PlayLemmas.{has_any}
use Rattle.tr_play.proofs.plays.play_parts.Given as goal

-- the parts so far were played, and the next one is a later one if there were any
abbrev pub invariant-loop-part : goal.invariant-loop-part
invariant-loop-part g l = record {
  played : HasPlayedParts g.C.Client widget_words l.fn.run l.run (take l.part-index l.parts);
  later : l.is_later ≡ has_any (take l.part-index l.parts);
  mode : l.run.mode ≡ Serial;
  opening : l.run.stage.opening ≡ l.fn.run.stage.opening;
}
