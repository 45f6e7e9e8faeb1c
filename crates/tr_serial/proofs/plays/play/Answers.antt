use Rattle.std.proofs.Common.{List, sym, ap, subst, ◌∙◌}
use Rattle.std.specs.Prelude.{All}
use Rattle.tr_journal.specs.declared.Item.{Item}
use Rattle.tr_journal.specs.Openings.{tree_of}
use Rattle.tr_widget.specs.declared.Widget.{Widget}
use Rattle.tr_widget.specs.declared.WidgetCmd.{WidgetCmd}
use Rattle.tr_widget.specs.Widgets.{widget_words}
use Rattle.tr_grammar.specs.Scripts.{IsPlayablePart, Script}
use Rattle.tr_stage.specs.Stages.{StageView}
use Rattle.tr_serial.specs.Outputs.{cues, widgets}
use Rattle.tr_serial.proofs.CueLemmas.{HasPlayed, HasStarted, played}
use Rattle.tr_serial.proofs.plays.play.Goals as goal

pub play_parts-requires-clause-playable : goal.play_parts-requires-clause-playable
play_parts-requires-clause-playable c = λ κs.
    let P : Script → Type 0 = λ s. All (IsPlayablePart (tree_of s.opening).nodes) s.parts in
    let parts = subst P (sym c.script.view_is) c.requires.playable.parts in
    subst (λ (opened : List (Item Widget)). All (IsPlayablePart (tree_of opened).nodes) c.script.inside.parts.items) (sym c.in_ok-run.ensures.opening) parts

pub returns : goal.returns
returns c =
    let i = c.script.inside in
    let started : HasStarted widgets widget_words c.in_ok-run.run' i.opening i.names c.args.mode = record {
      opening = c.in_ok-run.ensures.opening;
      journal = c.in_ok-run.ensures.journal;
      names = c.in_ok-run.ensures.names;
      mode = c.in_ok-run.ensures.mode;
      text = c.in_ok-run.ensures.text;
      sum = c.in_ok-run.ensures.sum;
    } in
    let end = played widgets widget_words c.in_ok-run.run' c.play_parts.new.run i.opening i.names c.args.mode (cues i.parts.items) started
    c.in-Ok.ensures in
    let ends = subst (λ (s : Script). HasPlayed widgets widget_words c.play_parts.new.run s.opening s.names c.args.mode (cues s.parts))
    c.script.view_is end in
    record {
      text = c.finish.ensures.text ∙ ends.text;
      sum = c.finish.ensures.sum ∙ ends.sum;
      journal = ap (λ (s : StageView Widget WidgetCmd). s.journal) c.finish.ensures.stage ∙ ends.journal;
      opening = ap (λ (s : StageView Widget WidgetCmd). s.opening) c.finish.ensures.stage ∙ ends.opening;
    }
