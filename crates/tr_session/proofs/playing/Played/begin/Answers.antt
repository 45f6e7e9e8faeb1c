use Rattle.std.proofs.Common.{ℕ, List, ap, ◌∙◌}
use Rattle.tr_widget.specs.declared.Widget.{Widget}
use Rattle.tr_widget.specs.declared.WidgetCmd.{WidgetCmd}
use Rattle.tr_stage.specs.Stages.{StageView}
use Rattle.tr_grammar.specs.States.{nothing_yet}
use Rattle.tr_grammar.specs.Texts.{lines_of}
use Rattle.tr_grammar.specs.Scripts.{Script, after_all_lines, whole}
use Rattle.tr_session.proofs.playing.Played.begin.Goals as goal

pub returns : goal.returns
returns c =
    let stage = c.finish-stage.ensures.stage in
    let lines = ap lines_of c.deref.ensures.value ∙ c.in_ok-text.ensures.lines in
    let read = c.in_ok-opening.ensures.script ∙ ap (λ (ls : List (List ℕ)). whole (after_all_lines nothing_yet ls)) lines in
    record {
      opening = ap (λ (g : StageView Widget WidgetCmd). g.opening) stage ∙ c.in_ok-run.ensures.opening
          ∙ ap (λ (s : Script). s.opening) c.opening-2.view_is ∙ ap (λ (s : Script). s.opening) read;
      names = ap (λ (s : Script). s.names) c.opening-2.view_is ∙ ap (λ (s : Script). s.names) read;
      journal = ap (λ (g : StageView Widget WidgetCmd). g.journal) stage ∙ c.in_ok-run.ensures.journal;
      picture = c.invariant.ensures.stands.picture;
      shows = c.invariant.ensures.stands.agrees;
    }
