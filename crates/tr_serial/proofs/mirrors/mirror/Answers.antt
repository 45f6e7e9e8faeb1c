use Rattle.std.proofs.Common.{ℕ, List, sym, ap, subst, ◌∙◌}
use Rattle.std.specs.Prelude.{All}
use Rattle.std.specs.List.{flat_map}
use Rattle.tr_screen.specs.Pictures.{Picture}
use Rattle.tr_journal.specs.declared.Item.{Item}
use Rattle.tr_journal.specs.Openings.{tree_of}
use Rattle.tr_widget.specs.declared.Widget.{Widget}
use Rattle.tr_widget.specs.declared.WidgetCmd.{WidgetCmd}
use Rattle.tr_widget.specs.Widgets.{widget_words}
use Rattle.tr_grammar.specs.Scripts.{IsPlayablePart, Script}
use Rattle.tr_mirror.specs.Readings.{IsStream, screens_shown}
use Rattle.tr_stage.specs.Stages.{StageView}
use Rattle.tr_dump.specs.Reports.{dump_text}
use Rattle.tr_run.specs.declared.Mode.TheVariants.{Gen}
use Rattle.tr_serial.specs.Outputs.{cues, widgets}
use Rattle.tr_serial.specs.Screens.{dumped_screens}
use Rattle.tr_serial.specs.Streams.{IsStreamOf}
use Rattle.tr_serial.proofs.CueLemmas.{HasPlayed, HasStarted, played}
use Rattle.tr_serial.proofs.StreamLemmas.{mirrors_whole}
use Rattle.tr_serial.proofs.TextLemmas.{serial_reports}
use Rattle.tr_serial.proofs.mirrors.mirror.Goals as goal

pub mirror_parts-requires-clause-playable : goal.mirror_parts-requires-clause-playable
mirror_parts-requires-clause-playable c = λ κs.
    let P : Script → Type 0 = λ s. All (IsPlayablePart (tree_of s.opening).nodes) s.parts in
    let parts = subst P (sym c.script.view_is) c.requires.playable.parts in
    subst (λ (opened : List (Item Widget)). All (IsPlayablePart (tree_of opened).nodes) c.script.inside.parts.items) (sym c.in_ok-run.ensures.opening) parts

pub returns : goal.returns
returns c =
    let i = c.script.inside in
    let started : HasStarted widgets widget_words c.in_ok-run.run' i.opening i.names Gen = record {
      opening = c.in_ok-run.ensures.opening;
      journal = c.in_ok-run.ensures.journal;
      names = c.in_ok-run.ensures.names;
      mode = c.in_ok-run.ensures.mode;
      text = c.in_ok-run.ensures.text;
      sum = c.in_ok-run.ensures.sum;
    } in
    let mirrors = c.in_ok-mirror_parts.ensures in
    let end = played widgets widget_words c.in_ok-run.run' c.mirror_parts.new.run i.opening i.names Gen (cues i.parts.items) started mirrors.did in
    let ends = subst (λ (s : Script). HasPlayed widgets widget_words c.mirror_parts.new.run s.opening s.names Gen (cues s.parts)) c.script.view_is end in
    let all = mirrors_whole widgets widget_words c.in_ok-run.run' c.mirror_parts.new.run i.opening (cues i.parts.items) c.new-stream.result
    c.mirror_parts.new.stream c.in_ok-run.ensures.opening c.in_ok-run.ensures.journal mirrors c.new-stream.ensures in
    let whole = subst (λ (s : Script). IsStreamOf c.mirror_parts.new.stream (dumped_screens s)) c.script.view_is all in
    let bytes = c.of.ensures ∙ c.into_bytes.ensures in
    let shows = ap (λ (b : List ℕ). screens_shown b) bytes ∙ whole.sent.shows in
    record {
      text = bytes ∙ whole.bytes;
      stream = subst (λ (b : List ℕ). IsStream b) (sym bytes) whole.sent.is_stream;
      shows = shows;
      dumps = ap (λ (screens : List Picture). flat_map dump_text screens) shows ∙ (serial_reports c.args.script).1;
      reports = (serial_reports c.args.script).0;
      journal = ap (λ (s : StageView Widget WidgetCmd). s.journal) c.finish-stage.ensures.stage ∙ ends.journal;
      opening = ap (λ (s : StageView Widget WidgetCmd). s.opening) c.finish-stage.ensures.stage ∙ ends.opening;
    }

pub returns-in_err-run-clause-reports : goal.returns-in_err-run-clause-reports
returns-in_err-run-clause-reports c = (serial_reports c.args.script).0

pub returns-in_err-mirror_parts-clause-reports : goal.returns-in_err-mirror_parts-clause-reports
returns-in_err-mirror_parts-clause-reports c = (serial_reports c.args.script).0
