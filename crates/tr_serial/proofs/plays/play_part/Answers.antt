use Rattle.std.proofs.Common.{cond, List, [], ◌∷◌, ◌++◌, sym, ap, subst, ◌∙◌}
use Rattle.std.specs.Prelude.{All, map}
use Rattle.std.specs.List.{flat_map}
use Rattle.std.proofs.lemmas.Result.{on_ok_weaker}
use Rattle.tr_journal.specs.declared.Actor.{Actor}
use Rattle.tr_journal.specs.declared.Actor.TheVariants.{Player}
use Rattle.tr_journal.specs.declared.Item.{Item}
use Rattle.tr_journal.specs.declared.Query.{Query}
use Rattle.tr_journal.specs.declared.Step.{Step}
use Rattle.tr_journal.specs.declared.Step.TheVariants.{Sync}
use Rattle.tr_journal.specs.Openings.{tree_of}
use Rattle.tr_journal.specs.Steps.{IsQuery}
use Rattle.tr_widget.specs.declared.WidgetCmd.{WidgetCmd}
use Rattle.tr_widget.specs.Widgets.{widget_words}
use Rattle.tr_journal.specs.Parts.{Part}
use Rattle.tr_run.specs.Runs.{makes, reporting}
use Rattle.tr_run.specs.Views.{Does}
use Rattle.tr_run.proofs.RunLemmas.{Does-append}
use Rattle.tr_serial.proofs.CueLemmas.{AreReady, cues_of, ready}
use Rattle.tr_serial.proofs.plays.play_part.Goals as goal

pub report_all-requires-clause-queries : goal.report_all-requires-clause-queries
report_all-requires-clause-queries g c = λ κs lives.
    let t = (tree_of c.args.run.now.stage.opening).nodes in
    let reports = subst (λ (p : Part WidgetCmd). All (IsQuery t) p.reports) (sym c.part.view_is) c.requires.playable.reports in
    let lent = subst (λ (queries : List Query). All (IsQuery t) queries) (sym c.deref.ensures.value) reports in
    subst (λ (opened : List (Item _)). All (IsQuery (tree_of opened).nodes) c.deref.result.now) (sym c.in_ok-begin.ensures.opening) lent

pub make_all-requires-clause-own : goal.make_all-requires-clause-own
make_all-requires-clause-own g c = λ κs lives.
    let t = (tree_of c.args.run.now.stage.opening).nodes in
    let part = subst (λ (p : Part WidgetCmd). AreReady t p.steps) (sym c.part.view_is) (ready t c.args.part c.requires.playable) in
    let begun = subst (λ (opened : List (Item _)). AreReady (tree_of opened).nodes c.part.inside.steps.items) (sym c.in_ok-begin.ensures.opening) part in
    let now = subst (λ (opened : List (Item _)). AreReady (tree_of opened).nodes c.part.inside.steps.items) (sym c.in_ok-report_all.ensures.opening) begun in
    now.own

pub make_all-requires-clause-other : goal.make_all-requires-clause-other
make_all-requires-clause-other g c = λ κs lives.
    let t = (tree_of c.args.run.now.stage.opening).nodes in
    let part = subst (λ (p : Part WidgetCmd). AreReady t p.steps) (sym c.part.view_is) (ready t c.args.part c.requires.playable) in
    let begun = subst (λ (opened : List (Item _)). AreReady (tree_of opened).nodes c.part.inside.steps.items) (sym c.in_ok-begin.ensures.opening) part in
    let now = subst (λ (opened : List (Item _)). AreReady (tree_of opened).nodes c.part.inside.steps.items) (sym c.in_ok-report_all.ensures.opening) begun in
    now.other

pub returns : goal.returns
returns g c =
    let of_reports : List Query → Part WidgetCmd = λ queries. record { reports = queries; steps = c.part.inside.steps.items } in
    let is = ap of_reports c.deref.ensures.value ∙ c.part.view_is in
    let first = cond c.args.is_later (makes Player Sync ∷ []) [] in
    let reports = flat_map reporting c.deref.result.now in
    let steps = map (λ (made : Actor × Step WidgetCmd). makes made.0 made.1) c.part.inside.steps.items in
    let was = c.args.run.now in
    let reported = c.report_all.new.run in
    let now = c.make_all.new.run in
    on_ok_weaker c.make_all.result
    (λ made. subst (λ (p : Part WidgetCmd). Does g.C.Client widget_words was now (cues_of c.args.is_later p)) is
    (Does-append g.C.Client widget_words was c.begin.new.run now first (reports ++ steps) c.in_ok-begin.ensures
    (Does-append g.C.Client widget_words c.begin.new.run reported now reports steps c.in_ok-report_all.ensures made)))
    c.make_all.ensures
