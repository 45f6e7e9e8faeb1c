use Rattle.std.proofs.Common.{cond, ◌≡◌, List, [], ◌∷◌, ◌++◌, length, refl, sym, ap, subst, ◌∙◌, arith}
use Rattle.std.specs.Prelude.{All, map}
use Rattle.std.specs.List.{flat_map}
use Rattle.std.proofs.lemmas.Result.{on_ok_weaker}
use Rattle.tr_journal.specs.declared.Actor.{Actor}
use Rattle.tr_journal.specs.declared.Actor.TheVariants.{Player}
use Rattle.tr_journal.specs.declared.Item.{Item}
use Rattle.tr_journal.specs.declared.Query.{Query}
use Rattle.tr_journal.specs.declared.Step.{Step}
use Rattle.tr_journal.specs.declared.Step.TheVariants.{Sync}
use Rattle.tr_journal.specs.Openings.{tree_of}
use Rattle.tr_journal.specs.Steps.{IsQuery}
use Rattle.tr_widget.specs.declared.WidgetCmd.{WidgetCmd}
use Rattle.tr_widget.specs.Widgets.{widget_words}
use Rattle.tr_journal.specs.Parts.{Part}
use Rattle.tr_run.specs.Runs.{makes, reporting}
use Rattle.tr_stage.specs.Stages.{state}
use Rattle.tr_serial.specs.Streams.{Mirrors}
use Rattle.tr_serial.proofs.CueLemmas.{AreReady, cues_of, ready}
use Rattle.tr_serial.proofs.ScreenLemmas.{steps_none}
use Rattle.tr_serial.proofs.StreamLemmas.{begin_none, mirrors_more, mirrors_none}
use Rattle.tr_serial.proofs.mirrors.mirror_part.Goals as goal

pub mirror_all-requires-clause-queries : goal.mirror_all-requires-clause-queries
mirror_all-requires-clause-queries g c = λ κs lives.
    let t = (tree_of c.args.run.now.stage.opening).nodes in
    let reports = subst (λ (p : Part WidgetCmd). All (IsQuery t) p.reports) (sym c.part.view_is) c.requires.playable.reports in
    let lent = subst (λ (queries : List Query). All (IsQuery t) queries) (sym c.deref.ensures.value) reports in
    subst (λ (opened : List (Item _)). All (IsQuery (tree_of opened).nodes) c.deref.result.now) (sym c.in_ok-begin.ensures.opening) lent

pub mirror_all-requires-clause-few : goal.mirror_all-requires-clause-few
mirror_all-requires-clause-few g c = λ κs lives.
    let lent : length c.deref.result.now ≡ length c.args.part.reports =
    ap (λ (queries : List Query). length queries) c.deref.ensures.value ∙ ap (λ (p : Part WidgetCmd). length p.reports) c.part.view_is in
    omega (arith, c.requires.few)

pub make_all-requires-clause-own : goal.make_all-requires-clause-own
make_all-requires-clause-own g c = λ κs lives.
    let t = (tree_of c.args.run.now.stage.opening).nodes in
    let part = subst (λ (p : Part WidgetCmd). AreReady t p.steps) (sym c.part.view_is) (ready t c.args.part c.requires.playable) in
    let begun = subst (λ (opened : List (Item _)). AreReady (tree_of opened).nodes c.part.inside.steps.items) (sym c.in_ok-begin.ensures.opening) part in
    let now = subst (λ (opened : List (Item _)). AreReady (tree_of opened).nodes c.part.inside.steps.items)
    (sym c.in_ok-mirror_all.ensures.mirrors.did.opening) begun in
    now.own

pub make_all-requires-clause-other : goal.make_all-requires-clause-other
make_all-requires-clause-other g c = λ κs lives.
    let t = (tree_of c.args.run.now.stage.opening).nodes in
    let part = subst (λ (p : Part WidgetCmd). AreReady t p.steps) (sym c.part.view_is) (ready t c.args.part c.requires.playable) in
    let begun = subst (λ (opened : List (Item _)). AreReady (tree_of opened).nodes c.part.inside.steps.items) (sym c.in_ok-begin.ensures.opening) part in
    let now = subst (λ (opened : List (Item _)). AreReady (tree_of opened).nodes c.part.inside.steps.items)
    (sym c.in_ok-mirror_all.ensures.mirrors.did.opening) begun in
    now.other

pub returns-clause-mirrors : goal.returns-clause-mirrors
returns-clause-mirrors g c =
    let of_reports : List Query → Part WidgetCmd = λ queries. record { reports = queries; steps = c.part.inside.steps.items } in
    let is = ap of_reports c.deref.ensures.value ∙ c.part.view_is in
    let first = cond c.args.is_later (makes Player Sync ∷ []) [] in
    let reports = flat_map reporting c.deref.result.now in
    let steps = map (λ (made : Actor × Step WidgetCmd). makes made.0 made.1) c.part.inside.steps.items in
    let client = g.C.Client in
    let was = c.args.run.now in
    let begun = c.begin.new.run in
    let reported = c.mirror_all.new.run in
    let now = c.make_all.new.run in
    let s = c.args.stream.now in
    let t = c.mirror_all.new.stream in
    let part = subst (λ (p : Part WidgetCmd). AreReady (tree_of was.stage.opening).nodes p.steps) (sym c.part.view_is)
    (ready (tree_of was.stage.opening).nodes c.args.part c.requires.playable) in
    on_ok_weaker c.make_all.result
    (λ made. subst (λ (p : Part WidgetCmd). Mirrors client widget_words was now (cues_of c.args.is_later p) s t) is
    (mirrors_more client widget_words was begun now first (reports ++ steps) (first ++ (reports ++ steps)) s s t
    (mirrors_none client widget_words was begun first s c.in_ok-begin.ensures (begin_none client widget_words (state client was.stage) c.args.is_later))
    (mirrors_more client widget_words begun reported now reports steps (reports ++ steps) s t t c.in_ok-mirror_all.ensures.mirrors
    (mirrors_none client widget_words reported now steps t made
    (steps_none client (state client reported.stage) c.part.inside.steps.items part.other))
    refl)
    refl))
    c.make_all.ensures

pub returns-clause-count : goal.returns-clause-count
returns-clause-count g c =
    let lent : length c.deref.result.now ≡ length c.args.part.reports =
    ap (λ (queries : List Query). length queries) c.deref.ensures.value ∙ ap (λ (p : Part WidgetCmd). length p.reports) c.part.view_is in
    on_ok_weaker c.make_all.result (λ made. omega (arith, c.in_ok-mirror_all.ensures.count)) c.make_all.ensures
