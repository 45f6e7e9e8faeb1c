use Rattle.std.proofs.Common.{◌≡◌, List, subst, sym, ap, ◌∙◌, rules}
use Rattle.std.specs.Prelude.{All}
use Rattle.tr_journal.specs.declared.items.Item.{Item}
use Rattle.tr_journal.specs.declared.steps.Actor.{Actor}
use Rattle.tr_journal.specs.declared.steps.Query.{Query}
use Rattle.tr_journal.specs.declared.steps.Step.{Step}
use Rattle.tr_journal.specs.Names.{Names}
use Rattle.tr_journal.specs.Openings.{tree_of}
use Rattle.tr_journal.specs.Steps.{IsQuery}
use Rattle.tr_machine.specs.Replays.{IsLegal}
use Rattle.tr_widget.specs.Widgets.{widget_words}
use Rattle.tr_stage.specs.Stages.{IsOf, StageView, state}
use Rattle.tr_stage.specs.Standings.{Stands}
use Rattle.tr_run.specs.Views.{IsNamed}
use Rattle.tr_parts.specs.Runs.{HasBegunPart}
use Rattle.tr_parts.specs.Turns.{HasRun, IsPartStep}
use Rattle.tr_parts.proofs.PlayLemmas.{next_played, run_named}
use Rattle.tr_server.proofs.CloseLemmas.{if_differs_weaker}
use Rattle.tr_play.specs.Begun.{DiffersNext}
use Rattle.tr_play.specs.Plays.{HasLeft}
use Rattle.tr_play.proofs.PlayLemmas.{steps_made}
use Rattle.tr_play.proofs.plays.play_part.Goals as goal

pub begin_part-requires-after_bounds : goal.begin_part-requires-after_bounds
begin_part-requires-after_bounds g c κs within =
    let same : c.deref.result.now ≡ c.args.part.now.reports = search rules in
    subst (λ (queries : List Query). All (IsQuery (tree_of c.args.run.stage.opening).nodes) queries) (sym same) c.requires.playable.reports

pub make_side_by_side-requires-after_bounds : goal.make_side_by_side-requires-after_bounds
make_side_by_side-requires-after_bounds g c κs within =
    let same : c.deref-2.result.now ≡ c.args.part.now.steps = search rules in
    let begun = c.in-Ok.ensures.ok in
    let opening = ap (λ (s : StageView _ _). s.opening) c.pause-stage.ensures.stage ∙ begun.reported.adds.opening ∙ begun.sync.opening in
    subst (λ (items : List (Item _)). All (IsPartStep (tree_of items).nodes) c.deref-2.result.now) (sym opening)
    (subst (λ (steps : List (Actor × Step _)). All (IsPartStep (tree_of c.args.run.stage.opening).nodes) steps) (sym same)
    (steps_made (tree_of c.args.run.stage.opening).nodes c.args.part.now c.requires.playable))

pub resume-requires-clause-named : goal.resume-requires-clause-named
resume-requires-clause-named g c κs within =
    let same : c.deref-2.result.now ≡ c.args.part.now.steps = search rules in
    let b = c.begin_part.new.run in
    let n = c.in-Ok-make_side_by_side.stage in
    let stands = subst (λ (s : StageView _ _). Stands g.C.Client s) c.stage.ensures c.invariant.ensures.stands in
    let like = subst (λ (s : StageView _ _). IsOf s.opening (state g.C.Client s)) c.stage.ensures c.invariant.ensures.like in
    let ran =
    subst (λ (s : StageView _ _). HasRun s n c.args.part.now.steps) c.pause-stage.ensures.stage
    (subst (λ (steps : List (Actor × Step _)). HasRun c.pause-stage.result.0 n steps) same c.in-Ok-make_side_by_side.ensures.ok) in
    subst (λ (names : Names). IsNamed g.C.Client names n) (sym c.pause-stage.ensures.names)
    (run_named g.C.Client b.names b.stage n c.args.part.now.steps c.pause-stage.ensures.invariant stands like
    c.invariant-in-Ok-make_side_by_side.ensures.legal ran)

pub returns-in-Ok-make_side_by_side-clause-ok : goal.returns-in-Ok-make_side_by_side-clause-ok
returns-in-Ok-make_side_by_side-clause-ok g c =
    let reports : c.deref.result.now ≡ c.args.part.now.reports = search rules in
    let steps : c.deref-2.result.now ≡ c.args.part.now.steps = search rules in
    let a = c.args.run in
    let b = c.begin_part.new.run in
    let n = c.in-Ok-make_side_by_side.stage in
    let begun = c.in-Ok.ensures.ok in
    let ran =
    subst (λ (s : StageView _ _). HasRun s n c.args.part.now.steps) c.pause-stage.ensures.stage
    (subst (λ (made : List (Actor × Step _)). HasRun c.pause-stage.result.0 n made) steps c.in-Ok-make_side_by_side.ensures.ok) in
    next_played g.C.Client widget_words a b c.resume.result c.args.is_later c.args.part.now
    (subst (λ (queries : List Query). HasBegunPart g.C.Client widget_words a b c.args.is_later queries) reports begun)
    (record {
      mode = begun.reported.adds.mode ∙ begun.sync.mode ∙ c.requires.mode;
      names = c.resume.ensures.names ∙ c.pause-stage.ensures.names;
      mode_kept = c.resume.ensures.mode ∙ c.pause-stage.ensures.mode;
      text = c.resume.ensures.text ∙ c.pause-stage.ensures.text;
      sum = c.resume.ensures.sum ∙ c.pause-stage.ensures.sum;
      ran = subst (λ (s : StageView _ _). HasRun b.stage s c.args.part.now.steps) (sym c.resume.ensures.stage) ran;
      legal = subst (λ (s : StageView _ _). IsLegal g.C.Client s.opening s.journal) (sym c.resume.ensures.stage)
          c.invariant-in-Ok-make_side_by_side.ensures.legal;
    })

pub returns-in-Err-clause-differs : goal.returns-in-Err-clause-differs
returns-in-Err-clause-differs g c =
    let reports : c.deref.result.now ≡ c.args.part.now.reports = search rules in
    let steps : c.deref-2.result.now ≡ c.args.part.now.steps = search rules in
    let was = c.args.run in
    let now = c.begin_part.new.run in
    let later = c.args.is_later in
    if_differs_weaker c.in-Err.refused (λ d. HasLeft c.pause-stage.result.0 c.deref-2.result.now d)
    (λ d. DiffersNext g.C.Client widget_words was later c.args.part.now d)
    (λ d left. record {
      run = now;
      begun = subst (λ (queries : List Query). HasBegunPart g.C.Client widget_words was now later queries) reports c.in-Ok.ensures.ok;
      legal = subst (λ (s : StageView _ _). IsLegal g.C.Client s.opening s.journal) c.stage.ensures c.invariant.ensures.legal;
      left = subst (λ (s : StageView _ _). HasLeft s c.args.part.now.steps d) c.pause-stage.ensures.stage
          (subst (λ (made : List (Actor × Step _)). HasLeft c.pause-stage.result.0 made d) steps left);
    })
    c.in-Err.ensures.differs
