use Rattle.std.proofs.Common.{ℕ, List, ◌++◌, sym, ap, subst, ◌∙◌}
use Rattle.std.proofs.lemmas.Result.{err_from_is_err_and}
use Rattle.tr_widget.specs.Widgets.{widget_words}
use Rattle.tr_machine.specs.Replays.{IsLegal}
use Rattle.tr_stage.specs.Stages.{StageView}
use Rattle.tr_parts.specs.Plays.{HasInterleaved, journal_texts, played_threads}
use Rattle.tr_parts.proofs.PlayLemmas.{all_played}
use Rattle.tr_play.proofs.PlayLemmas.{script_differed}
use Rattle.tr_play.proofs.plays.play.Goals as goal

pub returns-in-Ok-clause-journal : goal.returns-in-Ok-clause-journal
returns-in-Ok-clause-journal g c =
    let parts = c.args.parts.now in
    let b = c.in_ok-run.run' in
    let legal = subst (λ (s : StageView _ _). IsLegal g.C.Client s.opening s.journal) c.stage.ensures c.invariant.ensures.legal in
    let some = c.requires.some in
    let end = all_played g.C.Client widget_words c.args.run b parts c.requires.begun some c.in_ok-run.ensures.ok legal in
    subst (λ (s : StageView _ _). HasInterleaved g.C.Client c.args.run.stage.opening parts s) (sym c.in-Ok.ensures.stage) end.stage

pub returns-in-Ok-clause-text : goal.returns-in-Ok-clause-text
returns-in-Ok-clause-text g c =
    let parts = c.args.parts.now in
    let b = c.in_ok-run.run' in
    let legal = subst (λ (s : StageView _ _). IsLegal g.C.Client s.opening s.journal) c.stage.ensures c.invariant.ensures.legal in
    let some = c.requires.some in
    let end = all_played g.C.Client widget_words c.args.run b parts c.requires.begun some c.in_ok-run.ensures.ok legal in
    c.in-Ok.ensures.text
    ∙ ap (λ (text : List ℕ). text ++ played_threads) end.text
    ∙ ap (λ (s : StageView _ _). journal_texts g.C.Client widget_words c.args.run.names c.args.run.stage.opening s.journal ++ played_threads)
    (sym c.in-Ok.ensures.stage)

pub returns-in-Ok-clause-sum : goal.returns-in-Ok-clause-sum
returns-in-Ok-clause-sum g c =
    let parts = c.args.parts.now in
    let b = c.in_ok-run.run' in
    let legal = subst (λ (s : StageView _ _). IsLegal g.C.Client s.opening s.journal) c.stage.ensures c.invariant.ensures.legal in
    let some = c.requires.some in
    c.in-Ok.ensures.sum ∙ (all_played g.C.Client widget_words c.args.run b parts c.requires.begun some c.in_ok-run.ensures.ok legal).sum

pub returns-in_err-run-clause-differs : goal.returns-in_err-run-clause-differs
returns-in_err-run-clause-differs g c =
    let given = err_from_is_err_and c.from_residual.result c.from_residual.ensures.1 in
    rw (given.1, given.2)
    (script_differed g.C.Client c.args.run c.args.parts.now c.in_err-run.field-0.0 c.requires.begun c.in_err-run.ensures.differs)
