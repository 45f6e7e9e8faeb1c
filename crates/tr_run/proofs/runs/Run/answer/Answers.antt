use Rattle.std.proofs.Common.{[], ◌∷◌, ◌++◌, ap, ◌∙◌, inl, inr, refl}
use Rattle.tr_base.proofs.ResultFacts.{on_err}
use Rattle.tr_levels.specs.declared.Level.TheVariants.{Mu}
use Rattle.tr_journal.specs.declared.steps.Actor.TheVariants.{Player}
use Rattle.tr_journal.specs.declared.steps.Step.TheVariants.{Report}
use Rattle.tr_machine.specs.Replays.{line_of_step}
use Rattle.tr_stage.specs.Stages.{StageView, state}
use Rattle.tr_run.proofs.RunLemmas.{made_adds}
use Rattle.tr_run.proofs.runs.Run.answer.Goals as goal

pub returns-clause-ok : goal.returns-clause-ok
returns-clause-ok g c = made_adds g.C.Client {step = Report c.args.query} (record {
  opening = c.add.ensures.made.opening ∙ ap (λ (s : StageView _ _). s.opening) c.tell.ensures.stage;
  names = c.add.ensures.names ∙ c.tell.ensures.names;
  mode = c.add.ensures.mode ∙ c.tell.ensures.mode;
  journal = c.in_ok-add.ensures.made.ok
      ∙ ap (λ (s : StageView _ _). s.journal ++ line_of_step g.C.Client (state g.C.Client s) Player (Mu ∷ []) (Report c.args.query) ∷ []) c.tell.ensures.stage;
  text = c.add.ensures.text ∙ c.in_ok-tell.ensures.text;
  sum = c.add.ensures.sum ∙ c.in_ok-tell.ensures.sum;
})

pub returns-in_err-tell-clause-err : goal.returns-in_err-tell-clause-err
returns-in_err-tell-clause-err g c = on_err c.from_residual.result (inl (record {
  opening = ap (λ (s : StageView _ _). s.opening) c.tell.ensures.stage;
  journal = ap (λ (s : StageView _ _). s.journal) c.tell.ensures.stage;
  screen = ap (λ (s : StageView _ _). s.screen) c.tell.ensures.stage;
  names = c.tell.ensures.names;
  mode = c.tell.ensures.mode;
  text = c.in_err-tell.ensures.err_text;
  sum = c.in_err-tell.ensures.err_sum;
}))

pub returns-in_err-add-clause-err : goal.returns-in_err-add-clause-err
returns-in_err-add-clause-err g c = on_err c.from_residual-in_err-add.result (inr (record {
  report = refl;
  told = record {
    opening = c.add.ensures.made.opening ∙ ap (λ (s : StageView _ _). s.opening) c.tell.ensures.stage;
    journal = c.in_err-add.ensures.made.err_journal ∙ ap (λ (s : StageView _ _). s.journal) c.tell.ensures.stage;
    screen = c.in_err-add.ensures.made.err_screen ∙ ap (λ (s : StageView _ _). s.screen) c.tell.ensures.stage;
    names = c.add.ensures.names ∙ c.tell.ensures.names;
    mode = c.add.ensures.mode ∙ c.tell.ensures.mode;
    text = c.add.ensures.text ∙ c.in_ok-tell.ensures.text;
    sum = c.add.ensures.sum ∙ c.in_ok-tell.ensures.sum;
  };
}))
