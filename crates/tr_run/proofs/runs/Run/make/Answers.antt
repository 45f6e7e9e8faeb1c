use Rattle.std.proofs.Common.{◌&&◌, not, sym, ap, subst, ◌∙◌, inl}
use Rattle.tr_base.proofs.ResultFacts.{on_err}
use Rattle.tr_run.specs.Texts.{is_check}
use Rattle.tr_stage.specs.Stages.{is_note}
use Rattle.tr_run.specs.Views.{RunView}
use Rattle.tr_run.proofs.RunLemmas.{HasAdded, lagged, untold}
use Rattle.tr_run.proofs.runs.Run.make.Goals as goal

pub returns-in_ok-append_lag-clause-ok : goal.returns-in_ok-append_lag-clause-ok
returns-in_ok-append_lag-clause-ok g c =
    lagged g.C.Client c.append_lag.new.out
    (subst (λ (v : RunView _ _). HasAdded g.C.Client c.args.self.now v c.args.actor c.args.step) (sym c.self-2.view_is) (record {
      opening = c.add.ensures.made.opening;
      names = c.add.ensures.names;
      mode = c.add.ensures.mode;
      journal = c.in_ok-add.ensures.made.ok;
      text = c.add.ensures.text;
      sum = c.add.ensures.sum;
    }))
    c.requires.other
    (ap (λ (v : RunView _ _). is_check v.mode && not (is_note c.args.step)) (sym c.self.view_is) ∙ sym c.is_lagging-lags.ensures ∙ c.if-lags.true)
    c.in_ok-append_lag.ensures.ok

pub returns-in_err-add-clause-err : goal.returns-in_err-add-clause-err
returns-in_err-add-clause-err g c = on_err c.from_residual.result (inl (record {
  opening = c.add.ensures.made.opening;
  journal = c.in_err-add.ensures.made.err_journal;
  screen = c.in_err-add.ensures.made.err_screen;
  names = c.add.ensures.names;
  mode = c.add.ensures.mode;
  text = c.add.ensures.text;
  sum = c.add.ensures.sum;
}))

pub returns-in_err-append_lag-clause-err : goal.returns-in_err-append_lag-clause-err
returns-in_err-append_lag-clause-err g c =
    on_err c.from_residual-in_err-append_lag.result
    (untold g.C.Client c.append_lag.new.out
    (subst (λ (v : RunView _ _). HasAdded g.C.Client c.args.self.now v c.args.actor c.args.step) (sym c.self-2.view_is) (record {
      opening = c.add.ensures.made.opening;
      names = c.add.ensures.names;
      mode = c.add.ensures.mode;
      journal = c.in_ok-add.ensures.made.ok;
      text = c.add.ensures.text;
      sum = c.add.ensures.sum;
    }))
    (ap (λ (v : RunView _ _). is_check v.mode && not (is_note c.args.step)) (sym c.self.view_is) ∙ sym c.is_lagging-lags.ensures ∙ c.if-lags.true)
    c.in_err-append_lag.ensures.err)
