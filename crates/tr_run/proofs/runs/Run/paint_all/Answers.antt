use Rattle.std.proofs.Common.{ap, ◌∙◌, length}
use Rattle.std.proofs.lemmas.Iterator.Adapters.{YieldsList-from_vec}
use Rattle.std.proofs.lemmas.Iterator.Consumers.{YieldsList-turn}
use Rattle.std.proofs.lemmas.List.{length_push}
use Rattle.tr_base.proofs.ResultFacts.{on_err}
use Rattle.tr_journal.specs.Openings.{tree_of}
use Rattle.tr_journal.specs.Steps.{stated}
use Rattle.tr_run.proofs.LineLemmas.{under_lock}
use Rattle.tr_run.proofs.RunLemmas.{paints_more, paints_some}
use Rattle.tr_run.proofs.runs.Run.paint_all.Goals as goal

pub loop-step-preserved : goal.loop-step-preserved
loop-step-preserved g c =
    let gives = c.into_iter-step-iterator.ensures.into_iter_gives in
    let items = YieldsList-from_vec {s = c.into_iter-step-iterator.result} _ gives.0 (gives.1 ∙ c.args.steps.ok.0) in
    let turn = YieldsList-turn items c.loop-step.yielded c.loop-step.step-iterator c.loop-step.yielded_by c.next.result c.next.new.self
    c.in-Some.step c.in-Some.is c.next.ensures.steps in
    let k = length c.loop-step.yielded in
    let level = ap (λ s. stated s) turn.1
    ∙ under_lock (tree_of c.args.self.now.stage.opening).nodes _ (c.requires k c.in-Some.step turn.0) in
    record {
      can_next = tt;
      is_finite = tt;
      adds = rw (length_push c.loop-step.yielded c.in-Some.step)
          (paints_more g.C.Client g.C.Cmd.Command.words c.args.self.now c.loop-step.self c.make.new.self c.args.steps.items k c.in-Some.step
          c.loop-step.invariant.adds level turn c.in_ok-make.ensures.ok);
    }

pub returns-in_err-make-clause-err : goal.returns-in_err-make-clause-err
returns-in_err-make-clause-err g c =
    let gives = c.into_iter-step-iterator.ensures.into_iter_gives in
    let items = YieldsList-from_vec {s = c.into_iter-step-iterator.result} _ gives.0 (gives.1 ∙ c.args.steps.ok.0) in
    let turn = YieldsList-turn items c.loop-step.yielded c.loop-step.step-iterator c.loop-step.yielded_by c.next.result c.next.new.self
    c.in-Some.step c.in-Some.is c.next.ensures.steps in
    let k = length c.loop-step.yielded in
    let level = ap (λ s. stated s) turn.1
    ∙ under_lock (tree_of c.args.self.now.stage.opening).nodes _ (c.requires k c.in-Some.step turn.0) in
    on_err c.from_residual.result
    (paints_some g.C.Client g.C.Cmd.Command.words c.args.self.now c.loop-step.self c.make.new.self c.args.steps.items k c.in-Some.step
    c.loop-step.invariant.adds level turn c.in_err-make.ensures.err)
