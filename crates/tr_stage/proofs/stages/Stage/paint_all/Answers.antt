use Rattle.std.proofs.Common.{◌≡◌, ◌++◌, ◌∷◌, [], refl, sym, ap, subst, ◌∙◌, length, ℕ, ◌<◌, List, get_or}
use Rattle.std.specs.Prelude.{All}
use Rattle.std.proofs.lemmas.Iterator.Adapters.{YieldsList-from_vec}
use Rattle.std.proofs.lemmas.Iterator.Consumers.{YieldsList-turn}
use Rattle.std.proofs.lemmas.List.{append-nil, length_push}
use Rattle.std.proofs.lemmas.List.Elements.{All-get_or}
use Rattle.tr_base.proofs.ResultFacts.{on_err}
use Rattle.tr_forest.specs.Nodes.{Nodes}
use Rattle.tr_levels.specs.declared.Level.TheVariants.{Mu}
use Rattle.tr_journal.specs.declared.steps.Actor.TheVariants.{Painter}
use Rattle.tr_journal.specs.declared.steps.Step.{Step}
use Rattle.tr_journal.specs.Openings.{tree_of}
use Rattle.tr_stage.specs.Stages.{IsPainters, state}
use Rattle.tr_stage.proofs.SettleLemmas.{lines_first, painted_more}
use Rattle.tr_stage.proofs.stages.Stage.paint_all.Goals as goal

-- each of the painter's steps is one of them
is_painters : {M : Type 0} (t : Nodes) (steps : List (Step M)) (k : ℕ) (step : Step M) → All (IsPainters t) steps →
    (k < length steps) × (step ≡ get_or steps k step) → IsPainters t step
is_painters t steps k step all at = subst (λ x. IsPainters t x) (sym at.1) (All-get_or (IsPainters t) steps k step at.0 all)

pub step-requires-clause-allowed : goal.step-requires-clause-allowed
step-requires-clause-allowed g c κs within =
    let gives = c.into_iter-step-iterator.ensures.into_iter_gives in
    let items = YieldsList-from_vec {s = c.into_iter-step-iterator.result} _ gives.0 (gives.1 ∙ c.args.steps.ok.0) in
    let turn = YieldsList-turn items c.loop-step.yielded c.loop-step.step-iterator c.loop-step.yielded_by c.next.result c.next.new.self
    c.in-Some.step c.in-Some.is c.next.ensures.steps in
    let held : c.with-level.result ≡ Mu ∷ [] = c.with-level.ensures.held ∙ ap (λ ls. ls ++ Mu ∷ []) c.none.ensures in
    let has = c.loop-step.invariant in
    rw (held, has.opening)
    (is_painters (tree_of c.args.self.now.opening).nodes c.args.steps.items (length c.loop-step.yielded) c.in-Some.step c.requires turn)

pub loop-step-init : goal.loop-step-init
loop-step-init g c = record { can_next = tt; is_finite = tt; opening = refl; journal = sym (append-nil c.args.self.now.journal) }

pub loop-step-preserved : goal.loop-step-preserved
loop-step-preserved g c =
    let gives = c.into_iter-step-iterator.ensures.into_iter_gives in
    let items = YieldsList-from_vec {s = c.into_iter-step-iterator.result} _ gives.0 (gives.1 ∙ c.args.steps.ok.0) in
    let turn = YieldsList-turn items c.loop-step.yielded c.loop-step.step-iterator c.loop-step.yielded_by c.next.result c.next.new.self
    c.in-Some.step c.in-Some.is c.next.ensures.steps in
    let held : c.with-level.result ≡ Mu ∷ [] = c.with-level.ensures.held ∙ ap (λ ls. ls ++ Mu ∷ []) c.none.ensures in
    let has = c.loop-step.invariant in
    record {
      can_next = tt;
      is_finite = tt;
      opening = c.step.ensures.made.opening ∙ has.opening;
      journal = rw (length_push c.loop-step.yielded c.in-Some.step) (c.in_ok-step.ensures.made.ok
          ∙ painted_more g.C.Client c.args.self.now c.loop-step.self c.with-level.result c.args.steps.items (length c.loop-step.yielded) c.in-Some.step
          (record { opening = has.opening; journal = has.journal }) held turn);
    }

pub returns-in_err-step-clause-err : goal.returns-in_err-step-clause-err
returns-in_err-step-clause-err g c =
    let has = c.loop-step.invariant in
    let m = state g.C.Client c.args.self.now in
    let k = length c.loop-step.yielded in
    on_err c.from_residual.result (
      k,
      c.in_err-step.ensures.made.err_journal ∙ has.journal
          ∙ ap (λ ls. c.args.self.now.journal ++ ls) (lines_first g.C.Client Painter (Mu ∷ []) m c.args.steps.items k),
    )
