use Rattle.std.proofs.Common.{◌≡◌, [], ◌∷◌, ◌++◌, sym, ap, ap₂, ◌∙◌, length, subst, arith, ℕ, ◌<◌, List, get_or}
use Rattle.std.specs.Prelude.{All}
use Rattle.std.proofs.lemmas.Iterator.Adapters.{YieldsList-from_vec}
use Rattle.std.proofs.lemmas.Iterator.Consumers.{YieldsList-end, YieldsList-turn}
use Rattle.std.proofs.lemmas.List.{length_push, take_all}
use Rattle.std.proofs.lemmas.List.Elements.{All-get_or}
use Rattle.tr_base.proofs.ResultFacts.{on_err}
use Rattle.tr_forest.specs.Nodes.{Nodes}
use Rattle.tr_levels.specs.declared.Level.TheVariants.{Mu}
use Rattle.tr_journal.specs.declared.steps.Step.{Step}
use Rattle.tr_journal.specs.Openings.{tree_of}
use Rattle.tr_machine.specs.Replays.{under}
use Rattle.tr_stage.specs.Stages.{IsPainters, line}
use Rattle.tr_server.specs.Shares.{HasMade}
use Rattle.tr_server.proofs.MadeLemmas.{made_more, made_one, made_same, under_length}
use Rattle.tr_server.proofs.ShareLemmas.{map_at}
use Rattle.tr_server.proofs.locked.Locked.make_all.Goals as goal

-- each of the painter's steps is one of them
is_painters : {M : Type 0} (t : Nodes) (steps : List (Step M)) (k : ℕ) (step : Step M) → All (IsPainters t) steps →
    (k < length steps) × (step ≡ get_or steps k step) → IsPainters t step
is_painters t steps k step all at = subst (λ x. IsPainters t x) (sym at.1) (All-get_or (IsPainters t) steps k step at.0 all)

pub step-requires-clause-allowed : goal.step-requires-clause-allowed
step-requires-clause-allowed g c κs within =
    let gives = c.into_iter-step-iterator.ensures.into_iter_gives in
    let items = YieldsList-from_vec {s = c.into_iter-step-iterator.result} _ gives.0 (gives.1 ∙ c.args.steps.ok.0) in
    let turn = YieldsList-turn items c.loop-step.yielded c.loop-step.step-iterator c.loop-step.yielded_by c.next.result c.next.new.self
    c.in-Some.step c.in-Some.is c.next.ensures.steps in
    let held : c.with-level.result ≡ Mu ∷ [] = c.with-level.ensures.held ∙ ap (λ ls. ls ++ Mu ∷ []) c.none.ensures in
    let has = c.loop-step.invariant in
    rw (has.actor, c.requires.painter, held, has.opening)
    (is_painters (tree_of c.args.self.now.opening).nodes c.args.steps.items (length c.loop-step.yielded) c.in-Some.step c.requires.steps turn)

pub loop-step-preserved : goal.loop-step-preserved
loop-step-preserved g c =
    let gives = c.into_iter-step-iterator.ensures.into_iter_gives in
    let items = YieldsList-from_vec {s = c.into_iter-step-iterator.result} _ gives.0 (gives.1 ∙ c.args.steps.ok.0) in
    let turn = YieldsList-turn items c.loop-step.yielded c.loop-step.step-iterator c.loop-step.yielded_by c.next.result c.next.new.self
    c.in-Some.step c.in-Some.is c.next.ensures.steps in
    let held : c.with-level.result ≡ Mu ∷ [] = c.with-level.ensures.held ∙ ap (λ ls. ls ++ Mu ∷ []) c.none.ensures in
    let has = c.loop-step.invariant in
    let one = made_one g.C.Client c.loop-step.self c.step.new.self c.loop-step.pass c.step.new.pass (Mu ∷ []) c.in-Some.step c.step.ensures.made.opening
    (c.in_ok-step.ensures.made.ok
    ∙ ap₂ (λ actor level. c.loop-step.self.journal ++ line g.C.Client c.loop-step.self actor level c.in-Some.step ∷ []) (has.actor ∙ c.requires.painter) held)
    c.in_ok-step.ensures.pass.mine in
    record {
      can_next = tt;
      is_finite = tt;
      opening = c.step.ensures.made.opening ∙ has.opening;
      actor = ap (λ p. p.actor) c.in_ok-step.ensures.pass.mine ∙ has.actor;
      made = rw (length_push c.loop-step.yielded c.in-Some.step)
          (made_more g.C.Client c.args.self.now c.loop-step.self c.step.new.self c.args.pass.now c.loop-step.pass c.step.new.pass
          (under (Mu ∷ []) c.args.steps.items) (length c.loop-step.yielded) (Mu ∷ [], c.in-Some.step) has.made one
          (map_at (λ step. (Mu ∷ [], step)) c.args.steps.items (length c.loop-step.yielded) c.in-Some.step turn));
    }

pub returns-in_err-step-clause-err : goal.returns-in_err-step-clause-err
returns-in_err-step-clause-err g c =
    on_err c.from_residual.result (record {
      steps = length c.loop-step.yielded;
      first = made_same g.C.Client c.args.self.now c.loop-step.self c.step.new.self c.args.pass.now c.loop-step.pass c.step.new.pass _
          c.loop-step.invariant.made c.step.ensures.made.opening c.in_err-step.ensures.made.err_journal c.in_err-step.ensures.pass.err;
    })

pub returns-clause-ok : goal.returns-clause-ok
returns-clause-ok g c =
    let gives = c.into_iter-step-iterator.ensures.into_iter_gives in
    let items = YieldsList-from_vec {s = c.into_iter-step-iterator.result} _ gives.0 (gives.1 ∙ c.args.steps.ok.0) in
    let end = YieldsList-end items c.loop-step.yielded c.loop-step.step-iterator c.loop-step.yielded_by c.next.result c.next.new.self
    c.in-None.is c.next.ensures.steps in
    subst (λ row. HasMade g.C.Client c.args.self.now c.loop-step.self c.args.pass.now c.loop-step.pass row)
    (take_all (length c.loop-step.yielded) (under (Mu ∷ []) c.args.steps.items)
    (omega (arith, end.1, under_length (Mu ∷ []) c.args.steps.items)))
    c.loop-step.invariant.made
