use Rattle.std.proofs.Common.{◌∷◌, ◌++◌, [], ap, subst, sym, ◌∙◌}
use Rattle.tr_journal.specs.declared.Actor.{Actor}
use Rattle.tr_journal.specs.declared.Step.{Step}
use Rattle.tr_journal.specs.Openings.{tree_of}
use Rattle.tr_journal.specs.Steps.{stated}
use Rattle.tr_machine.specs.Replays.{line_of_step}
use Rattle.tr_stage.specs.Stages.{state}
use Rattle.tr_parts.specs.Turns.{IsPartStep}
use Rattle.tr_play.proofs.OrderLemmas.{next_made}
use Rattle.tr_play.proofs.orders.make_all.Goals as goal

pub loop-made-preserved : goal.loop-made-preserved
loop-made-preserved g c =
    let k = c.loop-made.made-index in
    let within = c.loop-made-test.true in
    let made = c.made-item.result in
    let now = c.loop-made.stage in
    let is = subst (λ (m : Actor × Step _). IsPartStep (tree_of c.args.stage.now.opening).nodes m) (sym c.made-item.is) (c.requires k made within) in
    next_made g.C.Client c.args.stage.now now c.make.new.stage c.args.steps.now k made (within, c.made-item.is) c.loop-made.invariant
    (record {
      maker = is.maker;
      opening = c.make.ensures.opening;
      journal = c.in_ok-make.ensures.journal
          ∙ ap (λ (step : Step _). now.journal ++ line_of_step g.C.Client (state g.C.Client now) made.0 (stated step) step ∷ []) c.in_ok-step.ensures;
    })
