use Rattle.std.proofs.Common.{◌≡◌, ◌<◌, ◌++◌, ◌∷◌, [], length, ◌∙◌, rules}
use Rattle.tr_play.proofs.WorkerLemmas.{next_made}
use Rattle.tr_play.proofs.contexts.Context.make_each.Goals as goal

pub loop-k-preserved : goal.loop-k-preserved
loop-k-preserved g c =
    let k = c.loop-k.k in
    let list = c.args.list.now in
    let step = c.step-step.result.now in
    let low : k < length list = search rules in
    let made : c.make-after.new.pass.mine ≡ c.loop-k.pass.mine ++ step ∷ [] = search rules in (
      c.make-after.ensures.made.actor ∙ c.loop-k.invariant.0,
      made ∙ next_made c.args.pass.now.mine c.loop-k.pass.mine list k step low c.step-step.ensures c.loop-k.invariant.1,
      c.make-after.ensures.ladder,
    )
