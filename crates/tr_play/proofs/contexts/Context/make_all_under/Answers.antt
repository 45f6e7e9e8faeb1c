use Rattle.std.proofs.Common.{◌≡◌, ◌<◌, ◌++◌, ◌∷◌, [], length, ap, ◌∙◌, rules}
use Rattle.tr_play.proofs.WorkerLemmas.{next_made}
use Rattle.tr_play.proofs.contexts.Context.make_all_under.Goals as goal

pub loop-k-preserved : goal.loop-k-preserved
loop-k-preserved g c =
    let k = c.loop-k.k in
    let list = c.args.list.now in
    let step = c.step.result.now in
    let low : k < length list = search rules in
    let made : c.make_with.new.pass.mine ≡ c.loop-k.pass.mine ++ step ∷ [] =
    c.in_ok-make_with.ensures.pass.mine ∙ ap (λ made. c.loop-k.pass.mine ++ made ∷ []) c.in_ok-step.ensures in (
      c.make_with.ensures.opening ∙ c.loop-k.invariant.0,
      c.make_with.ensures.pass.actor ∙ c.loop-k.invariant.1,
      made ∙ next_made c.args.pass.now.mine c.loop-k.pass.mine list k step low c.step.ensures c.loop-k.invariant.2,
    )
