use Rattle.std.proofs.Common.{◌∙◌}
use Rattle.tr_stage.specs.Stages.{state}
use Rattle.tr_serial.proofs.ValueLemmas.{render_values}
use Rattle.tr_serial.proofs.values.has_values.Goals as goal

pub returns : goal.returns
returns g c =
    let laws = g.met.C.Client g.world.𝓛 g.world.𝓜 g.world.𝓡 ((λ s x. x), (λ x. x), (λ x. x), (λ x. x)) in
    render_values g.C.Client laws.kinds _ (state g.C.Client c.args.stage.now) (record {
      forest = c.invariant.ensures.stands.forest;
      windows = c.invariant.ensures.stands.sound.windows ∙ c.invariant.ensures.like.leaves;
      leaves = c.have_contents.ensures;
      tints = c.have_tints.ensures;
    })
