use Rattle.std.proofs.Common.{refl, rules}
use Rattle.tr_server.proofs.windows.Window.act_under.Goals as goal

pub client_step-requires-clause-own : goal.client_step-requires-clause-own
client_step-requires-clause-own g c κs within = record {
  may = search rules;
  values = record { within = rw (c.invariant.ensures.leaves_are, c.leaf-leaf.ensures.value) c.leaf-leaf.ensures.invariant };
}

pub returns-clause-screen : goal.returns-clause-screen
returns-clause-screen g c = c.in_ok-client_step.ensures.screen refl
