use Rattle.tr_server.proofs.DrawLemmas.{others_handed}
use Rattle.tr_server.proofs.locked.Locked.client_step.Goals as goal

pub returns-clause-others : goal.returns-clause-others
returns-clause-others g c =
    let book = c.args.basket.now in
    others_handed g.C.Client c.args.self.now c.hand_over_drawn.new.self c.step_with.new.self c.args.leaf book.prepared.commands book.levels c.args.step
    c.invariant.ensures.counts c.hand_over_drawn.ensures.opening c.in-Ok.ensures.ok c.hand_over_drawn.ensures.screen
    c.in_ok-reply.ensures.others
