use Rattle.tr_paint.proofs.NearLemmas.{near-meet}
use Rattle.tr_client.proofs.areas.part_of_window.Goals as goal

pub returns-clause-near : goal.returns-clause-near
returns-clause-near c = rw c.meet.ensures.edges (near-meet _ _ c.window.ensures.near)
