use Rattle.tr_windows.proofs.AreaLemmas.{near-part}
use Rattle.tr_windows.proofs.areas.part_in_window.Goals as goal

pub returns-clause-near : goal.returns-clause-near
returns-clause-near c = rw c.meet.ensures.edges (near-part _ _ c.window.ensures.near)
