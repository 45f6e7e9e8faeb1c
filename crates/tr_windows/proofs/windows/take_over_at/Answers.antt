use Rattle.tr_windows.proofs.ChangeLemmas.{changed_is}
use Rattle.tr_windows.proofs.windows.take_over_at.Goals as goal

pub returns-clause-ok : goal.returns-clause-ok
returns-clause-ok g c =
    rw (← c.from.ensures)
    (changed_is _ _ c.from.result c.index_mut-window.result.now c.take_over.new.self (rw c.from.ensures c.requires.leaf)
    c.index_mut-window.ensures.value c.in_ok-take_over.ensures.ok)
