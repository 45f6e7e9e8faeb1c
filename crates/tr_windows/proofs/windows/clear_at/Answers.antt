use Rattle.tr_windows.proofs.ChangeLemmas.{changed_is}
use Rattle.tr_windows.proofs.windows.clear_at.Goals as goal

pub returns : goal.returns
returns g c =
    rw (← c.from.ensures)
    (changed_is _ _ c.from.result c.index_mut-window.result.now c.clear.new.self (rw c.from.ensures c.requires)
    c.index_mut-window.ensures.value c.clear.ensures)
