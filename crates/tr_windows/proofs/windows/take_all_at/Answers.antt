use Rattle.std.proofs.Common.{sym, ◌∙◌}
use Rattle.tr_windows.proofs.ChangeLemmas.{changed_is}
use Rattle.tr_windows.proofs.HeldLemmas.{is_at}
use Rattle.tr_windows.proofs.windows.take_all_at.Goals as goal

pub take_all-requires-after_bounds : goal.take_all-requires-after_bounds
take_all-requires-after_bounds g c κs within =
    let at = rw c.from.ensures at c.index_mut-window.ensures.value in
    sym ((is_at c.args.windows.now.items c.args.leaf c.index_mut-window.result.now c.requires.leaf at).batch) ∙ c.requires.idle

pub returns : goal.returns
returns g c =
    rw (← c.from.ensures)
    (changed_is _ _ c.from.result c.index_mut-window.result.now c.take_all.new.self (rw c.from.ensures c.requires.leaf)
    c.index_mut-window.ensures.value c.take_all.ensures)
