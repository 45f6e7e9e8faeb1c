use Rattle.tr_threads.proofs.ThreadLemmas.{last_are}
use Rattle.tr_threads.proofs.lines.again_lines.Goals as goal

pub returns : goal.returns
returns g c =
    last_are _ _ _ _ _ _ c.new-text.ensures.items c.in_ok-differs_line.ensures.ok c.in_ok-extend_from_slice.ensures.items
