use Rattle.tr_mirror.proofs.WriterLemmas.{made_again}
use Rattle.tr_mirror.proofs.writers.copy_of.Goals as goal

pub returns : goal.returns
returns c =
    made_again c.args.screen.now c.in_ok-copy.copy c.size.result c.kind.result c.size.ensures.invariant c.invariant.ensures c.size.ensures.value
    c.kind.ensures.value c.in_ok-copy.ensures.size c.in_ok-copy.ensures.kind c.in_ok-copy.ensures.points
