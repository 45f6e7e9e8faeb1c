use Rattle.std.proofs.Common.{ap, ◌∙◌}
use Rattle.tr_forest.specs.Nodes.{leaf_count}
use Rattle.tr_tree.specs.Trees.{Seen}
use Rattle.tr_mail.specs.Mails.{no_mail}
use Rattle.tr_stage.proofs.StartLemmas.{starts}
use Rattle.tr_stage.proofs.stages.Stage.start.Goals as goal

pub invariant_of-result : goal.invariant_of-result
invariant_of-result g c =
    rw c.new-journal.ensures
    (starts g.C.Client c.tree.ensures.invariant
    (record { shown = c.invariant.ensures; tree = c.in-Ok.ensures.tree; bad = c.in-Ok.ensures.bad })
    c.in-Ok-new.ensures (c.in-Ok-new-2.ensures ∙ ap no_mail (c.leaves.ensures ∙ ap (λ (t : Seen). leaf_count t.nodes) c.tree.ensures.value)))
