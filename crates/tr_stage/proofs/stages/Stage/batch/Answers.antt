use Rattle.std.proofs.Common.{sym, ap, subst, ◌<◌, ◌∙◌}
use Rattle.tr_forest.specs.Nodes.{leaf_count}
use Rattle.tr_journal.specs.Openings.{tree_of}
use Rattle.tr_machine.specs.States.{leaf_batch}
use Rattle.tr_stage.specs.Stages.{StageView, state}
use Rattle.tr_stage.proofs.PartLemmas.{batch_at_leaf, has_window}
use Rattle.tr_stage.proofs.stages.Stage.batch.Goals as goal

pub batch-requires-after_bounds : goal.batch-requires-after_bounds
batch-requires-after_bounds g c κs within =
    has_window g.C.Client c.self.invariant
    (subst (λ (v : StageView _ _). c.args.leaf.0 < leaf_count (tree_of v.opening).nodes) (sym c.self.view_is) c.requires)

pub returns : goal.returns
returns g c =
    c.batch.ensures ∙ batch_at_leaf g.C.Client c.args.leaf c.self.invariant.kept
    ∙ ap (λ (v : StageView _ _). leaf_batch g.C.Client (state g.C.Client v) c.args.leaf) c.self.view_is
