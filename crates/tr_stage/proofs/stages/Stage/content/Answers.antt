use Rattle.std.proofs.Common.{sym, ap, subst, ◌<◌, ◌∙◌}
use Rattle.tr_forest.specs.Nodes.{leaf_count}
use Rattle.tr_journal.specs.Openings.{tree_of}
use Rattle.tr_machine.specs.States.{content_of}
use Rattle.tr_stage.specs.Stages.{StageView, state}
use Rattle.tr_stage.proofs.PartLemmas.{content_at_leaf, has_window}
use Rattle.tr_stage.proofs.stages.Stage.content.Goals as goal

pub content-requires-after_bounds : goal.content-requires-after_bounds
content-requires-after_bounds g c κs within =
    has_window g.C.Client c.self.invariant
    (subst (λ (v : StageView _ _). c.args.leaf.0 < leaf_count (tree_of v.opening).nodes) (sym c.self.view_is) c.requires)

pub returns-clause-content : goal.returns-clause-content
returns-clause-content g c =
    sym (ap (λ (v : StageView _ _). content_of g.C.Client (state g.C.Client v) c.args.leaf) c.self.view_is)
    ∙ sym (content_at_leaf g.C.Client c.args.leaf c.self.invariant.kept) ∙ c.content.ensures.content
