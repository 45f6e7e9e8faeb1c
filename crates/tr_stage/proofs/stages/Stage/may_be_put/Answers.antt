use Rattle.std.proofs.Common.{◌<◌, sym, subst}
use Rattle.tr_forest.specs.Nodes.{leaf_count}
use Rattle.tr_journal.specs.Openings.{tree_of}
use Rattle.tr_stage.specs.Sketching.{MayBePut}
use Rattle.tr_stage.specs.Stages.{Parts, StageView, state}
use Rattle.tr_stage.proofs.PartLemmas.{has_window}
use Rattle.tr_stage.proofs.SketchLemmas.{may_be_put}
use Rattle.tr_stage.proofs.stages.Stage.may_be_put.Goals as goal

pub is_covered-requires-clause-leaf : goal.is_covered-requires-clause-leaf
is_covered-requires-clause-leaf g c κs within =
    has_window g.C.Client c.self.invariant
    (subst (λ (v : StageView _ _). c.args.leaf.0 < leaf_count (tree_of v.opening).nodes) (sym c.self.view_is) c.requires)

pub returns : goal.returns
returns g c = λ covers.
    let s = c.self.inside in
    let parts : Parts g.row.C.Denot = record { surface = s.surface; windows = s.windows; mail = s.mail } in
    subst (λ (v : StageView _ _). MayBePut g.C.Client (state g.C.Client v) c.args.leaf c.args.clip.now) c.self.view_is
    (may_be_put g.C.Client s.opening s.journal.lines parts c.args.leaf c.args.clip.now (record {
      is = c.self.invariant;
      shown = c.invariant.ensures;
      within = subst (λ (v : StageView _ _). c.args.leaf.0 < leaf_count (tree_of v.opening).nodes) (sym c.self.view_is) c.requires;
      exposure = c.in_ok-exposure.exposure;
      stands = c.in_ok-exposure.ensures.stands;
      covers = c.is_covered.ensures covers;
    }))
