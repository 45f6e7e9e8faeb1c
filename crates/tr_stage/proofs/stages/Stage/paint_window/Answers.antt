use Rattle.std.proofs.Common.{◌≡◌, true, subst, sym, ap, ◌∙◌, arith}
use Rattle.tr_base.specs.declared.Point.{Point}
use Rattle.tr_base.specs.Rects.{Edges, meet_of, whole_of}
use Rattle.tr_region.specs.Points.{holds}
use Rattle.tr_screen.specs.Pictures.{pixel_of}
use Rattle.tr_paint.specs.Paintings.{IsPainting}
use Rattle.tr_paint.specs.Traces.{look_of}
use Rattle.tr_exec.specs.Executions.{screen_point}
use Rattle.tr_forest.specs.Forests.{IsForest}
use Rattle.tr_spot.specs.Leaves.{in_leaf, leaf_size}
use Rattle.tr_machine.specs.Paintings.{is_visible}
use Rattle.tr_machine.specs.Pictures.{want}
use Rattle.tr_machine.specs.Replays.{replay}
use Rattle.tr_windows.specs.Presents.{content_at}
use Rattle.tr_windows.proofs.PresentLemmas.{presents-content}
use Rattle.tr_stage.specs.Stages.{state}
use Rattle.tr_stage.proofs.SettleLemmas.{windows_of}
use Rattle.tr_stage.proofs.SharingLemmas.{painted_window}
use Rattle.tr_stage.proofs.StaleLemmas.{IsPlan}
use Rattle.tr_stage.proofs.stages.Stage.paint_window.Goals as goal

pub content-content-requires-after_bounds : goal.content-content-requires-after_bounds
content-content-requires-after_bounds g c κs within =
    omega (arith, c.requires.leaf, windows_of g.C.Client c.args.self.now c.self.invariant (record { spare = c.self.inside.journal.spare; is = c.self.view_is }))

pub returns-clause-painted : goal.returns-clause-painted
returns-clause-painted g c =
    let m = replay g.C.Client c.self.inside.opening c.self.inside.journal.lines in
    let leaf = c.args.leaf in
    let how = look_of c.kind.result c.font.result.now in
    let size = c.leaf_size-size.result in
    let batch = c.in_ok-painting.painting in
    let tree : c.tree-tree.result.now ≡ m.tree = c.tree-tree.ensures.value ∙ c.self.invariant.kept.tree in
    let plan : IsPlan g.C.Client m leaf how size c.content-content.result.now batch = record {
      look = ap (λ k. look_of k c.font.result.now) (c.kind.ensures ∙ ap (λ t. t.kind) tree)
          ∙ ap (λ f. look_of m.tree.kind f) (c.font.ensures ∙ sym c.self.invariant.like.font);
      size = c.leaf_size-size.ensures.value ∙ ap (λ t. leaf_size t leaf) tree;
      is = sym (ap (λ ws. content_at ws leaf) c.self.invariant.kept.windows ∙ presents-content g.C.Client m leaf) ∙ c.content-content.ensures.content;
      paints = subst (λ (r : Edges). IsPainting how (meet_of (whole_of size) r) batch (g.C.Client.pic how size c.content-content.result.now))
          c.whole.ensures.edges
          c.in_ok-painting.ensures.painting;
    } in
    subst (λ v. let m = state g.C.Client v in (p : Point) → is_visible m leaf p ≡ true →
    holds c.args.part.now (screen_point c.args.origin (in_leaf m.tree leaf p)) ≡ true →
    pixel_of c.execute-executed.new.screen (screen_point c.args.origin (in_leaf m.tree leaf p)) ≡ want g.C.Client m p) c.self.view_is
    (painted_window g.C.Client c.args.origin c.args.part.now c.empty-unknown.result c.args.wanted.now c.execute-executed.new.screen
    (subst (λ t. IsForest t.nodes) c.self.invariant.kept.tree c.tree-tree.ensures.invariant.forest) plan c.in_ok-executed.ensures.known)
