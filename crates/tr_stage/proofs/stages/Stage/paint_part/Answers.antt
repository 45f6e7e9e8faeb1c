use Rattle.std.proofs.Common.{◌≡◌, sym, ap, ◌∙◌}
use Rattle.std.proofs.lemmas.Result.{on_ok_weaker}
use Rattle.tr_base.specs.declared.Point.{Point}
use Rattle.tr_region.specs.Points.{holds}
use Rattle.tr_screen.specs.Pictures.{pixel_of}
use Rattle.tr_exec.specs.Executions.{screen_point}
use Rattle.tr_spot.specs.Leaves.{in_leaf, leaf_corner}
use Rattle.tr_machine.proofs.BaseLemmas.{placed-in_leaf}
use Rattle.tr_stage.specs.Stages.{state}
use Rattle.tr_stage.proofs.SharingLemmas.{part_on}
use Rattle.tr_stage.proofs.stages.Stage.paint_part.Goals as goal

pub paint_window-requires-clause-part : goal.paint_window-requires-clause-part
paint_window-requires-clause-part g c κs within =
    part_on g.C.Client (state g.C.Client c.args.self.now) c.args.leaf c.args.part.now c.args.wanted.now.size
    (c.requires.size ∙ c.invariant.ensures.stands.agrees.size) c.requires.part

pub returns-clause-painted : goal.returns-clause-painted
returns-clause-painted g c =
    let m = state g.C.Client c.args.self.now in
    let leaf = c.args.leaf in
    let corner = c.corner_of-corner.result in
    let tree = c.tree.ensures.value ∙ c.self.invariant.kept.tree ∙ ap (λ v. (state g.C.Client v).tree) c.self.view_is in
    let is : corner ≡ leaf_corner m.tree leaf = c.corner_of-corner.ensures.value ∙ ap (λ t. leaf_corner t leaf) tree in
    let there : (p : Point) → screen_point corner (in_leaf m.tree leaf p) ≡ p = λ p.
    ap (λ (o : Point). screen_point o (in_leaf m.tree leaf p)) is ∙ placed-in_leaf m.tree leaf p in
    on_ok_weaker c.paint_window.result
    (λ painted p held.
    ap (λ (q : Point). pixel_of c.paint_window.new.wanted q) (sym (there p))
    ∙ painted p (c.requires.part p held) (ap (λ (q : Point). holds c.args.part.now q) (there p) ∙ held))
    c.paint_window.ensures.painted
