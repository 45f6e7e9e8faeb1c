use Rattle.std.proofs.Common.{◌≡◌, ◌<◌, ℕ, [], sym, subst, ap, refl, ◌∙◌}
use Rattle.tr_forest.specs.Nodes.{leaf_count}
use Rattle.tr_tree.specs.Trees.{Seen}
use Rattle.tr_spot.specs.Spots.{is_in_leaf, spot}
use Rattle.tr_journal.specs.Openings.{tree_of}
use Rattle.tr_machine.specs.Replays.{replay}
use Rattle.tr_journal.specs.declared.steps.Step.TheVariants.{Repaint}
use Rattle.tr_machine.specs.States.{leaf_batch}
use Rattle.tr_stage.specs.Stages.{Parts, StageView, state}
use Rattle.tr_machine.specs.SharedRepaints.{IsPaintedOf}
use Rattle.tr_stage.proofs.DeviceLemmas.{Before, IsMaking}
use Rattle.tr_stage.proofs.PaintLemmas.{leaf_within}
use Rattle.tr_stage.proofs.SharingLemmas.{part_visible, put_made}
use Rattle.tr_stage.proofs.stages.Stage.put.Goals as goal

pub clear-requires-after_bounds : goal.clear-requires-after_bounds
clear-requires-after_bounds g c κs within =
    let s = c.self.inside in
    let b : Before g.row.C.Denot g.row.C-Cmd.Denot = record {
      opening = s.opening;
      lines = s.journal.lines;
      parts = record { surface = s.surface; windows = s.windows; mail = s.mail };
      actor = c.args.by.now.actor;
      held = c.args.by.now.level;
    } in
    leaf_within g.C.Client c.args.self.now b c.args.leaf (ap (λ v. v.opening) c.self.view_is) c.self.invariant c.requires.allowed.own.values

pub invariant_of-self-2 : goal.invariant_of-self-2
invariant_of-self-2 g c =
    let s = c.self.inside in
    let b : Before g.row.C.Denot g.row.C-Cmd.Denot = record {
      opening = s.opening;
      lines = s.journal.lines;
      parts = record { surface = s.surface; windows = s.windows; mail = s.mail };
      actor = c.args.by.now.actor;
      held = c.args.by.now.level;
    } in
    let m : IsMaking g.C.Client b (Repaint c.args.leaf) = record {
      is = c.self.invariant;
      shown = c.invariant.ensures;
      view = c.args.self.now;
      same = ap (λ v. v.opening) c.self.view_is;
      allowed = c.requires.allowed;
    } in
    let new : Parts g.row.C.Denot = record { surface = c.put.new.self; windows = c.clear.new.self; mail = s.mail } in
    let done = c.in_ok-put.ensures in
    let back = sym c.self.view_is in
    rw (c.write.ensures.lines, c.entry-entry.ensures, c.reserve.ensures.lines)
    (put_made g.C.Client b c.args.leaf new m (record {
      shown = c.invariant-2.ensures;
      tree = c.put.ensures.tree;
      idle = subst (λ (v : StageView _ _). leaf_batch g.C.Client (state g.C.Client v) c.args.leaf ≡ []) back c.requires.idle;
      part = c.args.part.now;
      pixels = c.args.pixels.now;
      painted = subst (λ (v : StageView _ _). IsPaintedOf g.C.Client (state g.C.Client v) c.args.leaf c.args.part.now c.args.pixels.now)
          back c.requires.painted;
      puts = done.pixels;
      left = done.bad;
      windows = c.clear.ensures;
      mail = refl;
    }))

pub put-requires-clause-part : goal.put-requires-clause-part
put-requires-clause-part g c = λ p held.
    let m = replay g.C.Client c.self.inside.opening c.self.inside.journal.lines in
    let leaf = c.args.leaf in
    let painted = subst (λ (v : StageView _ _). IsPaintedOf g.C.Client (state g.C.Client v) leaf c.args.part.now c.args.pixels.now)
    (sym c.self.view_is) c.requires.painted in
    ap (λ (t : Seen). is_in_leaf leaf (spot t p)) c.self.invariant.kept.tree ∙ part_visible g.C.Client m leaf c.args.part.now painted.points p held

pub put-requires-clause-leaf : goal.put-requires-clause-leaf
put-requires-clause-leaf g c =
    let kept = c.self.invariant.kept in
    subst (λ (n : ℕ). c.args.leaf.0 < n)
    (sym (ap (λ (t : Seen). leaf_count t.nodes) kept.tree ∙ c.self.invariant.like.leaves
    ∙ ap (λ (v : StageView _ _). leaf_count (tree_of v.opening).nodes) c.self.view_is))
    c.requires.allowed.own.values.within
