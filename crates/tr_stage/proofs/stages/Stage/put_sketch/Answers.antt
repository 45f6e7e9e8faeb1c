use Rattle.std.proofs.Common.{sym, subst, ap, refl, ◌∙◌}
use Rattle.tr_tree.specs.Trees.{Seen}
use Rattle.tr_spot.specs.Spots.{is_in_leaf, spot}
use Rattle.tr_journal.specs.declared.steps.Step.TheVariants.{Flush}
use Rattle.tr_stage.specs.Sketching.{IsSketchOf, MayBePut}
use Rattle.tr_stage.specs.Stages.{Parts, StageView, state}
use Rattle.tr_stage.proofs.DeviceLemmas.{Before, IsMaking}
use Rattle.tr_stage.proofs.PaintLemmas.{leaf_within}
use Rattle.tr_stage.proofs.SketchLemmas.{sketch_made}
use Rattle.tr_stage.proofs.stages.Stage.put_sketch.Goals as goal

pub clear-requires-after_bounds : goal.clear-requires-after_bounds
clear-requires-after_bounds g c κs within =
    let s = c.self.inside in
    let b : Before g.row.C.Denot g.row.C-Cmd.Denot = record {
      opening = s.opening;
      lines = s.journal.lines;
      parts = record { surface = s.surface; windows = s.windows; mail = s.mail };
      actor = c.args.by.now.actor;
      held = c.args.by.now.level;
    } in
    leaf_within g.C.Client c.args.self.now b c.args.leaf (ap (λ v. v.opening) c.self.view_is) c.self.invariant c.requires.allowed.own.values

pub invariant_of-self-2 : goal.invariant_of-self-2
invariant_of-self-2 g c =
    let s = c.self.inside in
    let b : Before g.row.C.Denot g.row.C-Cmd.Denot = record {
      opening = s.opening;
      lines = s.journal.lines;
      parts = record { surface = s.surface; windows = s.windows; mail = s.mail };
      actor = c.args.by.now.actor;
      held = c.args.by.now.level;
    } in
    let m : IsMaking g.C.Client b (Flush c.args.leaf) = record {
      is = c.self.invariant;
      shown = c.invariant.ensures;
      view = c.args.self.now;
      same = ap (λ v. v.opening) c.self.view_is;
      allowed = c.requires.allowed;
    } in
    let new : Parts g.row.C.Denot = record { surface = c.put_visible.new.self; windows = c.clear.new.self; mail = s.mail } in
    let back = sym c.self.view_is in
    rw (c.write.ensures.lines, c.entry-entry.ensures, c.reserve.ensures.lines)
    (sketch_made g.C.Client b c.args.leaf new m (record {
      shown = c.invariant-2.ensures;
      tree = c.put_visible.ensures.tree;
      sketch = c.args.sketch.now;
      is = c.clip-clip.ensures.invariant;
      shows = subst (λ (v : StageView _ _). IsSketchOf g.C.Client (state g.C.Client v) c.args.leaf c.args.sketch.now) back c.requires.shows;
      may = subst (λ (v : StageView _ _). MayBePut g.C.Client (state g.C.Client v) c.args.leaf c.args.sketch.now.clip) back c.requires.may;
      puts = rw (c.clip-clip.ensures.value, c.pixels.ensures) at c.put_visible.ensures.pixels;
      bad = c.put_visible.ensures.bad;
      windows = c.clear.ensures;
      mail = refl;
    }))

pub put_visible-requires-clause-good : goal.put_visible-requires-clause-good
put_visible-requires-clause-good g c = λ p seen.
    let leaf = c.args.leaf in
    let may = subst (λ (v : StageView _ _). MayBePut g.C.Client (state g.C.Client v) leaf c.args.sketch.now.clip) (sym c.self.view_is) c.requires.may in
    c.self.invariant.kept.bad p
    ∙ may.good p (ap (λ (t : Seen). is_in_leaf leaf (spot t p)) (sym c.self.invariant.kept.tree) ∙ seen)
