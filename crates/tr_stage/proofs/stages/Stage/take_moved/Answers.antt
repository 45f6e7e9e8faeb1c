use Rattle.std.proofs.Common.{◌≡◌, ◌<◌, ◌++◌, [], Some, sym, ap, subst, ◌∙◌}
use Rattle.tr_forest.specs.Nodes.{leaf_count}
use Rattle.tr_spot.specs.Leaves.{leaf_size}
use Rattle.tr_journal.specs.Openings.{tree_of}
use Rattle.tr_journal.specs.Journals.{silent}
use Rattle.tr_machine.specs.States.{leaf_batch, content_of}
use Rattle.tr_machine.specs.CommandSteps.{act_entries}
use Rattle.tr_machine.proofs.CommandStepLemmas.{handed_lines}
use Rattle.tr_stage.specs.Stages.{StageView, state}
use Rattle.tr_stage.proofs.PartLemmas.{batch_at_leaf, has_window}
use Rattle.tr_stage.proofs.HandingLemmas.{entries_quiet, ready_at, takes_over}
use Rattle.tr_stage.proofs.stages.Stage.take_moved.Goals as goal

pub take_all-requires-clause-leaf : goal.take_all-requires-clause-leaf
take_all-requires-clause-leaf g c κs within =
    has_window g.C.Client c.self.invariant
    (subst (λ (u : StageView _ _). c.args.leaf.0 < leaf_count (tree_of u.opening).nodes) (sym c.self.view_is) c.requires.leaf)

pub take_all-requires-clause-idle : goal.take_all-requires-clause-idle
take_all-requires-clause-idle g c κs within =
    batch_at_leaf g.C.Client c.args.leaf c.self.invariant.kept
    ∙ subst (λ (u : StageView _ _). leaf_batch g.C.Client (state g.C.Client u) c.args.leaf ≡ []) (sym c.self.view_is) c.requires.idle

pub extend-requires : goal.extend-requires
extend-requires g c = record { silent = rw c.entries_in-entries.ensures.entries (entries_quiet c.args.leaf _ _) }

pub invariant_of-self-2 : goal.invariant_of-self-2
invariant_of-self-2 g c =
    let p = c.args.prepared in
    let leaf = c.args.leaf in
    let back = sym c.self.view_is in
    let n = state g.C.Client (record {
      opening = c.self.inside.opening;
      journal = c.self.inside.journal.lines;
      screen = c.self.inside.surface.screen;
      spare = c.self.inside.journal.spare;
    }) in
    let within = subst (λ (u : StageView _ _). leaf.0 < leaf_count (tree_of u.opening).nodes) back c.requires.leaf in
    let ready = ready_at g.C.Client n leaf p.commands.items p.from p.to p.batch p.kind p.font p.size
    (subst (λ (u : StageView _ _). content_of g.C.Client (state g.C.Client u) leaf ≡ Some p.from) back c.requires.from)
    (subst (λ (u : StageView _ _). p.kind ≡ (state g.C.Client u).tree.kind) back c.requires.kind)
    (subst (λ (u : StageView _ _). p.font ≡ (state g.C.Client u).font) back c.requires.font)
    (subst (λ (u : StageView _ _). p.size ≡ leaf_size (state g.C.Client u).tree leaf) back c.requires.size)
    p.contents p.patches p.patch in
    let added = rw c.unwrap.ensures at c.extend.ensures.ok in
    rw (
      added,
      c.reserve_silent.ensures.lines,
      c.entries_in-entries.ensures.entries,
      ← handed_lines g.C.Client n leaf p.commands.items c.args.levels.now,
    )
    (takes_over g.C.Client p.commands.items c.args.levels.now c.self.invariant (record { within = within }) ready
    c.requires.levels c.take_all.ensures)

pub returns-clause-ok : goal.returns-clause-ok
returns-clause-ok g c =
    let p = c.args.prepared in
    let added = rw (c.reserve_silent.ensures.lines, c.entries_in-entries.ensures.entries) at (rw c.unwrap.ensures at c.extend.ensures.ok) in
    added
    ∙ ap (λ (v : StageView _ _). v.journal ++ silent (act_entries c.args.leaf p.commands.items c.args.levels.now)) c.self.view_is
    ∙ ap (λ ls. c.args.self.now.journal ++ ls)
    (sym (handed_lines g.C.Client (state g.C.Client c.args.self.now) c.args.leaf p.commands.items c.args.levels.now))
