use Rattle.std.proofs.Common.{◌≡◌, Some, sym, ap, subst, ◌∙◌}
use Rattle.tr_forest.specs.declared.EditRefused.{EditRefused}
use Rattle.tr_forest.specs.Nodes.{leaf_count}
use Rattle.tr_forest.specs.Edits.{IsCause, IsEdit, refusal}
use Rattle.tr_tree.specs.Trees.{Seen, edited_tree}
use Rattle.tr_machine.specs.Replays.{replay}
use Rattle.tr_machine.proofs.AlterLemmas.{window_size}
use Rattle.tr_stage.specs.Stages.{Parts}
use Rattle.tr_stage.proofs.PartLemmas.{inboxes_count, leaves_count, seen_for, windows_count}
use Rattle.tr_stage.proofs.AlterLemmas.{IsEdited, altered_stage, edit_now, edited_line, edited_next, leaves_after, refused_line, refused_next}
use Rattle.tr_stage.proofs.stages.Stage.alter.Goals as goal

pub alter-requires-clause-leaves : goal.alter-requires-clause-leaves
alter-requires-clause-leaves g c = windows_count g.C.Client c.self.invariant ∙ sym (leaves_count g.C.Client c.self.invariant)

pub refit-requires-clause-before : goal.refit-requires-clause-before
refit-requires-clause-before g c κs within =
    ap (λ (t : Seen). leaf_count t.nodes) c.in-Ok.ensures.was ∙ leaves_count g.C.Client c.self.invariant ∙ sym (windows_count g.C.Client c.self.invariant)

pub refit-requires-clause-leaves : goal.refit-requires-clause-leaves
refit-requires-clause-leaves g c κs within =
    let made = seen_for (sym c.self.view_is) c.requires.allowed in
    leaves_after g.C.Client c.args.edit c.self.invariant c.invariant.ensures.forest made.own.values c.in-Ok.ensures.allowed
    (c.tree-is.ensures.value ∙ c.in-Ok.ensures.tree)
    ∙ sym (windows_count g.C.Client c.self.invariant)

pub edited_by-requires-clause-leaves : goal.edited_by-requires-clause-leaves
edited_by-requires-clause-leaves g c =
    let made = seen_for (sym c.self.view_is) c.requires.allowed in
    leaves_after g.C.Client c.args.edit c.self.invariant c.invariant.ensures.forest made.own.values c.in-Ok.ensures.allowed
    (c.tree-is.ensures.value ∙ c.in-Ok.ensures.tree)
    ∙ sym (inboxes_count g.C.Client c.self.invariant)

pub edited_by-requires-clause-edit : goal.edited_by-requires-clause-edit
edited_by-requires-clause-edit g c =
    let made = seen_for (sym c.self.view_is) c.requires.allowed in
    subst (λ (t : Seen). IsEdit t.nodes c.args.edit) (sym c.in-Ok.ensures.was) (edit_now g.C.Client c.args.edit c.self.invariant made.own.values)

pub edited_by-requires-clause-allowed : goal.edited_by-requires-clause-allowed
edited_by-requires-clause-allowed g c = ap (λ (t : Seen). refusal t.nodes c.args.edit) c.in-Ok.ensures.was ∙ c.in-Ok.ensures.allowed

pub edited_by-requires-clause-is : goal.edited_by-requires-clause-is
edited_by-requires-clause-is g c =
    c.tree-is.ensures.value ∙ c.in-Ok.ensures.tree ∙ ap (λ (t : Seen). edited_tree t c.args.edit) (sym c.in-Ok.ensures.was)

pub keep_former-requires-clause-edit : goal.keep_former-requires-clause-edit
keep_former-requires-clause-edit g c =
    let made = seen_for (sym c.self.view_is) c.requires.allowed in
    subst (λ (t : Seen). IsEdit t.nodes c.args.edit) (sym c.in-Ok.ensures.was) (edit_now g.C.Client c.args.edit c.self.invariant made.own.values)

pub keep_former-requires-clause-tree : goal.keep_former-requires-clause-tree
keep_former-requires-clause-tree g c = ap (λ (t : Seen). edited_tree t c.args.edit) c.in-Ok.ensures.was ∙ sym c.in-Ok.ensures.tree

pub invariant_of-self-in-Ok : goal.invariant_of-self-in-Ok
invariant_of-self-in-Ok g c =
    let s = c.self.inside in
    let made = seen_for (sym c.self.view_is) c.requires.allowed in
    let old : Parts g.row.C.Denot = record { surface = s.surface; windows = s.windows; mail = s.mail } in
    let new : Parts g.row.C.Denot = record { surface = c.alter.new.self; windows = c.refit.new.self; mail = c.edited_by.new.self } in
    let e : IsEdited g.C.Client (replay g.C.Client s.opening s.journal.lines) c.args.edit old new = record {
      was = c.invariant.ensures;
      is = c.tree-is.ensures.invariant;
      keeps = c.obeys_keeping.ensures;
      allowed = c.in-Ok.ensures.allowed;
      tree = c.in-Ok.ensures.tree;
      bad = c.in-Ok.ensures.bad;
      pixels = c.in-Ok.ensures.pixels;
      before = c.in-Ok.was;
      after = c.tree-is.result.now;
      before_is = c.in-Ok.ensures.was;
      after_is = c.tree-is.ensures.value;
      old_sizes = window_size c.in-Ok.was c.domains_are_small.ensures;
      new_sizes = window_size c.tree-is.result.now c.domains_are_small-in-Ok.ensures;
      windows = c.refit.ensures;
      sent = c.edited_by.new.out;
      sending = c.edited_by.ensures.sent;
    } in
    rw (c.write.ensures.lines, c.in_ok-reserve.ensures.lines, c.keep_former.ensures, c.entry-entry.ensures, c.as_slice.ensures.deliveries, c.len.ensures.count)
    (altered_stage g.C.Client c.self.invariant made (edited_next g.C.Client c.self.invariant e)
    (edited_line g.C.Client c.self.invariant e c.args.by.now.actor c.args.by.now.level))

pub invariant_of-self-in-Err-Fault : goal.invariant_of-self-in-Err-Fault
invariant_of-self-in-Err-Fault g c =
    let made = seen_for (sym c.self.view_is) c.requires.allowed in
    let why : IsCause (refusal c.self.inside.surface.tree.nodes c.args.edit) c.in-Err-Fault.field-0 = c.in-Err-Fault.ensures.cause in
    let refused : refusal c.self.inside.surface.tree.nodes c.args.edit ≡ Some c.in-Err-Fault.fault =
    subst (λ (r : EditRefused). IsCause (refusal c.self.inside.surface.tree.nodes c.args.edit) r) c.in-Err-Fault.field-0-is why in
    rw (c.write-in-Err-Fault.ensures.lines, c.in_ok-reserve.ensures.lines, c.entry-entry-in-Err-Fault.ensures, c.in-Err-Fault.ensures.err)
    (altered_stage g.C.Client c.self.invariant made (refused_next g.C.Client c.args.edit c.self.invariant refused c.invariant.ensures)
    (refused_line g.C.Client c.args.edit c.self.invariant refused c.args.by.now.actor c.args.by.now.level))
