use Rattle.std.proofs.Common.{[], ◌∷◌, ◌++◌, List, ap, ◌∙◌}
use Rattle.tr_paint.specs.declared.paints.Paint.{Paint}
use Rattle.tr_paint.proofs.CommandListLemmas.{parts-pushed, grew-none, has-none, pushed, with-none}
use Rattle.tr_paint.proofs.command_lists.CommandList.push_whole.Goals as goal

pub invariant_of-self-2 : goal.invariant_of-self-2
invariant_of-self-2 c =
    let fields = c.self.inside in
    rw (c.push_reserved.ensures.items, c.in_ok-reserve.ensures.items)
    (parts-pushed fields.stored.items _ fields.texts.items _ fields.places.items c.in_ok-command.command 0 c.args.paint
    c.self.invariant c.in_ok-command.ensures.ok (grew-none fields.texts.items) (has-none c.args.paint 0 _ c.requires))

pub returns-clause-ok : goal.returns-clause-ok
returns-clause-ok c =
    let fields = c.self.inside in
    rw (c.push_reserved.ensures.items, c.in_ok-reserve.ensures.items)
    (pushed fields.stored.items _ fields.texts.items _ fields.places.items c.in_ok-command.command 0 c.args.paint
    c.self.invariant c.in_ok-command.ensures.ok (grew-none fields.texts.items) (with-none c.args.paint _ c.requires)
    ∙ ap (λ (cs : List Paint). cs ++ c.args.paint ∷ []) c.self.view_is)
