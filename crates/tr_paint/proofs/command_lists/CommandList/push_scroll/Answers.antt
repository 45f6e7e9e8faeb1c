use Rattle.std.proofs.Common.{[], ◌∷◌, ◌++◌, List, refl, ap, ◌∙◌}
use Rattle.tr_paint.specs.declared.paints.Paint.{Paint}
use Rattle.tr_paint.specs.declared.paints.Paint.TheVariants.{Scroll}
use Rattle.tr_paint.proofs.CommandListLemmas.{parts-pushed, grew-none, pushed}
use Rattle.tr_paint.proofs.command_lists.CommandList.push_scroll.Goals as goal

pub invariant_of-self-2 : goal.invariant_of-self-2
invariant_of-self-2 c =
    let fields = c.self.inside in
    rw (c.push_reserved.ensures.items, c.in_ok-reserve.ensures.items)
    (parts-pushed fields.stored.items _ fields.texts.items _ fields.places.items c.in_ok-command.command 0 (Scroll c.args.clip c.args.delta)
    c.self.invariant c.in_ok-command.ensures.ok (grew-none fields.texts.items) tt)

pub returns-clause-ok : goal.returns-clause-ok
returns-clause-ok c =
    let fields = c.self.inside in
    rw (c.push_reserved.ensures.items, c.in_ok-reserve.ensures.items)
    (pushed fields.stored.items _ fields.texts.items _ fields.places.items c.in_ok-command.command 0 (Scroll c.args.clip c.args.delta)
    c.self.invariant c.in_ok-command.ensures.ok (grew-none fields.texts.items) refl
    ∙ ap (λ (cs : List Paint). cs ++ Scroll c.args.clip c.args.delta ∷ []) c.self.view_is)
