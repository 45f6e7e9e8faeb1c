use Rattle.std.proofs.Common.{List, take, sym, ap, ◌∙◌}
use Rattle.std.proofs.lemmas.List.{take-map}
use Rattle.tr_paint.specs.declared.paints.Paint.{Paint}
use Rattle.tr_paint.specs.CommandLists.{command_at_places}
use Rattle.tr_paint.proofs.command_lists.CommandList.truncate.Goals as goal

pub returns : goal.returns
returns c =
    let fields = c.self.inside in
    rw c.truncate.ensures.items
    (sym (take-map (command_at_places fields.stored.items fields.texts.items) c.args.count fields.places.items)
    ∙ ap (λ (cs : List Paint). take c.args.count cs) c.self.view_is)
