use Rattle.std.proofs.Common.{◌-◌, ◌∙◌, ap, drop, length, take}
use Rattle.std.proofs.lemmas.List.{take_rest}
use Rattle.tr_play.proofs.ListLemmas.{part_is}
use Rattle.tr_play.proofs.lists.List.slice.Goals as goal

pub returns : goal.returns
returns g c =
    let places = c.self.inside.places.now in
    part_is c.self.inside.steps.now places (take (length places - c.args.k) (drop c.args.k places)) c.args.k c.args.count c.min.result
    (take_rest places c.args.k) c.min.ensures
    ∙ ap (λ xs. take c.args.count (drop c.args.k xs)) c.self.view_is
