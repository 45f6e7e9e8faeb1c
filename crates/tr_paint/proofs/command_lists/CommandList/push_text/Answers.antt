use Rattle.std.proofs.Common.{◌≡◌, [], ◌∷◌, ◌++◌, List, length, refl, ap, ◌∙◌, arith}
use Rattle.std.proofs.lemmas.List.{length_push}
use Rattle.tr_paint.specs.declared.paints.Paint.{Paint}
use Rattle.tr_paint.specs.declared.paints.Paint.TheVariants.{Text}
use Rattle.tr_paint.specs.declared.places.TextAt.{TextAt}
use Rattle.tr_paint.proofs.CommandListLemmas.{parts-pushed, pushed, text-pushed}
use Rattle.tr_paint.proofs.command_lists.CommandList.push_text.Goals as goal

pub invariant_of-self-2 : goal.invariant_of-self-2
invariant_of-self-2 c =
    let fields = c.self.inside in
    let placed : TextAt = record { at = c.args.at; text = c.args.text } in
    let paint : Paint = Text c.args.ops c.args.clip c.args.at c.args.text in
    let place : length fields.texts.items ≡ c.len-place.result = omega (arith, c.len-place.ensures, fields.texts.ok.0) in
    rw (c.push_reserved-2.ensures.items, c.in_ok-reserve.ensures.items, c.push_reserved.ensures.items, c.in_ok-reserve-2.ensures.items)
    (parts-pushed fields.stored.items _ fields.texts.items (fields.texts.items ++ placed ∷ []) fields.places.items
    c.in_ok-command.command c.len-place.result paint c.self.invariant c.in_ok-command.ensures.ok (placed ∷ [], refl)
    (omega (arith, place, length_push fields.texts.items placed)))

pub returns-clause-ok : goal.returns-clause-ok
returns-clause-ok c =
    let fields = c.self.inside in
    let placed : TextAt = record { at = c.args.at; text = c.args.text } in
    let paint : Paint = Text c.args.ops c.args.clip c.args.at c.args.text in
    let place : length fields.texts.items ≡ c.len-place.result = omega (arith, c.len-place.ensures, fields.texts.ok.0) in
    rw (c.push_reserved-2.ensures.items, c.in_ok-reserve.ensures.items, c.push_reserved.ensures.items, c.in_ok-reserve-2.ensures.items)
    (pushed fields.stored.items _ fields.texts.items (fields.texts.items ++ placed ∷ []) fields.places.items
    c.in_ok-command.command c.len-place.result paint c.self.invariant c.in_ok-command.ensures.ok (placed ∷ [], refl)
    (text-pushed c.args.ops c.args.clip fields.texts.items placed c.len-place.result place)
    ∙ ap (λ (cs : List Paint). cs ++ paint ∷ []) c.self.view_is)
