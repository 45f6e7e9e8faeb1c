use Rattle.std.proofs.Common.{◌≡◌, [], ◌∷◌, ◌++◌, List, length, refl, ap, ◌∙◌, arith}
use Rattle.std.proofs.lemmas.List.{length_push}
use Rattle.tr_paint.specs.declared.paints.Paint.{Paint}
use Rattle.tr_paint.specs.declared.paints.Paint.TheVariants.{Text}
use Rattle.tr_paint.specs.declared.places.TextAt.{TextAt}
use Rattle.tr_paint.specs.CommandLists.{IsStoredAt}
use Rattle.tr_paint.proofs.CommandListLemmas.{parts-pushed, pushed, text-pushed}
use Rattle.tr_paint.proofs.command_lists.CommandList.repeat_text.Goals as goal

pub invariant_of-self : goal.invariant_of-self
invariant_of-self c =
    let fields = c.self.inside in
    let placed : TextAt = record { at = c.args.at; text = c.args.text } in
    let paint : Paint = Text c.args.ops.now c.args.clip.now c.args.at c.args.text in
    let place : length fields.texts.items ≡ c.len-next.result = omega (arith, c.len-next.ensures, fields.texts.ok.0) in
    let found : IsStoredAt fields.stored.items fields.stored.items paint fields.text =
    rw c.deref.ensures.value at (c.if-not-is_text_at.ensures c.args.at c.args.text refl) in
    rw (c.push_reserved-2.ensures.items, c.push_reserved.ensures.items)
    (parts-pushed fields.stored.items fields.stored.items fields.texts.items (fields.texts.items ++ placed ∷ []) fields.places.items
    fields.text c.len-next.result paint c.self.invariant found (placed ∷ [], refl)
    (omega (arith, place, length_push fields.texts.items placed)))

pub returns-clause-ok : goal.returns-clause-ok
returns-clause-ok c =
    let fields = c.self.inside in
    let placed : TextAt = record { at = c.args.at; text = c.args.text } in
    let paint : Paint = Text c.args.ops.now c.args.clip.now c.args.at c.args.text in
    let place : length fields.texts.items ≡ c.len-next.result = omega (arith, c.len-next.ensures, fields.texts.ok.0) in
    let found : IsStoredAt fields.stored.items fields.stored.items paint fields.text =
    rw c.deref.ensures.value at (c.if-not-is_text_at.ensures c.args.at c.args.text refl) in
    rw (c.push_reserved-2.ensures.items, c.push_reserved.ensures.items)
    (pushed fields.stored.items fields.stored.items fields.texts.items (fields.texts.items ++ placed ∷ []) fields.places.items
    fields.text c.len-next.result paint c.self.invariant found (placed ∷ [], refl)
    (text-pushed c.args.ops.now c.args.clip.now fields.texts.items placed c.len-next.result place)
    ∙ ap (λ (cs : List Paint). cs ++ paint ∷ []) c.self.view_is)
