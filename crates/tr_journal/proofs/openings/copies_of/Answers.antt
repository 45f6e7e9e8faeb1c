use Rattle.std.proofs.Common.{◌++◌, ◌∷◌, [], take, ap, sym, ◌∙◌}
use Rattle.std.proofs.lemmas.List.{take_more}
use Rattle.tr_journal.proofs.openings.copies_of.Goals as goal

pub loop-item-preserved : goal.loop-item-preserved
loop-item-preserved g c =
    let items = c.deref-item-items.result.now in
    let k = c.loop-item.item-index in
    c.in_ok-push.ensures.items
    ∙ ap (λ xs. xs ++ c.in_ok-copy.field-0 ∷ []) c.loop-item.invariant
    ∙ ap (λ x. take k items ++ x ∷ []) (c.in_ok-copy.ensures ∙ c.item-item.is)
    ∙ sym (take_more items k c.item-item.result c.loop-item-test.true)
