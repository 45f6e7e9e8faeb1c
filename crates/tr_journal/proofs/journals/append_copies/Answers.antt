use Rattle.std.proofs.Common.{◌++◌, ◌∷◌, [], take, ap, sym, ◌∙◌, append_assoc}
use Rattle.std.proofs.lemmas.List.{take_more}
use Rattle.tr_journal.proofs.journals.append_copies.Goals as goal

pub loop-entry-preserved : goal.loop-entry-preserved
loop-entry-preserved g c =
    let old = c.args.copies.now.items in
    let entries = c.args.entries.now in
    let k = c.loop-entry.entry-index in
    let next = c.entry-item.result in
    c.in_ok-push.ensures.items
    ∙ ap (λ xs. xs ++ c.in_ok-copy.field-0 ∷ []) c.loop-entry.invariant
    ∙ append_assoc old (take k entries) (c.in_ok-copy.field-0 ∷ [])
    ∙ ap (λ x. old ++ (take k entries ++ x ∷ [])) (c.in_ok-copy.ensures ∙ c.entry-item.is)
    ∙ ap (λ xs. old ++ xs) (sym (take_more entries k next c.loop-entry-test.true))
