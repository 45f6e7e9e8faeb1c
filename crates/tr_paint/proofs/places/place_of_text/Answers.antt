use Rattle.tr_paint.proofs.places.place_of_text.Goals as goal

pub returns-then-is_text_at-clause-ok : goal.returns-then-is_text_at-clause-ok
returns-then-is_text_at-clause-ok c =
    rw c.deref.ensures.value at (c.is_text_at.ensures c.args.at c.args.text.now c.if-is_text_at.true)
