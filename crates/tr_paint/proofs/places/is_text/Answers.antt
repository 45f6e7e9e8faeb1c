use Rattle.std.proofs.Common.{◌≡◌}
use Rattle.tr_paint.specs.declared.paints.Paint.TheVariants.{Text}
use Rattle.tr_paint.proofs.places.is_text.Goals as goal

pub returns-then-is_pair : goal.returns-then-is_pair
returns-then-is_pair c = λ at text h.
    let ops : c.in-Text.o ≡ c.args.ops.now = c.is_pair.ensures c.if-is_pair.true in
    let clip : c.in-Text.c ≡ c.args.clip.now = c.is_same_rect.ensures h in
    let same : c.args.paint.now ≡ Text c.args.ops.now c.args.clip.now c.in-Text._at c.in-Text._text = cc (c.in-Text.is, ops, clip) in
    (record { at = c.in-Text._at; text = c.in-Text._text }, same)
