use Rattle.std.proofs.Common.{arith}
use Rattle.std.proofs.lemmas.List.Elements.{All-push}
use Rattle.tr_output.specs.Lines.{SpellsRow}
use Rattle.tr_output.proofs.lines.no_lines.Goals as goal

pub loop-preserved : goal.loop-preserved
loop-preserved c = record {
  lines = λ pixels. rw c.in_ok-push.ensures.items
      (All-push (SpellsRow pixels) c.loop.lines.items c.in_ok-new.field-0 (c.loop.invariant.lines pixels) (c.in_ok-new.ensures pixels));
  count = omega (arith, c.in_ok-push.ensures.len, c.loop.invariant.count);
}
