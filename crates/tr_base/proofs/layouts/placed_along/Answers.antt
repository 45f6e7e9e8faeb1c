use Rattle.std.proofs.Common.{◌≡◌, pos, to_z, w32, sym, ◌∙◌, arith}
use Rattle.std.proofs.lemmas.Int.{ints}
use Rattle.tr_base.proofs.LayoutLemmas.{turned-placed}
use Rattle.tr_base.proofs.layouts.placed_along.Goals as goal

pub returns-then-down : goal.returns-then-down
returns-then-down c =
    let r = c.args.rect.now in
    let main : to_z w32 c.args.by.0 ≡ pos c.args.by.0 = omega (arith, ints) in
    let other : to_z w32 c.args.by.1 ≡ pos c.args.by.1 = omega (arith, ints) in
    let is = rw (main, other) at c.placed.ensures in
    rw c.if-down.true (is ∙ sym (turned-placed r (pos c.args.by.0) (pos c.args.by.1) c.args.size))
