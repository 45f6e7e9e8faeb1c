use Rattle.std.proofs.Common.{◌≡◌, ◌∙◌, ◌+◌, ◌*◌, ◌-◌, ◌/◌, ap, add-one, arith}
use Rattle.std.proofs.Math.Nat.{suc-mul, div-mul-le_self}
use Rattle.tr_screen.proofs.CopyLemmas.{copied_on}
use Rattle.tr_screen.proofs.copies.copy_down.Goals as goal

pub loop-i-preserved : goal.loop-i-preserved
loop-i-preserved c =
    let from = c.args.from in
    let to = c.args.to in
    let d = from - to in
    let i = c.loop-i.i in
    let next = c.copy_rows_within.ensures in
    let more : (i + 1) * d ≡ i * d + d = ap (λ n. n * d) (add-one i) ∙ suc-mul i d in
    rw more (copied_on _ _ _ from to (i * d) d (omega (arith, c.requires.down)) c.loop-i.invariant
    (record { copied = next.copied; before = next.before; behind = next.behind }))

pub returns : goal.returns
returns c =
    let from = c.args.from in
    let to = c.args.to in
    let d = from - to in
    let count = c.args.count in
    let last = c.copy_rows_within-2.ensures in
    let all : c.loop-i.i ≡ count / d = omega (arith, c.loop-i-test.false, c.loop-i.auto.i-end) in
    let done = rw all at c.loop-i.invariant in
    let whole : count ≡ count / d * d + (count - count / d * d) = omega (arith, div-mul-le_self count d) in
    rw whole (copied_on _ _ _ from to (count / d * d) (count - count / d * d) (omega (arith, c.requires.down)) done
    (record { copied = last.copied; before = last.before; behind = last.behind }))
