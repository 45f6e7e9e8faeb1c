use Rattle.std.proofs.Common.{◌≡◌, ◌∙◌, ◌+◌, ◌*◌, ◌-◌, ◌/◌, ◌%◌, suc, ap, arith}
use Rattle.std.proofs.Math.Nat.{suc-mul, zero-mul, mod-eq-sub-div-mul, div-mul-le_self}
use Rattle.tr_screen.proofs.CopyLemmas.{copied_back}
use Rattle.tr_screen.proofs.copies.copy_up.Goals as goal

pub loop-i-preserved : goal.loop-i-preserved
loop-i-preserved c =
    let from = c.args.from in
    let to = c.args.to in
    let d = to - from in
    let rest = c.args.count % d in
    let i = c.loop-i.i in
    let last : i ≡ suc (i - 1) = omega (arith, c.loop-i-test.true) in
    let left : c.args.count / d - (i - 1) ≡ suc (c.args.count / d - i) = omega (arith, c.loop-i-test.true, c.loop-i.auto.i) in
    let start : i * d ≡ (i - 1) * d + d = ap (λ n. n * d) last ∙ suc-mul (i - 1) d in
    let source : from + (rest + i * d) ≡ from + (rest + (i - 1) * d) + d = omega (arith, start) in
    let target : to + (rest + i * d) ≡ to + (rest + (i - 1) * d) + d = omega (arith, start) in
    let part = c.copy_rows_within.ensures in
    let more : (c.args.count / d - (i - 1)) * d ≡ d + (c.args.count / d - i) * d = ap (λ n. n * d) left ∙ suc-mul (c.args.count / d - i) d ∙ omega arith in
    rw more (copied_back _ _ _ (from + (rest + (i - 1) * d)) (to + (rest + (i - 1) * d)) _ d (omega (arith, c.requires.up))
    (rw (source, target) at c.loop-i.invariant)
    (record { copied = part.copied; before = part.before; behind = part.behind }))

pub returns : goal.returns
returns c =
    let from = c.args.from in
    let to = c.args.to in
    let d = to - from in
    let count = c.args.count in
    let rest = count % d in
    let last = c.copy_rows_within-2.ensures in
    let first : c.loop-i.i ≡ 0 = omega (arith, c.loop-i-test.false) in
    let none : c.loop-i.i * d ≡ 0 = ap (λ n. n * d) first ∙ zero-mul d in
    let source : from + (rest + c.loop-i.i * d) ≡ from + rest = omega (arith, none) in
    let target : to + (rest + c.loop-i.i * d) ≡ to + rest = omega (arith, none) in
    let pieces : count / d - c.loop-i.i ≡ count / d = omega (arith, first) in
    let left : (count / d - c.loop-i.i) * d ≡ count / d * d = ap (λ n. n * d) pieces in
    let whole : count ≡ rest + (count / d - c.loop-i.i) * d = omega (arith, mod-eq-sub-div-mul count d, div-mul-le_self count d, left) in
    rw whole (copied_back _ _ _ from to ((count / d - c.loop-i.i) * d) rest (omega (arith, c.requires.up))
    (rw (source, target) at c.loop-i.invariant) (record { copied = last.copied; before = last.before; behind = last.behind }))
