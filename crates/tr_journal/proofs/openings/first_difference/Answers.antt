use Rattle.std.proofs.Common.{◌≡◌, ◌<◌, ◌++◌, ◌∷◌, [], length, take, get_or, ap, sym, ◌∙◌, arith}
use Rattle.std.proofs.lemmas.List.{take_more}
use Rattle.tr_journal.proofs.openings.first_difference.Goals as goal

pub loop-i-preserved : goal.loop-i-preserved
loop-i-preserved g c =
    let items = c.args.items.now in
    let others = c.args.others.now in
    let i = c.loop-i.i in
    let x = c.index-items-i.result in
    let y = c.index-others-i.result in
    let here : i < length items = omega (arith, c.min-common.ensures, c.loop-i-test.true) in
    let there : i < length others = omega (arith, c.min-common.ensures, c.loop-i-test.true) in
    let same : x ≡ y = c.same.ensures.0 c.if-not-same.false in
    take_more items i x here
    ∙ ap (λ z. take i items ++ z ∷ []) (sym c.index-items-i.is ∙ same ∙ c.index-others-i.is)
    ∙ ap (λ zs. zs ++ get_or others i y ∷ []) c.loop-i.invariant
    ∙ sym (take_more others i y there)
