use Rattle.std.proofs.Common.{◌≡◌, min, map, ap, ◌∙◌, arith}
use Rattle.std.specs.Prelude.{sum_by}
use Rattle.tr_base.specs.Shapes.{Lengths}
use Rattle.tr_base.specs.Layouts.{longest, greatest_by, along}
use Rattle.tr_base.proofs.LayoutLemmas.{greatest_by-le-sum_by}
use Rattle.tr_pack.proofs.packs.lengths_along.Goals as goal

pub invariant_of-result : goal.invariant_of-result
invariant_of-result c =
    let cs = map (along c.args.down) c.args.children.now in
    let small = greatest_by-le-sum_by (λ (l : Lengths). l.pref) cs in
    let most : c.most.inside.pref ≡ greatest_by (λ (l : Lengths). l.pref) cs = ap (λ (l : Lengths). l.pref) (c.most.view_is ∙ c.maxima-most.ensures) in
    let all : c.all.inside.pref ≡ min (sum_by (λ (l : Lengths). l.pref) cs) longest = ap (λ (l : Lengths). l.pref) (c.all.view_is ∙ c.sums-all.ensures) in
    record { low = omega (arith, small, most, all); high = omega arith; limit = omega arith }
