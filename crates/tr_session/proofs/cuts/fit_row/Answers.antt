use Rattle.std.proofs.Common.{◌≡◌, ℕ, ◌<◌, ◌++◌, List, add-one, ap, arith, drop, get_or, length, map, min, refl, sym, take, ◌∙◌}
use Rattle.std.proofs.Math.ListN.{set}
use Rattle.tr_session.proofs.FitLemmas.{get_next, set_next}
use Rattle.tr_session.proofs.cuts.fit_row.Goals as goal

pub loop-pixel-preserved : goal.loop-pixel-preserved
loop-pixel-preserved c =
    let i = c.loop-pixel.pixel-index in
    let from = c.args.from.now in
    let most = c.args.most in
    let f = λ (pixel : ℕ). min pixel most in
    let within : i < length from = omega arith in
    let old : get_or c.loop-pixel.to i 0 ≡ get_or from i 0 =
    ap (λ (t : List ℕ). get_or t i 0) c.loop-pixel.invariant ∙ get_next f from from i 0 within refl in
    let now : c.min.result ≡ min (get_or from i 0) most = c.min.ensures ∙ ap f old in
    ap (λ (t : List ℕ). set t i c.min.result) c.loop-pixel.invariant
    ∙ ap (set (map f (take i from) ++ drop i from) i) now
    ∙ set_next f from from i 0 within refl
    ∙ ap (λ (n : ℕ). map f (take n from) ++ drop n from) (sym (add-one i))
