use Rattle.std.proofs.Common.{◌≡◌, ℕ, ◌-◌, ◌<◌, ◌≤◌, ◌++◌, List, [], add-one, ap, arith, drop, get_or, length, map, min, subst, sym, take, ◌∙◌}
use Rattle.std.proofs.lemmas.List.{length-replicate}
use Rattle.std.proofs.lemmas.Grind.{common_steps}
use Rattle.tr_base.specs.declared.Kind.{Kind}
use Rattle.tr_base.specs.Ops.{values_of}
use Rattle.tr_screen.specs.Pictures.{Picture, blank_of, with_row}
use Rattle.tr_mirror.specs.Streams.{HasItsPixels}
use Rattle.tr_session.specs.Cuts.{fitted, fitted_pixel}
use Rattle.tr_session.proofs.FitLemmas.{all_replaced, fitted_pixels, set_next}
use Rattle.tr_session.proofs.cuts.fitted.Goals as goal

pub loop-v-preserved : goal.loop-v-preserved
loop-v-preserved c =
    let v = c.loop-v.v in
    let src = c.args.screen.now in
    let kind = src.kind in
    let blank = (blank_of src.size src.kind).rows in
    let f = λ (row : List ℕ). map (fitted_pixel kind) row in
    let row = c.fit_row.new.to in
    let within : v < length src.rows =
    omega (arith, c.size-size.ensures.invariant.high, ap (λ size. size.high) c.size-size.ensures.value, c.loop-v-test.true) in
    let same : length blank ≡ length src.rows = length-replicate src.size.high _ ∙ sym c.size-size.ensures.invariant.high in
    let most : c.greatest_value-most.result ≡ values_of kind - 1 =
    c.greatest_value-most.ensures ∙ ap (λ (k : Kind). values_of k - 1) c.kind-kind.ensures.value in
    let now : row ≡ f (get_or src.rows v []) =
    c.fit_row.ensures
    ∙ ap (λ (most : ℕ). map (λ (pixel : ℕ). min pixel most) c.row.result.now) most
    ∙ ap f c.row.ensures.value in
    let wide : length row ≡ c.loop-v.copy.size.wide = grind (arith, common_steps, c.fit_row.auto.to, c.row_mut.ensures.wide) in
    c.row_mut.ensures.replaces row wide
    ∙ ap (λ (p : Picture). with_row p v row) c.loop-v.invariant
    ∙ ap (λ (w : List ℕ). with_row (record (blank_of src.size src.kind) { rows = map f (take v src.rows) ++ drop v blank }) v w) now
    ∙ ap (λ (rows : List (List ℕ)). record (blank_of src.size src.kind) { rows = rows })
    (set_next f src.rows blank v [] within same
    ∙ ap (λ (n : ℕ). map f (take n src.rows) ++ drop n blank) (sym (add-one v)))

pub returns-clause-pixels : goal.returns-clause-pixels
returns-clause-pixels c =
    let src = c.args.screen.now in
    let blank = (blank_of src.size src.kind).rows in
    let f = λ (row : List ℕ). map (fitted_pixel src.kind) row in
    let over : length src.rows ≤ c.loop-v.v =
    omega (arith, c.size-size.ensures.invariant.high, ap (λ size. size.high) c.size-size.ensures.value, c.loop-v-test.false) in
    let same : length blank ≡ length src.rows = length-replicate src.size.high _ ∙ sym c.size-size.ensures.invariant.high in
    let is : c.loop-v.copy ≡ fitted src =
    c.loop-v.invariant
    ∙ ap (λ (rows : List (List ℕ)). record (blank_of src.size src.kind) { rows = rows }) (all_replaced f src.rows blank c.loop-v.v over same) in
    subst HasItsPixels (sym is) (fitted_pixels src)
