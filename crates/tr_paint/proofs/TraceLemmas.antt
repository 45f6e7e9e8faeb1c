-- What commands in a row make of a base.
use Rattle.std.proofs.Common.{◌≡◌, ℕ, Bool, true, false, cond, List, [], ◌∷◌, ◌++◌, Option, None, refl, ap, ◌∙◌}
use Rattle.std.specs.Option.{option_map}
use Rattle.std.proofs.lemmas.List.{reverse-append}
use Rattle.std.proofs.lemmas.Bool.{or_parts}
use mathlib.Core.List.{reverse}
use Rattle.tr_base.specs.declared.Point.{Point}
use Rattle.tr_base.specs.declared.Kind.{Kind}
use Rattle.tr_base.specs.Ops.{eff}
use Rattle.tr_base.specs.Rects.{has_point}
use Rattle.tr_paint.specs.declared.paints.Paint.{Paint}
use Rattle.tr_paint.specs.Traces.{Look, Deed, Keep, Lose, From, Value, Change, deed, Base, after_deed, trace, after, left_by}
use Rattle.tr_paint.specs.Batches.{touches}
use Rattle.tr_paint.specs.Paints.{area}

-- a deed depends on the colours before it alone
pub done-same : (kind : Kind) (d : Deed) (f g : Point → Option ℕ) (q : Point) → ((r : Point) → f r ≡ g r) → after_deed kind d f q ≡ after_deed kind d g q
done-same kind Keep f g q same = same q
done-same kind Lose f g q same = refl
done-same kind (From r) f g q same = same r
done-same kind (Value x) f g q same = refl
done-same kind (Change op) f g q same = ap (λ o. option_map (eff kind op) o) (same q)

-- a point that isn't visible is unknown
pub trace-unseen : (look : Look) (base : Base) (batch : List Paint) (q : Point) → base.visible q ≡ false → trace look base batch q ≡ None
trace-unseen look base [] q unseen = rw unseen refl
trace-unseen look base (c ∷ before) q unseen = rw unseen refl

-- what is known of a point is unknown where it isn't visible, and so stays what it is when that is asked again
seen_again : (look : Look) (base : Base) (batch : List Paint) (q : Point) → trace look base batch q ≡ cond (base.visible q) (trace look base batch q) None
seen_again look base batch q = by_sight (base.visible q) refl
  where
    by_sight : (b : Bool) → base.visible q ≡ b → trace look base batch q ≡ cond b (trace look base batch q) None
    by_sight true seen = refl
    by_sight false unseen = trace-unseen look base batch q unseen

-- traced back through the later commands, and then through the earlier ones
trace-append : (look : Look) (base : Base) (later earlier : List Paint) (q : Point) →
    trace look base (later ++ earlier) q ≡ trace look (record { visible = base.visible; known = λ r. trace look base earlier r }) later q
trace-append look base [] earlier q = seen_again look base earlier q
trace-append look base (c ∷ later) earlier q =
    ap (λ o. cond (base.visible q) o None)
    (done-same look.kind (deed look c q) _ _ q (λ r. trace-append look base later earlier r))

-- two batches in a row: the second over what the first leaves
pub after-append : (look : Look) (base : Base) (xs ys : List Paint) (q : Point) → after look base (xs ++ ys) q ≡ after look (left_by look base xs) ys q
after-append look base xs ys q = ap (λ cs. trace look base cs q) (reverse-append xs ys) ∙ trace-append look base (reverse ys) (reverse xs) q

-- the forward reading: the commands after the first, over what the first leaves
pub after-first : (look : Look) (base : Base) (c : Paint) (cs : List Paint) (q : Point) →
    after look base (c ∷ cs) q ≡ after look (left_by look base (c ∷ [])) cs q
after-first look base c cs q = after-append look base (c ∷ []) cs q

-- the backward reading: the last command over what those before it leave
pub after-last : (look : Look) (base : Base) (cs : List Paint) (c : Paint) (q : Point) →
    after look base (cs ++ c ∷ []) q ≡ cond (base.visible q) (after_deed look.kind (deed look c q) (λ r. after look base cs r) q) None
after-last look base cs c q = ap (λ (l : List Paint). trace look base l q) (reverse-append cs (c ∷ []))

-- a batch doesn't change a point outside the areas of its commands
pub after-untouched : (look : Look) (base : Base) (batch : List Paint) (q : Point) → base.visible q ≡ true → touches batch q ≡ false →
    after look base batch q ≡ base.known q
after-untouched look base [] q seen none = rw seen refl
after-untouched look base (c ∷ cs) q seen none =
    let apart = or_parts (has_point (area c) q) (touches cs q) none in
    after-first look base c cs q
    ∙ after-untouched look (left_by look base (c ∷ [])) cs q seen apart.1
    ∙ rw (apart.0, seen) refl
