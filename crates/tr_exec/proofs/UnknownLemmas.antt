-- Which points are unknown after a command.
use Rattle.std.proofs.Common.{◌≡◌, Result, Ok, Err, Bool, true, false, ◌&&◌, ◌||◌, not, cond, List, refl, ◌∙◌}
use Rattle.std.specs.Prelude.{IfOk}
use Rattle.tr_base.specs.declared.Point.{Point}
use Rattle.tr_base.specs.Rects.{Edges}
use Rattle.tr_region.specs.Points.{holds}

-- points that are lost in an area, beside those that were unknown
pub lost_beside : (v a u : Bool) → (u ≡ true → v ≡ true) → u || (v && a) ≡ v && cond a true (not v || u)
lost_beside true true true in_v = refl
lost_beside true true false in_v = refl
lost_beside true false true in_v = refl
lost_beside true false false in_v = refl
lost_beside false a true in_v = cc (in_v refl)
lost_beside false a false in_v = refl

-- points that are told in an area
pub told_within : (v a u : Bool) → (u ≡ true → v ≡ true) → u && not a ≡ v && cond a false (not v || u)
told_within true true true in_v = refl
told_within true true false in_v = refl
told_within true false true in_v = refl
told_within true false false in_v = refl
told_within false a true in_v = cc (in_v refl)
told_within false a false in_v = refl

-- points that get what others had, by whether the others are visible and unknown
pub moved_within : (v a u v' u' : Bool) → (u ≡ true → v ≡ true) → (u && not a) || ((v && a) && not (v' && not u')) ≡ v && cond a (not v' || u') (not v || u)
moved_within true true true true true in_v = refl
moved_within true true true true false in_v = refl
moved_within true true true false u' in_v = refl
moved_within true true false true true in_v = refl
moved_within true true false true false in_v = refl
moved_within true true false false u' in_v = refl
moved_within true false true v' u' in_v = refl
moved_within true false false v' u' in_v = refl
moved_within false a true v' u' in_v = cc (in_v refl)
moved_within false a false v' u' in_v = refl

-- an answer whose points are told by one test, told by an equal one
pub points_same : {E : Type 0} (answer : Result (List Edges) E) (f g : Point → Bool) → IfOk answer (λ r. (p : Point) → holds r p ≡ f p) →
    ((p : Point) → f p ≡ g p) → IfOk answer (λ r. (p : Point) → holds r p ≡ g p)
points_same (Ok r) f g told same = λ p. told p ∙ same p
points_same (Err e) f g told same = tt

-- points that stay as they are, in an area or not
pub kept_within : (v a u : Bool) → (u ≡ true → v ≡ true) → u ≡ v && cond a (not v || u) (not v || u)
kept_within true true u in_v = refl
kept_within true false u in_v = refl
kept_within false a true in_v = cc (in_v refl)
kept_within false a false in_v = refl

-- nothing is unknown after all that is told
pub none_within : (v a : Bool) → false ≡ v && cond a false (not v || false)
none_within true true = refl
none_within true false = refl
none_within false a = refl
