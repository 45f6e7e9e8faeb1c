-- The commands of a batch, one after another.
use Rattle.std.proofs.Common.{◌≡◌, ℕ, ◌+◌, zero, suc, Bool, true, false, cond, ◌||◌, List, [], ◌∷◌, ◌++◌, take, Some, refl, subst, ap, ◌∙◌}
use Rattle.std.specs.Prelude.{slice_get}
use Rattle.std.proofs.lemmas.Bool.{or_left, or_right}
use Rattle.std.proofs.lemmas.List.{take_more}
use Rattle.std.proofs.lemmas.List.Folds.{list_any-append}
use Rattle.std.proofs.lemmas.List.Elements.{All-from_recursion, All-get_or}
use Rattle.std.proofs.lemmas.Option.{get_or_from_slice_get, slice_get_within}
use Rattle.tr_base.specs.declared.Point.{Point}
use Rattle.tr_base.specs.Rects.{has_point}
use Rattle.tr_paint.specs.declared.paints.Paint.{Paint}
use Rattle.tr_paint.specs.Paints.{area}
use Rattle.tr_paint.specs.Batches.{IsBatch, IsKept, kept, touches}

-- the commands up to one, and this one
pub take_next : (commands : List Paint) (i : ℕ) (c : Paint) → slice_get commands i ≡ Some c → take (i + 1) commands ≡ take i commands ++ c ∷ []
take_next commands i c is =
    take_more commands i c (slice_get_within commands i c is)
    ∙ ap (λ (d : Paint). take i commands ++ d ∷ []) (get_or_from_slice_get commands i c c is)

-- a command of a batch is kept
pub kept_at : (commands : List Paint) (i : ℕ) (c : Paint) → IsBatch commands → slice_get commands i ≡ Some c → IsKept c
kept_at commands i c batch is =
    subst IsKept (get_or_from_slice_get commands i c c is)
    (All-get_or IsKept commands i c (slice_get_within commands i c is) (All-from_recursion IsKept commands batch))

-- and so it is a batch of one
pub kept-one : (c : Paint) → IsKept c → kept c ≡ c ∷ []
kept-one c is = ap (λ b. cond b (c ∷ []) []) is.some

-- commands touch the points of each
pub touched_at : (commands : List Paint) (i : ℕ) (c : Paint) (q : Point) → slice_get commands i ≡ Some c → has_point (area c) q ≡ true →
    touches commands q ≡ true
touched_at [] i c q is has = cc
touched_at (x ∷ xs) zero c q is has = let same : x ≡ c = cc in or_left (has_point (area x) q) (touches xs q) (rw same has)
touched_at (x ∷ xs) (suc i) c q is has = or_right (has_point (area x) q) (touches xs q) (touched_at xs i c q is has)

-- commands touch a point where one of the first does, or the last
pub touches-push : (commands : List Paint) (c : Paint) (q : Point) →
    touches (commands ++ c ∷ []) q ≡ (touches commands q || has_point (area c) q)
touches-push commands c q =
    list_any-append (λ d. has_point (area d) q) commands (c ∷ []) ∙ ap (λ b. touches commands q || b) (alone (has_point (area c) q))
  where
    alone : (b : Bool) → (b || false) ≡ b
    alone true = refl
    alone false = refl
