-- What stands at the places of lists, and where two lists differ first.
use Rattle.std.proofs.Common.{◌≡◌, ◌≢◌, ℕ, zero, suc, ◌+◌, ◌-◌, ◌<◌, List, [], ◌∷◌, ◌++◌, Option, Some, None, take, length}
use Rattle.std.proofs.Common.{ap, refl, arith}
use Rattle.std.specs.Prelude.{IsSome, slice_get}
use Rattle.tr_journal.specs.Openings.{DifferAt}
use Rattle.tr_journal.proofs.OpeningLemmas.{some_within}
use Rattle.tr_journal.specs.Differences.{DifferIn}

-- the front of a list has the list's elements
pub slice_get-take : {A : Type 0} (n : ℕ) (xs : List A) (k : ℕ) → k < n → slice_get (take n xs) k ≡ slice_get xs k
slice_get-take zero xs k within = absurd (omega arith)
slice_get-take (suc n) [] k within = refl
slice_get-take (suc n) (x ∷ xs) zero within = refl
slice_get-take (suc n) (x ∷ xs) (suc k) within = slice_get-take n xs k (omega arith)

-- so has a longer list
pub slice_get-append : {A : Type 0} (xs ys : List A) (k : ℕ) → k < length xs → slice_get (xs ++ ys) k ≡ slice_get xs k
slice_get-append [] ys k within = absurd (omega arith)
slice_get-append (x ∷ xs) ys zero within = refl
slice_get-append (x ∷ xs) ys (suc k) within = slice_get-append xs ys k (omega arith)

-- behind a list stands what was put there
pub slice_get_push : {A : Type 0} (xs : List A) (y : A) (k : ℕ) → length xs ≡ k → slice_get (xs ++ y ∷ []) k ≡ Some y
slice_get_push [] y zero long = refl
slice_get_push [] y (suc k) long = absurd (omega arith)
slice_get_push (x ∷ xs) y zero long = absurd (omega arith)
slice_get_push (x ∷ xs) y (suc k) long = slice_get_push xs y k (omega arith)

-- within a list there is something
pub here_within : {A : Type 0} (xs : List A) (k : ℕ) → k < length xs → slice_get xs k ≡ None → ⊥
here_within xs k within none =
    let some : IsSome (slice_get xs k) = some_within xs k within in
    let nothing = rw none at some in
    cc

-- lists with the same front and other elements behind it differ there first
pub differ_here : {A : Type 0} (xs ys : List A) (k : ℕ) → take k xs ≡ take k ys → slice_get xs k ≢ slice_get ys k
    → DifferAt xs ys (k + 1)
differ_here xs ys k before there =
    let back : k + 1 - 1 ≡ k = omega arith in
    record { counted = omega arith; before = rw back before; there = rw back there }

-- the same, with the elements
pub differ_in_here : {A : Type 0} (xs ys : List A) (k : ℕ) (x y : Option A) → DifferAt xs ys (k + 1) → slice_get xs k ≡ x
    → slice_get ys k ≡ y → DifferIn xs ys (k + 1) x y
differ_in_here xs ys k x y first made found =
    let back : k + 1 - 1 ≡ k = omega arith in
    record { first = first; made = rw back made; found = rw back found }

-- lists that differ aren't the same
pub differ_unlike : {A : Type 0} (xs ys : List A) (place : ℕ) → DifferAt xs ys place → xs ≡ ys → ⊥
differ_unlike xs ys place differ is = differ.there (ap (λ l. slice_get l (place - 1)) is)
