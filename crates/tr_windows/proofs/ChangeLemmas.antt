-- A list with one element changed, or with its first elements changed one by one.
use Rattle.std.proofs.Common.{◌≡◌, ℕ, zero, suc, ◌<◌, List, [], ◌∷◌, Some, length, get_or, set, refl, ap, subst, ◌∙◌, arith}
use Rattle.std.specs.Prelude.{slice_get}
use Rattle.tr_machine.specs.States.{changed_at}

-- what a write leaves is the list with that element changed
pub changed_is : {A : Type 0} (f : A → A) (xs : List A) (i : ℕ) (x y : A) → i < length xs → x ≡ get_or xs i x → y ≡ f x →
    set xs i y ≡ changed_at i f xs
changed_is f [] i x y low at is = absurd (omega arith)
changed_is f (z ∷ xs) zero x y low at is = ap (λ w. w ∷ xs) (is ∙ ap f at)
changed_is f (z ∷ xs) (suc i) x y low at is = ap (λ ws. z ∷ ws) (changed_is f xs i x y (omega arith) at is)

-- no element comes or goes
pub changed-length : {A : Type 0} (f : A → A) (xs : List A) (i : ℕ) → length (changed_at i f xs) ≡ length xs
changed-length f [] i = refl
changed-length f (x ∷ xs) zero = refl
changed-length f (x ∷ xs) (suc i) = ap suc (changed-length f xs i)

-- a change that leaves the element as it is leaves all as it is
pub unchanged_at : {A : Type 0} (f : A → A) (xs : List A) (i : ℕ) → ((x : A) → slice_get xs i ≡ Some x → f x ≡ x) → changed_at i f xs ≡ xs
unchanged_at f [] i same = refl
unchanged_at f (x ∷ xs) zero same = ap (λ y. y ∷ xs) (same x refl)
unchanged_at f (x ∷ xs) (suc i) same = ap (λ ys. x ∷ ys) (unchanged_at f xs i same)

-- what holds of all elements holds after a change of one, if it holds of what becomes of that
pub changed-all : {A : Type 0} (Q : A → Type 0) (f : A → A) (xs : List A) (i : ℕ) → ((n : ℕ) (x : A) → slice_get xs n ≡ Some x → Q x) →
    ((x : A) → slice_get xs i ≡ Some x → Q (f x)) → (n : ℕ) (y : A) → slice_get (changed_at i f xs) n ≡ Some y → Q y
changed-all Q f [] i all new n y h = cc
changed-all Q f (x ∷ xs) zero all new zero y h = let is : f x ≡ y = cc in subst Q is (new x refl)
changed-all Q f (x ∷ xs) zero all new (suc n) y h = all (suc n) y h
changed-all Q f (x ∷ xs) (suc i) all new zero y h = all zero y h
changed-all Q f (x ∷ xs) (suc i) all new (suc n) y h = changed-all Q f xs i (λ k z. all (suc k) z) new n y h

-- the first n elements changed, each by its number
abbrev pub changed_below : {A : Type 0} → ℕ → (ℕ → A → A) → List A → List A
changed_below zero f xs = xs
changed_below (suc n) f xs = changed_at n (f n) (changed_below n f xs)

-- the first element is changed by itself, and the others as those of a shorter list
pub changed_below-first : {A : Type 0} (f : ℕ → A → A) (n : ℕ) (x : A) (xs : List A) →
    changed_below (suc n) f (x ∷ xs) ≡ f zero x ∷ changed_below n (λ k. f (suc k)) xs
changed_below-first f zero x xs = refl
changed_below-first f (suc n) x xs = ap (λ ys. changed_at (suc n) (f (suc n)) ys) (changed_below-first f n x xs)
