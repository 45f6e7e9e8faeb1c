-- Lists with something made of one element, and the windows of a state after a step.
use Rattle.std.proofs.Common.{◌≡◌, ℕ, zero, suc, ◌+◌, ◌<◌, List, [], ◌∷◌, Option, Some, None, map, length, refl, sym, ap, ◌∙◌, arith, add-zero}
use Rattle.tr_spot.proofs.SpotLemmas.{leaf_by_number}
use Rattle.std.specs.List.{slice_get}
use Rattle.std.specs.Option.{option_map}
use Rattle.std.proofs.lemmas.Option.{slice_get-map, slice_get_cases}
use Rattle.std.proofs.lemmas.List.{length-map}
use Rattle.tr_base.specs.declared.LeafId.{LeafId}
use Rattle.tr_client.specs.declared.clients.Client.{Ghosts}
use Rattle.tr_tree.specs.Trees.{Seen}
use Rattle.tr_machine.specs.Windows.{Window, fresh}
use Rattle.tr_machine.specs.States.{State, changed_at, window_of, with_window}
use Rattle.tr_machine.specs.Edits.{refitted, refitted_from}

-- ---- one element of a list

-- the list has as many elements as before
pub changed_at-length : {A : Type 0} (i : ℕ) (change : A → A) (xs : List A) → length (changed_at i change xs) ≡ length xs
changed_at-length zero change [] = refl
changed_at-length zero change (x ∷ xs) = refl
changed_at-length (suc i) change [] = refl
changed_at-length (suc i) change (x ∷ xs) = ap suc (changed_at-length i change xs)

-- at the place something is made of the element, if there is one
pub changed_at-here : {A : Type 0} (i : ℕ) (change : A → A) (xs : List A) → slice_get (changed_at i change xs) i ≡ option_map change (slice_get xs i)
changed_at-here zero change [] = refl
changed_at-here zero change (x ∷ xs) = refl
changed_at-here (suc i) change [] = refl
changed_at-here (suc i) change (x ∷ xs) = changed_at-here i change xs

-- the other elements stay
pub changed_at-there : {A : Type 0} (i j : ℕ) (change : A → A) (xs : List A) → (i ≡ j → ⊥) →
    slice_get (changed_at i change xs) j ≡ slice_get xs j
changed_at-there zero j change [] other = refl
changed_at-there zero zero change (x ∷ xs) other = absurd (other refl)
changed_at-there zero (suc j) change (x ∷ xs) other = refl
changed_at-there (suc i) j change [] other = refl
changed_at-there (suc i) zero change (x ∷ xs) other = refl
changed_at-there (suc i) (suc j) change (x ∷ xs) other = changed_at-there i j change xs (λ e. other (ap suc e))

-- what is made of an element twice
pub changed_at-twice : {A : Type 0} (i : ℕ) (first second : A → A) (xs : List A) →
    changed_at i second (changed_at i first xs) ≡ changed_at i (λ x. second (first x)) xs
changed_at-twice zero first second [] = refl
changed_at-twice zero first second (x ∷ xs) = refl
changed_at-twice (suc i) first second [] = refl
changed_at-twice (suc i) first second (x ∷ xs) = ap (λ ys. x ∷ ys) (changed_at-twice i first second xs)

-- what leaves an element as it is leaves the list as it is
pub unchanged : {A : Type 0} (f : A → A) (xs : List A) (i : ℕ) → ((x : A) → f x ≡ x) → changed_at i f xs ≡ xs
unchanged f [] i same = refl
unchanged f (x ∷ xs) zero same = ap (λ y. y ∷ xs) (same x)
unchanged f (x ∷ xs) (suc i) same = ap (λ ys. x ∷ ys) (unchanged f xs i same)

-- what is made of an element depends on that element alone
pub changed_at-at : {A : Type 0} (i : ℕ) (f g : A → A) (xs : List A) → ((x : A) → slice_get xs i ≡ Some x → f x ≡ g x) →
    changed_at i f xs ≡ changed_at i g xs
changed_at-at zero f g [] same = refl
changed_at-at zero f g (x ∷ xs) same = ap (λ y. y ∷ xs) (same x refl)
changed_at-at (suc i) f g [] same = refl
changed_at-at (suc i) f g (x ∷ xs) same = ap (λ ys. x ∷ ys) (changed_at-at i f g xs same)

-- a place of the list has an element
pub slice_get-some : {A : Type 0} (xs : List A) (i : ℕ) → i < length xs → (x : A) × (slice_get xs i ≡ Some x)
slice_get-some xs i within = by_place (slice_get xs i) refl
  where
    by_place : (o : Option _) → slice_get xs i ≡ o → (x : _) × (slice_get xs i ≡ Some x)
    by_place None e = absurd (grind (arith, slice_get_cases xs i))
    by_place (Some x) e = (x, e)

-- ---- windows

module _ {C M : Type 0} (client : Ghosts C M) where
  -- the windows are as many as before their leaves were refitted
  pub refitted_from-length : (n : ℕ) (was is : Seen) (ws : List (Window C M)) → length (refitted_from client n was is ws) ≡ length ws
  refitted_from-length n was is [] = refl
  refitted_from-length n was is (w ∷ ws) = ap suc (refitted_from-length (suc n) was is ws)

  -- each of them is the refitted one of its leaf
  pub refitted_from-get : (n : ℕ) (was is : Seen) (ws : List (Window C M)) (k : ℕ) →
      slice_get (refitted_from client n was is ws) k ≡ option_map (refitted client was is (record { 0 = n + k })) (slice_get ws k)
  refitted_from-get n was is [] k = refl
  refitted_from-get n was is (w ∷ ws) zero = ap (λ (i : ℕ). Some (refitted client was is (record { 0 = i }) w)) (sym (add-zero n))
  refitted_from-get n was is (w ∷ ws) (suc k) =
      refitted_from-get (suc n) was is ws k
      ∙ ap (λ (i : ℕ). option_map (refitted client was is (record { 0 = i })) (slice_get ws k)) (omega arith)

  -- the window of a leaf after an edit
  pub refitted_window : (was is : Seen) (ws : List (Window C M)) (leaf : LeafId) →
      slice_get (refitted_from client 0 was is ws) leaf.0 ≡ option_map (refitted client was is leaf) (slice_get ws leaf.0)
  refitted_window was is ws leaf =
      refitted_from-get 0 was is ws leaf.0
      ∙ ap (λ (l : LeafId). option_map (refitted client was is l) (slice_get ws leaf.0)) (leaf_by_number _ leaf (omega arith))

-- a fresh window for each content
pub fresh-length : (C M : Type 0) (contents : List C) → length (map (fresh {C = C} {M = M}) contents) ≡ length contents
fresh-length C M contents = length-map contents fresh

-- the fresh window of a leaf shows its content
pub fresh_window : (C M : Type 0) (contents : List C) (k : ℕ) →
    slice_get (map (fresh {C = C} {M = M}) contents) k ≡ option_map fresh (slice_get contents k)
fresh_window C M contents k = slice_get-map fresh contents k

-- the windows are as many as before something was made of one
pub with_window-length : {C M : Type 0} (leaf : LeafId) (change : Window C M → Window C M) (m : State C M) →
    length (with_window leaf change m).windows ≡ length m.windows
with_window-length leaf change m = changed_at-length leaf.0 change m.windows

-- the window of the leaf
pub window_here : {C M : Type 0} (leaf other : LeafId) (change : Window C M → Window C M) (m : State C M) → leaf.0 ≡ other.0 →
    window_of (with_window leaf change m) other ≡ option_map change (window_of m other)
window_here leaf other change m same =
    ap (λ (i : ℕ). slice_get (changed_at i change m.windows) other.0) same ∙ changed_at-here other.0 change m.windows

-- the window of another leaf
pub window_there : {C M : Type 0} (leaf other : LeafId) (change : Window C M → Window C M) (m : State C M) → (leaf.0 ≡ other.0 → ⊥) →
    window_of (with_window leaf change m) other ≡ window_of m other
window_there leaf other change m apart = changed_at-there leaf.0 other.0 change m.windows apart
