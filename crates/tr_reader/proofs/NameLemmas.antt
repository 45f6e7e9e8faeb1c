-- A name more.
use Rattle.std.proofs.Common.{◌≡◌, ℕ, ◌+◌, ◌<◌, ◌≤◌, Bool, true, false, cond, List, [], ◌∷◌, ◌++◌, length, Option, Some, None, refl, sym, ap, ◌∙◌, inl, inr, arith}
use Rattle.std.specs.Prelude.{◌⊎◌, option_map, bytes_eq, slice_get, IfSome}
use Prim.Native.Nat.{zero, suc}
use Rattle.std.proofs.lemmas.Bool.{cases_Bool, false_from_ne_true, false≢true}
use Rattle.std.proofs.lemmas.Option.{none-some, same_Some}
use Rattle.std.proofs.lemmas.Slice.Eq.{bytes_eq-Decides}
use Rattle.tr_grammar.specs.Names.{number_of}

-- the number of one more name is less than their count
pub within_one : (b : Bool) (o : Option ℕ) (k most : ℕ) → ((j : ℕ) → o ≡ Some j → j < most) → cond b (Some 0) (option_map (λ j. j + 1) o) ≡ Some k →
    k < suc most
within_one true o k most h e = let is : 0 ≡ k = same_Some 0 k e in omega arith
within_one false None k most h e = cc
within_one false (Some j) k most h e = let less = h j refl in let is : j + 1 ≡ k = same_Some (j + 1) k e in omega arith

-- where a name has no number, the first one is another, and it is none of the others
not_among : (b : Bool) (o : Option ℕ) → cond b (Some 0) (option_map (λ k. k + 1) o) ≡ None → (b ≡ false) × (o ≡ None)
not_among true o e = absurd (none-some 0 (sym e))
not_among false None e = (refl, refl)
not_among false (Some k) e = absurd (none-some (k + 1) (sym e))

-- the number of one more among one fewer
one_more : (ns : List (List ℕ)) (b : Bool) (o : Option ℕ) →
    option_map (λ j. j + 1) (cond b (Some (length ns)) o) ≡ cond b (Some (suc (length ns))) (option_map (λ j. j + 1) o)
one_more ns true o = ap (λ (k : ℕ). Some k) (omega arith)
one_more ns false o = refl

neither : (b : Bool) (k : ℕ) (o : Option ℕ) → cond b (Some k) o ≡ None → (b ≡ false) × (o ≡ None)
neither true k o e = absurd (none-some k (sym e))
neither false k o e = (refl, e)

-- a name behind the others has their count for its number, and leaves theirs
pub number_of-push : (ns : List (List ℕ)) (w q : List ℕ) → number_of ns w ≡ None →
    number_of (ns ++ w ∷ []) q ≡ cond (bytes_eq w q) (Some (length ns)) (number_of ns q)
number_of-push [] w q new = refl
number_of-push (n ∷ ns) w q new =
    let p = not_among (bytes_eq n w) (number_of ns w) new in
    let later = number_of-push ns w q p.1 in
    elim (cases_Bool (bytes_eq n q)) [
      | inl same ↦
          let e : n ≡ q = (bytes_eq-Decides n q).0 same in
          let other : bytes_eq w q ≡ false = false_from_ne_true (bytes_eq w q) (λ t.
          false≢true (sym p.0 ∙ (bytes_eq-Decides n w).1 (e ∙ sym ((bytes_eq-Decides w q).0 t)))) in
          rw (same, other) refl
      | inr differs ↦ rw (differs, later) (one_more ns (bytes_eq w q) (number_of ns q))
    ]

-- without the last name, which is none of the others, each of these has the number that it had
pub number_of-pop : (ns : List (List ℕ)) (w q : List ℕ) → number_of ns w ≡ None →
    cond (bytes_eq w q) None (number_of (ns ++ w ∷ []) q) ≡ number_of ns q
number_of-pop ns w q new =
    let pushed = number_of-push ns w q new in
    elim (cases_Bool (bytes_eq w q)) [
      | inl same ↦ rw same (sym new ∙ ap (λ (v : List ℕ). number_of ns v) ((bytes_eq-Decides w q).0 same))
      | inr differs ↦ rw (pushed, differs) refl
    ]

-- a number of the names is less than their count
pub number_of-within : (ns : List (List ℕ)) (w : List ℕ) (k : ℕ) → number_of ns w ≡ Some k → k < length ns
number_of-within [] w k e = cc
number_of-within (n ∷ ns) w k e = within_one (bytes_eq n w) (number_of ns w) k (length ns) (number_of-within ns w) e

-- so it is one of so many
pub number_of-most : (ns : List (List ℕ)) (w : List ℕ) (o : Option ℕ) (most : ℕ) → o ≡ number_of ns w → length ns ≤ most → IfSome o (λ k. k < most)
number_of-most ns w None most is few = tt
number_of-most ns w (Some k) most is few = let within = number_of-within ns w k (sym is) in omega arith

-- what has no number among one name more is another name, and has none without it
pub none_before : (ns : List (List ℕ)) (w q : List ℕ) → number_of ns w ≡ None → number_of (ns ++ w ∷ []) q ≡ None →
    (bytes_eq w q ≡ false) × (number_of ns q ≡ None)
none_before ns w q new none = neither (bytes_eq w q) (length ns) (number_of ns q) (sym (number_of-push ns w q new) ∙ none)

pub none_after : (ns : List (List ℕ)) (w q : List ℕ) → number_of ns w ≡ None → bytes_eq w q ≡ false → number_of ns q ≡ None →
    number_of (ns ++ w ∷ []) q ≡ None
none_after ns w q new other none = number_of-push ns w q new ∙ rw (other, none) refl

-- ---- each name has the number of its place

-- what is at a place among one name more is there without it, or is the last name
place_of : (ns : List (List ℕ)) (w n : List ℕ) (k : ℕ) → slice_get (ns ++ w ∷ []) k ≡ Some n → (slice_get ns k ≡ Some n) ⊎ ((k ≡ length ns) × (w ≡ n))
place_of [] w n zero e = inr (refl, same_Some w n e)
place_of [] w n (suc k) e = absurd (none-some n e)
place_of (m ∷ ns) w n zero e = inl e
place_of (m ∷ ns) w n (suc k) e =
    elim (place_of ns w n k e) [
      | inl front ↦ inl front
      | inr last ↦ inr (ap suc last.0, last.1)
    ]

-- what is at a place is there among one name more
in_front : (ns : List (List ℕ)) (w n : List ℕ) (k : ℕ) → slice_get ns k ≡ Some n → (slice_get (ns ++ w ∷ []) k ≡ Some n) × (k < length ns)
in_front [] w n k e = absurd (none-some n e)
in_front (m ∷ ns) w n zero e = (e, omega arith)
in_front (m ∷ ns) w n (suc k) e = let rest = in_front ns w n k e in (rest.0, omega (arith, rest.1))

-- each name has the number of its place
abbrev pub AreNumbered : List (List ℕ) → Type 0
AreNumbered ns = (k : ℕ) (n : List ℕ) → slice_get ns k ≡ Some n → number_of ns n ≡ Some k

pub numbered-push : (ns : List (List ℕ)) (w : List ℕ) → number_of ns w ≡ None → AreNumbered ns → AreNumbered (ns ++ w ∷ [])
numbered-push ns w new numbered k n e =
    let pushed = number_of-push ns w n new in
    elim (place_of ns w n k e) [
      | inl front ↦
          let old = numbered k n front in
          let other : bytes_eq w n ≡ false = false_from_ne_true (bytes_eq w n) (λ t.
          none-some k (sym new ∙ ap (λ (v : List ℕ). number_of ns v) ((bytes_eq-Decides w n).0 t) ∙ old)) in
          pushed ∙ rw (other, old) refl
      | inr last ↦ pushed ∙ rw ((bytes_eq-Decides w n).1 last.1, last.0) refl
    ]

pub numbered-pop : (ns : List (List ℕ)) (w : List ℕ) → number_of ns w ≡ None → AreNumbered (ns ++ w ∷ []) → AreNumbered ns
numbered-pop ns w new numbered k n e =
    let front = in_front ns w n k e in
    let pushed = sym (number_of-push ns w n new) ∙ numbered k n front.0 in
    elim (cases_Bool (bytes_eq w n)) [
      | inl same ↦ let last : length ns ≡ k = same_Some (length ns) k (rw same at pushed) in absurd (omega (arith, front.1, last))
      | inr differs ↦ rw differs at pushed
    ]
