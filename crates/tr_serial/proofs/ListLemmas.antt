-- A list whose elements are taken out one after another, from the end of its reverse.
use Rattle.std.proofs.Common.{◌≡◌, ℕ, suc, ◌+◌, ◌-◌, ◌≤◌, List, [], ◌∷◌, ◌++◌, length, take, drop, get_or, sym, ap, ◌∙◌, add-one, arith}
use Rattle.std.specs.Prelude.{reverse}
use Rattle.std.proofs.Math.Seq.{drop-cons, take-length}
use Rattle.std.proofs.lemmas.List.{length_push, length-reverse, reverse-append, reverse-reverse}
use Rattle.tr_serial.proofs.CueLemmas.{IsAt}

-- how many were taken out
abbrev pub taken : {X : Type 0} → List X → List X → ℕ
taken xs left = length xs - length left

-- the others are left, the next one last
pub record IsLeft {X : Type 0} (xs left : List X) : Type 0 where
  pub few : length left ≤ length xs
  pub are : reverse left ≡ drop (taken xs left) xs

-- at first all are
module _ {X : Type 0} (xs left : List X) (is : left ≡ reverse xs) where
  none : taken xs left ≡ 0
  none = omega (arith, ap (λ (l : List X). length l) is, length-reverse xs)

  pub none_taken : take (taken xs left) xs ≡ []
  none_taken = ap (λ n. take n xs) none

  pub all_left : IsLeft xs left
  all_left = record {
    few = omega (arith, ap (λ (l : List X). length l) is, length-reverse xs);
    are = ap (λ (l : List X). reverse l) is ∙ reverse-reverse xs ∙ ap (λ n. drop n xs) (sym none);
  }

-- the next one is taken out
pub record IsTaken {X : Type 0} (xs left rest : List X) (x : X) : Type 0 where
  pub at : IsAt xs (taken xs left) x
  pub more : taken xs rest ≡ taken xs left + 1
  pub others : IsLeft xs rest

pub one_taken : {X : Type 0} (xs left rest : List X) (x : X) → IsLeft xs left → left ≡ rest ++ x ∷ [] → IsTaken xs left rest x
one_taken {X} xs left rest x is last = record {
  at = record { within = omega (arith, is.few, count); is = next };
  more = more;
  others = record { few = omega (arith, is.few, count); are = behind ∙ ap (λ n. drop n xs) (sym (more ∙ add-one (taken xs left))) };
}
  where
    count : length left ≡ length rest + 1
    count = ap (λ (l : List X). length l) last ∙ length_push rest x

    more : taken xs rest ≡ taken xs left + 1
    more = omega (arith, is.few, count)

    both : x ∷ reverse rest ≡ get_or xs (taken xs left) x ∷ drop (suc (taken xs left)) xs
    both =
        sym (reverse-append rest (x ∷ []))
        ∙ ap (λ (l : List X). reverse l) (sym last)
        ∙ is.are
        ∙ drop-cons xs (taken xs left) x (omega (arith, is.few, count))

    next : x ≡ get_or xs (taken xs left) x
    next = let e = both in cc

    behind : reverse rest ≡ drop (suc (taken xs left)) xs
    behind = let e = both in cc

-- in the end none is left
pub all_taken : {X : Type 0} (xs left : List X) → length left ≡ 0 → take (taken xs left) xs ≡ xs
all_taken xs left none =
    let all : taken xs left ≡ length xs = omega (arith, none) in
    ap (λ n. take n xs) all ∙ take-length xs
