-- What is read in pieces.
use Rattle.std.proofs.Common.{◌≡◌, ℕ, ◌+◌, ◌<◌, ◌≤◌, List, [], ◌++◌, length, take, drop, refl, sym, ap, subst, arith, append-nil, Bool, true, false, nat_lt}
use Rattle.std.proofs.Math.Seq.{take-append_seam, drop-append_seam}
use Rattle.std.proofs.lemmas.Bool.Decides.{nat_tests}
use Rattle.std.specs.Prelude.{Option, Some, None, IfSome}
use Rattle.std.proofs.lemmas.Grind.{common_steps}
use Rattle.std.specs.Io.KnownBytes.{prepend_known}
use Rattle.tr_io.specs.Streams.{Fell, IsReadUpTo, OfFirst}

-- bytes that are as many as may be read, or all there are
take_all : (most : ℕ) (bytes rest : List ℕ) → length bytes ≤ most → (length bytes < most → rest ≡ []) → take most (bytes ++ rest) ≡ bytes
take_all most bytes rest h k = by_test (nat_lt (length bytes) most) refl
  where
    by_test : (b : Bool) → nat_lt (length bytes) most ≡ b → take most (bytes ++ rest) ≡ bytes
    by_test true t = let none : rest ≡ [] = k (grind (arith, nat_tests)) in rw (none, append-nil) (grind (arith, common_steps))
    by_test false t = let full : most ≡ length bytes = grind (arith, nat_tests) in rw full (take-append_seam bytes rest)

drop_all : (most : ℕ) (bytes rest : List ℕ) → length bytes ≤ most → (length bytes < most → rest ≡ []) → rest ≡ drop most (bytes ++ rest)
drop_all most bytes rest h k = by_test (nat_lt (length bytes) most) refl
  where
    by_test : (b : Bool) → nat_lt (length bytes) most ≡ b → rest ≡ drop most (bytes ++ rest)
    by_test true t = let none : rest ≡ [] = k (grind (arith, nat_tests)) in rw (none, append-nil) (grind (arith, common_steps))
    by_test false t = let full : most ≡ length bytes = grind (arith, nat_tests) in rw full (sym (drop-append_seam bytes rest))

-- where the source came to its end, or as many bytes came as may be read, the bytes are those read
pub are_read : (most : ℕ) (left left_new : Option (List ℕ)) (bytes : List ℕ) → Fell left left_new bytes → length bytes ≤ most →
    (length bytes < most → IfSome left_new (λ rest. rest ≡ [])) → OfFirst most left (λ read. bytes ≡ read)
are_read most left left_new bytes e h k = subst (λ (x : Option (List ℕ)). OfFirst most x (λ read. bytes ≡ read)) (sym e) (by_cases left_new k)
  where
    by_cases : (x : Option (List ℕ)) → (length bytes < most → IfSome x (λ rest. rest ≡ [])) → OfFirst most (prepend_known bytes x) (λ read. bytes ≡ read)
    by_cases None k = (bytes, refl)
    by_cases (Some rest) k = sym (take_all most bytes rest h k)

pub is_read_through : (most : ℕ) (left left_new : Option (List ℕ)) (bytes : List ℕ) → Fell left left_new bytes → length bytes ≤ most →
    (length bytes < most → IfSome left_new (λ rest. rest ≡ [])) → IsReadUpTo most left left_new
is_read_through most left left_new bytes e h k = subst (λ (x : Option (List ℕ)). IsReadUpTo most x left_new) (sym e) (by_cases left_new k)
  where
    by_cases : (x : Option (List ℕ)) → (length bytes < most → IfSome x (λ rest. rest ≡ [])) → IsReadUpTo most (prepend_known bytes x) x
    by_cases None k = refl
    by_cases (Some rest) k = ap Some (drop_all most bytes rest h k)
