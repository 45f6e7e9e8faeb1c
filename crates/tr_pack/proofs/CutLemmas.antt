-- The right cut of children into rows: there is one, and no other.
use Rattle.std.proofs.Common.{◌≡◌, ℕ, ◌+◌, ◌-◌, ◌<◌, ◌≤◌, suc, Bool, true, false, cond, nat_lt, List, [], ◌∷◌, ◌++◌, take, length, refl, sym, ap, ◌∙◌, arith, length-append}
use Rattle.std.specs.Prelude.{nat_le}
use Rattle.std.proofs.lemmas.Bool.Decides.{nat_tests}
use Rattle.std.proofs.lemmas.List.{append_assoc, append_cancel_left, take-append-le, take_at, length-take}
use Rattle.std.proofs.lemmas.List.Sums.{sum_by-take-le}
use Rattle.std.proofs.Math.Nat.{mul-le-mul_left}
use Rattle.tr_base.specs.Lists.{joined}
use Rattle.tr_pack.specs.Cuts.{Extent, row_length, IsRow, IsFull, AreRows, IsRowCut, cut_from, cut}

-- ---- the cut is right

-- a row that x begins makes the row before it full, whatever follows x
full_before : (room gap : ℕ) (row : List Extent) (x : Extent) (t xs : List Extent) → room < row_length gap (row ++ x ∷ []) →
    IsFull room gap row (cut_from room gap (x ∷ t) xs)
full_before room gap row x t [] h = h
full_before room gap row x t (y ∷ ys) h = by_test (nat_le (row_length gap ((x ∷ t) ++ y ∷ [])) room) (full_before room gap row x (t ++ y ∷ []) ys h)
  where
    by_test : (b : Bool) → IsFull room gap row (cut_from room gap ((x ∷ t) ++ y ∷ []) ys) →
        IsFull room gap row (cond b (cut_from room gap ((x ∷ t) ++ y ∷ []) ys) ((x ∷ t) ∷ cut_from room gap (y ∷ []) ys))
    by_test true more = more
    by_test false more = h

one_row : (room gap : ℕ) (x : Extent) → IsRow room gap (x ∷ [])
one_row room gap x = record { some = omega arith; fits = λ h. absurd (omega arith) }

longer_row : (room gap : ℕ) (row : List Extent) (x : Extent) → nat_le (row_length gap (row ++ x ∷ [])) room ≡ true → IsRow room gap (row ++ x ∷ [])
longer_row room gap row x h = record { some = omega (arith, length-append row (x ∷ [])); fits = λ _. within (row_length gap (row ++ x ∷ [])) h }
  where
    within : (n : ℕ) → nat_le n room ≡ true → n ≤ room
    within n h = grind (arith, nat_tests)

past : (n room : ℕ) → nat_le n room ≡ false → room < n
past n room h = grind (arith, nat_tests)

rows_from : (room gap : ℕ) (row xs : List Extent) → IsRow room gap row → AreRows room gap (cut_from room gap row xs)
rows_from room gap row [] is = (is, tt, tt)
rows_from room gap row (x ∷ xs) is =
    by_test (nat_le (row_length gap (row ++ x ∷ [])) room) refl (λ longer. rows_from room gap (row ++ x ∷ []) xs longer)
    (rows_from room gap (x ∷ []) xs (one_row room gap x))
  where
    by_test : (b : Bool) → nat_le (row_length gap (row ++ x ∷ [])) room ≡ b →
        (IsRow room gap (row ++ x ∷ []) → AreRows room gap (cut_from room gap (row ++ x ∷ []) xs)) →
        AreRows room gap (cut_from room gap (x ∷ []) xs) →
        AreRows room gap (cond b (cut_from room gap (row ++ x ∷ []) xs) (row ∷ cut_from room gap (x ∷ []) xs))
    by_test true h longer next = longer (longer_row room gap row x h)
    by_test false h longer next = (is, full_before room gap row x [] xs (past (row_length gap (row ++ x ∷ [])) room h), next)

pub joined-cut_from : (room gap : ℕ) (row xs : List Extent) → joined (cut_from room gap row xs) ≡ row ++ xs
joined-cut_from room gap row [] = refl
joined-cut_from room gap row (x ∷ xs) =
    by_test (nat_le (row_length gap (row ++ x ∷ [])) room) (joined-cut_from room gap (row ++ x ∷ []) xs) (joined-cut_from room gap (x ∷ []) xs)
  where
    by_test : (b : Bool) → joined (cut_from room gap (row ++ x ∷ []) xs) ≡ (row ++ x ∷ []) ++ xs → joined (cut_from room gap (x ∷ []) xs) ≡ x ∷ xs →
        joined (cond b (cut_from room gap (row ++ x ∷ []) xs) (row ∷ cut_from room gap (x ∷ []) xs)) ≡ row ++ x ∷ xs
    by_test true longer next = longer ∙ append_assoc row (x ∷ []) xs
    by_test false longer next = ap (λ (l : List Extent). row ++ l) next

pub cut_is_right : (room gap : ℕ) (xs : List Extent) → IsRowCut room gap xs (cut room gap xs)
cut_is_right room gap [] = record { whole = refl; right = tt }
cut_is_right room gap (x ∷ xs) = record { whole = joined-cut_from room gap (x ∷ []) xs; right = rows_from room gap (x ∷ []) xs (one_row room gap x) }

-- ---- no other is

-- the front of a row is no longer than the row
row_length-take-le : (gap n : ℕ) (row : List Extent) → row_length gap (take n row) ≤ row_length gap row
row_length-take-le gap n row =
    let shorter : length (take n row) - 1 ≤ length row - 1 = omega (arith, length-take n row) in
    omega (arith, sum_by-take-le (λ (x : Extent). x.long) row n, mul-le-mul_left gap shorter)

take_past : (r l : List Extent) → take (length r + 1) (r ++ l) ≡ r ++ take 1 l
take_past [] l = refl
take_past (x ∷ r) l =
    let next : length (x ∷ r) + 1 ≡ suc (length r + 1) = omega arith in
    rw next (ap (λ (m : List Extent). x ∷ m) (take_past r l))

-- of two right cuts the first row of the one is no shorter than that of the other
not_shorter : (room gap : ℕ) (r : List Extent) (rs : List (List Extent)) (s tail : List Extent) → AreRows room gap (r ∷ rs) → IsRow room gap s →
    r ++ joined rs ≡ s ++ tail → length r < length s → ⊥
not_shorter room gap r [] s tail rows is same lt = omega (arith, ap length same, length-append r [], length-append s tail)
not_shorter room gap r (next ∷ more) s tail rows is same lt =
    let begun : 1 ≤ length next = rows.2.0.some in
    let some : 1 ≤ length r = rows.0.some in
    let enough : length r + 1 ≤ length s = omega arith in
    let mine : take (length r + 1) (r ++ (next ++ joined more)) ≡ r ++ take 1 next = take_past r (next ++ joined more)
    ∙ ap (λ (l : List Extent). r ++ l) (take-append-le 1 next (joined more) begun) in
    let other : take (length r + 1) (s ++ tail) ≡ take (length r + 1) s = take-append-le (length r + 1) s tail enough in
    let front : r ++ take 1 next ≡ take (length r + 1) s = sym mine ∙ ap (take (length r + 1)) same ∙ other in
    omega (arith, rows.1, ap (row_length gap) front, row_length-take-le gap (length r + 1) s, is.fits (omega arith))

same_fronts : (r s a b : List Extent) → r ++ a ≡ s ++ b → length r ≡ length s → r ≡ s
same_fronts r s a b same e = sym (take_at r a (length r) refl) ∙ ap (take (length r)) same ∙ take_at s b (length r) (sym e)

same_rows : (room gap : ℕ) (rows others : List (List Extent)) → AreRows room gap rows → AreRows room gap others → joined rows ≡ joined others → rows ≡ others
same_rows room gap [] [] is are same = refl
same_rows room gap [] (s ∷ ss) is are same = let some : 1 ≤ length s = are.0.some in absurd (omega (arith, ap length same, length-append s (joined ss)))
same_rows room gap (r ∷ rs) [] is are same = let some : 1 ≤ length r = is.0.some in absurd (omega (arith, ap length same, length-append r (joined rs)))
same_rows room gap (r ∷ rs) (s ∷ ss) is are same = by_tests (nat_lt (length r) (length s)) (nat_lt (length s) (length r)) refl refl
    (λ rest. same_rows room gap rs ss is.2 are.2 rest)
  where
    equal : length r ≡ length s → (joined rs ≡ joined ss → rs ≡ ss) → r ∷ rs ≡ s ∷ ss
    equal e rest =
        let first : r ≡ s = same_fronts r s (joined rs) (joined ss) same e in
        let tails : joined rs ≡ joined ss = append_cancel_left s (joined rs) (joined ss) (ap (λ (l : List Extent). l ++ joined rs) (sym first) ∙ same) in
        rw (first, rest tails) refl

    by_tests : (a b : Bool) → nat_lt (length r) (length s) ≡ a → nat_lt (length s) (length r) ≡ b → (joined rs ≡ joined ss → rs ≡ ss) → r ∷ rs ≡ s ∷ ss
    by_tests true b h k rest = absurd (not_shorter room gap r rs s (joined ss) is are.0 same (grind (arith, nat_tests)))
    by_tests false true h k rest = absurd (not_shorter room gap s ss r (joined rs) are is.0 (sym same) (grind (arith, nat_tests)))
    by_tests false false h k rest = equal (grind (arith, nat_tests)) rest

-- whatever rows are right, they are the cut
pub only_cut : (room gap : ℕ) (xs : List Extent) (rows : List (List Extent)) → IsRowCut room gap xs rows → rows ≡ cut room gap xs
only_cut room gap xs rows is =
    let right = cut_is_right room gap xs in
    same_rows room gap rows (cut room gap xs) is.right right.right (is.whole ∙ sym right.whole)
