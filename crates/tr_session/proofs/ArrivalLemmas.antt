-- The front of a line, and the place of its line feed.
use Rattle.std.proofs.Common.{◌≡◌, ℕ, zero, suc, ◌+◌, ◌-◌, ◌≤◌, ◌<◌, true, min, List, [], ◌∷◌, ◌++◌, length, get_or, take, drop, Some, None, refl, sym, ap, ◌∙◌, arith}
use Rattle.std.proofs.lemmas.Bool.{eqb-true}
use Rattle.std.specs.Prelude.{◌==◌, slice_range}
use Rattle.std.proofs.lemmas.Grind.{get_or_default_zero}
use Rattle.std.proofs.lemmas.List.{length-take, length-drop, get_or-take, drop-drop, drop-take}
use Rattle.std.proofs.Math.Seq.{take-append-add, take-length, drop-length}
use Rattle.memchr.specs.Find.{IsFirstByte, is_byte}
use Rattle.tr_session.specs.Arrivals.{ArrivalsView, HasLine, IsWithoutLine, first_bytes}

-- the front of a front and more bytes is that of the line and these bytes
front_more : (n : ℕ) (line more : List ℕ) → take n (take n line ++ more) ≡ take n (line ++ more)
front_more zero line more = refl
front_more (suc n) [] more = refl
front_more (suc n) (b ∷ line) more = ap (λ (rest : List ℕ). b ∷ rest) (front_more n line more)

pub front_of_front : (line more : List ℕ) → first_bytes (first_bytes line ++ more) ≡ first_bytes (line ++ more)
front_of_front line more = front_more 1025 line more

-- the bytes behind the next ones of a part of a piece
pub range_behind : (piece : List ℕ) (start end count : ℕ) → start + count ≤ end →
    drop count (slice_range piece start end) ≡ slice_range piece (start + count) end
range_behind piece start end count within =
    ap (λ n. drop count (take n (drop start piece))) (let e : end - start ≡ count + (end - (start + count)) = omega arith in e)
    ∙ drop-take count (end - (start + count)) (drop start piece)
    ∙ ap (take (end - (start + count))) (drop-drop count start piece)

-- the first bytes of a list of which some are kept
kept_is : (k count room : ℕ) (rest : List ℕ) → k ≡ min count room → take k rest ≡ take room (take count rest)
kept_is zero zero zero rest e = refl
kept_is zero zero (suc r) rest e = refl
kept_is zero (suc c) zero rest e = refl
kept_is zero (suc c) (suc r) rest e = absurd (omega arith)
kept_is (suc k) zero r rest e = absurd (omega arith)
kept_is (suc k) (suc c) zero rest e = absurd (omega arith)
kept_is (suc k) (suc c) (suc r) [] e = refl
kept_is (suc k) (suc c) (suc r) (x ∷ xs) e = ap (λ (t : List ℕ). x ∷ t) (kept_is k c r xs (omega arith))

-- the front, if so many bytes of the rest are kept as there is room for
pub front_kept : (begun rest : List ℕ) (count kept : ℕ) → length begun ≤ 1025 → kept ≡ min count (1025 - length begun) →
    begun ++ take kept rest ≡ first_bytes (begun ++ take count rest)
front_kept begun rest count kept few is =
    let whole : length begun + (1025 - length begun) ≡ 1025 = omega arith in
    ap (λ (t : List ℕ). begun ++ t) (kept_is kept count (1025 - length begun) rest is)
    ∙ sym (take-append-add begun (take count rest) (1025 - length begun))
    ∙ ap (λ n. take n (begun ++ take count rest)) whole

-- a list around its line feed
at_feed : (rest : List ℕ) (k : ℕ) → k < length rest → get_or rest k 0 ≡ 10 → rest ≡ take k rest ++ 10 ∷ drop 1 (drop k rest)
at_feed [] k within is = absurd (omega arith)
at_feed (x ∷ xs) zero within is = ap (λ (b : ℕ). b ∷ xs) is
at_feed (x ∷ xs) (suc k) within is = ap (λ (t : List ℕ). x ∷ t) (at_feed xs k (omega arith) is)

-- a byte that is a line feed passes the search's test
passes : (rest : List ℕ) (j : ℕ) → j < length rest → get_or rest j 10 ≡ 10 → (get_or rest j 0 == 10) ≡ true
passes rest j within is = ap (λ (b : ℕ). b == 10) (sym (get_or_default_zero rest j 10 within) ∙ is)

-- the line that had begun is whole
pub whole_line : (old kept new : ArrivalsView) (k : ℕ) → IsFirstByte (is_byte 10) old.rest (Some k) →
    kept.begun ≡ first_bytes (old.begun ++ take k old.rest) → kept.rest ≡ drop k old.rest → new.begun ≡ kept.begun → new.rest ≡ drop 1 kept.rest →
    HasLine old new
whole_line old kept new k found begun rest begun_too rest_too = record {
  more = take k old.rest;
  rest = at_feed old.rest k found.0.high (eqb-true _ _ found.1)
      ∙ ap (λ (t : List ℕ). take k old.rest ++ 10 ∷ t) (ap (drop 1) (sym rest) ∙ sym rest_too);
  unbroken = λ has.
      let short : length (take k old.rest) ≤ k = omega (arith, length-take k old.rest) in
      let at : has.0 < k = omega arith in
      let within : has.0 < length old.rest = omega (arith, found.0.high) in
      found.0.before has.0 (omega arith) at (passes old.rest has.0 within (sym (get_or-take k old.rest has.0 10 at) ∙ has.2));
  begun = begun_too ∙ begun;
}

-- no line feed came
pub open_line : (old new : ArrivalsView) (count : ℕ) → IsFirstByte (is_byte 10) old.rest None → count ≡ length old.rest →
    new.begun ≡ first_bytes (old.begun ++ take count old.rest) → new.rest ≡ drop count old.rest → IsWithoutLine old new
open_line old new count none all begun rest = record {
  rest = rest ∙ ap (λ n. drop n old.rest) all ∙ drop-length old.rest;
  unbroken = λ has. none has.0 (omega arith) has.1 (passes old.rest has.0 has.1 has.2);
  begun = begun ∙ ap (λ n. first_bytes (old.begun ++ take n old.rest)) all ∙ ap (λ (t : List ℕ). first_bytes (old.begun ++ t)) (take-length old.rest);
}

-- so many bytes of a part of a piece end before its end
pub range_within : (piece : List ℕ) (start end count : ℕ) → start ≤ end → end ≤ length piece → count ≤ length (slice_range piece start end) →
    start + count ≤ end
range_within piece start end count order within few =
    omega (arith, length-take (end - start) (drop start piece), length-drop start piece)

pub range_length : (piece : List ℕ) (start end : ℕ) → start ≤ end → end ≤ length piece → end - start ≡ length (slice_range piece start end)
range_length piece start end order within = omega (arith, length-take (end - start) (drop start piece), length-drop start piece)
