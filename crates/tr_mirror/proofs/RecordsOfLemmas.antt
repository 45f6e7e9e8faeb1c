-- The records of a stream by the function are those by the relation, and there is one list of them.
use Rattle.std.proofs.Common.{◌≡◌, ℕ, zero, suc, ◌<◌, ◌≤◌, ◌&&◌, true, false, List, [], ◌∷◌, ◌++◌, length, take, drop, Option, Some, None, refl, sym, ap, subst, ◌∙◌, arith, inl, inr, ◌⊎◌, append_assoc, length-append, is_none, nat_lt, nat_le}
use Rattle.std.proofs.lemmas.Bool.{and_parts, and_from, and_left, ltb-true, leb-true, lt-ltb, le-ltb, le-leb, cases_Bool}
use Rattle.std.proofs.lemmas.List.{drop_at, take_at, drop-drop, length-drop, length-take-le, take-append-drop}
use Rattle.tr_mirror.specs.declared.faults.StreamFault.{StreamFault}
use Rattle.tr_mirror.specs.declared.headers.Header.{Header}
use Rattle.tr_mirror.specs.declared.headers.Header.TheVariants.{Screen, Run, Fill, Cut}
use Rattle.tr_mirror.specs.Headers.{header_bytes, header_len, header_of, record_len, pixel_count}
use Rattle.tr_mirror.specs.Standings.{Standing, stream_start, after_record, header_fault, pixel_fault}
use Rattle.tr_mirror.specs.Records.{Record, IsBytes, record_bytes, spelled, after_records, front_fault, has_record, record_at, records_within, records_of, pixels_of, rest_of}
use Rattle.tr_mirror.specs.Faults.{IsSoundRecord, AreSound, BeginsWithRecords}
use Rattle.tr_mirror.proofs.BoundLemmas.{len_of, header_len-is}
use Rattle.tr_mirror.proofs.RecordLemmas.{header_again, length-header_bytes}
use Rattle.tr_mirror.proofs.SpellingLemmas.{IsSpelled, IsSpelled-known}
use Rattle.tr_mirror.proofs.FaultLemmas.{front_whole, known_begun}
use Rattle.tr_mirror.proofs.TableLemmas.{sound_front, suffix, both_none}

-- ---- what the bytes of a record say of it

pub least_len : (h : Header) → 5 ≤ len_of h
least_len (Screen wide high kind) = omega arith
least_len (Run segment) = omega arith
least_len (Fill segment) = omega arith
least_len (Cut number) = omega arith

pub record_some : (r : Record) → 5 ≤ length (record_bytes r)
record_some r = omega (arith, length-append (header_bytes r.header) r.pixels, length-header_bytes r.header, least_len r.header)

pub record IsFront (r : Record) (more : List ℕ) : Type 0 where
  pub header : header_of (record_bytes r ++ more) ≡ r.header
  pub pixels : pixels_of (record_bytes r ++ more) ≡ r.pixels
  pub len : record_len (record_bytes r ++ more) ≡ length (record_bytes r)

pub front_of : (s : Standing) (r : Record) (more : List ℕ) → IsSoundRecord s r → IsFront r more
front_of s r more k =
    let h : Header = r.header in
    let px : List ℕ = r.pixels in
    let hb : List ℕ = header_bytes h in
    let all : List ℕ = hb ++ (px ++ more) in
    let again : header_of all ≡ h = header_again h (px ++ more) k.fits in
    let len : header_len all ≡ length hb = header_len-is all ∙ ap (λ x. len_of x) again ∙ sym (length-header_bytes h) in
    let count : pixel_count (header_of all) ≡ length px = ap (λ x. pixel_count x) again ∙ sym k.count in
    let pixels : pixels_of all ≡ px = ap (λ n. take n (drop (header_len all) all)) count
    ∙ ap (λ l. take (length px) l) (drop_at hb (px ++ more) (header_len all) (sym len)) ∙ take_at px more (length px) refl in
    let whole : (hb ++ px) ++ more ≡ all = append_assoc hb px more in
    let long : record_len all ≡ length (hb ++ px) = omega (arith, len, count, length-append hb px) in
    record {
      header = ap (λ l. header_of l) whole ∙ again;
      pixels = ap (λ l. pixels_of l) whole ∙ pixels;
      len = ap (λ l. record_len l) whole ∙ long;
    }

-- a whole record without a fault is one by the test
pub has_sound : (s : Standing) (r : Record) (more : List ℕ) → IsSoundRecord s r → has_record s (record_bytes r ++ more) ≡ true
has_sound s r more k =
    let f = front_of s r more k in
    let all : List ℕ = record_bytes r ++ more in
    let long = length-append (record_bytes r) more in
    let some = record_some r in
    and_from (nat_lt 0 (length all) && nat_le (record_len all) (length all)) (is_none (front_fault s all))
    (and_from (nat_lt 0 (length all)) (nat_le (record_len all) (length all))
    (lt-ltb 0 (length all) (omega arith)) (le-leb (record_len all) (length all) (omega (arith, f.len))))
    (ap (λ o. is_none o) (sound_front s r more k))

-- ---- one list of records

one_within : (n : ℕ) (s : Standing) (r : Record) (more : List ℕ) → IsSoundRecord s r →
    records_within (suc n) s (record_bytes r ++ more) ≡ r ∷ records_within n (after_record s r.header r.pixels) more
one_within n s r more k =
    let f = front_of s r more k in
    let all : List ℕ = record_bytes r ++ more in
    let left : drop (record_len all) all ≡ more = ap (λ m. drop m all) f.len ∙ drop_at (record_bytes r) more (length (record_bytes r)) refl in
    rw (has_sound s r more k) (
    ap (λ h. record { header = h; pixels = pixels_of all } ∷ records_within n (after_record s h (pixels_of all)) (drop (record_len all) all)) f.header
    ∙ ap (λ p. record { header = r.header; pixels = p } ∷ records_within n (after_record s r.header p) (drop (record_len all) all)) f.pixels
    ∙ ap (λ l. r ∷ records_within n (after_record s r.header r.pixels) l) left
    )

pub records_are : (n : ℕ) (s : Standing) (rs : List Record) (rest : List ℕ) → AreSound s rs → length rs ≤ n →
    has_record (after_records s rs) rest ≡ false → records_within n s (spelled rs ++ rest) ≡ rs
records_are zero s [] rest k few none = refl
records_are (suc n) s [] rest k few none = rw none refl
records_are zero s (r ∷ rs) rest k few none = absurd (omega arith)
records_are (suc n) s (r ∷ rs) rest k few none =
    let less : length rs ≤ n = omega arith in
    ap (λ l. records_within (suc n) s l) (append_assoc (record_bytes r) (spelled rs) rest)
    ∙ one_within n s r (spelled rs ++ rest) k.0
    ∙ ap (λ l. r ∷ l) (records_are n (after_record s r.header r.pixels) rs rest k.1 less none)

-- no more records than bytes
pub records_few : (rs : List Record) → length rs ≤ length (spelled rs)
records_few [] = omega arith
records_few (r ∷ rs) = omega (arith, records_few rs, length-append (record_bytes r) (spelled rs), record_some r)

-- records without a fault are at the front of a stream, and no whole record without a fault is behind them
pub record IsAllOf (stream : List ℕ) (rs : List Record) (rest : List ℕ) : Type 0 where
  pub begins : BeginsWithRecords stream rs rest
  pub ended : has_record (after_records stream_start rs) rest ≡ false

-- the function gives these records
pub records_of-is : (stream : List ℕ) (rs : List Record) (rest : List ℕ) → IsAllOf stream rs rest → records_of stream ≡ rs
records_of-is stream rs rest a =
    let few : length rs ≤ length stream =
    omega (arith, records_few rs, ap (λ l. length l) a.begins.spelled_as, length-append (spelled rs) rest) in
    ap (λ l. records_within (length stream) stream_start l) a.begins.spelled_as
    ∙ records_are (length stream) stream_start rs rest a.begins.sound few a.ended

-- and these bytes behind them
pub rest_of-is : (stream : List ℕ) (rs : List Record) (rest : List ℕ) → IsAllOf stream rs rest → rest_of stream ≡ rest
rest_of-is stream rs rest a =
    ap (λ l. drop (length (spelled l)) stream) (records_of-is stream rs rest a)
    ∙ ap (λ l. drop (length (spelled rs)) l) a.begins.spelled_as ∙ drop_at (spelled rs) rest (length (spelled rs)) refl

-- ---- what the function gives

-- a record that the test finds at the front of bytes
pub record IsFound (s : Standing) (bytes : List ℕ) : Type 0 where
  pub sound : IsSoundRecord s (record_at bytes)
  pub again : record_bytes (record_at bytes) ++ drop (record_len bytes) bytes ≡ bytes

pub is_found : (s : Standing) (bytes : List ℕ) → IsBytes bytes → has_record s bytes ≡ true → IsFound s bytes
is_found s bytes k has =
    let a = and_parts (nat_lt 0 (length bytes) && nat_le (record_len bytes) (length bytes)) (is_none (front_fault s bytes)) has in
    let b = and_parts (nat_lt 0 (length bytes)) (nat_le (record_len bytes) (length bytes)) a.0 in
    let some : 0 < length bytes = ltb-true 0 (length bytes) b.0 in
    let long : record_len bytes ≤ length bytes = leb-true (record_len bytes) (length bytes) b.1 in
    let clean : front_fault s bytes ≡ None = none_is (front_fault s bytes) a.1 in
    let known = known_begun s bytes some clean in
    let spelt : IsSpelled bytes = IsSpelled-known bytes k (omega arith) known in
    let n : ℕ = pixel_count (header_of bytes) in
    let px : List ℕ = drop (header_len bytes) bytes in
    let hb : List ℕ = header_bytes (header_of bytes) in
    let parts = both_none (header_fault s (header_of bytes)) (pixel_fault s (pixels_of bytes)) (sym (front_whole s bytes some known long) ∙ clean) in
    record {
      sound = record {
        fits = spelt.fits;
        count = length-take-le n px (omega (arith, length-drop (header_len bytes) bytes));
        header = parts.0;
        pixels = parts.1;
      };
      again = append_assoc hb (take n px) (drop (record_len bytes) bytes)
          ∙ ap (λ l. hb ++ (take n px ++ l)) (sym (drop-drop n (header_len bytes) bytes))
          ∙ ap (λ l. hb ++ l) (take-append-drop n px) ∙ spelt.again;
    }
  where
    none_is : (o : Option StreamFault) → is_none o ≡ true → o ≡ None
    none_is None h = refl
    none_is (Some f) h = absurd (cc)

record IsWithin (n : ℕ) (s : Standing) (bytes : List ℕ) (rs : List Record) : Type 0 where
  rest : List ℕ
  spelled_as : bytes ≡ spelled rs ++ rest
  sound : AreSound s rs
  ended : (has_record (after_records s rs) rest ≡ false) ⊎ (length rs ≡ n)

is_within : (n : ℕ) (s : Standing) (bytes : List ℕ) → IsBytes bytes → IsWithin n s bytes (records_within n s bytes)
is_within zero s bytes k = record { rest = bytes; spelled_as = refl; sound = tt; ended = inr refl }
is_within (suc n) s bytes k = elim (cases_Bool (has_record s bytes)) [
  | inl has ↦
      let f : IsFound s bytes = is_found s bytes k has in
      let r : Record = record_at bytes in
      let left : List ℕ = drop (record_len bytes) bytes in
      let t : Standing = after_record s r.header r.pixels in
      let more : IsBytes left = suffix (record_bytes r) left (subst IsBytes (sym f.again) k) in
      let w : IsWithin n t left (records_within n t left) = is_within n t left more in
      rw has (record {
        rest = w.rest;
        spelled_as = sym f.again ∙ ap (λ l. record_bytes r ++ l) w.spelled_as ∙ sym (append_assoc (record_bytes r) (spelled (records_within n t left)) w.rest);
        sound = (f.sound, w.sound);
        ended = elim w.ended [ inl e ↦ inl e | inr e ↦ inr (ap (λ m. suc m) e) ];
      })
  | inr none ↦ rw none (record { rest = bytes; spelled_as = refl; sound = tt; ended = inl none })
]

-- the records of a stream by the function are those by the relation
pub records_of-all : (stream : List ℕ) → IsBytes stream → IsAllOf stream (records_of stream) (rest_of stream)
records_of-all stream k =
    let rs : List Record = records_of stream in
    let w : IsWithin (length stream) stream_start stream rs = is_within (length stream) stream_start stream k in
    let rest : rest_of stream ≡ w.rest = ap (λ l. drop (length (spelled rs)) l) w.spelled_as ∙ drop_at (spelled rs) w.rest (length (spelled rs)) refl in
    let empty : (l : List ℕ) → length l ≡ 0 → has_record (after_records stream_start rs) l ≡ false = λ l none.
    and_left (nat_lt 0 (length l) && nat_le (record_len l) (length l)) (is_none (front_fault (after_records stream_start rs) l))
    (and_left (nat_lt 0 (length l)) (nat_le (record_len l) (length l)) (le-ltb 0 (length l) (omega arith))) in
    let ended : has_record (after_records stream_start rs) w.rest ≡ false = elim w.ended [
      | inl e ↦ e
      | inr e ↦ empty w.rest (omega (arith, records_few rs, ap (λ l. length l) w.spelled_as, length-append (spelled rs) w.rest))
    ] in
    record {
      begins = record { spelled_as = w.spelled_as ∙ ap (λ l. spelled rs ++ l) (sym rest); sound = w.sound };
      ended = ap (λ l. has_record (after_records stream_start rs) l) rest ∙ ended;
    }
