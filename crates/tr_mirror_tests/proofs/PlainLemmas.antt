-- A stream that is read record by record.
use Rattle.std.proofs.Common.{◌≡◌, ℕ, ◌+◌, ◌-◌, ◌<◌, ◌≤◌, ◌&&◌, true, false, List, [], ◌∷◌, ◌++◌, length, drop, Option, Some, None, refl, sym, ap, subst, ◌∙◌, arith, append_assoc, length-append, is_none, is_some, nat_lt, nat_le, if◌then◌else◌}
use Rattle.std.proofs.lemmas.Bool.{and_parts, ltb-true, leb-true, ne_eqb, le-ltb}
use Rattle.std.proofs.lemmas.List.{append-nil}
use Rattle.tr_mirror.specs.declared.faults.MirrorFault.{MirrorFault}
use Rattle.tr_mirror.specs.declared.faults.StreamFault.{StreamFault}
use Rattle.tr_mirror.specs.Headers.{header_len, header_of, record_len, pixel_count}
use Rattle.tr_mirror.specs.Standings.{Standing, stream_start, after_record, header_fault, pixel_fault}
use Rattle.tr_mirror.specs.Records.{Record, IsBytes, record_bytes, spelled, after_records, front_fault, has_record, is_unknown, or_fault, pixels_of, record_at, records_of, rest_of}
use Rattle.tr_mirror.specs.Readings.{Reading, reading_of}
use Rattle.tr_mirror.specs.Faults.{AreSound, BeginsWithRecords}
use Rattle.tr_mirror.proofs.RecordLemmas.{after_all-append, AreSound-append}
use Rattle.tr_mirror.proofs.UpdateLemmas.{spelled-append}
use Rattle.tr_mirror.proofs.FaultLemmas.{front_whole, known_begun}
use Rattle.tr_mirror.proofs.TableLemmas.{suffix, both_none}
use Rattle.tr_mirror.proofs.RecordsOfLemmas.{IsAllOf, IsFound, is_found, records_of-is, rest_of-is}
use Rattle.tr_mirror.proofs.FirstFaultLemmas.{fault_by, fault_in-is}

-- records at the front of a stream were read, and the rest wasn't
pub record IsReadTo (stream : List ℕ) (s : Standing) (rest : List ℕ) : Type 0 where
  pub records : List Record
  pub begins : BeginsWithRecords stream records rest
  pub standing : s ≡ after_records stream_start records
  pub bytes : IsBytes rest

pub reads_nothing : (stream : List ℕ) → IsBytes stream → IsReadTo stream stream_start stream
reads_nothing stream k = record { records = []; begins = record { spelled_as = refl; sound = tt }; standing = refl; bytes = k }

-- what a whole record without a fault has
pub record IsReady (s : Standing) (bytes : List ℕ) : Type 0 where
  pub some : 0 < length bytes
  pub whole : record_len bytes ≤ length bytes
  pub sound : header_fault s (header_of bytes) ≡ None

none_is : (o : Option StreamFault) → is_none o ≡ true → o ≡ None
none_is None h = refl
none_is (Some f) h = absurd (cc)

pub is_ready : (s : Standing) (bytes : List ℕ) → has_record s bytes ≡ true → IsReady s bytes
is_ready s bytes has =
    let a = and_parts (nat_lt 0 (length bytes) && nat_le (record_len bytes) (length bytes)) (is_none (front_fault s bytes)) has in
    let b = and_parts (nat_lt 0 (length bytes)) (nat_le (record_len bytes) (length bytes)) a.0 in
    let some = ltb-true 0 (length bytes) b.0 in
    let whole = leb-true (record_len bytes) (length bytes) b.1 in
    let clean : front_fault s bytes ≡ None = none_is (front_fault s bytes) a.1 in
    let parts = both_none (header_fault s (header_of bytes)) (pixel_fault s (pixels_of bytes))
    (sym (front_whole s bytes some (known_begun s bytes some clean) whole) ∙ clean) in
    record { some = some; whole = whole; sound = parts.0 }

-- one record more
pub reads_on : (stream : List ℕ) (s : Standing) (rest : List ℕ) → IsReadTo stream s rest → has_record s rest ≡ true →
    IsReadTo stream (after_record s (header_of rest) (pixels_of rest)) (drop (record_len rest) rest)
reads_on stream s rest r has =
    let f : IsFound s rest = is_found s rest r.bytes has in
    let one : Record = record_at rest in
    let behind : List ℕ = drop (record_len rest) rest in
    let last : spelled (one ∷ []) ≡ record_bytes one = append-nil (record_bytes one) in
    let whole : spelled (r.records ++ one ∷ []) ≡ spelled r.records ++ record_bytes one =
    spelled-append r.records (one ∷ []) ∙ ap (λ l. spelled r.records ++ l) last in
    record {
      records = r.records ++ one ∷ [];
      begins = record {
        spelled_as = r.begins.spelled_as ∙ ap (λ l. spelled r.records ++ l) (sym f.again)
            ∙ sym (append_assoc (spelled r.records) (record_bytes one) behind) ∙ ap (λ l. l ++ behind) (sym whole);
        sound = AreSound-append stream_start r.records (one ∷ []) r.begins.sound (subst (λ t. AreSound t (one ∷ [])) r.standing (f.sound, tt));
      };
      standing = ap (λ t. after_record t (header_of rest) (pixels_of rest)) r.standing ∙ sym (after_all-append stream_start r.records (one ∷ []));
      bytes = suffix (record_bytes one) behind (subst IsBytes (sym f.again) r.bytes);
    }

-- at the end
module _ (stream : List ℕ) (s : Standing) (rest : List ℕ) (r : IsReadTo stream s rest) (none : has_record s rest ≡ false) where
  all : IsAllOf stream r.records rest
  all = record { begins = r.begins; ended = ap (λ t. has_record t rest) (sym r.standing) ∙ none }

  pub standing_is : s ≡ (reading_of stream).standing
  standing_is = r.standing ∙ ap (λ l. after_records stream_start l) (sym (records_of-is stream r.records rest all))

  pub fed_is : length stream - length rest ≡ (reading_of stream).fed
  fed_is =
      let whole : length stream ≡ length (spelled r.records) + length rest =
      ap (λ l. length l) r.begins.spelled_as ∙ length-append (spelled r.records) rest in
      let fed : length stream - length rest ≡ length (spelled r.records) = omega arith in
      fed ∙ ap (λ l. length (spelled l)) (sym (records_of-is stream r.records rest all))

  -- a fault is shown, or none
  pub fault_is : (o : Option StreamFault) → front_fault s rest ≡ o → fault_by (length stream - length rest) o ≡ (reading_of stream).fault
  fault_is o is =
      let place : (reading_of stream).fed ≡ length (spelled r.records) = ap (λ l. length (spelled l)) (records_of-is stream r.records rest all) in
      ap (λ n. fault_by n o) (fed_is ∙ place)
      ∙ ap (λ p. fault_by (length (spelled r.records)) p) (sym is)
      ∙ ap (λ t. fault_by (length (spelled r.records)) (front_fault t rest)) r.standing
      ∙ sym (fault_in-is stream r.records rest all)

  pub begun_is : front_fault s rest ≡ None → rest ≡ (reading_of stream).begun
  begun_is is =
      let free : (reading_of stream).fault ≡ None = sym (fault_is None is) in
      sym (rest_of-is stream r.records rest all) ∙ ap (λ o. if is_some o then [] else rest_of stream) (sym free)

  pub nothing_begun : (f : StreamFault) → front_fault s rest ≡ Some f → [] ≡ (reading_of stream).begun
  nothing_begun f is = ap (λ o. if is_some o then [] else rest_of stream) (fault_is (Some f) is)

-- ---- the fault at the front, where the header is whole

pub front_is : (s : Standing) (bytes : List ℕ) (o p : Option StreamFault) → 0 < length bytes → is_unknown bytes ≡ false → header_len bytes ≤ length bytes →
    o ≡ header_fault s (header_of bytes) → p ≡ (if nat_lt (length bytes) (record_len bytes) then None else pixel_fault s (pixels_of bytes)) →
    or_fault o p ≡ front_fault s bytes
unfolding front_fault
front_is s bytes o p some known whole first second =
    rw (first, second, ne_eqb (length bytes) 0 (λ e. omega arith), known, le-ltb (length bytes) (header_len bytes) whole) refl
