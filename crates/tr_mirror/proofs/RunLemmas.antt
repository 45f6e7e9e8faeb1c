-- Read byte by byte a stream has the reading that its records tell, and the screens at their cuts.
use Rattle.std.proofs.Common.{◌≡◌, ◌≢◌, ℕ, zero, suc, ◌+◌, ◌<◌, ◌≤◌, ◌&&◌, Bool, true, false, List, [], ◌∷◌, ◌++◌, length, drop, Option, Some, None, option_map, refl, sym, ap, subst, ◌∙◌, arith, inl, inr, if◌then◌else◌, append_assoc, length-append, is_some, is_none, nat_lt, nat_le}
use Rattle.std.proofs.lemmas.Bool.{ne_eqb, eq-eqb, lt-ltb, le-ltb, le-leb, lt-leb, cases_eq, cases_lt, ltb-true, leb-true, and_parts, and_from}
use Rattle.std.proofs.Math.Seq.{drop-length}
use Rattle.std.proofs.lemmas.List.{append-nil, drop_at, drop-drop, take_all, length-take-le, length-drop}
use Rattle.tr_mirror.specs.declared.faults.MirrorFault.{MirrorFault}
use Rattle.tr_mirror.specs.declared.faults.StreamFault.{StreamFault}
use Rattle.tr_mirror.specs.declared.changes.Change.{Change}
use Rattle.tr_mirror.specs.declared.changes.Change.TheVariants.{Nothing}
use Rattle.tr_mirror.specs.declared.headers.Header.{Header}
use Rattle.tr_mirror.specs.Headers.{header_bytes, header_len, header_of, record_len, pixel_count}
use Rattle.tr_mirror.specs.Standings.{Standing, stream_start, after_record, header_fault, pixel_fault}
use Rattle.tr_mirror.specs.Records.{Record, record_bytes, spelled, after_records, is_unknown, or_fault, front_fault, has_record, record_at, records_within, records_of, pixels_of, place_behind, rest_of, fault_in}
use Rattle.tr_mirror.specs.Readings.{Reading, reading_of, cut_between, screens_by, screens_shown}
use Rattle.tr_mirror.specs.Automata.{at_first, change_before, failed, record_taken, unfinished, judged, tried, after_byte, after_bytes, try_len, IsReading, shown_from}
use Rattle.tr_mirror.specs.Faults.{AreSound}
use Rattle.tr_mirror.specs.Changes.{change_by, change_with, last_group}
use Rattle.tr_mirror.proofs.BoundLemmas.{header_len-is}
use Rattle.tr_mirror.proofs.ReadingLemmas.{header_of-append, record_len-append, next_free, read-append, read_failed, try_record}
use Rattle.tr_mirror.proofs.ShownLemmas.{no_cut, IsKept, IsKept-at_first, IsStep-next, IsReading-at_first, shown_from-append}
use Rattle.tr_mirror.proofs.RecordLemmas.{length-header_bytes, after_all-append}
use Rattle.tr_mirror.proofs.FaultLemmas.{front_none, front_whole, front_fault-append, is_unknown-append, pixels_of-append, known_begun, same_fault}
use Rattle.tr_mirror.proofs.ChangeLemmas.{change_push}
use Rattle.tr_mirror.proofs.RecordsOfLemmas.{records_are, records_few}

-- ---- the record at the front of some bytes

pub has_parts : (s : Standing) (bytes : List ℕ) → has_record s bytes ≡ true → (0 < length bytes) × (record_len bytes ≤ length bytes)
has_parts s bytes h =
    let p = and_parts (nat_lt 0 (length bytes) && nat_le (record_len bytes) (length bytes)) (is_none (front_fault s bytes)) h in
    let q = and_parts (nat_lt 0 (length bytes)) (nat_le (record_len bytes) (length bytes)) p.0 in
    (ltb-true 0 (length bytes) q.0, leb-true (record_len bytes) (length bytes) q.1)

-- with a fault, or before its last byte, there is no whole record without a fault
has_none : (s : Standing) (bytes : List ℕ) (f : StreamFault) → front_fault s bytes ≡ Some f → has_record s bytes ≡ false
has_none s bytes f fault =
    ap (λ o. nat_lt 0 (length bytes) && nat_le (record_len bytes) (length bytes) && is_none o) fault
    ∙ off (nat_lt 0 (length bytes) && nat_le (record_len bytes) (length bytes))
  where
    off : (a : Bool) → (a && false) ≡ false
    off true = refl
    off false = refl

has_part : (s : Standing) (bytes : List ℕ) → (0 < length bytes → length bytes < record_len bytes) → has_record s bytes ≡ false
has_part s bytes part = elim (cases_eq (length bytes) 0) [
  | inl e ↦ ap (λ b. b && nat_le (record_len bytes) (length bytes) && is_none (front_fault s bytes)) (le-ltb 0 (length bytes) (omega arith))
  | inr n ↦
      let some : length bytes ≢ 0 = n in
      ap (λ b. nat_lt 0 (length bytes) && b && is_none (front_fault s bytes)) (lt-leb (record_len bytes) (length bytes) (part (omega arith)))
      ∙ ap (λ b. b && is_none (front_fault s bytes)) (off (nat_lt 0 (length bytes)))
]
  where
    off : (a : Bool) → (a && false) ≡ false
    off true = refl
    off false = refl

-- a whole record stays one when more bytes come
module _ (s : Standing) (a b : List ℕ) (some : 0 < length a) (whole : length a ≡ record_len a) (none : front_fault s a ≡ None) where
  known : is_unknown a ≡ false
  known = known_begun s a some none

  head_on : header_of (a ++ b) ≡ header_of a
  head_on = header_of-append a b some (omega arith)

  len_on : record_len (a ++ b) ≡ record_len a
  len_on = record_len-append a b some (omega arith)

  pixels_on : pixels_of (a ++ b) ≡ drop (header_len a) a
  pixels_on = pixels_of-append a b some (omega arith)
      ∙ take_all (pixel_count (header_of a)) (drop (header_len a) a) (omega (arith, length-drop (header_len a) a))

  has_whole : has_record s (a ++ b) ≡ true
  has_whole =
      let all : List ℕ = a ++ b in
      let long = length-append a b in
      let fault : front_fault s all ≡ None =
      front_whole s all (omega arith) (is_unknown-append a b some ∙ known) (omega (arith, len_on))
      ∙ ap (λ x. or_fault (header_fault s x) (pixel_fault s (pixels_of all))) head_on
      ∙ ap (λ l. or_fault (header_fault s (header_of a)) (pixel_fault s l)) (pixels_of-append a b some (omega arith))
      ∙ sym (front_whole s a some known (omega arith)) ∙ none in
      and_from (nat_lt 0 (length all) && nat_le (record_len all) (length all)) (is_none (front_fault s all))
      (and_from (nat_lt 0 (length all)) (nat_le (record_len all) (length all)) (lt-ltb 0 (length all) (omega arith))
      (le-leb (record_len all) (length all) (omega (arith, len_on))))
      (ap (λ o. is_none o) fault)

  left_on : drop (record_len (a ++ b)) (a ++ b) ≡ b
  left_on = drop_at a b (record_len (a ++ b)) (whole ∙ sym len_on)

pub record_at_len : (s : Standing) (bytes : List ℕ) → has_record s bytes ≡ true → length (record_bytes (record_at bytes)) ≡ record_len bytes
record_at_len s bytes h =
    let reach = (has_parts s bytes h).1 in
    let px : List ℕ = drop (header_len bytes) bytes in
    omega (
      arith,
      length-append (header_bytes (header_of bytes)) (pixels_of bytes),
      length-header_bytes (header_of bytes),
      header_len-is bytes,
      length-take-le (pixel_count (header_of bytes)) px (omega (arith, length-drop (header_len bytes) bytes)),
    )

-- ---- a reader behind whole records

-- with these bytes behind them
abbrev stopped : Standing → Change → ℕ → List ℕ → Option StreamFault → Reading
stopped s change fed rest fault =
    let placed : Option MirrorFault = option_map (λ f. record { place = fed; fault = f }) fault in
    record { standing = s; changed = change; begun = if is_some placed then [] else rest; fed = fed; fault = placed }

stopped_none : (s : Standing) (change : Change) (fed : ℕ) (rest : List ℕ) (fault : Option StreamFault) → fault ≡ None →
    stopped s change fed rest fault ≡ record { standing = s; changed = change; begun = rest; fed = fed; fault = None }
stopped_none s change fed rest fault none = ap (λ o. stopped s change fed rest o) none

-- what records change, one after the other
abbrev changed_after : Standing → Change → List Record → Change
changed_after s change [] = change
changed_after s change (r ∷ rs) = changed_after (after_record s r.header r.pixels) (change_with r.header (change_before s change)) rs

abbrev behind : Standing → Change → ℕ → List ℕ → List Record → Reading
behind s change fed bytes rs =
    stopped (after_records s rs) (changed_after s change rs) (fed + length (spelled rs)) (drop (length (spelled rs)) bytes)
    (front_fault (after_records s rs) (drop (length (spelled rs)) bytes))

module _ (n : ℕ) (s : Standing) (bytes : List ℕ) where
  records_none : has_record s bytes ≡ false → records_within n s bytes ≡ []
  records_none none = by_count n
    where
      by_count : (k : ℕ) → records_within k s bytes ≡ []
      by_count zero = refl
      by_count (suc k) = rw none refl

  behind_none : (change : Change) (fed : ℕ) → has_record s bytes ≡ false →
      behind s change fed bytes (records_within n s bytes) ≡ stopped s change fed bytes (front_fault s bytes)
  behind_none change fed none = ap (λ rs. behind s change fed bytes rs) (records_none none)
      ∙ ap (λ k. stopped s change k bytes (front_fault s bytes)) (omega arith)

  records_some : has_record s bytes ≡ true →
      records_within (suc n) s bytes ≡ record_at bytes ∷ records_within n (after_record s (header_of bytes) (pixels_of bytes)) (drop (record_len bytes) bytes)
  records_some h = rw h refl

  behind_some : (change : Change) (fed : ℕ) → has_record s bytes ≡ true →
      behind s change fed bytes (records_within (suc n) s bytes)
      ≡ behind (after_record s (header_of bytes) (pixels_of bytes)) (change_with (header_of bytes) (change_before s change)) (fed + record_len bytes)
      (drop (record_len bytes) bytes)
      (records_within n (after_record s (header_of bytes) (pixels_of bytes)) (drop (record_len bytes) bytes))
  behind_some change fed h =
      let t : Standing = after_record s (header_of bytes) (pixels_of bytes) in
      let next : Change = change_with (header_of bytes) (change_before s change) in
      let left : List ℕ = drop (record_len bytes) bytes in
      let rs : List Record = records_within n t left in
      let u : Standing = after_records t rs in
      let more : Change = changed_after t next rs in
      let count : length (spelled (record_at bytes ∷ rs)) ≡ record_len bytes + length (spelled rs) =
      length-append (record_bytes (record_at bytes)) (spelled rs) ∙ ap (λ k. k + length (spelled rs)) (record_at_len s bytes h) in
      let rest : drop (length (spelled (record_at bytes ∷ rs))) bytes ≡ drop (length (spelled rs)) left =
      ap (λ k. drop k bytes) count ∙ sym (drop-drop (length (spelled rs)) (record_len bytes) bytes) in
      ap (λ l. behind s change fed bytes l) (records_some h)
      ∙ ap (λ l. stopped u more (fed + length (spelled (record_at bytes ∷ rs))) l (front_fault u l)) rest
      ∙ ap (λ k. stopped u more k (drop (length (spelled rs)) left) (front_fault u (drop (length (spelled rs)) left))) (omega (arith, count))

behind_same : (n : ℕ) (s : Standing) (change : Change) (fed : ℕ) (g h : Header) (p q : List ℕ) (j k : ℕ) (l m : List ℕ) → g ≡ h → p ≡ q → j ≡ k → l ≡ m →
    behind (after_record s g p) (change_with g (change_before s change)) (fed + j) l (records_within n (after_record s g p) l)
    ≡ behind (after_record s h q) (change_with h (change_before s change)) (fed + k) m (records_within n (after_record s h q) m)
behind_same n s change fed g h p q j k l m a b c d =
    ap (λ x. behind (after_record s x p) (change_with x (change_before s change)) (fed + j) l (records_within n (after_record s x p) l)) a
    ∙ ap (λ x. behind (after_record s h x) (change_with h (change_before s change)) (fed + j) l (records_within n (after_record s h x) l)) b
    ∙ ap (λ x. behind (after_record s h q) (change_with h (change_before s change)) (fed + x) l (records_within n (after_record s h q) l)) c
    ∙ ap (λ x. behind (after_record s h q) (change_with h (change_before s change)) (fed + k) x (records_within n (after_record s h q) x)) d

shown_same : (n : ℕ) (s : Standing) (g h : Header) (p q l m : List ℕ) → g ≡ h → p ≡ q → l ≡ m →
    screens_by s (record { header = g; pixels = p } ∷ records_within n (after_record s g p) l)
    ≡ screens_by s (record { header = h; pixels = q } ∷ records_within n (after_record s h q) m)
shown_same n s g h p q l m a b c =
    ap (λ x. screens_by s (record { header = x; pixels = p } ∷ records_within n (after_record s x p) l)) a
    ∙ ap (λ x. screens_by s (record { header = h; pixels = x } ∷ records_within n (after_record s h x) l)) b
    ∙ ap (λ x. screens_by s (record { header = h; pixels = q } ∷ records_within n (after_record s h q) x)) c

-- ---- byte by byte

-- what is read of these bytes, and shown
record Runs (n : ℕ) (m : Reading) (bytes all : List ℕ) : Type 0 where
  read : after_bytes m bytes ≡ behind m.standing m.changed m.fed all (records_within n m.standing all)
  shows : shown_from m bytes ≡ screens_by m.standing (records_within n m.standing all)

shown_failed : (m : Reading) (xs : List ℕ) → is_some m.fault ≡ true → shown_from m xs ≡ []
shown_failed m [] failed = refl
shown_failed m (x ∷ xs) failed =
    let stays : after_byte m x ≡ m = ap (λ b. if b then m else tried m (m.begun ++ x ∷ [])) failed in
    ap (λ (n : Reading). cut_between m.standing n.standing ++ shown_from n xs) stays
    ∙ ap (λ l. l ++ shown_from m xs) (no_cut m.standing m.standing refl) ∙ shown_failed m xs failed

part_by : (a : List ℕ) → 0 < length a → length a < try_len a → length a < record_len a
part_by a some short = elim (cases_lt (length a) (header_len a)) [ inl h ↦ omega arith | inr h ↦ omega (arith, try_record a some h) ]

byte_judged : (m : Reading) (b : ℕ) → m.fault ≡ None → IsReading m → front_fault m.standing m.begun ≡ None →
    after_byte m b ≡ judged m (m.begun ++ b ∷ []) (front_fault m.standing (m.begun ++ b ∷ []))
unfolding tried
byte_judged m b free w clean = next_free m b free ∙ ap (λ o. judged m (m.begun ++ b ∷ []) o) (same_fault m b w clean)

-- a byte more comes, and what comes behind it is known
module _ (m : Reading) (b : ℕ) (bytes : List ℕ) (w : IsReading m) (free : m.fault ≡ None) (clean : front_fault m.standing m.begun ≡ None)
    (later : (k : ℕ) (u : Reading) → IsReading u → u.fault ≡ None → front_fault u.standing u.begun ≡ None →
    length u.begun + length bytes ≤ k → Runs k u bytes (u.begun ++ bytes)) where
  abbrev s : Standing
  s = m.standing

  abbrev a : List ℕ
  a = m.begun ++ b ∷ []

  some : 0 < length a
  some = omega (arith, length-append m.begun (b ∷ []))

  run_failed : (n : ℕ) (f : StreamFault) → front_fault s a ≡ Some f → Runs n m (b ∷ bytes) (a ++ bytes)
  run_failed n f is =
      let step : after_byte m b ≡ failed m f = byte_judged m b free w clean ∙ ap (λ o. judged m a o) is in
      let fault : front_fault s (a ++ bytes) ≡ Some f = front_fault-append s a bytes f is in
      let none : has_record s (a ++ bytes) ≡ false = has_none s (a ++ bytes) f fault in
      record {
        read = ap (λ x. after_bytes x bytes) step ∙ read_failed (failed m f) bytes refl
            ∙ ap (λ o. stopped s m.changed m.fed (a ++ bytes) o) (sym fault)
            ∙ sym (behind_none n s (a ++ bytes) m.changed m.fed none);
        shows = ap (λ (x : Reading). cut_between s x.standing ++ shown_from x bytes) step
            ∙ ap (λ l. l ++ shown_from (failed m f) bytes) (no_cut s s refl) ∙ shown_failed (failed m f) bytes refl
            ∙ ap (λ rs. screens_by s rs) (sym (records_none n s (a ++ bytes) none));
      }

  run_open : (n : ℕ) → length a + length bytes ≤ n → front_fault s a ≡ None → (length a ≡ record_len a → ⊥) → Runs n m (b ∷ bytes) (a ++ bytes)
  run_open n few is part =
      let u : Reading = unfinished m a in
      let step : after_byte m b ≡ u = byte_judged m b free w clean ∙ ap (λ o. judged m a o) is
      ∙ ap (λ t. if t then record_taken m a else unfinished m a) (ne_eqb (length a) (record_len a) part) in
      let more : Runs n u bytes (a ++ bytes) = later n u (subst IsReading step (IsStep-next m b w).reading) free is few in
      record {
        read = ap (λ x. after_bytes x bytes) step ∙ more.read;
        shows = ap (λ (x : Reading). cut_between s x.standing ++ shown_from x bytes) step
            ∙ ap (λ l. l ++ shown_from u bytes) (no_cut s s refl) ∙ more.shows;
      }

  run_taken : (n : ℕ) → length a + length bytes ≤ n → front_fault s a ≡ None → length a ≡ record_len a → Runs n m (b ∷ bytes) (a ++ bytes)
  run_taken zero few is whole = absurd (let some : 0 < length a = some in omega arith)
  run_taken (suc n) few is whole =
      let px : List ℕ = drop (header_len a) a in
      let u : Reading = record_taken m a in
      let step : after_byte m b ≡ u = byte_judged m b free w clean ∙ ap (λ o. judged m a o) is
      ∙ ap (λ t. if t then record_taken m a else unfinished m a) (eq-eqb (length a) (record_len a) whole) in
      let less : 0 + length bytes ≤ n = let some : 0 < length a = some in omega arith in
      let more : Runs n u bytes bytes = later n u (subst IsReading step (IsStep-next m b w).reading) free (front_none u.standing [] refl) less in
      let has : has_record s (a ++ bytes) ≡ true = has_whole s a bytes some whole is in
      let head : header_of (a ++ bytes) ≡ header_of a = head_on s a bytes some whole is in
      let pixels : pixels_of (a ++ bytes) ≡ px = pixels_on s a bytes some whole is in
      let left : drop (record_len (a ++ bytes)) (a ++ bytes) ≡ bytes = left_on s a bytes some whole is in
      let len : record_len (a ++ bytes) ≡ length a = len_on s a bytes some whole is ∙ sym whole in
      let t : Standing = after_record s (header_of a) px in
      let c : Change = change_with (header_of a) (change_before s m.changed) in
      let taken : (h : Header) (p : List ℕ) (k : ℕ) (l : List ℕ) → header_of (a ++ bytes) ≡ h → pixels_of (a ++ bytes) ≡ p → record_len (a ++ bytes) ≡ k →
      drop (record_len (a ++ bytes)) (a ++ bytes) ≡ l →
      behind s m.changed m.fed (a ++ bytes) (records_within (suc n) s (a ++ bytes))
      ≡ behind (after_record s h p) (change_with h (change_before s m.changed)) (m.fed + k) l (records_within n (after_record s h p) l) =
      λ h p k l e f g i. behind_some n s (a ++ bytes) m.changed m.fed has ∙ behind_same n s m.changed m.fed _ h _ p _ k _ l e f g i in
      record {
        read = ap (λ x. after_bytes x bytes) step ∙ more.read ∙ sym (taken (header_of a) px (length a) bytes head pixels len left);
        shows = ap (λ (x : Reading). cut_between s x.standing ++ shown_from x bytes) step
            ∙ ap (λ l. cut_between s t ++ l) more.shows
            ∙ sym (ap (λ rs. screens_by s rs) (records_some n s (a ++ bytes) has) ∙ shown_same n s _ (header_of a) _ px _ bytes head pixels left);
      }

  run_byte : (n : ℕ) → length a + length bytes ≤ n → Runs n m (b ∷ bytes) (a ++ bytes)
  run_byte n few = by_fault (front_fault s a) refl
    where
      by_fault : (o : Option StreamFault) → front_fault s a ≡ o → Runs n m (b ∷ bytes) (a ++ bytes)
      by_fault (Some f) is = run_failed n f is
      by_fault None is = elim (cases_eq (length a) (record_len a)) [ inl whole ↦ run_taken n few is whole | inr part ↦ run_open n few is part ]

runs : (n : ℕ) (m : Reading) (bytes : List ℕ) → IsReading m → m.fault ≡ None → front_fault m.standing m.begun ≡ None →
    length m.begun + length bytes ≤ n → Runs n m bytes (m.begun ++ bytes)
runs n m [] w free clean few =
    let none : has_record m.standing m.begun ≡ false = has_part m.standing m.begun (λ some. part_by m.begun some w.short) in
    let is : m ≡ stopped m.standing m.changed m.fed m.begun (front_fault m.standing m.begun) =
    ap (λ o. record { standing = m.standing; changed = m.changed; begun = m.begun; fed = m.fed; fault = o }) free
    ∙ sym (stopped_none m.standing m.changed m.fed m.begun (front_fault m.standing m.begun) clean) in
    rw (append-nil m.begun) (record {
      read = is ∙ sym (behind_none n m.standing m.begun m.changed m.fed none);
      shows = ap (λ rs. screens_by m.standing rs) (sym (records_none n m.standing m.begun none));
    })
runs n m (b ∷ bytes) w free clean few =
    subst (λ l. Runs n m (b ∷ bytes) l) (append_assoc m.begun (b ∷ []) bytes)
    (run_byte m b bytes w free clean (λ k u. runs k u bytes) n (omega (arith, length-append m.begun (b ∷ []))))

-- ---- a stream

changed_more : (done rs : List Record) →
    changed_after (after_records stream_start done) (change_by (last_group done)) rs ≡ change_by (last_group (done ++ rs))
changed_more done [] = ap (λ l. change_by (last_group l)) (sym (append-nil done))
changed_more done (r ∷ rs) =
    let s : Standing = after_records stream_start done in
    ap (λ c. changed_after (after_record s r.header r.pixels) c rs) (sym (change_push stream_start done r refl))
    ∙ ap (λ t. changed_after t (change_by (last_group (done ++ r ∷ []))) rs) (sym (after_all-append stream_start done (r ∷ [])))
    ∙ changed_more (done ++ r ∷ []) rs ∙ ap (λ l. change_by (last_group l)) (append_assoc done (r ∷ []) rs)

module _ (stream : List ℕ) where
  from_first : Runs (length stream) at_first stream stream
  from_first = runs (length stream) at_first stream IsReading-at_first refl (front_none stream_start [] refl) (omega arith)

  -- the reading by records is that byte by byte
  pub run_is : after_bytes at_first stream ≡ reading_of stream
  run_is =
      let rs : List Record = records_of stream in
      let t : Standing = after_records stream_start rs in
      let c : Change = changed_after stream_start Nothing rs in
      let none : 0 + length (spelled rs) ≡ place_behind stream = omega arith in
      let same : c ≡ change_by (last_group rs) = changed_more [] rs in
      from_first.read
      ∙ ap (λ k. stopped t c k (rest_of stream) (front_fault t (rest_of stream))) none
      ∙ ap (λ x. stopped t x (place_behind stream) (rest_of stream) (front_fault t (rest_of stream))) same

  pub shown_is : shown_from at_first stream ≡ screens_shown stream
  shown_is = from_first.shows

  -- what every stream's reading has
  pub IsKept-reading_of : IsKept (reading_of stream) (screens_shown stream)
  IsKept-reading_of = subst (λ l. IsKept (reading_of stream) l) shown_is
      (subst (λ m. IsKept m (shown_from at_first stream)) run_is (IsKept-at_first stream))

pub first_is : at_first ≡ reading_of []
first_is = run_is []

module _ (stream more : List ℕ) where
  -- more bytes come
  pub reading_on : after_bytes (reading_of stream) more ≡ reading_of (stream ++ more)
  reading_on = ap (λ m. after_bytes m more) (sym (run_is stream)) ∙ sym (read-append at_first stream more) ∙ run_is (stream ++ more)

  pub shown_on : screens_shown (stream ++ more) ≡ screens_shown stream ++ shown_from (reading_of stream) more
  shown_on = sym (shown_is (stream ++ more)) ∙ shown_from-append at_first stream more
      ∙ ap (λ l. l ++ shown_from (after_bytes at_first stream) more) (shown_is stream)
      ∙ ap (λ m. screens_shown stream ++ shown_from m more) (run_is stream)

  -- behind a fault they change nothing
  pub reading_stays : is_some (fault_in stream) ≡ true → reading_of (stream ++ more) ≡ reading_of stream
  reading_stays some = sym reading_on ∙ read_failed (reading_of stream) more some

-- whole records come to a reader for which no record has begun
module _ (m : Reading) (rs : List Record) (w : IsReading m) (free : m.fault ≡ None) (empty : m.begun ≡ []) (sound : AreSound m.standing rs) where
  within_is : records_within (length (spelled rs)) m.standing (m.begun ++ spelled rs) ≡ rs
  within_is = ap (λ l. records_within (length (spelled rs)) m.standing (l ++ spelled rs)) empty
      ∙ ap (λ l. records_within (length (spelled rs)) m.standing l) (sym (append-nil (spelled rs)))
      ∙ records_are (length (spelled rs)) m.standing rs [] sound (records_few rs) refl

  they_run : Runs (length (spelled rs)) m (spelled rs) (m.begun ++ spelled rs)
  they_run = runs (length (spelled rs)) m (spelled rs) w free (ap (λ l. front_fault m.standing l) empty ∙ front_none m.standing [] refl)
      (omega (arith, ap (λ l. length l) empty))

  pub shown_more : shown_from m (spelled rs) ≡ screens_by m.standing rs
  shown_more = they_run.shows ∙ ap (λ l. screens_by m.standing l) within_is

  more_is : after_bytes m (spelled rs) ≡ behind m.standing m.changed m.fed (spelled rs) rs
  more_is = they_run.read ∙ ap (λ l. behind m.standing m.changed m.fed (m.begun ++ spelled rs) l) within_is
      ∙ ap (λ l. behind m.standing m.changed m.fed (l ++ spelled rs) rs) empty

  left_none : drop (length (spelled rs)) (spelled rs) ≡ []
  left_none = drop-length (spelled rs)

  end_is : after_bytes m (spelled rs) ≡ record {
    standing = after_records m.standing rs;
    changed = changed_after m.standing m.changed rs;
    begun = drop (length (spelled rs)) (spelled rs);
    fed = m.fed + length (spelled rs);
    fault = None;
  }
  end_is = more_is ∙ stopped_none (after_records m.standing rs) (changed_after m.standing m.changed rs) (m.fed + length (spelled rs))
      (drop (length (spelled rs)) (spelled rs)) (front_fault (after_records m.standing rs) (drop (length (spelled rs)) (spelled rs)))
      (ap (λ l. front_fault (after_records m.standing rs) l) left_none ∙ front_none (after_records m.standing rs) [] refl)

  pub standing_more : (after_bytes m (spelled rs)).standing ≡ after_records m.standing rs
  standing_more = ap (λ (n : Reading). n.standing) end_is

  pub whole_more : ((after_bytes m (spelled rs)).fault ≡ None) × ((after_bytes m (spelled rs)).begun ≡ [])
  whole_more = (ap (λ (n : Reading). n.fault) end_is, ap (λ (n : Reading). n.begun) end_is ∙ left_none)
