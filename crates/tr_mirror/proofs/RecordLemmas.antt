-- Records that are spelled are read, one after the other.
use Rattle.std.proofs.Common.{◌≡◌, ◌≢◌, ℕ, ◌+◌, ◌<◌, ◌≤◌, ◌&&◌, false, not, nat_le, List, [], ◌∷◌, ◌++◌, length, take, drop, None, refl, sym, ap, subst, ◌∙◌, arith, inl, inr, append_assoc, length-append}
use Rattle.std.proofs.lemmas.Bool.{ne_eqb, eq-eqb, cases_eq}
use Rattle.std.proofs.lemmas.List.{append-nil, take-append-drop, length-take-le, length-drop, nil_from_length}
use Rattle.std.proofs.lemmas.Nat.{from_be_bytes-to_be_bytes_2, from_be_bytes-to_be_bytes_4}
use Rattle.tr_mirror.specs.declared.headers.Segment.{Segment}
use Rattle.tr_mirror.specs.declared.headers.Header.{Header}
use Rattle.tr_mirror.specs.declared.headers.Header.TheVariants.{Screen, Run, Fill, Cut}
use Rattle.tr_mirror.specs.Headers.{tag_of, header_len, header_of, header_bytes, record_len, pixel_count, short_at, long_at}
use Rattle.tr_mirror.specs.Standings.{Standing, after_record, header_fault, pixel_fault}
use Rattle.tr_mirror.specs.Readings.{Reading, cut_between, screens_by}
use Rattle.tr_mirror.specs.Automata.{record_fault, record_taken, unfinished, tried, after_byte, after_bytes, try_len, shown_from}
use Rattle.tr_mirror.specs.Records.{Record, is_unknown, after_records}
use Rattle.tr_mirror.specs.Faults.{IsSpellable, AreSound}
use Rattle.tr_mirror.specs.Pieces.{IsFaultless}
use Rattle.tr_mirror.proofs.ReadingLemmas.{tag_of-append, header_len_range, header_len-append, header_of-append, waits, gathers, next_free, read-append, IsQuiet, IsQuiet-append, try_first, try_header, try_record, tried_again}
use Rattle.tr_mirror.proofs.BoundLemmas.{len_of}
use Rattle.tr_mirror.proofs.ShownLemmas.{no_cut, shown_from-append}

-- ---- a header is read as it was spelled

same_screen : (a b c d k : ℕ) → a ≡ c → b ≡ d → Screen a b k ≡ Screen c d k
same_screen a b c d k e f = ap (λ x. Screen x b k) e ∙ ap (λ x. Screen c x k) f

same_segment : (s : Segment) (a b c : ℕ) → a ≡ s.west → b ≡ s.v → c ≡ s.count → record { west = a; v = b; count = c } ≡ s
same_segment s a b c e f g = ap (λ x. record { west = x; v = b; count = c }) e ∙ ap (λ x. record { west = s.west; v = x; count = c }) f
    ∙ ap (λ x. record { west = s.west; v = s.v; count = x }) g

pub header_again : (h : Header) (rest : List ℕ) → IsSpellable h → header_of (header_bytes h ++ rest) ≡ h
unfolding header_of header_bytes short_at long_at
header_again (Screen wide high kind) rest f = same_screen _ _ wide high kind (from_be_bytes-to_be_bytes_2 wide f.0) (from_be_bytes-to_be_bytes_2 high f.1)
header_again (Run s) rest f = ap (λ x. Run x) (same_segment s _ _ _ (from_be_bytes-to_be_bytes_2 s.west f.west) (from_be_bytes-to_be_bytes_2 s.v f.v)
    (from_be_bytes-to_be_bytes_2 s.count f.count))
header_again (Fill s) rest f = ap (λ x. Fill x) (same_segment s _ _ _ (from_be_bytes-to_be_bytes_2 s.west f.west) (from_be_bytes-to_be_bytes_2 s.v f.v)
    (from_be_bytes-to_be_bytes_2 s.count f.count))
header_again (Cut number) rest f = ap (λ x. Cut x) (from_be_bytes-to_be_bytes_4 number f)

pub length-header_bytes : (h : Header) → length (header_bytes h) ≡ len_of h
unfolding header_bytes
length-header_bytes (Screen wide high kind) = refl
length-header_bytes (Run segment) = refl
length-header_bytes (Fill segment) = refl
length-header_bytes (Cut number) = refl

known : (h : Header) (rest : List ℕ) → is_unknown (header_bytes h ++ rest) ≡ false
unfolding header_bytes
known (Screen wide high kind) rest = refl
known (Run segment) rest = refl
known (Fill segment) rest = refl
known (Cut number) rest = refl

-- ---- bytes that are read, of which at most the last ends a record

pub record Reads (m : Reading) (bytes : List ℕ) (n : Reading) : Type 0 where
  pub read : after_bytes m bytes ≡ n
  pub shown : shown_from m bytes ≡ cut_between m.standing n.standing

pub gathers_shown : (m : Reading) (front : List ℕ) → m.fault ≡ None → 0 < length front → length m.begun + length front ≤ try_len m.begun →
    shown_from m front ≡ cut_between m.standing (tried m (m.begun ++ front)).standing
gathers_shown m [] free some reach = absurd (omega arith)
gathers_shown m (b ∷ []) free some reach =
    append-nil (cut_between m.standing (after_byte m b).standing) ∙ ap (λ n. cut_between m.standing n.standing) (next_free m b free)
gathers_shown m (b ∷ c ∷ rest) free some reach =
    let a : List ℕ = m.begun in
    let one : List ℕ = b ∷ [] in
    let begins : 0 < length a = elim (cases_eq (length a) 0) as (λ _. 0 < length a) [ inl e ↦ absurd (omega (arith, try_first a e)) | inr n ↦ omega arith ] in
    let q : IsQuiet a one = IsQuiet-append a one begins (omega arith) (omega arith) in
    let n : Reading = unfinished m (a ++ one) in
    let step : after_byte m b ≡ n = next_free m b free ∙ waits m (a ++ one) q.long q.no_header q.no_record in
    let ih = gathers_shown n (c ∷ rest) free (omega arith) (omega (arith, length-append a one, q.next)) in
    ap (λ x. cut_between m.standing x.standing ++ shown_from x (c ∷ rest)) step
    ∙ ap (λ l. l ++ shown_from n (c ∷ rest)) (no_cut m.standing m.standing refl)
    ∙ ih ∙ ap (λ x. cut_between m.standing x.standing) (tried_again m (a ++ one) ((a ++ one) ++ (c ∷ rest))
    ∙ ap (λ l. tried m l) (append_assoc a one (c ∷ rest)))

Reads-front : (m : Reading) (front : List ℕ) → m.fault ≡ None → 0 < length front → length m.begun + length front ≤ try_len m.begun →
    Reads m front (tried m (m.begun ++ front))
Reads-front m front free some reach = record { read = gathers m front free some reach; shown = gathers_shown m front free some reach }

Reads-then : (m n o : Reading) (xs ys : List ℕ) → Reads m xs n → n.standing ≡ m.standing → Reads n ys o → Reads m (xs ++ ys) o
Reads-then m n o xs ys f same g = record {
  read = read-append m xs ys ∙ ap (λ x. after_bytes x ys) f.read ∙ g.read;
  shown = shown_from-append m xs ys
      ∙ ap (λ l. l ++ shown_from (after_bytes m xs) ys) (f.shown ∙ no_cut m.standing n.standing (ap (λ (s : Standing). s.cuts) (sym same)))
      ∙ ap (λ x. shown_from x ys) f.read ∙ g.shown ∙ ap (λ (s : Standing). cut_between s o.standing) same;
}

-- ---- the faults that a record's bytes show

fault_first : (s : Standing) (bytes : List ℕ) → length bytes ≡ 1 → is_unknown bytes ≡ false → record_fault s bytes ≡ None
unfolding record_fault
fault_first s bytes one known = rw (eq-eqb (length bytes) 1 one, known) refl

fault_header : (s : Standing) (bytes : List ℕ) → 1 < length bytes → length bytes ≡ header_len bytes → record_fault s bytes ≡ header_fault s (header_of bytes)
unfolding record_fault
fault_header s bytes long whole = rw (ne_eqb (length bytes) 1 (λ e. omega arith), eq-eqb (length bytes) (header_len bytes) whole) refl

fault_pixels : (s : Standing) (bytes : List ℕ) → header_len bytes < length bytes → length bytes ≡ record_len bytes →
    record_fault s bytes ≡ pixel_fault s (drop (header_len bytes) bytes)
unfolding record_fault
fault_pixels s bytes long whole =
    let least = (header_len_range bytes).0 in
    rw (
      ne_eqb (length bytes) 1 (λ e. omega arith),
      ne_eqb (length bytes) (header_len bytes) (λ e. omega arith),
      eq-eqb (length bytes) (record_len bytes) whole,
    ) refl

takes : (m : Reading) (bytes : List ℕ) → record_fault m.standing bytes ≡ None → length bytes ≡ record_len bytes → tried m bytes ≡ record_taken m bytes
unfolding tried
takes m bytes none whole = rw (none, eq-eqb (length bytes) (record_len bytes) whole) refl

waits_for : (m : Reading) (bytes : List ℕ) → record_fault m.standing bytes ≡ None → (length bytes ≡ record_len bytes → ⊥) → tried m bytes ≡ unfinished m bytes
unfolding tried
waits_for m bytes none part = rw (none, ne_eqb (length bytes) (record_len bytes) part) refl

-- ---- a whole record

-- the bytes of a record's header, and what they say
record IsHeader (hb bytes : List ℕ) : Type 0 where
  len : length hb ≡ header_len bytes
  same : header_len hb ≡ header_len bytes
  is : header_of hb ≡ header_of bytes
  known : is_unknown (take 1 hb) ≡ is_unknown bytes

IsHeader-front : (bytes : List ℕ) → header_len bytes ≤ length bytes → IsHeader (take (header_len bytes) bytes) bytes
IsHeader-front bytes within =
    let hb : List ℕ = take (header_len bytes) bytes in
    let px : List ℕ = drop (header_len bytes) bytes in
    let a : List ℕ = take 1 hb in
    let b : List ℕ = drop 1 hb in
    let least = (header_len_range bytes).0 in
    let len : length hb ≡ header_len bytes = length-take-le (header_len bytes) bytes within in
    let whole : hb ++ px ≡ bytes = take-append-drop (header_len bytes) bytes in
    let one : length a ≡ 1 = length-take-le 1 hb (omega arith) in
    let same : header_len hb ≡ header_len bytes = sym (header_len-append hb px (omega arith)) ∙ ap (λ l. header_len l) whole in
    let tag : tag_of a ≡ tag_of bytes = sym (tag_of-append a b (omega arith)) ∙ ap (λ l. tag_of l) (take-append-drop 1 hb)
    ∙ sym (tag_of-append hb px (omega arith)) ∙ ap (λ l. tag_of l) whole in
    record {
      len = len;
      same = same;
      is = sym (header_of-append hb px (omega arith) (omega arith)) ∙ ap (λ l. header_of l) whole;
      known = ap (λ t. not (nat_le 1 t && nat_le t 4)) tag;
    }

module _ (m : Reading) (bytes : List ℕ) (free : m.fault ≡ None) (none : m.begun ≡ []) (f : IsFaultless m.standing bytes) where
  to_header : (hb : List ℕ) → IsHeader hb bytes → Reads m hb (tried m hb)
  to_header hb k =
      let a : List ℕ = take 1 hb in
      let b : List ℕ = drop 1 hb in
      let least = (header_len_range bytes).0 in
      let one : length a ≡ 1 = length-take-le 1 hb (omega (arith, k.len)) in
      let rest = length-drop 1 hb in
      let whole : a ++ b ≡ hb = take-append-drop 1 hb in
      let same : header_len a ≡ header_len hb = sym (ap (λ l. header_len l) (sym whole) ∙ header_len-append a b (omega arith)) in
      let quiet = fault_first m.standing a one (k.known ∙ f.known) in
      let empty : length m.begun ≡ 0 = ap (λ l. length l) none in
      let front : Reads m a (tried m (m.begun ++ a)) = Reads-front m a free (omega arith) (omega (arith, try_first m.begun empty)) in
      let first : Reads m a (unfinished m a) =
      subst (λ n. Reads m a n) (ap (λ l. tried m (l ++ a)) none ∙ waits_for m a quiet (λ e. omega (arith, k.len, k.same))) front in
      let second : Reads (unfinished m a) b (tried (unfinished m a) (a ++ b)) =
      Reads-front (unfinished m a) b free (omega (arith, k.len)) (omega (arith, k.len, k.same, try_header a (omega arith) (omega (arith, k.same)))) in
      let second_is : Reads (unfinished m a) b (tried m hb) =
      subst (λ n. Reads (unfinished m a) b n) (tried_again m a (a ++ b) ∙ ap (λ l. tried m l) whole) second in
      subst (λ l. Reads m l (tried m hb)) whole (Reads-then m (unfinished m a) (tried m hb) a b first refl second_is)

  -- what is known of its bytes
  record IsWhole : Type 0 where
    tried : Reads m bytes (tried m bytes)
    clean : record_fault m.standing bytes ≡ None

  to_end : IsWhole
  to_end =
      let hb : List ℕ = take (header_len bytes) bytes in
      let px : List ℕ = drop (header_len bytes) bytes in
      let least = (header_len_range bytes).0 in
      let k : IsHeader hb bytes = IsHeader-front bytes (omega (arith, f.whole)) in
      let all : hb ++ px ≡ bytes = take-append-drop (header_len bytes) bytes in
      let count = length-drop (header_len bytes) bytes in
      let sound : record_fault m.standing hb ≡ None =
      fault_header m.standing hb (omega (arith, k.len)) (k.len ∙ sym k.same) ∙ ap (λ x. header_fault m.standing x) k.is ∙ f.header in
      elim (cases_eq (length px) 0) [
        | inl e ↦
            let same : hb ≡ bytes = sym (ap (λ l. hb ++ l) (nil_from_length px e) ∙ append-nil hb) ∙ all in
            record { tried = subst (λ l. Reads m l (tried m l)) same (to_header hb k); clean = ap (λ l. record_fault m.standing l) (sym same) ∙ sound }
        | inr n ↦
            let more : length px ≢ 0 = n in
            let part : length hb ≡ record_len hb → ⊥ = λ e. omega (arith, k.len, k.same, ap (λ x. pixel_count x) k.is, f.whole) in
            let first : Reads m hb (unfinished m hb) = subst (λ x. Reads m hb x) (waits_for m hb sound part) (to_header hb k) in
            let reach : length hb + length px ≤ try_len hb =
            omega (arith, k.len, k.same, ap (λ x. pixel_count x) k.is, f.whole, try_record hb (omega (arith, k.len)) (omega (arith, k.len, k.same))) in
            let second : Reads (unfinished m hb) px (tried (unfinished m hb) (hb ++ px)) = Reads-front (unfinished m hb) px free (omega arith) reach in
            let second_is : Reads (unfinished m hb) px (tried m bytes) =
            subst (λ x. Reads (unfinished m hb) px x) (tried_again m hb (hb ++ px) ∙ ap (λ l. tried m l) all) second in
            record {
              tried = subst (λ l. Reads m l (tried m bytes)) all (Reads-then m (unfinished m hb) (tried m bytes) hb px first refl second_is);
              clean = fault_pixels m.standing bytes (omega arith) f.whole ∙ f.pixels;
            }
      ]

  -- it is put on
  pub Reads-faultless : Reads m bytes (record_taken m bytes)
  Reads-faultless = subst (λ x. Reads m bytes x) (takes m bytes to_end.clean f.whole) to_end.tried

-- ---- records one after the other

pub after_all-append : (s : Standing) (xs ys : List Record) → after_records s (xs ++ ys) ≡ after_records (after_records s xs) ys
after_all-append s [] ys = refl
after_all-append s (x ∷ xs) ys = after_all-append (after_record s x.header x.pixels) xs ys

pub AreSound-append : (s : Standing) (xs ys : List Record) → AreSound s xs → AreSound (after_records s xs) ys → AreSound s (xs ++ ys)
AreSound-append s [] ys a b = b
AreSound-append s (x ∷ xs) ys a b = (a.0, AreSound-append (after_record s x.header x.pixels) xs ys a.1 b)

pub screens_by-append : (s : Standing) (xs ys : List Record) → screens_by s (xs ++ ys) ≡ screens_by s xs ++ screens_by (after_records s xs) ys
screens_by-append s [] ys = refl
screens_by-append s (x ∷ xs) ys =
    let t : Standing = after_record s x.header x.pixels in
    ap (λ l. cut_between s t ++ l) (screens_by-append t xs ys) ∙ sym (append_assoc (cut_between s t) (screens_by t xs) (screens_by (after_records t xs) ys))
