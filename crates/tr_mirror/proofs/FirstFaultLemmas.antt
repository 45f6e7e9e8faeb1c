-- The first fault of a stream is the one that the table names.
use Rattle.std.proofs.Common.{◌≡◌, ℕ, ◌<◌, ◌==◌, ◌&&◌, not, Bool, true, false, List, [], length, Option, Some, None, option_map, refl, sym, ap, ◌∙◌, arith, inl, inr, ◌⊎◌, if◌then◌else◌, is_none, is_some, nat_lt, nat_le}
use Rattle.std.proofs.lemmas.Bool.{and_cases, and_left, and_right, ltb-true, ltb-false, lt-ltb, le-ltb, leb-false, lt-leb, ne_eqb, eqb-false, cases_eq, not-false, not_from_true}
use Rattle.std.proofs.lemmas.Option.{same_Some}
use Rattle.tr_mirror.specs.declared.faults.MirrorFault.{MirrorFault}
use Rattle.tr_mirror.specs.declared.faults.StreamFault.{StreamFault}
use Rattle.tr_mirror.specs.declared.faults.StreamFault.TheVariants.{Unfinished, TooMany}
use Rattle.tr_mirror.specs.Headers.{record_len}
use Rattle.tr_mirror.specs.Standings.{Standing, stream_start}
use Rattle.tr_mirror.specs.Records.{Record, IsBytes, spelled, after_records, front_fault, has_record, records_of, standing_of, rest_of, fault_in}
use Rattle.tr_mirror.specs.Readings.{Reading, reading_of, is_between, longest_stream, fault_at_end, first_fault}
use Rattle.tr_mirror.specs.Laws.{IsFirstFault, IsUnfinished, IsFaultOf}
use Rattle.tr_mirror.proofs.RecordsOfLemmas.{IsAllOf, records_of-is, rest_of-is, records_of-all}

-- ---- the fault of the record behind all others

abbrev pub fault_by : ℕ → Option StreamFault → Option MirrorFault
fault_by place o = option_map (λ fault. record { place = place; fault = fault }) o

pub fault_in-is : (stream : List ℕ) (rs : List Record) (rest : List ℕ) → IsAllOf stream rs rest →
    fault_in stream ≡ fault_by (length (spelled rs)) (front_fault (after_records stream_start rs) rest)
fault_in-is stream rs rest a =
    ap (λ l. fault_by (length (spelled l)) (front_fault (after_records stream_start l) (rest_of stream))) (records_of-is stream rs rest a)
    ∙ ap (λ l. fault_by (length (spelled rs)) (front_fault (after_records stream_start rs) l)) (rest_of-is stream rs rest a)

fault_parts : (place : ℕ) (o : Option StreamFault) (f : MirrorFault) → fault_by place o ≡ Some f → (o ≡ Some f.fault) × (f.place ≡ place)
fault_parts place None f h = absurd (cc)
fault_parts place (Some g) f h =
    let same : record { place = place; fault = g } ≡ f = same_Some _ _ h in (
      ap (λ (x : MirrorFault). Some x.fault) same,
      sym (ap (λ (x : MirrorFault). x.place) same),
    )

no_front : (place : ℕ) (o : Option StreamFault) → fault_by place o ≡ None → o ≡ None
no_front place None h = refl
no_front place (Some g) h = absurd (cc)

shown_none : (s : Standing) (rest : List ℕ) (g : StreamFault) → front_fault s rest ≡ Some g → has_record s rest ≡ false
shown_none s rest g is = and_right (nat_lt 0 (length rest) && nat_le (record_len rest) (length rest)) (is_none (front_fault s rest)) (ap (λ o. is_none o) is)

-- what is shown so far is by the table, and what the table names is shown
pub fault_is_first : (stream : List ℕ) (f : MirrorFault) → IsBytes stream → fault_in stream ≡ Some f → IsFirstFault stream f
fault_is_first stream f k is =
    let a : IsAllOf stream (records_of stream) (rest_of stream) = records_of-all stream k in
    let p = fault_parts (length (spelled (records_of stream))) (front_fault (standing_of stream) (rest_of stream)) f is in
    record { records = records_of stream; rest = rest_of stream; begins = a.begins; place = p.1; shows = p.0 }

pub first_is_fault : (stream : List ℕ) (f : MirrorFault) → IsFirstFault stream f → fault_in stream ≡ Some f
first_is_fault stream f t =
    let n : ℕ = length (spelled t.records) in
    let a : IsAllOf stream t.records t.rest =
    record { begins = t.begins; ended = shown_none (after_records stream_start t.records) t.rest f.fault t.shows } in
    fault_in-is stream t.records t.rest a ∙ ap (λ o. fault_by n o) t.shows ∙ ap (λ p. Some (record { place = p; fault = f.fault })) (sym t.place)

-- ---- the stream ends

limit_cases : (b : Bool) (g f : MirrorFault) (o : Option MirrorFault) → (if b then Some g else o) ≡ Some f →
    ((b ≡ true) × (g ≡ f)) ⊎ ((b ≡ false) × (o ≡ Some f))
limit_cases true g f o h = inl (refl, same_Some g f h)
limit_cases false g f o h = inr (refl, h)

end_cases : (m : Reading) (o : Option MirrorFault) (f : MirrorFault) → fault_at_end m o ≡ Some f →
    (o ≡ Some f) ⊎ ((o ≡ None) × (is_between m ≡ false) × (record { place = m.fed; fault = Unfinished } ≡ f))
end_cases m (Some g) f h = inl h
end_cases m None f h = inr (by_test (is_between m) (record { place = m.fed; fault = Unfinished }) h)
  where
    by_test : (b : Bool) (g : MirrorFault) → (if b then None else Some g) ≡ Some f → (◌≡◌ {A = Option MirrorFault} None None) × (b ≡ false) × (g ≡ f)
    by_test true g h = absurd (cc)
    by_test false g h = (refl, refl, same_Some g f h)

-- a rest that shows no fault, and isn't a whole record
part_of : (s : Standing) (rest : List ℕ) → has_record s rest ≡ false → front_fault s rest ≡ None → 0 < length rest → length rest < record_len rest
part_of s rest ended none some =
    elim (and_cases (nat_lt 0 (length rest) && nat_le (record_len rest) (length rest)) (is_none (front_fault s rest)) ended) [
      | inl e ↦ elim (and_cases (nat_lt 0 (length rest)) (nat_le (record_len rest) (length rest)) e) [
        | inl f ↦ absurd (let t : true ≡ false = sym (lt-ltb 0 (length rest) some) ∙ f in cc)
        | inr f ↦ leb-false (record_len rest) (length rest) f
      ]
      | inr e ↦ absurd (let t : true ≡ false = sym (ap (λ o. is_none o) none) ∙ e in cc)
    ]

no_whole : (s : Standing) (rest : List ℕ) → (0 < length rest → length rest < record_len rest) → has_record s rest ≡ false
no_whole s rest part = and_left (nat_lt 0 (length rest) && nat_le (record_len rest) (length rest)) (is_none (front_fault s rest))
    (elim (cases_eq (length rest) 0) [
      | inl e ↦ and_left (nat_lt 0 (length rest)) (nat_le (record_len rest) (length rest)) (le-ltb 0 (length rest) (omega arith))
      | inr n ↦ and_right (nat_lt 0 (length rest)) (nat_le (record_len rest) (length rest))
          (lt-leb (record_len rest) (length rest) (part (let some : length rest ≡ 0 → ⊥ = n in omega arith)))
    ])

pub end_is_unfinished : (stream : List ℕ) (f : MirrorFault) → IsBytes stream → fault_in stream ≡ None → is_between (reading_of stream) ≡ false →
    record { place = (reading_of stream).fed; fault = Unfinished } ≡ f → IsUnfinished stream f
end_is_unfinished stream f k none between same =
    let a : IsAllOf stream (records_of stream) (rest_of stream) = records_of-all stream k in
    let s : Standing = standing_of stream in
    let rest : List ℕ = rest_of stream in
    let clean : front_fault s rest ≡ None = no_front (length (spelled (records_of stream))) (front_fault s rest) none in
    let begun : (reading_of stream).begun ≡ rest = ap (λ o. if is_some o then [] else rest) none in
    record {
      records = records_of stream;
      rest = rest;
      begins = a.begins;
      none = clean;
      part = part_of s rest a.ended clean;
      is_open = elim (and_cases (not s.within) (length (reading_of stream).begun == 0) between) [
        | inl e ↦ inr (not-false s.within e)
        | inr e ↦ inl (
            let some = eqb-false (length (reading_of stream).begun) 0 e in
            let n : length rest ≡ 0 → ⊥ = λ z. some (ap (λ l. length l) begun ∙ z) in
            omega arith
            )
      ];
      place = sym (ap (λ (x : MirrorFault). x.place) same);
      is = sym (ap (λ (x : MirrorFault). x.fault) same);
    }

pub unfinished_is_end : (stream : List ℕ) (f : MirrorFault) → IsUnfinished stream f → fault_at_end (reading_of stream) (fault_in stream) ≡ Some f
unfinished_is_end stream f u =
    let m : Reading = reading_of stream in
    let s : Standing = after_records stream_start u.records in
    let a : IsAllOf stream u.records u.rest = record { begins = u.begins; ended = no_whole s u.rest u.part } in
    let records : records_of stream ≡ u.records = records_of-is stream u.records u.rest a in
    let rest : rest_of stream ≡ u.rest = rest_of-is stream u.records u.rest a in
    let none : fault_in stream ≡ None = fault_in-is stream u.records u.rest a ∙ ap (λ o. fault_by (length (spelled u.records)) o) u.none in
    let begun : m.begun ≡ u.rest = ap (λ o. if is_some o then [] else rest_of stream) none ∙ rest in
    let between : is_between m ≡ false = elim u.is_open [
      | inl some ↦ and_right (not m.standing.within) (length m.begun == 0) (ne_eqb (length m.begun) 0 (λ e. omega (arith, ap (λ l. length l) begun)))
      | inr within ↦ and_left (not m.standing.within) (length m.begun == 0)
          (not_from_true m.standing.within (ap (λ l. (after_records stream_start l).within) records ∙ within))
    ] in
    let fed : m.fed ≡ f.place = ap (λ l. length (spelled l)) records ∙ sym u.place in
    ap (λ o. fault_at_end m o) none ∙ ap (λ b. if b then None else Some (record { place = m.fed; fault = Unfinished })) between
    ∙ ap (λ p. Some (record { place = p; fault = Unfinished })) fed ∙ ap (λ x. Some (record { place = f.place; fault = x })) (sym u.is)

-- ---- the first fault of a stream

pub first_fault_to : (stream : List ℕ) (f : MirrorFault) → IsBytes stream → first_fault stream ≡ Some f → IsFaultOf stream f
first_fault_to stream f k is =
    let m : Reading = reading_of stream in
    elim (limit_cases (nat_lt longest_stream (length stream)) (record { place = 0; fault = TooMany }) f (fault_at_end m (fault_in stream)) is) [
      | inl h ↦ inl (record {
        long = ltb-true longest_stream (length stream) h.0;
        place = sym (ap (λ (x : MirrorFault). x.place) h.1);
        is = sym (ap (λ (x : MirrorFault). x.fault) h.1);
      })
      | inr h ↦ inr (
        ltb-false longest_stream (length stream) h.0,
        elim (end_cases m (fault_in stream) f h.1) [
          | inl e ↦ inl (fault_is_first stream f k e)
          | inr e ↦ inr (end_is_unfinished stream f k e.0 e.1 e.2)
        ],
      )
    ]

pub first_fault_from : (stream : List ℕ) (f : MirrorFault) → IsFaultOf stream f → first_fault stream ≡ Some f
first_fault_from stream f (inl t) =
    ap (λ b. if b then Some (record { place = 0; fault = TooMany }) else fault_at_end (reading_of stream) (fault_in stream))
    (lt-ltb longest_stream (length stream) t.long)
    ∙ ap (λ p. Some (record { place = p; fault = TooMany })) (sym t.place) ∙ ap (λ x. Some (record { place = f.place; fault = x })) (sym t.is)
first_fault_from stream f (inr (short, by)) =
    ap (λ b. if b then Some (record { place = 0; fault = TooMany }) else fault_at_end (reading_of stream) (fault_in stream))
    (le-ltb longest_stream (length stream) short)
    ∙ elim by [
      | inl t ↦ ap (λ o. fault_at_end (reading_of stream) o) (first_is_fault stream f t)
      | inr u ↦ unfinished_is_end stream f u
    ]
