-- A piece is read front after front, up to its first cut.
use Rattle.std.proofs.Common.{◌≡◌, ℕ, ◌+◌, ◌<◌, ◌-◌, ◌==◌, List, [], ◌++◌, length, take, drop, refl, sym, ap, ◌∙◌, arith, if◌then◌else◌, append_assoc, length-append, is_some, true, ◌≢◌, ◌⊎◌, inl, inr, None}
use Rattle.std.proofs.lemmas.Bool.{cases_eq}
use Rattle.std.proofs.Math.Seq.{take-append_seam}
use Rattle.tr_mirror.specs.Headers.{header_len, header_of}
use Rattle.tr_mirror.specs.Standings.{Standing}
use Rattle.tr_mirror.specs.Readings.{Reading, reading_of, screens_shown, list_of_option, cut_between}
use Rattle.tr_mirror.specs.Automata.{after_bytes, record_taken, IsReading, shown_from}
use Rattle.tr_mirror.specs.Pieces.{EndsAtCut, TakesFront, IsFaultless}
use Rattle.tr_mirror.proofs.ReadingLemmas.{read-append, read_failed, read_none, header_len_range, nothing_begun, IsBounded-taken}
use Rattle.tr_mirror.proofs.ShownLemmas.{no_cut, shown_from-append, EndsAtCut-put}
use Rattle.tr_mirror.proofs.RecordLemmas.{Reads, Reads-faultless}
use Rattle.tr_mirror.proofs.RunLemmas.{reading_on, shown_on}

-- some front of a piece was read, of which at most the last byte ended a cut, and the rest wasn't
pub record HasRead (old new : Reading) (piece rest : List ℕ) : Type 0 where
  pub front : List ℕ
  pub parts : front ++ rest ≡ piece
  pub came : after_bytes old front ≡ new
  pub shown : shown_from old front ≡ cut_between old.standing new.standing
  pub ends : EndsAtCut old new

pub HasRead-none : (m : Reading) (piece : List ℕ) → HasRead m m piece piece
HasRead-none m piece = record {
  front = [];
  parts = refl;
  came = refl;
  shown = sym (no_cut m.standing m.standing refl);
  ends = record { screen = λ more. absurd (more refl); between = λ more. absurd (more refl); fault = λ _. refl };
}

-- what came from a standing with as many cuts came from the other one, too
cut_from : (s t u : Standing) → s.cuts ≡ t.cuts → cut_between s u ≡ cut_between t u
cut_from s t u same = ap (λ (n : ℕ). if n == u.cuts then [] else list_of_option u.screen) same

-- before a cut one front more is read
pub HasRead-more : (old m new : Reading) (piece rest after : List ℕ) → m.standing.cuts ≡ old.standing.cuts → HasRead old m piece rest →
    TakesFront m new rest after → HasRead old new piece after
HasRead-more old m new piece rest after same h t = record {
  front = h.front ++ t.front;
  parts = append_assoc h.front t.front after ∙ ap (λ l. h.front ++ l) t.parts ∙ h.parts;
  came = read-append old h.front t.front ∙ ap (λ r. after_bytes r t.front) h.came ∙ t.came;
  shown = shown_from-append old h.front t.front
      ∙ ap (λ l. l ++ shown_from (after_bytes old h.front) t.front) (h.shown ∙ no_cut old.standing m.standing (sym same))
      ∙ ap (λ r. shown_from r t.front) h.came ∙ t.shown ∙ cut_from m.standing old.standing new.standing same;
  ends = record {
    screen = λ more. t.ends.screen (λ e. more (e ∙ same));
    between = λ more. t.ends.between (λ e. more (e ∙ same));
    fault = λ failed. t.ends.fault failed ∙ same;
  };
}

module _ (old new : Reading) (piece rest : List ℕ) (h : HasRead old new piece rest) where
  whole : length piece ≡ length h.front + length rest
  whole = ap (λ l. length l) (sym h.parts) ∙ length-append h.front rest

  pub count_read : length piece - length rest ≡ length h.front
  count_read = omega (arith, whole)

  -- so many bytes of the piece were read
  pub front_is : take (length piece - length rest) piece ≡ h.front
  front_is = ap (λ (n : ℕ). take n piece) count_read ∙ ap (λ l. take (length h.front) l) (sym h.parts) ∙ take-append_seam h.front rest

  pub read_is : (stream : List ℕ) → old ≡ reading_of stream → new ≡ reading_of (stream ++ take (length piece - length rest) piece)
  read_is stream is = sym h.came ∙ ap (λ l. after_bytes old l) (sym front_is) ∙ ap (λ m. after_bytes m (take (length piece - length rest) piece)) is
      ∙ reading_on stream (take (length piece - length rest) piece)

  pub shows_is : (stream : List ℕ) → old ≡ reading_of stream →
      screens_shown (stream ++ take (length piece - length rest) piece) ≡ screens_shown stream ++ cut_between old.standing new.standing
  shows_is stream is = shown_on stream (take (length piece - length rest) piece)
      ∙ ap (λ m. screens_shown stream ++ shown_from m (take (length piece - length rest) piece)) (sym is)
      ∙ ap (λ l. screens_shown stream ++ l) (ap (λ l. shown_from old l) front_is ∙ h.shown)

  -- after a fault the rest changes nothing
  pub all_is : is_some new.fault ≡ true → (stream : List ℕ) → old ≡ reading_of stream → new ≡ reading_of (stream ++ piece)
  all_is failed stream is =
      sym (read_failed new rest failed) ∙ ap (λ r. after_bytes r rest) (sym h.came) ∙ sym (read-append old h.front rest)
      ∙ ap (λ l. after_bytes old l) h.parts ∙ ap (λ m. after_bytes m piece) is ∙ reading_on stream piece

  -- so far it was read, since none is left, or there was a fault or a cut
  abbrev pub Ends : Type 0
  Ends = (length rest ≡ 0) ⊎ (new.fault ≡ None → new.standing.cuts ≢ old.standing.cuts)

  pub stops : Ends → new.fault ≡ None → length piece - length rest < length piece → new.standing.cuts ≢ old.standing.cuts
  stops (inl none) free less = absurd (omega arith)
  stops (inr other) free less = other free

  pub some_read : Ends → new.fault ≡ None → 0 < length piece → 0 < length piece - length rest
  some_read (inl none) free some = omega arith
  some_read (inr other) free some = elim (cases_eq (length h.front) 0) [
    | inl e ↦ absurd (other free (ap (λ (r : Reading). r.standing.cuts) (sym h.came ∙ read_none old h.front e)))
    | inr n ↦ let apart : length h.front ≢ 0 = n in omega (arith, count_read)
  ]

-- a whole record without a fault, of which nothing was read before, may come at once
module _ (m : Reading) (front : List ℕ) (free : m.fault ≡ None) (none : m.begun ≡ []) (f : IsFaultless m.standing front) where
  reads_front : Reads m front (record_taken m front)
  reads_front = Reads-faultless m front free none f

  pub some_front : 0 < length front
  some_front = omega (arith, (header_len_range front).0, f.whole)

  pub read-faultless : (rest : List ℕ) → after_bytes (record_taken m front) rest ≡ after_bytes m (front ++ rest)
  read-faultless rest = ap (λ r. after_bytes r rest) (sym reads_front.read) ∙ sym (read-append m front rest)

  pub TakesFront-faultless : (rest : List ℕ) → TakesFront m (record_taken m front) (front ++ rest) rest
  TakesFront-faultless rest = record {
    front = front;
    parts = refl;
    some = some_front;
    came = reads_front.read;
    shown = reads_front.shown;
    ends = EndsAtCut-put m (record_taken m front) free (record {
      header = header_of front;
      pixels = drop (header_len front) front;
      sound = f.header;
      standing = refl;
      begun = refl;
      fault = refl;
    });
  }

  pub IsReading-faultless : IsReading m → IsReading (record_taken m front)
  IsReading-faultless w = nothing_begun (record_taken m front) refl (IsBounded-taken m front w.bounded f.whole f.header)
