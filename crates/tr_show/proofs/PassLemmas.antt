-- A stream is shown cut after cut.
use Rattle.std.proofs.Common.{◌≡◌, ◌≢◌, ℕ, ◌-◌, ◌≤◌, ◌<◌, take, drop, if◌then◌else◌, List, [], ◌++◌, length, Option, Some, None, Result, Ok, Err, refl, sym, ap, subst, ◌∙◌, arith, append_assoc}
use Rattle.std.specs.List.{flat_map}
use Rattle.std.proofs.lemmas.Bool.{le-ltb, ne_eqb}
use Rattle.std.proofs.lemmas.Grind.{flat_map-append}
use Rattle.std.proofs.lemmas.List.{append-nil, length-drop, length-take-le, take-append-drop, take_all, nil_from_length}
use Rattle.tr_screen.specs.Pictures.{Picture}
use Rattle.tr_dump.specs.Reports.{dump_text}
use Rattle.tr_mirror.specs.declared.faults.MirrorFault.{MirrorFault}
use Rattle.tr_mirror.specs.declared.faults.StreamFault.TheVariants.{TooMany}
use Rattle.tr_mirror.specs.Standings.{Standing}
use Rattle.tr_mirror.specs.Readings.{Reading, cut_between, fault_at_end, first_fault, list_of_option, longest_stream, outcome_of, reading_of, screens_shown}
use Rattle.tr_mirror.proofs.ShownLemmas.{no_cut}
use Rattle.tr_show.specs.declared.errors.ShowRefused.{ShowRefused}
use Rattle.tr_show.specs.declared.errors.ShowRefused.TheVariants as refused
use Rattle.tr_show.specs.Shows.{IsShowCause}
use Rattle.tr_show.specs.Passes.{IsLate, IsPass}

-- a front of a stream was read, and shown
pub record HasShown (stream rest text : List ℕ) (m : Reading) : Type 0 where
  pub front : List ℕ
  pub parts : front ++ rest ≡ stream
  pub came : m ≡ reading_of front
  pub written : text ≡ flat_map dump_text (screens_shown front)

pub shown_none : (stream : List ℕ) → HasShown stream stream [] (reading_of [])
shown_none stream = record { front = []; parts = refl; came = refl; written = refl }

pub shown_more : (stream rest after text more : List ℕ) (m n : Reading) (h : HasShown stream rest text m) → IsPass h.front n rest after text more →
    HasShown stream after more n
shown_more stream rest after text more m n h p = record {
  front = h.front ++ p.front;
  parts = append_assoc h.front p.front after ∙ ap (λ l. h.front ++ l) p.parts ∙ h.parts;
  came = p.came;
  written = p.written ∙ ap (λ t. t ++ flat_map dump_text p.more) h.written
      ∙ sym (flat_map-append dump_text (screens_shown h.front) p.more) ∙ ap (λ l. flat_map dump_text l) (sym p.shows);
}

-- ---- one cut

-- where no cut came, nothing is written
pub written_none : (s t : Standing) (a b : ℕ) (before text : List ℕ) → a ≡ t.cuts → b ≡ s.cuts → a ≡ b → text ≡ before →
    text ≡ before ++ flat_map dump_text (cut_between s t)
written_none s t a b before text is was same wrote =
    wrote ∙ sym (append-nil before) ∙ ap (λ l. before ++ flat_map dump_text l) (sym (no_cut s t (sym was ∙ sym same ∙ is)))

-- and else the screen
pub written_one : (s t : Standing) (a b : ℕ) (p : Picture) (before text : List ℕ) → a ≡ t.cuts → b ≡ s.cuts → a ≢ b → t.screen ≡ Some p →
    text ≡ before ++ dump_text p → text ≡ before ++ flat_map dump_text (cut_between s t)
written_one s t a b p before text is was other screen wrote =
    wrote ∙ ap (λ l. before ++ l) (sym (append-nil (dump_text p)))
    ∙ ap (λ l. before ++ flat_map dump_text l)
    (ap (λ o. list_of_option o) (sym screen) ∙ sym (ap (λ b. if b then [] else list_of_option t.screen) (ne_eqb s.cuts t.cuts apart)))
  where
    apart : s.cuts ≢ t.cuts
    apart = λ e. other (is ∙ sym e ∙ sym was)

-- a front of the bytes was read, which ends one cut at most
pub cut_pass : (stream : List ℕ) (s : Standing) (new : Reading) (bytes before text : List ℕ) (n : ℕ) → 0 < length bytes → n ≤ length bytes →
    (0 < length bytes → 0 < n) → new ≡ reading_of (stream ++ take n bytes) →
    screens_shown (stream ++ take n bytes) ≡ screens_shown stream ++ cut_between s new.standing →
    text ≡ before ++ flat_map dump_text (cut_between s new.standing) →
    IsPass stream new bytes (take (length bytes - n) (drop n bytes)) before text
cut_pass stream s new bytes before text n some most more came shows wrote =
    let rest : take (length bytes - n) (drop n bytes) ≡ drop n bytes = take_all (length bytes - n) (drop n bytes) (omega (arith, length-drop n bytes)) in
    record {
      front = take n bytes;
      parts = ap (λ l. take n bytes ++ l) rest ∙ take-append-drop n bytes;
      some = omega (arith, more some, length-take-le n bytes most);
      came = came;
      more = cut_between s new.standing;
      shows = shows;
      written = wrote;
    }

-- ---- the end

-- a fault that was found is the first one
pub fault_within : (stream : List ℕ) (e : ShowRefused) → length stream ≤ longest_stream → IsLate (reading_of stream) e → IsShowCause (first_fault stream) e
fault_within stream refused.NoMemory short late = tt
fault_within stream (refused.Fault fault) short late =
    ap (λ b. if b then Some (record { place = 0; fault = TooMany }) else fault_at_end (reading_of stream) (reading_of stream).fault)
    (le-ltb longest_stream (length stream) short)
    ∙ ap (λ o. fault_at_end (reading_of stream) o) late

module _ (stream rest text : List ℕ) (m : Reading) (h : HasShown stream rest text m) where
  whole : length rest ≡ 0 → h.front ≡ stream
  whole none = sym (append-nil h.front) ∙ ap (λ l. h.front ++ l) (sym (nil_from_length rest none)) ∙ h.parts

  pub text_is : length rest ≡ 0 → text ≡ flat_map dump_text (screens_shown stream)
  text_is none = h.written ∙ ap (λ l. flat_map dump_text (screens_shown l)) (whole none)

  pub fault_is : length rest ≡ 0 → length stream ≤ longest_stream → first_fault stream ≡ fault_at_end m m.fault
  fault_is none short =
      ap (λ b. if b then Some (record { place = 0; fault = TooMany }) else fault_at_end (reading_of stream) (reading_of stream).fault)
      (le-ltb longest_stream (length stream) short)
      ∙ ap (λ (r : Reading). fault_at_end r r.fault) (sym (h.came ∙ ap (λ l. reading_of l) (whole none)))

  -- so is one that comes while they are shown
  pub cause_is : (e : ShowRefused) → length stream ≤ longest_stream → IsLate (reading_of (h.front ++ rest)) e → IsShowCause (first_fault stream) e
  cause_is e short late = fault_within stream e short (subst (λ l. IsLate (reading_of l) e) h.parts late)

-- what the mirror answers at the end
pub ended_well : (o : Option MirrorFault) (r : Result (Unit {0}) MirrorFault) (u : Unit {0}) → r ≡ outcome_of o → r ≡ Ok u → o ≡ None
ended_well None r u is ok = refl
ended_well (Some f) r u is ok = absurd (let e : Err f ≡ Ok u = sym is ∙ ok in cc)

pub ended_late : (o : Option MirrorFault) (r : Result (Unit {0}) MirrorFault) (f : MirrorFault) → r ≡ outcome_of o → r ≡ Err f → o ≡ Some f
ended_late None r f is err = absurd (let e : Ok _ ≡ Err f = sym is ∙ err in cc)
ended_late (Some g) r f is err = let e : Err g ≡ Err f = sym is ∙ err in cc
