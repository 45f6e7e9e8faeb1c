-- A line that is read separately, where a step and a report may come.
use Rattle.std.proofs.Common.{◌≡◌, ℕ, Bool, true, false, ◌||◌, List, [], ◌∷◌, Some, None, Ok, Err, nat_le, refl, sym, ap, ◌∙◌}
use Rattle.std.specs.Prelude.{Option, Result, IfOk, IfErr, IfSome, OnOk}
use Rattle.std.proofs.lemmas.Result.{IfOk-weaker, on_ok_weaker}
use Rattle.tr_base.specs.Lists.{first_true}
use Rattle.tr_base.proofs.RectLemmas.{false-true}
use Rattle.tr_journal.specs.declared.Item.TheVariants as items
use Rattle.tr_grammar.specs.declared.Code.TheVariants.{B7, B10}
use Rattle.tr_grammar.specs.declared.LineRefused.{LineRefused}
use Rattle.tr_grammar.specs.declared.Meaning.{Meaning}
use Rattle.tr_grammar.specs.declared.Meaning.TheVariants as meanings
use Rattle.tr_grammar.specs.declared.Place.{Place}
use Rattle.tr_grammar.specs.declared.Place.TheVariants as places
use Rattle.tr_grammar.specs.Texts.{is_silent}
use Rattle.tr_grammar.specs.Words.{words_of, word_at}
use Rattle.tr_grammar.specs.Forms.{forms, form_of}
use Rattle.tr_grammar.specs.States.{SoFar}
use Rattle.tr_grammar.specs.Faults.{opening_line, allows, fault_of, is_foreign, is_refused, is_one_too_many}
use Rattle.tr_reader.specs.Adding.{IsFault, IsSoundMeaning}
use Rattle.tr_script.specs.Apart.{meaning_of_line}
use Rattle.tr_script.specs.Reading.{Reads}
use Rattle.tr_script.proofs.LineLemmas.{IsLoud, fault_of_words, fault_behind, refused_before}

-- no line of an opening may come there
no_opening : (p : Place) → p ≡ places.Gap → allows p opening_line ≡ true → ⊥
no_opening p gap allowed = false-true (ap (λ (q : Place). allows q opening_line) (sym gap) ∙ allowed)

-- the tree refuses no line there
not_refused : (c : SoFar) (w : List ℕ) (m : Meaning) → c.place ≡ places.Gap → IsSoundMeaning c w m → is_refused c m ≡ false
not_refused c w (meanings.Version n) gap sound = refl
not_refused c w (meanings.Item (items.Screen size kind)) gap sound = refl
not_refused c w (meanings.Item (items.Glyph byte rows)) gap sound = refl
not_refused c w (meanings.Item (items.Node kind tint)) gap sound = refl
not_refused c w (meanings.Item (items.Leaf shapes content)) gap sound = refl
not_refused c w (meanings.Item (items.Put child parent at)) gap sound = absurd (no_opening c.place gap sound.place)
not_refused c w (meanings.Item (items.Root node)) gap sound = absurd (no_opening c.place gap sound.place)
not_refused c w meanings.Begin gap sound = absurd (no_opening c.place gap sound.place)
not_refused c w (meanings.Step actor step) gap sound = refl
not_refused c w meanings.Sync gap sound = refl
not_refused c w (meanings.Report query) gap sound = refl
not_refused c w meanings.End gap sound = refl

-- the first line isn't one too many
first_line : (b : Bool) → (b || nat_le 100001 1) ≡ b
first_line true = refl
first_line false = refl

module _ (c : SoFar) (bytes : List ℕ) (gap : c.place ≡ places.Gap) where
  -- the fault of a line with this meaning
  fault_of_meaning : (m : Meaning) → IsLoud c bytes → Reads c forms (words_of bytes) (Ok m) →
      fault_of c 1 bytes ≡ first_true ((B10, is_foreign c m) ∷ (B7, is_one_too_many c m) ∷ [])
  fault_of_meaning m loud read =
      let ws = words_of bytes in
      fault_of_words c 1 bytes loud
      ∙ fault_behind c 1 (form_of c.version ws) ws m read.0 read.1
      ∙ rw (not_refused c (word_at ws 1) m gap read.2, first_line (is_one_too_many c m)) refl

  -- it has none, if the command is the leaf's and the line isn't one too many
  pub none_is : (m : Meaning) (r : Result (Option Meaning) LineRefused) → IsLoud c bytes → Reads c forms (words_of bytes) (Ok m) →
      OnOk r ((is_foreign c m ≡ false) × (is_one_too_many c m ≡ false)) → OnOk r (fault_of c 1 bytes ≡ None)
  none_is m r loud read own = on_ok_weaker r (λ h. fault_of_meaning m loud read ∙ rw (h.0, h.1) refl) own

  -- else it has this one
  pub fault_is : (m : Meaning) (r : Result (Option Meaning) LineRefused) → IsLoud c bytes → Reads c forms (words_of bytes) (Ok m) →
      IfErr r (IsFault (first_true ((B10, is_foreign c m) ∷ (B7, is_one_too_many c m) ∷ []))) → IfErr r (IsFault (fault_of c 1 bytes))
  fault_is m r loud read fault = rw (fault_of_meaning m loud read) fault

  -- the words have this fault
  pub fault_in_words : (e : LineRefused) → IsLoud c bytes → Reads c forms (words_of bytes) (Err e) → IsFault (fault_of c 1 bytes) e
  fault_in_words e loud read =
      let ws = words_of bytes in
      rw (fault_of_words c 1 bytes loud) (refused_before c 1 (form_of c.version ws) ws e read)

-- the meaning of the line is that of its words
pub meaning_is : (c : SoFar) (bytes : List ℕ) (m : Meaning) (r : Result (Option Meaning) LineRefused) → is_silent bytes ≡ false →
    Reads c forms (words_of bytes) (Ok m) → IfOk r (λ said. said ≡ Some m) → IfOk r (λ said. said ≡ meaning_of_line c bytes)
unfolding meaning_of_line
meaning_is c bytes m r loud read own = IfOk-weaker r (λ said. said ≡ Some m) (λ said. said ≡ meaning_of_line c bytes)
    (λ said is. is ∙ sym (rw loud read.1)) own

-- its values are in range
pub sound_is : (c : SoFar) (w : List ℕ) (m : Meaning) (r : Result (Option Meaning) LineRefused) → IsSoundMeaning c w m →
    IfOk r (λ said. said ≡ Some m) → IfOk r (λ said. IfSome said (IsSoundMeaning c w))
sound_is c w m r sound own = IfOk-weaker r (λ said. said ≡ Some m) (λ said. IfSome said (IsSoundMeaning c w)) (λ said is. rw is sound) own
