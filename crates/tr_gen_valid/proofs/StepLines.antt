-- A line of words that make a step has no fault while rounds are played.
use Rattle.std.proofs.Common.{◌≡◌, ℕ, ◌≤◌, Bool, true, false, not, leb, ◌&&◌, List, [], ◌∷◌, length, Option, Some, refl, sym, ap, ◌∙◌, subst, leb-true}
use Rattle.std.specs.List.{list_all, list_any, join_with_byte}
use Rattle.std.proofs.lemmas.Bool.{and_parts, false≢true}
use Rattle.tr_journal.specs.declared.Actor.{Actor}
use Rattle.tr_journal.specs.declared.Step.{Step}
use Rattle.tr_widget.specs.declared.WidgetCmd.{WidgetCmd}
use Rattle.tr_grammar.specs.declared.Meaning.{Meaning}
use Rattle.tr_grammar.specs.declared.Meaning.TheVariants as meanings
use Rattle.tr_grammar.specs.Texts.{is_silent}
use Rattle.tr_grammar.specs.Words.{word_at}
use Rattle.tr_grammar.specs.Forms.{Form, fields, field_words, form_of}
use Rattle.tr_grammar.specs.Meanings.{meaning_of}
use Rattle.tr_grammar.specs.Faults.{Sort, step_line, sort_of, allows, is_misspelled, is_declared_again, is_undeclared, is_foreign, is_refused, is_one_too_many}
use Rattle.tr_grammar.specs.Scripts.{after_meaning}
use Rattle.tr_gen_valid.proofs.Cutting.{is_word, words_of-join, plain_words}
use Rattle.tr_gen_valid.proofs.Passing.{IsOfForm, HaveNoFault, Pass, one_passes}
use Rattle.tr_gen_valid.proofs.Playing.{names, Playing, state, stepped, IsPlaying}

abbrev is_step : Meaning → Bool
is_step (meanings.Step actor step) = true
is_step l = false

-- what only has to be computed of words of a form: it hangs neither on their values nor on the rounds that were played
pub record Computed : Type 0 where
  pub few : Bool
  pub silent : Bool
  pub form : Option Form
  pub sort : Sort
  pub step : Bool
  pub again : Bool
  pub foreign : Bool
  pub refused : Bool
  pub many : Bool

abbrev pub computed : Playing → Form → List (List ℕ) → Computed
computed x f ws = record {
  few = leb 1 (length ws) && leb (length ws) 10;
  silent = is_silent (join_with_byte 32 ws);
  form = form_of 1 ws;
  sort = sort_of f;
  step = is_step (meaning_of names ws f);
  again = list_any (is_declared_again (state x)) (field_words (fields f) ws);
  foreign = is_foreign (state x) (meaning_of names ws f);
  refused = is_refused (state x) (meaning_of names ws f);
  many = is_one_too_many (state x) (meaning_of names ws f);
}

-- the same of a line that makes a step
abbrev pub of_step : Form → Computed
of_step f = record {
  few = true;
  silent = false;
  form = Some f;
  sort = step_line;
  step = true;
  again = false;
  foreign = false;
  refused = false;
  many = false;
}

-- words of this form make a step, whatever rounds were played
pub record MakeStep (f : Form) (ws : List (List ℕ)) : Type 0 where
  pub words : list_all is_word ws ≡ true
  pub spelled : list_any is_misspelled (field_words (fields f) ws) ≡ false
  pub declared : (x : Playing) → list_any (is_undeclared (state x)) (field_words (fields f) ws) ≡ false
  pub others : (x : Playing) → computed x f ws ≡ of_step f

-- a line of such words
pub record IsStepLine (t : List ℕ) : Type 0 where
  pub form : Form
  pub words : List (List ℕ)
  pub text : t ≡ join_with_byte 32 words
  pub makes : MakeStep form words

-- these lines have no fault, and behind them the script is one of so many rounds
pub record GoOn (rounds : ℕ) (x : Playing) (n : ℕ) (ts : List (List ℕ)) : Type 0 where
  pub behind : Playing
  pub playing : IsPlaying rounds behind
  pub pass : Pass (state x) n ts (state behind)

no_fault_of_step : (x : Playing) (f : Form) (ws : List (List ℕ)) → allows x.place step_line ≡ true → MakeStep f ws → HaveNoFault (state x) f ws
no_fault_of_step x f ws placed makes =
    let others = makes.others x in
    record {
      placed = ap (λ (o : Computed). not (allows x.place o.sort)) others ∙ ap not placed;
      spelled = makes.spelled;
      new = ap (λ (o : Computed). o.again) others;
      declared = makes.declared x;
      own = ap (λ (o : Computed). o.foreign) others;
      taken = ap (λ (o : Computed). o.refused) others;
      few = ap (λ (o : Computed). o.many) others;
    }

-- what is added is a step
adds_step : (x : Playing) (w : List ℕ) (l : Meaning) → is_step l ≡ true →
    (made : Actor × Step WidgetCmd) × (after_meaning (state x) w l ≡ state (stepped x made))
adds_step x w (meanings.Step actor step) is = ((actor, step), refl)
adds_step x w l is = absurd (false≢true is)

words_go_on : (rounds : ℕ) (x : Playing) (n : ℕ) (f : Form) (ws : List (List ℕ)) → IsPlaying rounds x × MakeStep f ws × (n ≤ 100000) →
    GoOn rounds x n (join_with_byte 32 ws ∷ [])
words_go_on rounds x n f ws h =
    let playing = h.0 in
    let makes = h.1 in
    let others = makes.others x in
    let few = and_parts (leb 1 (length ws)) (leb (length ws) 10) (ap (λ (o : Computed). o.few) others) in
    let line : IsOfForm (state x) (join_with_byte 32 ws) f ws = record {
      plain = plain_words ws makes.words (leb-true (length ws) 10 few.1);
      loud = ap (λ (o : Computed). o.silent) others;
      early = playing.early;
      words = words_of-join ws makes.words (leb-true 1 (length ws) few.0);
      form = ap (λ (o : Computed). o.form) others;
    } in
    let added = adds_step x (word_at ws 1) (meaning_of names ws f) (ap (λ (o : Computed). o.step) others) in
    record {
      behind = stepped x added.0;
      playing = record { placed = refl; early = refl; syncs = playing.syncs; reports = playing.reports };
      pass = subst (Pass (state x) n (join_with_byte 32 ws ∷ [])) added.1 (one_passes n line (no_fault_of_step x f ws playing.placed makes) h.2);
    }

pub line_goes_on : (rounds : ℕ) (x : Playing) (n : ℕ) (t : List ℕ) → IsPlaying rounds x × IsStepLine t × (n ≤ 100000) → GoOn rounds x n (t ∷ [])
line_goes_on rounds x n t h =
    subst (λ (line : List ℕ). GoOn rounds x n (line ∷ [])) (sym h.1.text) (words_go_on rounds x n h.1.form h.1.words (h.0, h.1.makes, h.2))
