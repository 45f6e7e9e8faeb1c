-- What becomes of a run, one after another: its lines, what is written with them, and its sum.
use Rattle.std.proofs.Common.{◌≡◌, ℕ, ◌+◌, ◌<◌, Bool, true, false, cond, not, ◌&&◌, List, [], ◌∷◌, ◌++◌, length, take, drop, get_or, refl, sym, ap, subst, ◌∙◌, append_assoc, ◌⊎◌, inl, inr}
use Rattle.std.proofs.lemmas.List.{append-nil, length_push, take-append-drop}
use Rattle.tr_base.proofs.RectLemmas.{false-true}
use Rattle.tr_client.specs.declared.clients.Client.{Ghosts}
use Rattle.tr_levels.specs.declared.Level.{Level}
use Rattle.tr_levels.specs.declared.Level.TheVariants.{Mu}
use Rattle.tr_journal.specs.declared.items.Item.{Item}
use Rattle.tr_journal.specs.declared.steps.Actor.{Actor}
use Rattle.tr_journal.specs.declared.steps.Actor.TheVariants.{Painter, Player}
use Rattle.tr_journal.specs.declared.steps.Query.{Query}
use Rattle.tr_journal.specs.declared.steps.Query.TheVariants as queries
use Rattle.tr_journal.specs.declared.steps.Step.{Step}
use Rattle.tr_journal.specs.declared.steps.Step.TheVariants as steps
use Rattle.tr_journal.specs.Journals.{JournalLine}
use Rattle.tr_journal.specs.Reports.{is_report}
use Rattle.tr_journal.specs.Steps.{stated}
use Rattle.tr_machine.specs.States.{State}
use Rattle.tr_machine.specs.Replays.{line_of_step, next, replay, replay_from, after_steps, lines_of_steps}
use Rattle.tr_machine.specs.SettleSteps.{settling_lines}
use Rattle.tr_machine.proofs.JournalLemmas.{lines_of-append, lines_of-take, replay-append, replay-more, replay_from-append, replay_from-lines_of}
use Rattle.tr_journal.specs.Names.{Names}
use Rattle.tr_stage.specs.Stages.{StageView, is_note, state}
use Rattle.tr_run.specs.declared.modes.Mode.{Mode}
use Rattle.tr_run.specs.declared.modes.Mode.TheVariants.{Serial, Check, Gen}
use Rattle.tr_run.specs.Runs.{Cue, makes, settles, cue_lines, reporting, run_lines}
use Rattle.tr_run.specs.Texts.{is_check, lag_line, told_text, sum_after, sum_from, texts_from, text_of_step}
use Rattle.tr_run.specs.Views.{AddsLines, AddsSome, AddsUntold, Does, DoesSome, IsUnchanged, RunView, StopsAtLine, TellsUnmade}

module _ {C M : Type 0} (client : Ghosts C M) where
  -- ---- lines in a row

  -- the sum after some lines, and then more
  pub sum_from-append : (mode : Mode) (m : State C M) (sum : ℕ) (xs ys : List (JournalLine M)) →
      sum_from client mode m sum (xs ++ ys) ≡ sum_from client mode (replay_from client m xs) (sum_from client mode m sum xs) ys
  sum_from-append mode m sum [] ys = refl
  sum_from-append mode m sum (x ∷ xs) ys =
      sum_from-append mode (next client m x.entry.step) (sum_after client mode m sum x.entry.step) xs ys

  -- what is written with some lines, and then with more
  pub texts_from-append : (words : M → List ℕ) (names : Names) (mode : Mode) (earlier : List (JournalLine M)) (m : State C M)
      (xs ys : List (JournalLine M)) →
      texts_from client words names mode earlier m (xs ++ ys)
      ≡ texts_from client words names mode earlier m xs ++ texts_from client words names mode (earlier ++ xs) (replay_from client m xs) ys
  texts_from-append words names mode earlier m [] ys =
      ap (λ (ls : List (JournalLine M)). texts_from client words names mode ls m ys) (sym (append-nil earlier))
  texts_from-append words names mode earlier m (x ∷ xs) ys =
      let after : State C M = next client m x.entry.step in
      let now : List ℕ = text_of_step client words names mode earlier m x.entry.step in
      let some : List ℕ = texts_from client words names mode (earlier ++ x ∷ []) after xs in
      ap (λ (t : List ℕ). now ++ t) (texts_from-append words names mode (earlier ++ x ∷ []) after xs ys)
      ∙ sym (append_assoc now some (texts_from client words names mode ((earlier ++ x ∷ []) ++ xs) (replay_from client after xs) ys))
      ∙ ap (λ (ls : List (JournalLine M)). (now ++ some) ++ texts_from client words names mode ls (replay_from client after xs) ys)
      (append_assoc earlier (x ∷ []) xs)

  -- the lines of some cues, and then of more
  pub run_lines-append : (m : State C M) (xs ys : List (Cue M)) →
      run_lines client m (xs ++ ys) ≡ run_lines client m xs ++ run_lines client (replay_from client m (run_lines client m xs)) ys
  run_lines-append m [] ys = refl
  run_lines-append m (x ∷ xs) ys =
      let first : List (JournalLine M) = cue_lines client m x in
      let after : State C M = replay_from client m first in
      ap (λ (ls : List (JournalLine M)). first ++ ls) (run_lines-append after xs ys)
      ∙ sym (append_assoc first (run_lines client after xs) (run_lines client (replay_from client after (run_lines client after xs)) ys))
      ∙ ap (λ (s : State C M). (first ++ run_lines client after xs) ++ run_lines client s ys)
      (sym (replay_from-append client m first (run_lines client after xs)))

  -- ---- moments of a run

  -- the state at the later moment
  pub state_adds : {words : M → List ℕ} (a b : RunView C M) (xs : List (JournalLine M)) → AddsLines client words a b xs →
      state client b.stage ≡ replay_from client (state client a.stage) xs
  state_adds a b xs adds =
      ap (λ (items : List (Item C)). replay client items b.stage.journal) adds.opening
      ∙ ap (λ (ls : List (JournalLine M)). replay client a.stage.opening ls) adds.journal
      ∙ replay-append client a.stage.opening a.stage.journal xs

  -- from a moment to itself no line is added
  pub Adds-none : (words : M → List ℕ) (a : RunView C M) → AddsLines client words a a []
  Adds-none words a = record {
    opening = refl;
    names = refl;
    mode = refl;
    journal = sym (append-nil a.stage.journal);
    text = sym (append-nil a.text);
    sum = refl;
  }

  -- from one moment to a later one, and then to a still later one
  pub Adds-append : (words : M → List ℕ) (a b c : RunView C M) (xs ys : List (JournalLine M)) → AddsLines client words a b xs →
      AddsLines client words b c ys → AddsLines client words a c (xs ++ ys)
  Adds-append words a b c xs ys first second = record {
    opening = second.opening ∙ first.opening;
    names = second.names ∙ first.names;
    mode = second.mode ∙ first.mode;
    journal = second.journal ∙ ap (λ (ls : List (JournalLine M)). ls ++ ys) first.journal ∙ append_assoc a.stage.journal xs ys;
    text = second.text
        ∙ ap (λ (t : List ℕ). t ++ texts b.names b.mode b.stage.journal (state client b.stage) ys) first.text
        ∙ ap (λ (t : List ℕ). (a.text ++ texts a.names a.mode a.stage.journal was xs) ++ t) later
        ∙ append_assoc a.text (texts a.names a.mode a.stage.journal was xs)
        (texts a.names a.mode (a.stage.journal ++ xs) (replay_from client was xs) ys)
        ∙ ap (λ (t : List ℕ). a.text ++ t) (sym (texts_from-append words a.names a.mode a.stage.journal was xs ys));
    sum = second.sum
        ∙ ap (λ (mode : Mode). sum_from client mode (state client b.stage) b.sum ys) first.mode
        ∙ ap (λ (m : State C M). sum_from client a.mode m b.sum ys) (state_adds a b xs first)
        ∙ ap (λ (sum : ℕ). sum_from client a.mode (replay_from client was xs) sum ys) first.sum
        ∙ sym (sum_from-append a.mode was a.sum xs ys);
  }
    where
      was : State C M
      was = state client a.stage

      texts : Names → Mode → List (JournalLine M) → State C M → List (JournalLine M) → List ℕ
      texts names mode earlier m ls = texts_from client words names mode earlier m ls

      later : texts b.names b.mode b.stage.journal (state client b.stage) ys
          ≡ texts a.names a.mode (a.stage.journal ++ xs) (replay_from client was xs) ys
      later =
          ap (λ (names : Names). texts names b.mode b.stage.journal (state client b.stage) ys) first.names
          ∙ ap (λ (mode : Mode). texts a.names mode b.stage.journal (state client b.stage) ys) first.mode
          ∙ ap (λ (ls : List (JournalLine M)). texts a.names a.mode ls (state client b.stage) ys) first.journal
          ∙ ap (λ (m : State C M). texts a.names a.mode (a.stage.journal ++ xs) m ys) (state_adds a b xs first)

  -- nothing was done
  pub Does-none : (words : M → List ℕ) (a : RunView C M) → Does client words a a []
  Does-none words a = Adds-none words a

  -- some cues were done, and then more
  pub Does-append : (words : M → List ℕ) (a b c : RunView C M) (xs ys : List (Cue M)) → Does client words a b xs →
      Does client words b c ys → Does client words a c (xs ++ ys)
  Does-append words a b c xs ys first second =
      subst (λ (ls : List (JournalLine M)). AddsLines client words a c ls)
      (ap (λ (m : State C M). run_lines client was xs ++ run_lines client m ys) (state_adds a b (run_lines client was xs) first)
      ∙ sym (run_lines-append was xs ys))
      (Adds-append words a b c (run_lines client was xs) (run_lines client (state client b.stage) ys) first second)
    where
      was : State C M
      was = state client a.stage

  -- ---- one step

  -- from one moment to the next a step was made, and written
  pub record HasMade (words : M → List ℕ) (a b : RunView C M) (actor : Actor) (step : Step M) : Type 0 where
    pub opening : b.stage.opening ≡ a.stage.opening
    pub names : b.names ≡ a.names
    pub mode : b.mode ≡ a.mode
    pub journal : b.stage.journal ≡ a.stage.journal ++ line_of_step client (state client a.stage) actor (stated step) step ∷ []
    pub text : b.text ≡ a.text ++ text_of_step client words a.names a.mode a.stage.journal (state client a.stage) step
    pub sum : b.sum ≡ sum_after client a.mode (state client a.stage) a.sum step

  -- its line was added
  pub made_adds : {words : M → List ℕ} {a b : RunView C M} {actor : Actor} {step : Step M} → HasMade words a b actor step →
      AddsLines client words a b (line_of_step client (state client a.stage) actor (stated step) step ∷ [])
  made_adds {words} {a} {b} {actor} {step} made = record {
    opening = made.opening;
    names = made.names;
    mode = made.mode;
    journal = made.journal;
    text = made.text
        ∙ ap (λ (t : List ℕ). a.text ++ t) (sym (append-nil (text_of_step client words a.names a.mode a.stage.journal (state client a.stage) step)));
    sum = made.sum;
  }

  -- the state after it
  pub state_made : (a b : StageView C M) (actor : Actor) (held : List Level) (step : Step M) → b.opening ≡ a.opening →
      b.journal ≡ a.journal ++ line_of_step client (state client a) actor held step ∷ [] → state client b ≡ next client (state client a) step
  state_made a b actor held step opening journal =
      ap (λ (items : List (Item C)). replay client items b.journal) opening
      ∙ ap (λ (ls : List (JournalLine M)). replay client a.opening ls) journal
      ∙ replay-more client a.opening a.journal (line_of_step client (state client a) actor held step)

  -- ---- what is written with a step that isn't a report

  -- it has no text
  told_text-none : (words : M → List ℕ) (names : Names) (lines : List (JournalLine M)) (m : State C M) (step : Step M) →
      is_report step ≡ false → told_text client words names lines m step ≡ []
  told_text-none words names lines m (steps.Report query) h = absurd (false-true (sym h))
  told_text-none words names lines m step h = refl

  -- it leaves the sum
  pub sum_after-other : (mode : Mode) (m : State C M) (sum : ℕ) (step : Step M) → is_report step ≡ false →
      sum_after client mode m sum step ≡ sum
  sum_after-other Gen m sum (steps.Report query) h = absurd (false-true (sym h))
  sum_after-other Gen m sum step h = refl
  sum_after-other mode m sum step h = refl

  -- where it is told how far the screen lags behind, just this is written
  pub text_of_step-lag : (words : M → List ℕ) (names : Names) (mode : Mode) (lines : List (JournalLine M)) (m : State C M) (step : Step M) →
      is_report step ≡ false → (is_check mode && not (is_note step)) ≡ true →
      text_of_step client words names mode lines m step ≡ lag_line client (length lines + 1) (next client m step)
  text_of_step-lag words names Serial lines m step h lags = absurd (false-true lags)
  text_of_step-lag words names Check lines m step h lags =
      ap (λ (t : List ℕ). t ++ cond (is_note step) [] (lag_line client (length lines + 1) (next client m step))) (told_text-none words names lines m step h)
      ∙ unless_note (is_note step) lags
    where
      unless_note : (b : Bool) → not b ≡ true →
          cond b [] (lag_line client (length lines + 1) (next client m step)) ≡ lag_line client (length lines + 1) (next client m step)
      unless_note true lags = absurd (false-true lags)
      unless_note false lags = refl
  text_of_step-lag words names Gen lines m step h lags = absurd (false-true lags)

  -- ---- a step that is added, and then written

  -- from one moment to the next a step was made, and nothing was written yet
  pub record HasAdded (a v : RunView C M) (actor : Actor) (step : Step M) : Type 0 where
    pub opening : v.stage.opening ≡ a.stage.opening
    pub names : v.names ≡ a.names
    pub mode : v.mode ≡ a.mode
    pub journal : v.stage.journal ≡ a.stage.journal ++ line_of_step client (state client a.stage) actor (stated step) step ∷ []
    pub text : v.text ≡ a.text
    pub sum : v.sum ≡ a.sum

  -- then it was written how far the screen lags behind
  pub lagged : {words : M → List ℕ} {a v : RunView C M} {actor : Actor} {step : Step M} (text : List ℕ) → HasAdded a v actor step →
      is_report step ≡ false → (is_check a.mode && not (is_note step)) ≡ true →
      text ≡ v.text ++ lag_line client (length v.stage.journal) (state client v.stage) →
      AddsLines client words a (record v { text = text }) (line_of_step client (state client a.stage) actor (stated step) step ∷ [])
  lagged {words} {a} {v} {actor} {step} text added other lags is = made_adds {words = words} {a = a} {b = new} {actor = actor} {step = step} (record {
    opening = added.opening;
    names = added.names;
    mode = added.mode;
    journal = added.journal;
    text = is
        ∙ ap (λ (t : List ℕ). t ++ lag_line client (length v.stage.journal) (state client v.stage)) added.text
        ∙ ap (λ (t : List ℕ). a.text ++ t) (ap (λ (ls : List (JournalLine M)). lag_line client (length ls) (state client v.stage)) added.journal
        ∙ ap (λ (n : ℕ). lag_line client n (state client v.stage)) (length_push a.stage.journal line)
        ∙ ap (λ (s : State C M). lag_line client (length a.stage.journal + 1) s)
        (state_made a.stage v.stage actor (stated step) step added.opening added.journal)
        ∙ sym (text_of_step-lag words a.names a.mode a.stage.journal (state client a.stage) step other lags));
    sum = added.sum ∙ sym (sum_after-other a.mode (state client a.stage) a.sum step other);
  })
    where
      new : RunView C M
      new = record v { text = text }

      line : JournalLine M
      line = line_of_step client (state client a.stage) actor (stated step) step

  -- memory was wanting for a step other than a report
  abbrev pub IsUnmadeStep : RunView C M → RunView C M → JournalLine M → Type 0
  IsUnmadeStep a b line = IsUnchanged a b ⊎ AddsUntold a b line

  -- then it wasn't written how far the screen lags behind
  pub untold : {a v : RunView C M} {actor : Actor} {step : Step M} (text : List ℕ) → HasAdded a v actor step →
      (is_check a.mode && not (is_note step)) ≡ true → text ≡ v.text →
      IsUnmadeStep a (record v { text = text }) (line_of_step client (state client a.stage) actor (stated step) step)
  untold {a} {v} {actor} {step} text added lags same = inr (record {
    check = first_true (is_check a.mode) lags;
    step = second_false (is_check a.mode) (is_note step) lags;
    opening = added.opening;
    names = added.names;
    mode = added.mode;
    journal = added.journal;
    text = same ∙ added.text;
    sum = added.sum;
  })
    where
      first_true : (b : Bool) → (b && not (is_note step)) ≡ true → b ≡ true
      first_true true both = refl
      first_true false both = both

      second_false : (b x : Bool) → (b && not x) ≡ true → x ≡ false
      second_false true true both = sym both
      second_false true false both = refl
      second_false false x both = absurd (false-true both)

  -- ---- where memory was wanting

  -- it was wanting for the first line that was due
  pub some-first : {words : M → List ℕ} (a b : RunView C M) (line : JournalLine M) (later : List (JournalLine M)) →
      StopsAtLine client words a b line → AddsSome client words a b (line ∷ later)
  some-first {words} a b line later stops = record {
    before = [];
    line = line;
    behind = later;
    are = refl;
    now = a;
    adds = Adds-none words a;
    stops = stops;
  }

  same : (a : RunView C M) → IsUnchanged a a
  same a = record { opening = refl; journal = refl; screen = refl; names = refl; mode = refl; text = refl; sum = refl }

  stops_step : {words : M → List ℕ} {a b : RunView C M} {line : JournalLine M} → IsUnmadeStep a b line → StopsAtLine client words a b line
  stops_step (inl unchanged) = inl unchanged
  stops_step (inr added) = inr (inl added)

  -- of a step other than a report
  pub makes_some : (words : M → List ℕ) (a b : RunView C M) (actor : Actor) (step : Step M) →
      IsUnmadeStep a b (line_of_step client (state client a.stage) actor (stated step) step) → DoesSome client words a b (makes actor step ∷ [])
  makes_some words a b actor step unmade = some-first a b (line_of_step client (state client a.stage) actor (stated step) step) [] (stops_step unmade)

  -- nothing was done, whatever line stands behind those that were due
  pub some-none : {words : M → List ℕ} (a : RunView C M) (due : List (JournalLine M)) (line : JournalLine M) →
      AddsSome client words a a (due ++ line ∷ [])
  some-none a [] line = some-first a a line [] (inl (same a))
  some-none a (x ∷ due) line = some-first a a x (due ++ line ∷ []) (inl (same a))

  -- more lines were due
  pub some-more : {words : M → List ℕ} (a b : RunView C M) (xs ys : List (JournalLine M)) → AddsSome client words a b xs →
      AddsSome client words a b (xs ++ ys)
  some-more a b xs ys some = record {
    before = some.before;
    line = some.line;
    behind = some.behind ++ ys;
    are = ap (λ (ls : List (JournalLine M)). ls ++ ys) some.are ∙ append_assoc some.before (some.line ∷ some.behind) ys;
    now = some.now;
    adds = some.adds;
    stops = some.stops;
  }

  -- some lines were added before
  pub some-after : (words : M → List ℕ) (a b c : RunView C M) (xs ys : List (JournalLine M)) → AddsLines client words a b xs →
      AddsSome client words b c ys → AddsSome client words a c (xs ++ ys)
  some-after words a b c xs ys first second = record {
    before = xs ++ second.before;
    line = second.line;
    behind = second.behind;
    are = ap (λ (ls : List (JournalLine M)). xs ++ ls) second.are ∙ sym (append_assoc xs second.before (second.line ∷ second.behind));
    now = second.now;
    adds = Adds-append words a b second.now xs second.before first second.adds;
    stops = second.stops;
  }

  -- more cues were to be done
  pub DoesSome-more : (words : M → List ℕ) (a b : RunView C M) (xs ys : List (Cue M)) → DoesSome client words a b xs →
      DoesSome client words a b (xs ++ ys)
  DoesSome-more words a b xs ys some =
      let was : State C M = state client a.stage in
      let first : List (JournalLine M) = run_lines client was xs in
      subst (λ (ls : List (JournalLine M)). AddsSome client words a b ls) (sym (run_lines-append was xs ys))
      (some-more a b first (run_lines client (replay_from client was first) ys) some)

  -- some cues were done before
  pub DoesSome-after : (words : M → List ℕ) (a b c : RunView C M) (xs ys : List (Cue M)) → Does client words a b xs →
      DoesSome client words b c ys → DoesSome client words a c (xs ++ ys)
  DoesSome-after words a b c xs ys first second =
      let was : State C M = state client a.stage in
      subst (λ (ls : List (JournalLine M)). AddsSome client words a c ls)
      (ap (λ (m : State C M). run_lines client was xs ++ run_lines client m ys) (state_adds a b (run_lines client was xs) first)
      ∙ sym (run_lines-append was xs ys))
      (some-after words a b c (run_lines client was xs) (run_lines client (state client b.stage) ys) first second)

  -- ---- steps in a row

  -- the lines of the painter's steps so far, and that of one more
  with_step : (words : M → List ℕ) (a now : RunView C M) (steps : List (Step M)) (k : ℕ) (step : Step M) →
      AddsLines client words a now (lines_of_steps client Painter (Mu ∷ []) (state client a.stage) (take k steps)) → stated step ≡ Mu ∷ [] →
      (k < length steps) × (step ≡ get_or steps k step) →
      lines_of_steps client Painter (Mu ∷ []) (state client a.stage) (take k steps) ++ line_of_step client (state client now.stage) Painter (stated step) step
      ∷ []
      ≡ lines_of_steps client Painter (Mu ∷ []) (state client a.stage) (take (k + 1) steps)
  with_step words a now steps k step so_far level at =
      ap (λ (s : State C M). first ++ line_of_step client s Painter (stated step) step ∷ [])
      (state_adds a now first so_far ∙ replay_from-lines_of client Painter (Mu ∷ []) was (take k steps))
      ∙ ap (λ (held : List Level). first ++ line_of_step client after Painter held step ∷ []) level
      ∙ ap (λ (x : Step M). first ++ line_of_step client after Painter (Mu ∷ []) x ∷ []) at.1
      ∙ sym (lines_of-take client Painter (Mu ∷ []) was steps k step at.0)
    where
      was : State C M
      was = state client a.stage

      first : List (JournalLine M)
      first = lines_of_steps client Painter (Mu ∷ []) was (take k steps)

      after : State C M
      after = after_steps client was (take k steps)

  -- the painter's steps so far, and one more
  pub paints_more : (words : M → List ℕ) (a now new : RunView C M) (steps : List (Step M)) (k : ℕ) (step : Step M) →
      AddsLines client words a now (lines_of_steps client Painter (Mu ∷ []) (state client a.stage) (take k steps)) → stated step ≡ Mu ∷ [] →
      (k < length steps) × (step ≡ get_or steps k step) →
      AddsLines client words now new (line_of_step client (state client now.stage) Painter (stated step) step ∷ []) →
      AddsLines client words a new (lines_of_steps client Painter (Mu ∷ []) (state client a.stage) (take (k + 1) steps))
  paints_more words a now new steps k step so_far level at made =
      subst (λ (ls : List (JournalLine M)). AddsLines client words a new ls) (with_step words a now steps k step so_far level at)
      (Adds-append words a now new (lines_of_steps client Painter (Mu ∷ []) (state client a.stage) (take k steps))
      (line_of_step client (state client now.stage) Painter (stated step) step ∷ []) so_far made)

  -- the painter's steps so far, and memory was wanting for one more
  pub paints_some : (words : M → List ℕ) (a now new : RunView C M) (steps : List (Step M)) (k : ℕ) (step : Step M) →
      AddsLines client words a now (lines_of_steps client Painter (Mu ∷ []) (state client a.stage) (take k steps)) → stated step ≡ Mu ∷ [] →
      (k < length steps) × (step ≡ get_or steps k step) →
      IsUnmadeStep now new (line_of_step client (state client now.stage) Painter (stated step) step) →
      AddsSome client words a new (lines_of_steps client Painter (Mu ∷ []) (state client a.stage) steps)
  paints_some words a now new steps k step so_far level at unmade =
      subst (λ (ls : List (JournalLine M)). AddsSome client words a new ls)
      (sym (lines_of-append client Painter (Mu ∷ []) was (take (k + 1) steps) (drop (k + 1) steps))
      ∙ ap (λ (xs : List (Step M)). lines_of_steps client Painter (Mu ∷ []) was xs) (take-append-drop (k + 1) steps))
      (some-more a new (lines_of_steps client Painter (Mu ∷ []) was (take (k + 1) steps))
      (lines_of_steps client Painter (Mu ∷ []) (after_steps client was (take (k + 1) steps)) (drop (k + 1) steps))
      (subst (λ (ls : List (JournalLine M)). AddsSome client words a new ls) (with_step words a now steps k step so_far level at)
      (some-after words a now new (lines_of_steps client Painter (Mu ∷ []) was (take k steps))
      (line_of_step client (state client now.stage) Painter (stated step) step ∷ []) so_far
      (some-first now new (line_of_step client (state client now.stage) Painter (stated step) step) [] (stops_step unmade)))))
    where
      was : State C M
      was = state client a.stage

  -- ---- reports

  -- a report other than a dump is one step
  reporting-other : (query : Query) → (query ≡ queries.Dump → ⊥) → reporting {M = M} query ≡ makes Player (steps.Report query) ∷ []
  reporting-other queries.Dump other = absurd (other refl)
  reporting-other query other = refl

  -- it was made
  pub reports : (words : M → List ℕ) (a b : RunView C M) (query : Query) → (query ≡ queries.Dump → ⊥) →
      AddsLines client words a b (line_of_step client (state client a.stage) Player (Mu ∷ []) (steps.Report query) ∷ []) →
      Does client words a b (reporting query)
  reports words a b query other made = subst (λ (cues : List (Cue M)). Does client words a b cues) (sym (reporting-other query other)) made

  -- the stage was settled, and then a dump was made
  pub dumps : (words : M → List ℕ) (a b c : RunView C M) → AddsLines client words a b (settling_lines client (state client a.stage)) →
      AddsLines client words b c (line_of_step client (state client b.stage) Player (Mu ∷ []) (steps.Report queries.Dump) ∷ []) →
      Does client words a c (reporting queries.Dump)
  dumps words a b c settled made = Does-append words a b c (settles ∷ []) (makes Player (steps.Report queries.Dump) ∷ [])
      (subst (λ (ls : List (JournalLine M)). AddsLines client words a b ls) (sym (append-nil (settling_lines client (state client a.stage)))) settled)
      made

  -- memory was wanting for a report: it wasn't made
  abbrev pub IsUnmade : (words : M → List ℕ) → RunView C M → RunView C M → Query → Type 0
  IsUnmade words a b query =
      IsUnchanged a b ⊎ TellsUnmade client words a b (line_of_step client (state client a.stage) Player (Mu ∷ []) (steps.Report query))

  stops_at : (words : M → List ℕ) (a b : RunView C M) (query : Query) → IsUnmade words a b query →
      StopsAtLine client words a b (line_of_step client (state client a.stage) Player (Mu ∷ []) (steps.Report query))
  stops_at words a b query (inl unchanged) = inl unchanged
  stops_at words a b query (inr told) = inr (inr told)

  -- a report other than a dump
  pub reports_some : (words : M → List ℕ) (a b : RunView C M) (query : Query) → (query ≡ queries.Dump → ⊥) → IsUnmade words a b query →
      DoesSome client words a b (reporting query)
  reports_some words a b query other unmade = subst (λ (cues : List (Cue M)). DoesSome client words a b cues) (sym (reporting-other query other))
      (some-first a b (line_of_step client (state client a.stage) Player (Mu ∷ []) (steps.Report query)) [] (stops_at words a b query unmade))

  -- the stage was settled, and then no dump was made
  pub dumps_some : (words : M → List ℕ) (a b c : RunView C M) → AddsLines client words a b (settling_lines client (state client a.stage)) →
      IsUnmade words b c queries.Dump → DoesSome client words a c (reporting queries.Dump)
  dumps_some words a b c settled unmade = DoesSome-after words a b c (settles ∷ []) (makes Player (steps.Report queries.Dump) ∷ [])
      (subst (λ (ls : List (JournalLine M)). AddsLines client words a b ls) (sym (append-nil (settling_lines client (state client a.stage)))) settled)
      (some-first b c (line_of_step client (state client b.stage) Player (Mu ∷ []) (steps.Report queries.Dump)) [] (stops_at words b c queries.Dump unmade))

  -- the stage wasn't settled
  pub settles_some : (words : M → List ℕ) (a b : RunView C M) →
      ((line : JournalLine M) → AddsSome client words a b (settling_lines client (state client a.stage) ++ line ∷ [])) →
      DoesSome client words a b (reporting queries.Dump)
  settles_some words a b some =
      let was : State C M = state client a.stage in
      some (line_of_step client (replay_from client was (settling_lines client was)) Player (Mu ∷ []) (steps.Report queries.Dump))
