-- Steps that are made one after another on a stage.
use Rattle.std.proofs.Common.{◌≡◌, ℕ, ◌+◌, ◌<◌, List, [], ◌∷◌, ◌++◌, length, take, get_or, refl, sym, ap, subst, ◌∙◌, append_assoc, append-nil}
use Rattle.std.proofs.lemmas.List.{take_more}
use Rattle.tr_base.proofs.RectLemmas.{false-true}
use Rattle.std.specs.Prelude.{true}
use Rattle.tr_client.specs.declared.clients.Client.{Ghosts}
use Rattle.tr_journal.specs.declared.steps.Actor.{Actor}
use Rattle.tr_journal.specs.declared.steps.Actor.TheVariants as actors
use Rattle.tr_journal.specs.declared.steps.Step.{Step}
use Rattle.tr_journal.specs.Actors.{is_maker, steps_of}
use Rattle.tr_journal.specs.Journals.{JournalLine}
use Rattle.tr_journal.specs.Steps.{stated}
use Rattle.tr_journal.proofs.ActorLemmas.{steps_of-append}
use Rattle.tr_machine.specs.Replays.{line_of_step}
use Rattle.tr_interleaves.specs.Interleaves.{steps_in}
use Rattle.tr_interleaves.proofs.StretchLemmas.{steps_in-append}
use Rattle.tr_stage.specs.Stages.{StageView, state}
use Rattle.tr_parts.specs.Turns.{HasRun}

-- a step of a leaf's client or of the desk isn't the player's
not_player : {M : Type 0} (actor : Actor) (step : Step M) → is_maker actor ≡ true → steps_of actors.Player ((actor, step) ∷ []) ≡ []
not_player (actors.Leaf leaf) step is = refl
not_player actors.Desk step is = refl
not_player actors.Painter step is = absurd (false-true is)
not_player actors.Player step is = absurd (false-true is)

-- no step was made yet
pub none_made : {C M : Type 0} (s : StageView C M) → HasRun s s []
none_made s = record {
  lines = [];
  opening = refl;
  journal = sym (append-nil s.journal);
  made = λ actor maker. refl;
  player = refl;
}

module _ {C M : Type 0} (client : Ghosts C M) where
  -- from one stage to the next, a leaf's client or the desk made a step
  pub record HasMade (now new : StageView C M) (made : Actor × Step M) : Type 0 where
    pub maker : is_maker made.0 ≡ true
    pub opening : new.opening ≡ now.opening
    pub journal : new.journal ≡ now.journal ++ line_of_step client (state client now) made.0 (stated made.1) made.1 ∷ []

  one_more : (s now new : StageView C M) (before : List (Actor × Step M)) (made : Actor × Step M) → HasRun s now before →
      HasMade now new made → HasRun s new (before ++ made ∷ [])
  one_more s now new before made so_far is = record {
    lines = so_far.lines ++ line ∷ [];
    opening = is.opening ∙ so_far.opening;
    journal = is.journal ∙ ap (λ (ls : List (JournalLine M)). ls ++ line ∷ []) so_far.journal ∙ append_assoc s.journal so_far.lines (line ∷ []);
    made = λ other of.
        steps_in-append other so_far.lines (line ∷ [])
        ∙ ap (λ (xs : List (Step M)). xs ++ steps_in other (line ∷ [])) (so_far.made other of)
        ∙ sym (steps_of-append other before (made ∷ []));
    player = steps_in-append actors.Player so_far.lines (line ∷ [])
        ∙ ap (λ (xs : List (Step M)). xs ++ steps_in actors.Player (line ∷ [])) so_far.player
        ∙ not_player made.0 made.1 is.maker;
  }
    where
      line : JournalLine M
      line = line_of_step client (state client now) made.0 (stated made.1) made.1

  -- the steps so far, and one more
  pub next_made : (s now new : StageView C M) (all : List (Actor × Step M)) (k : ℕ) (made : Actor × Step M) →
      (k < length all) × (made ≡ get_or all k made) → HasRun s now (take k all) → HasMade now new made → HasRun s new (take (k + 1) all)
  next_made s now new all k made at so_far is =
      subst (λ (xs : List (Actor × Step M)). HasRun s new xs)
      (ap (λ (x : Actor × Step M). take k all ++ x ∷ []) at.1 ∙ sym (take_more all k made at.0))
      (one_more s now new (take k all) made so_far is)
