-- What is done one after another, and what a run from its start comes to.
use Rattle.std.proofs.Common.{◌≡◌, ℕ, zero, suc, ◌+◌, ◌<◌, true, false, cond, List, [], ◌∷◌, ◌++◌, length, take, get_or, sym, ap, subst, ◌∙◌, append_assoc, add-one, arith}
use Rattle.std.specs.Prelude.{Bool, All, map}
use Rattle.std.specs.List.{flat_map}
use Rattle.std.proofs.lemmas.List.{append-nil, flat_map_more, map_more, take_more}
use Rattle.std.proofs.lemmas.List.Elements.{All-weaker}
use Rattle.tr_client.specs.declared.Client.{Ghosts}
use Rattle.tr_forest.specs.Nodes.{Nodes}
use Rattle.tr_journal.specs.declared.Actor.{Actor}
use Rattle.tr_journal.specs.declared.Actor.TheVariants.{Player}
use Rattle.tr_journal.specs.declared.Item.{Item}
use Rattle.tr_journal.specs.declared.Step.{Step}
use Rattle.tr_journal.specs.declared.Step.TheVariants.{Sync}
use Rattle.tr_journal.specs.Journals.{JournalLine}
use Rattle.tr_journal.specs.Reports.{is_report}
use Rattle.tr_journal.specs.Steps.{IsOwn}
use Rattle.tr_widget.specs.declared.WidgetCmd.{WidgetCmd}
use Rattle.tr_machine.specs.States.{State, start}
use Rattle.tr_machine.specs.Replays.{replay}
use Rattle.tr_grammar.specs.Scripts.{IsPlayable, IsPlayablePart}
use Rattle.tr_journal.specs.Names.{Names}
use Rattle.tr_journal.specs.Parts.{Part}
use Rattle.tr_stage.specs.Stages.{state}
use Rattle.tr_run.specs.declared.Mode.{Mode}
use Rattle.tr_run.specs.Runs.{Cue, makes, run_lines}
use Rattle.tr_run.specs.Texts.{sum_from, texts_from}
use Rattle.tr_run.specs.Views.{Does, RunView}
use Rattle.tr_run.proofs.RunLemmas.{Does-append}
use Rattle.tr_serial.specs.Outputs.{cues, later_cues, part_cues}

-- ---- lists so far, and one element more

-- the element of a list that stands behind k others
pub record IsAt {A : Type 0} (xs : List A) (k : ℕ) (x : A) : Type 0 where
  pub within : k < length xs
  pub is : x ≡ get_or xs k x

pub flat_map_next : {A B : Type 0} (f : A → List B) (xs : List A) (k : ℕ) (x : A) → IsAt xs k x →
    flat_map f (take k xs) ++ f x ≡ flat_map f (take (k + 1) xs)
flat_map_next {A} f xs k x at =
    flat_map_more f [] (take k xs) x
    ∙ ap (λ (y : A). flat_map f (take k xs ++ y ∷ [])) at.is
    ∙ ap (λ (ys : List A). flat_map f ys) (sym (take_more xs k x at.within))

pub map_next : {A B : Type 0} (f : A → B) (xs : List A) (k : ℕ) (x : A) → IsAt xs k x →
    map f (take k xs) ++ f x ∷ [] ≡ map f (take (k + 1) xs)
map_next {A} f xs k x at =
    ap (λ (y : A). map f (take k xs) ++ f y ∷ []) at.is ∙ sym (map_more f xs k x at.within)

-- ---- parts so far, and one part more

-- a part is a later one where others stand before it
abbrev pub is_later : ℕ → Bool
is_later zero = false
is_later (suc k) = true

-- what a part has done, which is a later one or not
abbrev pub cues_of : Bool → Part WidgetCmd → List (Cue WidgetCmd)
cues_of later part = cond later (makes Player Sync ∷ []) [] ++ part_cues part

cues_suc : (parts : List (Part WidgetCmd)) (k : ℕ) (part : Part WidgetCmd) → IsAt parts k part →
    cues (take k parts) ++ cues_of (is_later k) part ≡ cues (take (suc k) parts)
cues_suc [] k part at = let none : k < 0 = at.within in absurd (omega arith)
cues_suc (p ∷ ps) zero part at = ap (λ (q : Part WidgetCmd). part_cues q) at.is ∙ sym (append-nil (part_cues p))
cues_suc (p ∷ ps) (suc k) part at =
    let within : k < length ps = omega (arith, at.within) in
    append_assoc (part_cues p) (flat_map later_cues (take k ps)) (later_cues part)
    ∙ ap (λ (ds : List (Cue WidgetCmd)). part_cues p ++ ds)
    (flat_map_next later_cues ps k part (record { within = within; is = at.is })
    ∙ ap (λ (n : ℕ). flat_map later_cues (take n ps)) (add-one k))

pub cues_next : (parts : List (Part WidgetCmd)) (k : ℕ) (part : Part WidgetCmd) → IsAt parts k part →
    cues (take k parts) ++ cues_of (is_later k) part ≡ cues (take (k + 1) parts)
cues_next parts k part at = cues_suc parts k part at ∙ ap (λ (n : ℕ). cues (take n parts)) (sym (add-one k))

pub is_later_next : (k : ℕ) → true ≡ is_later (k + 1)
is_later_next k = sym (ap is_later (add-one k))

-- its steps can be made
pub record AreReady (t : Nodes) (steps : List (Actor × Step WidgetCmd)) : Type 0 where
  pub own : All (λ (made : Actor × Step WidgetCmd). IsOwn t made.0 made.1) steps
  pub other : All (λ (made : Actor × Step WidgetCmd). is_report made.1 ≡ false) steps

pub ready : (t : Nodes) (part : Part WidgetCmd) → IsPlayablePart t part → AreReady t part.steps
ready t part playable = record {
  own = All-weaker (IsPlayable t) (λ (made : Actor × Step WidgetCmd). IsOwn t made.0 made.1) (λ made is. is.own) part.steps playable.steps;
  other = All-weaker (IsPlayable t) (λ (made : Actor × Step WidgetCmd). is_report made.1 ≡ false) (λ made is. is.other) part.steps playable.steps;
}

-- ---- runs

module _ {C M : Type 0} (client : Ghosts C M) (words : M → List ℕ) where
  -- some cues were done, and then more, which together are these
  pub goes_on : (a now new : RunView C M) (before more together : List (Cue M)) → Does client words a now before →
      Does client words now new more → before ++ more ≡ together → Does client words a new together
  goes_on a now new before more together so_far next is =
      subst (λ (ds : List (Cue M)). Does client words a new ds) is (Does-append client words a now new before more so_far next)

  -- a run before its first step
  pub record HasStarted (a : RunView C M) (items : List (Item C)) (named : Names) (how : Mode) : Type 0 where
    pub opening : a.stage.opening ≡ items
    pub journal : a.stage.journal ≡ []
    pub names : a.names ≡ named
    pub mode : a.mode ≡ how
    pub text : a.text ≡ []
    pub sum : a.sum ≡ 0

  -- what all the cues of a run come to
  pub record HasPlayed (b : RunView C M) (items : List (Item C)) (named : Names) (how : Mode) (done : List (Cue M)) : Type 0 where
    pub opening : b.stage.opening ≡ items
    pub journal : b.stage.journal ≡ run_lines client (start items) done
    pub text : b.text ≡ texts_from client words named how [] (start items) (run_lines client (start items) done)
    pub sum : b.sum ≡ sum_from client how (start items) 0 (run_lines client (start items) done)

  pub played : (a b : RunView C M) (items : List (Item C)) (named : Names) (how : Mode) (done : List (Cue M)) →
      HasStarted a items named how → Does client words a b done → HasPlayed b items named how done
  played a b items named how done started did = record {
    opening = did.opening ∙ started.opening;
    journal = did.journal ∙ ap (λ (ls : List (JournalLine M)). ls ++ now) started.journal ∙ lines;
    text = did.text
        ∙ ap (λ (t : List ℕ). t ++ texts_from client words a.names a.mode a.stage.journal was now) started.text
        ∙ ap (λ (names : Names). texts_from client words names a.mode a.stage.journal was now) started.names
        ∙ ap (λ (mode : Mode). texts_from client words named mode a.stage.journal was now) started.mode
        ∙ ap (λ (ls : List (JournalLine M)). texts_from client words named how ls was now) started.journal
        ∙ ap (λ (m : State C M). texts_from client words named how [] m (run_lines client m done)) at_start;
    sum = did.sum
        ∙ ap (λ (mode : Mode). sum_from client mode was a.sum now) started.mode
        ∙ ap (λ (sum : ℕ). sum_from client how was sum now) started.sum
        ∙ ap (λ (m : State C M). sum_from client how m 0 (run_lines client m done)) at_start;
  }
    where
      was : State C M
      was = state client a.stage

      now : List (JournalLine M)
      now = run_lines client was done

      at_start : was ≡ start items
      at_start =
          ap (λ (xs : List (Item C)). replay client xs a.stage.journal) started.opening
          ∙ ap (λ (ls : List (JournalLine M)). replay client items ls) started.journal

      lines : now ≡ run_lines client (start items) done
      lines = ap (λ (m : State C M). run_lines client m done) at_start
