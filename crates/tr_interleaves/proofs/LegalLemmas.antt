-- Legal journals: their entries determine their lines, and only leaves that there are make steps in them.
use Rattle.std.proofs.Common.{◌≡◌, ℕ, ◌<◌, Bool, true, false, ◌==◌, cond, List, [], ◌∷◌, ◌++◌, map, refl, sym, ap, subst, ◌∙◌}
use Rattle.std.specs.Prelude.{⊤}
use Rattle.std.proofs.lemmas.Bool.{eqb-true}
use Rattle.tr_base.specs.declared.LeafId.{LeafId}
use Rattle.tr_base.proofs.RectLemmas.{false-true}
use Rattle.tr_base.proofs.BoolLemmas.{from_or_false}
use Rattle.tr_client.specs.declared.clients.Client.{Ghosts}
use Rattle.tr_forest.specs.Nodes.{Nodes, leaf_count}
use Rattle.tr_journal.specs.declared.entries.Entry.{Entry}
use Rattle.tr_journal.specs.declared.steps.Actor.{Actor}
use Rattle.tr_journal.specs.declared.steps.Actor.TheVariants.{Leaf, Desk, Painter, Player}
use Rattle.tr_journal.specs.declared.steps.Step.{Step}
use Rattle.tr_journal.specs.declared.steps.Step.TheVariants as steps
use Rattle.tr_journal.specs.Actors.{entries_of, is_by, made_in, steps_of}
use Rattle.tr_journal.specs.Journals.{JournalLine}
use Rattle.tr_journal.specs.Steps.{IsLeaf, IsOwn, IsStep, may}
use Rattle.tr_machine.specs.States.{State}
use Rattle.tr_machine.specs.Replays.{IsLegalFrom, line_of_step, next}
use Rattle.tr_interleaves.specs.Interleaves.{steps_in}

-- ---- lists

-- the first element of a list, or another one where there is none
abbrev first_or : {A : Type 0} → A → List A → A
first_or d [] = d
first_or d (x ∷ xs) = x

abbrev rest : {A : Type 0} → List A → List A
rest [] = []
rest (x ∷ xs) = xs

abbrev some : {A : Type 0} → List A → Bool
some [] = false
some (x ∷ xs) = true

-- ---- leaves

-- one of two leaves has the number of the other
same_leaf : (t : Nodes) (a b : LeafId) → (b.0 == a.0) ≡ true → IsLeaf t a → IsLeaf t b
same_leaf t a b is in_tree = record { within = subst (λ (n : ℕ). n < leaf_count t) (sym (eqb-true b.0 a.0 is)) in_tree.within }

-- a leaf's actor makes steps of that leaf, so there is such a leaf
pub leaf_acts : {M : Type 0} (t : Nodes) (leaf : LeafId) (step : Step M) → may (Leaf leaf) step ≡ true → IsStep t step → IsLeaf t leaf
leaf_acts t leaf (steps.Act of cmd) may is = same_leaf t of leaf may is
leaf_acts t leaf (steps.Mark of clip) may is = same_leaf t of leaf may is.0
leaf_acts t leaf (steps.Take of) may is = same_leaf t of leaf may is
leaf_acts t leaf (steps.SetCage of cage) may is = same_leaf t of leaf may is.0
leaf_acts t leaf (steps.Own of selection time) may is = same_leaf t of leaf may is.0
leaf_acts t leaf (steps.Disown of selection) may is = same_leaf t of leaf may is
leaf_acts t leaf (steps.Read of selection) may is = same_leaf t of leaf may is
leaf_acts t leaf (steps.Flush of) may is = same_leaf t of leaf (from_or_false (leaf.0 == of.0) may) is
leaf_acts t leaf (steps.Repaint of) may is = same_leaf t of leaf (from_or_false (leaf.0 == of.0) may) is
leaf_acts t leaf step may is = absurd (false-true may)

-- steps that are each its actor's own
abbrev pub AreMade : {M : Type 0} → Nodes → List (Actor × Step M) → Type 0
AreMade t [] = ⊤
AreMade t (made ∷ later) = IsOwn t made.0 made.1 × AreMade t later

-- a leaf that isn't in the tree made none of them
pub no_leaf-steps : {M : Type 0} (t : Nodes) (leaf : LeafId) (made : List (Actor × Step M)) → (IsLeaf t leaf → ⊥) → AreMade t made →
    steps_of (Leaf leaf) made ≡ []
no_leaf-steps t leaf [] none are = refl
no_leaf-steps {M} t leaf (x ∷ xs) none are =
    ap (λ (b : Bool). cond b (x.1 ∷ steps_of (Leaf leaf) xs) (steps_of (Leaf leaf) xs)) (not_by x.0 x.1 are.0.may are.0.values)
    ∙ no_leaf-steps t leaf xs none are.1
  where
    not_by : (actor : Actor) (step : Step M) → may actor step ≡ true → IsStep t step → is_by (Leaf leaf) actor ≡ false
    not_by (Leaf own) step can is = by_test (own.0 == leaf.0) refl
      where
        by_test : (b : Bool) → (own.0 == leaf.0) ≡ b → b ≡ false
        by_test true same = absurd (none (same_leaf t own leaf (eqb-sym same) (leaf_acts t own step can is)))
          where
            eqb-sym : (own.0 == leaf.0) ≡ true → (leaf.0 == own.0) ≡ true
            eqb-sym h = sym (ap (λ (n : ℕ). n == own.0) (eqb-true own.0 leaf.0 h)) ∙ ap (λ (n : ℕ). own.0 == n) (eqb-true own.0 leaf.0 h) ∙ h
        by_test false same = refl
    not_by Desk step can is = refl
    not_by Painter step can is = refl
    not_by Player step can is = refl

-- who made the steps of some lines, and the steps
abbrev made_of : {M : Type 0} → List (JournalLine M) → List (Actor × Step M)
made_of lines = map made_in (entries_of lines)

module _ {C M : Type 0} (client : Ghosts C M) where
  -- the first lines of a legal journal are legal
  pub legal_first : (t : Nodes) (m : State C M) (xs ys : List (JournalLine M)) → IsLegalFrom client t m (xs ++ ys) → IsLegalFrom client t m xs
  legal_first t m [] ys legal = tt
  legal_first t m (x ∷ xs) ys legal = (legal.0, legal_first t (next client m x.entry.step) xs ys legal.1)

  -- lines that are legal from one state, and have the same entries, are the same
  pub same_lines : (t : Nodes) (m : State C M) (xs ys : List (JournalLine M)) → IsLegalFrom client t m xs → IsLegalFrom client t m ys →
      entries_of xs ≡ entries_of ys → xs ≡ ys
  same_lines t m [] [] first second same = refl
  same_lines t m [] (y ∷ ys) first second same = absurd (false-true (ap (λ (es : List (Entry M)). some es) same))
  same_lines t m (x ∷ xs) [] first second same = absurd (false-true (sym (ap (λ (es : List (Entry M)). some es) same)))
  same_lines t m (x ∷ xs) (y ∷ ys) first second same =
      ap (λ (l : JournalLine M). l ∷ xs) here
      ∙ ap (λ (ls : List (JournalLine M)). y ∷ ls) (same_lines t (next client m y.entry.step) xs ys
      (subst (λ (l : JournalLine M). IsLegalFrom client t (next client m l.entry.step) xs) here first.1) second.1
      (ap (λ (es : List (Entry M)). rest es) same))
    where
      entry : x.entry ≡ y.entry
      entry = ap (λ (es : List (Entry M)). first_or x.entry es) same

      here : x ≡ y
      here = first.0.made ∙ ap (λ (e : Entry M). line_of_step client m e.actor e.level e.step) entry ∙ sym second.0.made

  -- the steps of a legal journal are such ones
  are_made : (t : Nodes) (m : State C M) (lines : List (JournalLine M)) → IsLegalFrom client t m lines → AreMade t (made_of lines)
  are_made t m [] legal = tt
  are_made t m (line ∷ lines) legal = (legal.0.allowed.own, are_made t (next client m line.entry.step) lines legal.1)

  -- a leaf that isn't in the tree made none of them
  pub no_leaf-lines : (t : Nodes) (m : State C M) (leaf : LeafId) (lines : List (JournalLine M)) → (IsLeaf t leaf → ⊥) →
      IsLegalFrom client t m lines → steps_in (Leaf leaf) lines ≡ []
  no_leaf-lines t m leaf lines none legal = no_leaf-steps t leaf (made_of lines) none (are_made t m lines legal)
