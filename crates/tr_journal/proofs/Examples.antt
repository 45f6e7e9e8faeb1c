-- What the definitions say of the lists and the entries of two leaves, computed. Commands are numbers.
use Rattle.std.proofs.Common.{◌≡◌, ℕ, zero, suc, ◌<◌, List, [], ◌∷◌, Some, None, refl, lit<, arith}
use Rattle.tr_journal.specs.declared.answers.Answer.TheVariants.{Done}
use Rattle.tr_journal.specs.declared.steps.Actor.{Actor}
use Rattle.tr_journal.specs.declared.steps.Actor.TheVariants.{Leaf, Desk, Painter, Player}
use Rattle.tr_journal.specs.declared.steps.Step.{Step}
use Rattle.tr_journal.specs.declared.steps.Step.TheVariants.{Act, PaintFrame, Sync}
use Rattle.tr_journal.specs.declared.entries.Entry.{Entry}
use Rattle.tr_journal.specs.declared.differences.Apart.TheVariants.{Kept, Own}
use Rattle.tr_journal.specs.Actors.{steps_by, steps_of}
use Rattle.tr_journal.specs.Lists.{HasList, ListsView, list_of, no_steps, with_list, with_step}
use Rattle.tr_journal.specs.Differences.{Account, IsBefore, IsFirstDiffering, Matches}

-- the client of the first leaf, and of the second
abbrev a : Actor
a = Leaf (record { 0 = 0 })

abbrev b : Actor
b = Leaf (record { 0 = 1 })

-- a step of the first leaf
abbrev tint : ℕ → Step ℕ
tint n = Act (record { 0 = 0 }) n

-- an entry that sent nothing
abbrev by : Actor → Step ℕ → Entry ℕ
by actor step = record { actor = actor; level = []; step = step; reply = record { answer = Done; sent = 0 } }

-- the lists of two leaves, where the first one's has one step
abbrev lists_with : ℕ → ListsView ℕ
lists_with n = with_step (no_steps 2) a (tint n)

-- a step stands at the end of its actor's list, and in no other
added : list_of (with_step (lists_with 8) a (tint 9)) a ≡ tint 8 ∷ tint 9 ∷ []
added = refl

added_not : list_of (with_step (lists_with 8) a (tint 9)) b ≡ []
added_not = refl

-- steps that are put in the place of an actor's are its only ones
replaced : list_of (with_list (lists_with 8) a (tint 9 ∷ [])) a ≡ tint 9 ∷ []
replaced = refl

-- the steps of an actor are its entries' in their order, whatever stands between
picked : steps_by a (by a (tint 1) ∷ by Painter PaintFrame ∷ by Player Sync ∷ by a (tint 2) ∷ []) ≡ tint 1 ∷ tint 2 ∷ []
picked = refl

-- and those of a script's part
picked_of : steps_of b ((a, tint 1) ∷ (b, tint 2) ∷ (Desk, tint 3) ∷ []) ≡ tint 2 ∷ []
picked_of = refl

-- an account of these entries, with an opening of no item
abbrev account : List (Entry ℕ) → Account ℕ ℕ
account entries = record { opening = []; entries = entries }

-- nothing was kept, and the first leaf made a step and the painter one
abbrev stage : Account ℕ ℕ
stage = account (by a (tint 7) ∷ by Painter PaintFrame ∷ [])

-- no actor comes before the first leaf's client
nobody : {P : Type 0} (other : Actor) → IsBefore other a → P
nobody (Leaf k) before = absurd (omega arith)
nobody Desk before = absurd before
nobody Painter before = absurd before
nobody Player before = absurd before

-- the colour of such a step
abbrev colour : Step ℕ → ℕ
colour (Act leaf n) = n
colour step = 0

-- a list that says 8 where the stage has 7
differs : IsFirstDiffering (account []) (lists_with 8) stage (record { place = 1; what = Own a (Some (tint 8)) (Some (tint 7)) })
differs = (
  record { listed = lit< tt; opening = refl; entries = refl; steps = λ other listed before. nobody other before },
  record {
    first = record { counted = lit< tt; before = refl; there = λ e. grind (arith, e) };
    made = refl;
    found = refl;
  },
)

-- a true list: the painter's step is in none
leaf_agrees : (k : ℕ) → k < 2 → list_of (lists_with 7) (Leaf (record { 0 = k })) ≡ steps_by (Leaf (record { 0 = k })) stage.entries
leaf_agrees zero low = refl
leaf_agrees (suc zero) low = refl
leaf_agrees (suc (suc k)) low = absurd (omega arith)

agrees : Matches (account []) (lists_with 7) stage
agrees = record { opening = refl; entries = refl; steps = steps }
  where
    steps : (actor : Actor) → HasList 2 actor → list_of (lists_with 7) actor ≡ steps_by actor stage.entries
    steps (Leaf k) listed = leaf_agrees k.0 listed
    steps Desk listed = refl
    steps Painter listed = absurd listed
    steps Player listed = refl

-- a kept entry that the stage hasn't
abbrev first : Entry ℕ
first = by a (tint 1)

abbrev second : Entry ℕ
second = by b (tint 2)

misses : IsFirstDiffering (account (first ∷ second ∷ [])) (no_steps 2) (account (first ∷ [])) (record { place = 2; what = Kept (Some second) None })
misses = (
  refl,
  record {
    first = record { counted = lit< tt; before = refl; there = λ e. cc };
    made = refl;
    found = refl;
  },
)
