-- What the definitions say of a script of two parts, computed: a command of leaf 0, a sync, and then a report, a command of leaf 1, and two keys.
use Rattle.std.proofs.Common.{◌≡◌, ℕ, true, List, [], ◌∷◌, ap, refl, sym, arith}
use Rattle.tr_base.proofs.RectLemmas.{false-true}
use Rattle.tr_journal.specs.declared.answers.Answer.TheVariants.{Done}
use Rattle.tr_journal.specs.declared.steps.Actor.{Actor}
use Rattle.tr_journal.specs.declared.steps.Actor.TheVariants as actors
use Rattle.tr_journal.specs.declared.steps.Query.TheVariants.{Peek}
use Rattle.tr_journal.specs.declared.steps.Step.{Step}
use Rattle.tr_journal.specs.declared.steps.Step.TheVariants as steps
use Rattle.tr_journal.specs.Actors.{is_maker, made_in, steps_of}
use Rattle.tr_journal.specs.Journals.{JournalLine}
use Rattle.tr_journal.specs.Parts.{Part}
use Rattle.tr_interleaves.specs.Interleaves.{AreStretches, IsPlayerFirst, IsStretch, steps_in, stretches}
use Rattle.tr_interleaves.proofs.StretchLemmas.{no_steps}

-- a line of a journal, as far as an interleaving looks at it
abbrev line : Actor → Step ℕ → JournalLine ℕ
line actor step = record {
  entry = record { actor = actor; level = []; step = step; reply = record { answer = Done; sent = 0 } };
  sent = [];
}

-- a command of a leaf
abbrev act : ℕ → JournalLine ℕ
act n = line (actors.Leaf (record { 0 = n })) (steps.Act (record { 0 = n }) 7)

-- a key at a time
abbrev key : ℕ → JournalLine ℕ
key time = line actors.Desk (steps.Key time 9)

abbrev sync : JournalLine ℕ
sync = line actors.Player steps.Sync

abbrev peek : JournalLine ℕ
peek = line actors.Player (steps.Report Peek)

abbrev frame : JournalLine ℕ
frame = line actors.Painter steps.PaintFrame

-- the parts of the script
abbrev part_one : Part ℕ
part_one = record { reports = []; steps = made_in (act 0).entry ∷ [] }

abbrev part_two : Part ℕ
part_two = record { reports = Peek ∷ []; steps = made_in (act 1).entry ∷ made_in (key 1).entry ∷ made_in (key 2).entry ∷ [] }

-- ---- stretches

-- a journal is cut at its syncs, also where nothing stands between them
cut : stretches (act 0 ∷ frame ∷ sync ∷ peek ∷ key 1 ∷ act 1 ∷ []) ≡ (act 0 ∷ frame ∷ []) ∷ (peek ∷ key 1 ∷ act 1 ∷ []) ∷ []
cut = refl

cut_nothing : stretches (sync ∷ sync ∷ []) ≡ [] ∷ [] ∷ [] ∷ []
cut_nothing = refl

uncut : stretches (act 0 ∷ act 1 ∷ []) ≡ (act 0 ∷ act 1 ∷ []) ∷ []
uncut = refl

-- an actor's steps
desk_steps : steps_in actors.Desk (peek ∷ key 1 ∷ act 1 ∷ key 2 ∷ []) ≡ steps.Key 1 9 ∷ steps.Key 2 9 ∷ []
desk_steps = refl

-- the desk's keys stand in their order, the leaf's command between them, and the painter anywhere
one_order : (actor : Actor) → is_maker actor ≡ true →
    steps_in actor (frame ∷ peek ∷ key 1 ∷ act 1 ∷ frame ∷ key 2 ∷ []) ≡ steps_of actor part_two.steps
one_order (actors.Leaf leaf) is = refl
one_order actors.Desk is = refl
one_order actors.Painter is = absurd (false-true is)
one_order actors.Player is = absurd (false-true is)

of_two : IsStretch part_two (frame ∷ peek ∷ key 1 ∷ act 1 ∷ frame ∷ key 2 ∷ [])
of_two = record {
  steps = one_order;
  reports = refl;
  first = (λ maker. absurd (false-true maker), (λ maker. refl, (λ maker. refl, (λ maker. refl, (λ maker. refl, (λ maker. refl, tt))))));
}

of_one : (actor : Actor) → is_maker actor ≡ true → steps_in actor (act 0 ∷ []) ≡ steps_of actor part_one.steps
of_one (actors.Leaf leaf) is = refl
of_one actors.Desk is = refl
of_one actors.Painter is = absurd (false-true is)
of_one actors.Player is = absurd (false-true is)

-- so this journal has the stretches of the script
of_script : AreStretches (part_one ∷ part_two ∷ []) (stretches (act 0 ∷ sync ∷ frame ∷ peek ∷ key 1 ∷ act 1 ∷ frame ∷ key 2 ∷ []))
of_script = (record { steps = of_one; reports = refl; first = (λ maker. refl, tt) }, (of_two, tt))

-- ---- what is none

-- the keys exchanged
abbrev time : List (Step ℕ) → ℕ
time (steps.Key t code ∷ later) = t
time later = 0

keys_exchanged : IsStretch part_two (peek ∷ act 1 ∷ key 2 ∷ key 1 ∷ []) → ⊥
keys_exchanged is =
    let same : 2 ≡ 1 = ap (λ (xs : List (Step ℕ)). time xs) (is.steps actors.Desk refl) in
    absurd (omega (arith, same))

-- a report behind a step
late_report : IsPlayerFirst (key 1 ∷ peek ∷ []) → ⊥
late_report is = false-true (sym (no_steps true (steps.Report Peek) [] (is.0 refl)).0)

-- a sync too few
one_stretch : AreStretches (part_one ∷ part_two ∷ []) (stretches (act 0 ∷ peek ∷ act 1 ∷ key 1 ∷ key 2 ∷ [])) → ⊥
one_stretch is = is.1
