-- The steps of one actor among those of many: of a script, or of a journal.
use Rattle.std.specs.Prelude.{Bool, true, false, if◌then◌else◌, List, [], ◌∷◌, map}
use Rattle.tr_journal.specs.declared.steps.Actor.{Actor}
use Rattle.tr_journal.specs.declared.steps.Actor.TheVariants as actors
use Rattle.tr_journal.specs.declared.steps.Step.{Step}
use Rattle.tr_journal.specs.declared.entries.Entry.{Entry}
use Rattle.tr_journal.specs.Journals.{JournalLine}
use Rattle.tr_journal.specs.Steps.{is_leaf_actor, is_desk, is_painter, is_player}

-- both are the same actor
abbrev pub is_by : Actor → Actor → Bool
is_by (actors.Leaf leaf) other = is_leaf_actor leaf other
is_by actors.Desk other = is_desk other
is_by actors.Painter other = is_painter other
is_by actors.Player other = is_player other

-- a leaf's client or the desk: an actor whose steps are in a script
abbrev pub is_maker : Actor → Bool
is_maker (actors.Leaf leaf) = true
is_maker actors.Desk = true
is_maker actor = false

-- the steps of one actor among those of many, in their order
abbrev pub steps_of : {M : Type 0} → Actor → List (Actor × Step M) → List (Step M)
steps_of actor [] = []
steps_of actor (made ∷ later) = if is_by actor made.0 then made.1 ∷ steps_of actor later else steps_of actor later

-- the actor of an entry, and the step
abbrev pub made_in : {M : Type 0} → Entry M → Actor × Step M
made_in e = (e.actor, e.step)

-- the steps that one actor made among these entries, in their order
abbrev pub steps_by : {M : Type 0} → Actor → List (Entry M) → List (Step M)
steps_by actor entries = steps_of actor (map made_in entries)

-- the entries of a journal, without their deliveries
abbrev pub entries_of : {M : Type 0} → List (JournalLine M) → List (Entry M)
entries_of lines = map (λ line. line.entry) lines
