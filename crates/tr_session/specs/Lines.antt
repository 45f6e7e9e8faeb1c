-- The request of a line: the session's own, or a line of its script.
use Rattle.std.specs.Prelude.{ℕ, Bool, true, false, ◌&&◌, List, [], ◌∷◌, ◌++◌, Option, Some, bytes_eq, codes, if◌then◌else◌}
use Rattle.tr_grammar.specs.declared.Code.{Code}
use Rattle.tr_grammar.specs.declared.Place.{Place}
use Rattle.tr_grammar.specs.declared.Place.TheVariants as places
use Rattle.tr_grammar.specs.declared.Meaning.{Meaning}
use Rattle.tr_grammar.specs.declared.Meaning.TheVariants as meanings
use Rattle.tr_grammar.specs.States.{SoFar, empty_part}
use Rattle.tr_grammar.specs.Faults.{fault_of, has_ended}
use Rattle.tr_reader.specs.Adding.{is_at_steps}
use Rattle.tr_script.specs.Apart.{meaning_of_line}
use Rattle.tr_session.specs.declared.requests.Request.{Request}
use Rattle.tr_session.specs.declared.requests.Request.TheVariants.{Save, Cut, Quit, Script}

-- ---- the session's own words

-- the request of a line; any other line is taken as one of a script
abbrev pub request_of : List ℕ → Request
request_of line =
    if bytes_eq line (codes "!save") then Save
    else if bytes_eq line (codes "!cut") then Cut
    else if bytes_eq line (codes "!quit") then Quit
    else Script

-- ---- lines of a script

-- `begin` was read
abbrev pub has_begun : Place → Bool
has_begun places.Gap = true
has_begun places.Steps = true
has_begun places.Ended = true
has_begun p = false

-- the place of a line, if a report and the end may come directly after a step
abbrev pub at_any_time : Place → Place
at_any_time places.Steps = places.Gap
at_any_time p = p

-- the script so far, as the next line is tested against it; a session counts no reports and no syncs
abbrev pub tried_against : SoFar → SoFar
tried_against c = record c { place = at_any_time c.place; ended = []; part = empty_part }

-- the first fault of a line, if it has one: that of a script's line 1, since a session counts no lines
abbrev pub fault_of_line : SoFar → List ℕ → Option Code
fault_of_line c line = fault_of (tried_against c) 1 line

-- a report or the end
abbrev pub ends_steps : Option Meaning → Bool
ends_steps (Some (meanings.Report query)) = true
ends_steps (Some meanings.End) = true
ends_steps said = false

-- a script has a sync between the last line and one with this meaning
abbrev pub needs_sync : SoFar → Option Meaning → Bool
needs_sync c said = is_at_steps c.place && ends_steps said

-- the sync, if there is one
abbrev pub sync_lines : Bool → List (List ℕ)
sync_lines true = codes "sync" ∷ []
sync_lines false = []

-- the lines that a line adds to the script: itself, after a sync if it needs one
abbrev pub added_lines : SoFar → List ℕ → List (List ℕ)
added_lines c line = sync_lines (needs_sync c (meaning_of_line c line)) ++ line ∷ []

-- the lines that make a script of those so far
abbrev pub last_lines : SoFar → List (List ℕ)
last_lines c = if has_ended c.place then [] else sync_lines (is_at_steps c.place) ++ codes "end" ∷ []
