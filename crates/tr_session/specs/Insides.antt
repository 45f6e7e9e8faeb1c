-- Private contracts alone cite this file.
-- The stored parts of a session.
use Rattle.std.specs.Prelude.{◌≡◌, ℕ, false, List, [], ◌∷◌, ◌++◌, Option, Some, None, IsSomeAnd}
use Rattle.tr_screen.specs.Pictures.{Picture}
use Rattle.tr_grammar.specs.declared.Place.{Place}
use Rattle.tr_grammar.specs.declared.Place.TheVariants as places
use Rattle.tr_grammar.specs.States.{SoFar, empty_part}
use Rattle.tr_grammar.specs.Faults.{has_ended}
use Rattle.tr_reader.specs.Adding.{is_at_steps}
use Rattle.tr_session.specs.declared.sessions.Session.{Session}
use Rattle.tr_session.specs.Playing.{HasStarted, PlayedView, begun_by}
use Rattle.tr_session.specs.Lines.{has_begun}
use Rattle.tr_session.specs.Sessions.{SessionView, IsSession, script_so_far, journal_of}

-- the screen, once there is a stage
abbrev pub screen_in : Option PlayedView → Option Picture
screen_in None = None
screen_in (Some p) = Some p.stage.screen

-- the model of a session
abbrev pub session_view : Session → SessionView
session_view s = record { lines = s.script.saved.lines; screen = screen_in s.played; cuts = s.cuts }

-- the place of the reader: after `begin` it stays where a step and a report may come
abbrev pub reader_place : Place → Place
reader_place places.Steps = places.Gap
reader_place places.Ended = places.Gap
reader_place p = p

-- the reader's script so far: the opening
abbrev pub opening_of : SoFar → SoFar
opening_of c = record c { place = reader_place c.place; ended = []; part = empty_part }

-- the stage has played the lines
pub record HasPlayedAllLines (s : SessionView) (p : PlayedView) : Type 0 where
  pub opening : p.stage.opening ≡ (script_so_far s).items
  pub names : p.names ≡ (script_so_far s).names
  pub journal : p.stage.journal ≡ journal_of s

-- there is a stage once `begin` was read, and it has played the lines
abbrev pub HasStageOnceBegun : SessionView → Option PlayedView → Type 0
HasStageOnceBegun s None = has_begun (script_so_far s).place ≡ false
HasStageOnceBegun s (Some p) = HasPlayedAllLines s p

-- the parts of a session are those of its lines
pub record PartsAgree (s : Session) : Type 0 where
  pub session : IsSession (session_view s)
  pub reader : s.script.reader ≡ opening_of (script_so_far (session_view s))
  pub ended : s.script.has_ended ≡ has_ended (script_so_far (session_view s)).place
  pub behind : s.script.is_behind_step ≡ is_at_steps (script_so_far (session_view s)).place
  pub played : HasStageOnceBegun (session_view s) s.played

-- the stage of `begin` with its opening was started, and the line was added
pub record Starts (old : Session) (line : List ℕ) (new : Session) : Type 0 where
  pub stage : IsSomeAnd new.played (λ p. HasStarted p (begun_by old.script.saved.lines line))
  pub lines : new.script.saved.lines ≡ old.script.saved.lines ++ line ∷ []
  pub reader : new.script.reader ≡ old.script.reader
  pub ended : new.script.has_ended ≡ old.script.has_ended
  pub behind : new.script.is_behind_step ≡ old.script.is_behind_step
  pub cuts : new.cuts ≡ old.cuts

-- the lines and the cuts are the same
pub record HasItsLines (old new : Session) : Type 0 where
  pub lines : new.script.saved.lines ≡ old.script.saved.lines
  pub cuts : new.cuts ≡ old.cuts
