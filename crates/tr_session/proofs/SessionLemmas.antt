-- The parts of a session.
use Rattle.std.proofs.Common.{◌≡◌, ℕ, false, List, [], None, refl, sym, ap, subst, ◌∙◌, arith}
use Rattle.std.specs.Prelude.{Option}
use Rattle.tr_screen.specs.Pictures.{Picture}
use Rattle.tr_grammar.specs.States.{nothing_yet}
use Rattle.tr_grammar.specs.Faults.{has_ended}
use Rattle.tr_reader.specs.Adding.{is_at_steps}
use Rattle.tr_session.specs.declared.sessions.Session.{Session}
use Rattle.tr_session.specs.Cuts.{CutsSoFar, no_cut}
use Rattle.tr_session.specs.Insides.{HasStageOnceBegun, PartsAgree, opening_of, screen_in, session_view}
use Rattle.tr_session.specs.Playing.{PlayedView}
use Rattle.tr_session.specs.Sessions.{IsSession, SessionView, no_session, script_so_far}

-- the model of these parts
pub view_is : (i : Session) (lines : List (List ℕ)) (screen : Option Picture) (cuts : CutsSoFar) → i.script.saved.lines ≡ lines →
    screen_in i.played ≡ screen → i.cuts ≡ cuts → session_view i ≡ record { lines = lines; screen = screen; cuts = cuts }
view_is i lines screen cuts l s c =
    ap (λ (ls : List (List ℕ)). record { lines = ls; screen = screen_in i.played; cuts = i.cuts }) l
    ∙ ap (λ (p : Option Picture). record { lines = lines; screen = p; cuts = i.cuts }) s
    ∙ ap (λ (cs : CutsSoFar). record { lines = lines; screen = screen; cuts = cs }) c

-- the parts are those of a session's lines
pub together : (i : Session) (s : SessionView) → session_view i ≡ s → IsSession s → i.script.reader ≡ opening_of (script_so_far s) →
    i.script.has_ended ≡ has_ended (script_so_far s).place → i.script.is_behind_step ≡ is_at_steps (script_so_far s).place → HasStageOnceBegun s i.played →
    PartsAgree i
together i s is session reader ended behind played = record {
  session = subst IsSession (sym is) session;
  reader = reader ∙ ap (λ (t : SessionView). opening_of (script_so_far t)) (sym is);
  ended = ended ∙ ap (λ (t : SessionView). has_ended (script_so_far t).place) (sym is);
  behind = behind ∙ ap (λ (t : SessionView). is_at_steps (script_so_far t).place) (sym is);
  played = subst (λ (t : SessionView). HasStageOnceBegun t i.played) (sym is) played;
}

-- before the first line
pub no_session_is : IsSession no_session
no_session_is = record {
  taken = tt;
  begun = refl;
  shown = tt;
  cuts = record { counted = (λ none. refl, λ none. refl); few = omega arith };
}

pub together_empty : (i : Session) → i.script.saved.lines ≡ [] → i.played ≡ None → i.cuts ≡ no_cut → i.script.reader ≡ nothing_yet →
    i.script.has_ended ≡ false → i.script.is_behind_step ≡ false → PartsAgree i
together_empty i lines played cuts reader ended behind =
    together i no_session (view_is i [] None no_cut lines (ap screen_in played) cuts) no_session_is reader ended behind
    (subst (λ (p : Option PlayedView). HasStageOnceBegun no_session p) (sym played) refl)

-- the view of no line, no stage and no cut
pub empty_view : (lines : List (List ℕ)) (cuts : CutsSoFar) → lines ≡ [] → cuts ≡ no_cut →
    record { lines = lines; screen = None; cuts = cuts } ≡ no_session
empty_view lines cuts l c =
    ap (λ (ls : List (List ℕ)). record { lines = ls; screen = None; cuts = cuts }) l
    ∙ ap (λ (cs : CutsSoFar). record { lines = []; screen = None; cuts = cs }) c
