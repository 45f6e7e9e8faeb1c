-- Lines that are taken again.
use Rattle.std.proofs.Common.{◌≡◌, ℕ, Bool, List, [], ◌∷◌, ◌++◌, Ok, append-nil, append_assoc, length, arith, sym, ap, subst, ◌∙◌}
use Rattle.tr_grammar.specs.States.{SoFar, nothing_yet}
use Rattle.tr_grammar.specs.Scripts.{after_all_lines, after_line}
use Rattle.tr_grammar.specs.Texts.{lines_of}
use Rattle.tr_grammar.proofs.ScriptLemmas.{after_all_lines-append}
use Rattle.tr_session.specs.declared.sessions.Session.{Session}
use Rattle.tr_session.specs.Answering.{Takes}
use Rattle.tr_session.specs.Insides.{PartsAgree, screen_in, session_view}
use Rattle.tr_session.specs.Lines.{added_lines, sync_lines}
use Rattle.tr_session.specs.Sessions.{AreTaken, SessionView, script_so_far, with_more_lines}

-- from one session to a later one, lines of this text were taken again, and these are the others
pub record IsTaking (old i : Session) (text rest : List (List ℕ)) : Type 0 where
  pub holds : PartsAgree i
  pub taken : AreTaken (script_so_far (session_view i)) rest
  pub lines : i.script.saved.lines ++ rest ≡ old.script.saved.lines ++ text
  pub cuts : i.cuts ≡ old.cuts

-- one more line was taken
pub takes_on : (old i j : Session) (text rest more : List (List ℕ)) (line bytes : List ℕ) → IsTaking old i text rest → rest ≡ line ∷ more →
    Takes (session_view i) line bytes (Ok tt) (session_view j) → PartsAgree j → IsTaking old j text more
takes_on old i j text rest more line bytes taking is takes holds =
    let s : SessionView = session_view i in
    let taken : AreTaken (script_so_far s) (line ∷ more) = subst (λ (ls : List (List ℕ)). AreTaken (script_so_far s) ls) is taking.taken in
    let added : added_lines (script_so_far s) line ≡ line ∷ [] = ap (λ (needs : Bool). sync_lines needs ++ line ∷ []) taken.1 in
    let view : session_view j ≡ with_more_lines s (line ∷ []) (screen_in j.played) =
    takes.2 ∙ ap (λ (ls : List (List ℕ)). with_more_lines s ls (screen_in j.played)) added in
    let lines : j.script.saved.lines ≡ i.script.saved.lines ++ line ∷ [] = ap (λ (v : SessionView). v.lines) view in
    let next : script_so_far (session_view j) ≡ after_line (script_so_far s) line =
    ap (after_all_lines nothing_yet) lines ∙ after_all_lines-append nothing_yet i.script.saved.lines (line ∷ []) in
    record {
      holds = holds;
      taken = subst (λ (d : SoFar). AreTaken d more) (sym next) taken.2;
      lines = ap (λ (ls : List (List ℕ)). ls ++ more) lines
          ∙ append_assoc i.script.saved.lines (line ∷ []) more
          ∙ ap (λ (tail : List (List ℕ)). i.script.saved.lines ++ tail) (sym is)
          ∙ taking.lines;
      cuts = ap (λ (v : SessionView). v.cuts) view ∙ taking.cuts;
    }

-- where no byte is left, all lines were taken
pub taken_all : (old i : Session) (text : List (List ℕ)) (rest : List ℕ) → length rest ≡ 0 → IsTaking old i text (lines_of rest) →
    i.script.saved.lines ≡ old.script.saved.lines ++ text
unfolding lines_of
taken_all old i text [] none taking = sym (append-nil i.script.saved.lines) ∙ taking.lines
taken_all old i text (b ∷ rest) none taking = absurd (omega (arith, none))
