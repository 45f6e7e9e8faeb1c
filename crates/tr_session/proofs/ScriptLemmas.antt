-- The faults of a line, as a session's script tells them.
use Rattle.std.proofs.Common.{◌≡◌, ℕ, Bool, true, false, cond, List, Some, None, not, refl, Ok, Err, sym, ap, subst, ◌∙◌}
use Rattle.std.specs.Prelude.{Option, IfErr, IfOk, OnOk, Result}
use Rattle.tr_grammar.specs.declared.Code.{Code}
use Rattle.tr_grammar.specs.declared.Code.TheVariants.{B8, B9}
use Rattle.tr_grammar.specs.declared.Meaning.{Meaning}
use Rattle.tr_grammar.specs.States.{SoFar}
use Rattle.tr_grammar.specs.Texts.{is_plain, is_silent}
use Rattle.tr_grammar.specs.Faults.{fault_of}
use Rattle.tr_script.specs.Apart.{meaning_of_line}
use Rattle.tr_session.specs.declared.errors.Unanswered.{Unanswered}
use Rattle.tr_session.specs.Answering.{ClaimsFault, tried_by}

by_tests : (plain silent : Bool) → cond {A = Option Code} (not plain) (Some B9) (cond silent None (Some B8)) ≡ cond plain (cond silent None (Some B8)) (Some B9)
by_tests true silent = refl
by_tests false silent = refl

-- after the end a line is silent, or has a fault
pub silent_fault : (c : SoFar) (line : List ℕ) →
    fault_of (tried_by c true) 1 line ≡ cond (is_plain line) (cond (is_silent line) None (Some B8)) (Some B9)
unfolding fault_of
silent_fault c line = by_tests (is_plain line) (is_silent line)

pub silent_meaning : (c : SoFar) (line : List ℕ) → is_silent line ≡ true → meaning_of_line c line ≡ None
unfolding meaning_of_line
silent_meaning c line silent = rw silent refl

-- what a silent line tells after the end
abbrev pub IsSilentLine : List ℕ → Option Meaning → Type 0
IsSilentLine line said = (said ≡ None) × (is_plain line ≡ true) × (is_silent line ≡ true)

module _ (c : SoFar) (b : Bool) (line : List ℕ) (ended : b ≡ true) where
  fault_is : fault_of (tried_by c b) 1 line ≡ cond (is_plain line) (cond (is_silent line) None (Some B8)) (Some B9)
  fault_is = ap (λ (e : Bool). fault_of (tried_by c e) 1 line) ended ∙ silent_fault c line

  pub ended_none : (r : Result (Option Meaning) Unanswered) → IfOk r (IsSilentLine line) → OnOk r (fault_of (tried_by c b) 1 line ≡ None)
  ended_none (Ok said) ok =
      fault_is
      ∙ ap (λ (plain : Bool). cond {A = Option Code} plain (cond (is_silent line) None (Some B8)) (Some B9)) ok.1
      ∙ ap (λ (silent : Bool). cond {A = Option Code} silent None (Some B8)) ok.2
  ended_none (Err e) ok = tt

  pub ended_meaning : (r : Result (Option Meaning) Unanswered) → IfOk r (IsSilentLine line) → IfOk r (λ said. said ≡ meaning_of_line (tried_by c b) line)
  ended_meaning (Ok said) ok = ok.0 ∙ sym (silent_meaning (tried_by c b) line ok.2)
  ended_meaning (Err e) ok = tt

  pub ended_fault : (r : Result (Option Meaning) Unanswered) → IfErr r (ClaimsFault (cond (is_plain line) (cond (is_silent line) None (Some B8)) (Some B9))) →
      IfErr r (ClaimsFault (fault_of (tried_by c b) 1 line))
  ended_fault (Ok said) err = tt
  ended_fault (Err e) err = subst (λ (fault : Option Code). ClaimsFault fault e) (sym fault_is) err
