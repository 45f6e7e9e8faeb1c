-- The answer to a line is that to its front.
use Rattle.std.proofs.Common.{◌≡◌, ℕ, ◌<◌, Bool, true, false, List, Some, bytes_eq, codes, leb-true, length, nat_le, refl, sym, ap, subst, ◌∙◌, arith}
use Rattle.std.specs.Prelude.{Option}
use Rattle.std.proofs.lemmas.Bool.{false_from_ne_true, leb-false, lt-leb}
use Rattle.std.proofs.lemmas.List.{length-take, take_all}
use Rattle.std.proofs.lemmas.Slice.Eq.{bytes_eq-Decides}
use Rattle.tr_screen.specs.Pictures.{Picture}
use Rattle.tr_grammar.specs.declared.Code.TheVariants.{B9}
use Rattle.tr_grammar.specs.States.{SoFar}
use Rattle.tr_grammar.specs.Texts.{is_plain}
use Rattle.tr_grammar.specs.Faults.{fault_of}
use Rattle.tr_session.specs.declared.requests.Request.TheVariants.{Script}
use Rattle.tr_session.specs.Answers.{Answer, ComesAfterLine, after_reply, due, ends, refused, is_quit, text, saved, bytes, no_memory}
use Rattle.tr_session.specs.Arrivals.{first_bytes}
use Rattle.tr_session.specs.Lines.{fault_of_line, request_of}
use Rattle.tr_session.specs.Sessions.{SessionView, script_so_far}

-- ---- a line that is too long

-- it isn't plain
long_line : (line : List ℕ) → 1024 < length line → is_plain line ≡ false
unfolding is_plain
long_line line long =
    let over : nat_le (length line) 1024 ≡ false = lt-leb (length line) 1024 long in
    rw over refl

-- it has the fault B9
long_fault : (c : SoFar) (line : List ℕ) → 1024 < length line → fault_of_line c line ≡ Some B9
unfolding fault_of
long_fault c line long = rw (long_line line long) refl

-- it is none of the session's words
other_word : (line word : List ℕ) → length word < length line → bytes_eq line word ≡ false
other_word line word longer =
    false_from_ne_true (bytes_eq line word) (λ e. let is = ap length ((bytes_eq-Decides line word).0 e) in absurd (omega (arith, is, longer)))

long_request : (line : List ℕ) → 1024 < length line → request_of line ≡ Script
long_request line long =
    rw (
      other_word line (codes "!save") (omega (arith, long)),
      other_word line (codes "!cut") (omega (arith, long)),
      other_word line (codes "!quit") (omega (arith, long)),
    ) refl

-- the front of a line that is too long is so, too
long_front : (line : List ℕ) → 1025 < length line → 1024 < length (first_bytes line)
long_front line long = omega (arith, length-take 1025 line, long)

-- ---- the answer to it

due_long : (s : SessionView) (line : List ℕ) → 1024 < length line → due s line ≡ refused B9
unfolding due
due_long s line long = rw (long_request line long, long_fault (script_so_far s) line long) refl

after_long : (s : SessionView) (line : List ℕ) (screen : Option Picture) → 1024 < length line → after_reply s line screen ≡ s
unfolding after_reply
after_long s line screen long = rw (long_request line long, long_fault (script_so_far s) line long) refl

answered_long : (s : SessionView) (front line : List ℕ) (answer : Answer) (t : SessionView) → 1024 < length front → 1024 < length line →
    ComesAfterLine s front answer t → ComesAfterLine s line answer t
answered_long s front line no_memory t short long kept = (kept.0, ap is_quit (long_request line long))
answered_long s front line (text told) t short long is =
    (is.0 ∙ due_long s front short ∙ sym (due_long s line long), is.1 ∙ after_long s front t.screen short ∙ sym (after_long s line t.screen long))
answered_long s front line (saved told beyond) t short long is =
    (is.0 ∙ due_long s front short ∙ sym (due_long s line long), is.1 ∙ after_long s front t.screen short ∙ sym (after_long s line t.screen long))
answered_long s front line (bytes group) t short long is =
    (is.0 ∙ due_long s front short ∙ sym (due_long s line long), is.1 ∙ after_long s front t.screen short ∙ sym (after_long s line t.screen long))
answered_long s front line (refused code) t short long is =
    (is.0 ∙ due_long s front short ∙ sym (due_long s line long), is.1 ∙ after_long s front t.screen short ∙ sym (after_long s line t.screen long))

-- ---- any line

-- an answer to the front of a line is one to the line
pub answered_by_front : (s : SessionView) (line : List ℕ) (answer : Answer) (t : SessionView) →
    ComesAfterLine s (first_bytes line) answer t → ComesAfterLine s line answer t
answered_by_front s line answer t is = by_test (nat_le (length line) 1025) refl
  where
    by_test : (b : Bool) → nat_le (length line) 1025 ≡ b → ComesAfterLine s line answer t
    by_test true short =
        let few = leb-true (length line) 1025 short in
        subst (λ (front : List ℕ). ComesAfterLine s front answer t) (take_all 1025 line few) is
    by_test false long =
        let more : 1025 < length line = leb-false (length line) 1025 long in
        answered_long s (first_bytes line) line answer t (long_front line more) (omega (arith, more)) is

-- a line ends the session if its front does
pub ends_by_front : (line : List ℕ) → ends (first_bytes line) ≡ ends line
ends_by_front line = by_test (nat_le (length line) 1025) refl
  where
    by_test : (b : Bool) → nat_le (length line) 1025 ≡ b → ends (first_bytes line) ≡ ends line
    by_test true short = let few = leb-true (length line) 1025 short in ap ends (take_all 1025 line few)
    by_test false long =
        let more : 1025 < length line = leb-false (length line) 1025 long in
        ap is_quit (long_request (first_bytes line) (long_front line more) ∙ sym (long_request line (omega (arith, more))))
