-- What the words of an input device's line mean.
use Rattle.std.proofs.Common.{◌≡◌, ℕ, ◌^◌, ◌<◌, ◌≤◌, true, false, List, [], ◌∷◌, Ok, refl, sym, ap, ◌∙◌, arith, rules}
use Rattle.std.specs.Prelude.{bytes_eq, codes, decimal, pos}
use Rattle.tr_journal.specs.declared.Actor.TheVariants as actors
use Rattle.tr_journal.specs.declared.Step.TheVariants as steps
use Rattle.tr_grammar.specs.declared.Meaning.TheVariants as meanings
use Rattle.tr_grammar.specs.Faults.{allows, is_foreign, step_line}
use Rattle.tr_grammar.specs.Forms.{Mouse, Motion, Key, button_words}
use Rattle.tr_grammar.specs.States.{SoFar}
use Rattle.tr_grammar.specs.Words.{nat_of, int_of, is_number, is_one_of, is_signed}
use Rattle.tr_words.proofs.Numbers.{number_is, number_value, plain_is, plain_int}
use Rattle.tr_script.specs.declared.desk_lines.Input.{Input}
use Rattle.tr_script.specs.declared.desk_lines.Input.TheVariants as inputs
use Rattle.tr_script.specs.Reading.{Reads, step_of_input}

-- a coordinate of the cursor without a minus
record IsPlain (n : ℕ) : Type 0 where
  value : int_of (decimal n) ≡ pos n
  right : is_signed 8192 8191 (decimal n) ≡ true

plain : (n : ℕ) → n ≤ 8191 → IsPlain n
plain n below =
    let is = number_is 0 8191 n (decimal n) (omega arith) below (omega arith) refl in record {
      value = plain_int 8191 (decimal n) (omega arith) is ∙ ap pos (sym (number_value n (decimal n) (omega arith) refl));
      right = plain_is 8192 8191 (decimal n) (omega arith) is;
    }

pub motion_reads : (c : SoFar) (time h v : ℕ) → 1 ≤ time → time < 2 ^ 32 → h ≤ 8191 → v ≤ 8191 → allows c.place step_line ≡ true →
    Reads c (Motion ∷ []) (codes "motion" ∷ decimal time ∷ decimal h ∷ decimal v ∷ [])
    (Ok (meanings.Step actors.Desk (steps.Motion time (record { h = pos h; v = pos v }))))
motion_reads c time h v some small across down here =
    let right : is_number 1 4294967295 (decimal time) ≡ true = number_is 1 4294967295 time (decimal time) some (omega arith) small refl in
    let value : nat_of (decimal time) ≡ time = sym (number_value time (decimal time) small refl) in
    let a = plain h across in
    let b = plain v down in
    rw (here, right, a.right, b.right, value, a.value, b.value) (search rules)

pub mouse_reads : (c : SoFar) (time button : ℕ) (way : List ℕ) → 1 ≤ time → time < 2 ^ 32 → 1 ≤ button → button ≤ 5 →
    is_one_of button_words way ≡ true → allows c.place step_line ≡ true →
    Reads c (Mouse ∷ []) (codes "mouse" ∷ decimal time ∷ way ∷ decimal button ∷ [])
    (Ok (meanings.Step actors.Desk (steps.Mouse time button (bytes_eq way (codes "down")))))
mouse_reads c time button way some small low high chosen here =
    let right : is_number 1 4294967295 (decimal time) ≡ true = number_is 1 4294967295 time (decimal time) some (omega arith) small refl in
    let value : nat_of (decimal time) ≡ time = sym (number_value time (decimal time) small refl) in
    let pressed : is_number 1 5 (decimal button) ≡ true = number_is 1 5 button (decimal button) low high (omega arith) refl in
    let number : nat_of (decimal button) ≡ button = sym (number_value button (decimal button) (omega arith) refl) in
    rw (chosen, here, right, pressed, value, number) (search rules)

pub key_reads : (c : SoFar) (time code : ℕ) → 1 ≤ time → time < 2 ^ 32 → code ≤ 255 → allows c.place step_line ≡ true →
    Reads c (Key ∷ []) (codes "key" ∷ decimal time ∷ decimal code ∷ []) (Ok (meanings.Step actors.Desk (steps.Key time code)))
key_reads c time code some small few here =
    let right : is_number 1 4294967295 (decimal time) ≡ true = number_is 1 4294967295 time (decimal time) some (omega arith) small refl in
    let value : nat_of (decimal time) ≡ time = sym (number_value time (decimal time) small refl) in
    let coded : is_number 0 255 (decimal code) ≡ true = number_is 0 255 code (decimal code) (omega arith) few (omega arith) refl in
    let number : nat_of (decimal code) ≡ code = sym (number_value code (decimal code) (omega arith) refl) in
    rw (here, right, coded, value, number) (search rules)

-- what an input device makes is no command of a widget
pub input_is_own : (c : SoFar) (input : Input) → is_foreign c (meanings.Step actors.Desk (step_of_input input)) ≡ false
input_is_own c (inputs.Motion time at) = refl
input_is_own c (inputs.Mouse time button down) = refl
input_is_own c (inputs.Key time code) = refl
