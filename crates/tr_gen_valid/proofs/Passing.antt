-- When a line has no fault, and what stands behind lines that have none.
use Rattle.std.proofs.Common.{◌≡◌, ℕ, ◌+◌, ◌≤◌, Bool, true, false, cond, List, [], ◌∷◌, ◌++◌, length, Some, None, refl, sym, ap, ◌∙◌, append_assoc, length-append, add-zero, arith}
use Rattle.std.specs.List.{AllByRecursion, list_all, list_any}
use Rattle.std.proofs.lemmas.Bool.{and_from, or_from, lt-leb}
use Rattle.std.proofs.lemmas.List.Folds.{list_all-append}
use Rattle.tr_base.specs.Lists.{first_true}
use Rattle.tr_grammar.specs.declared.Code.{Code}
use Rattle.tr_grammar.specs.Texts.{is_plain, is_silent}
use Rattle.tr_grammar.specs.Words.{words_of, word_at}
use Rattle.tr_grammar.specs.Forms.{Form, fields, field_words, form_of}
use Rattle.tr_grammar.specs.Meanings.{meaning_of}
use Rattle.tr_grammar.specs.States.{SoFar}
use Rattle.tr_grammar.specs.Faults.{has_ended, is_misplaced, is_misspelled, is_declared_again, is_undeclared, is_foreign, is_refused, is_one_too_many, word_faults, line_faults, fault_as, fault_of}
use Rattle.tr_grammar.specs.Scripts.{after_meaning, after_as, after_line, or_later, first_bad_line}

-- ---- one line

none_is_first : (faults : List (Code × Bool)) → AllByRecursion (λ fault. fault.1 ≡ false) faults → first_true faults ≡ None
none_is_first [] none = refl
none_is_first (fault ∷ faults) none = ap (λ b. cond b (Some fault.0) (first_true faults)) none.0 ∙ none_is_first faults none.1

-- a line that means something, before the end, has this form and these words
pub record IsOfForm (c : SoFar) (t : List ℕ) (f : Form) (ws : List (List ℕ)) : Type 0 where
  pub plain : is_plain t ≡ true
  pub loud : is_silent t ≡ false
  pub early : has_ended c.place ≡ false
  pub words : words_of t ≡ ws
  pub form : form_of c.version ws ≡ Some f

-- these words of this form have no fault behind c
pub record HaveNoFault (c : SoFar) (f : Form) (ws : List (List ℕ)) : Type 0 where
  pub placed : is_misplaced c f ≡ false
  pub spelled : list_any is_misspelled (field_words (fields f) ws) ≡ false
  pub new : list_any (is_declared_again c) (field_words (fields f) ws) ≡ false
  pub declared : list_any (is_undeclared c) (field_words (fields f) ws) ≡ false
  pub own : is_foreign c (meaning_of c.names ws f) ≡ false
  pub taken : is_refused c (meaning_of c.names ws f) ≡ false
  pub few : is_one_too_many c (meaning_of c.names ws f) ≡ false

no_fault : {c : SoFar} {t : List ℕ} {f : Form} {ws : List (List ℕ)} (n : ℕ) → IsOfForm c t f ws → HaveNoFault c f ws → n ≤ 100000 →
    fault_of c n t ≡ None
unfolding fault_of
no_fault {c} {t} {f} {ws} n line right early =
    let in_time = or_from _ _ right.few (lt-leb 100001 n (omega arith)) in
    rw (line.plain, line.loud, line.early)
    (ap (λ words. fault_as c n (form_of c.version words) words) line.words
    ∙ ap (λ form. fault_as c n form ws) line.form
    ∙ none_is_first (word_faults c f ws ++ line_faults c n (meaning_of c.names ws f))
    (right.placed, (right.spelled, (right.new, (right.declared, (right.own, (right.taken, (in_time, tt))))))))

next_of_form : {c : SoFar} {t : List ℕ} {f : Form} {ws : List (List ℕ)} → IsOfForm c t f ws →
    after_line c t ≡ after_meaning c (word_at ws 1) (meaning_of c.names ws f)
unfolding after_line
next_of_form {c} {t} {f} {ws} line =
    rw line.loud (ap (λ words. after_as c (form_of c.version words) words) line.words ∙ ap (λ form. after_as c form ws) line.form)

-- ---- several lines

-- where line n is the first of these lines, and the script so far is c, they have no fault, and lead to d
pub record Pass (c : SoFar) (n : ℕ) (ts : List (List ℕ)) (d : SoFar) : Type 0 where
  pub plain : list_all is_plain ts ≡ true
  pub on : (more : List (List ℕ)) → first_bad_line c n (ts ++ more) ≡ first_bad_line d (n + length ts) more

pub none_pass : (c : SoFar) (n : ℕ) → Pass c n [] c
none_pass c n = record { plain = refl; on = λ more. ap (λ m. first_bad_line c m more) (sym (add-zero n)) }

pub one_passes : {c : SoFar} {t : List ℕ} {f : Form} {ws : List (List ℕ)} (n : ℕ) → IsOfForm c t f ws → HaveNoFault c f ws → n ≤ 100000 →
    Pass c n (t ∷ []) (after_meaning c (word_at ws 1) (meaning_of c.names ws f))
one_passes {c} {t} {f} {ws} n line right early = record {
  plain = and_from _ _ line.plain refl;
  on = λ more.
      ap (λ fault. or_later fault n (first_bad_line (after_line c t) (n + 1) more)) (no_fault n line right early)
      ∙ ap (λ s. first_bad_line s (n + 1) more) (next_of_form line);
}

pub both_pass : {c d e : SoFar} {n : ℕ} {xs ys : List (List ℕ)} → Pass c n xs d → Pass d (n + length xs) ys e → Pass c n (xs ++ ys) e
both_pass {c} {d} {e} {n} {xs} {ys} first last = record {
  plain = list_all-append is_plain xs ys ∙ and_from _ _ first.plain last.plain;
  on = λ more.
      let count : n + length xs + length ys ≡ n + length (xs ++ ys) = omega (arith, length-append xs ys) in
      ap (first_bad_line c n) (append_assoc xs ys more)
      ∙ first.on (ys ++ more)
      ∙ last.on more
      ∙ ap (λ m. first_bad_line e m more) count;
}
