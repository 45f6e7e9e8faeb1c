-- The text of the saved lines.
use Rattle.std.proofs.Common.{◌≡◌, ℕ, true, List, [], ◌∷◌, ◌++◌, refl, sym, ap, ◌∙◌, append-nil, append_assoc}
use Rattle.std.specs.Prelude.{codes}
use Rattle.std.specs.List.{list_all}
use Rattle.std.proofs.lemmas.Bool.{and_from}
use Rattle.std.proofs.lemmas.Grind.{flat_map-append}
use Rattle.std.proofs.lemmas.List.Folds.{list_all-append}
use Rattle.tr_grammar.specs.Texts.{is_plain, lines_of}
use Rattle.tr_gen.specs.Scripts.{text_of_lines}
use Rattle.tr_gen_valid.proofs.Cutting.{lines_of-text_of}
use Rattle.tr_gen_valid.proofs.Rounds.{sync_plain}

-- an empty text has no line
pub no_lines : (text : List ℕ) → text ≡ [] → lines_of text ≡ []
unfolding lines_of
no_lines text none = ap lines_of none

-- so is `end`
plain_end : is_plain (codes "end") ≡ true
unfolding is_plain
plain_end = refl

-- one more line, and its line feed
pub text_more : (lines : List (List ℕ)) (line : List ℕ) → text_of_lines (lines ++ line ∷ []) ≡ text_of_lines lines ++ (line ++ codes "\n")
text_more lines line =
    flat_map-append (λ (t : List ℕ). t ++ codes "\n") lines (line ∷ [])
    ∙ ap (λ (t : List ℕ). text_of_lines lines ++ t) (append-nil (line ++ codes "\n"))

pub plain_more : (lines : List (List ℕ)) (line : List ℕ) → list_all is_plain lines ≡ true → is_plain line ≡ true →
    list_all is_plain (lines ++ line ∷ []) ≡ true
plain_more lines line all one = list_all-append is_plain lines (line ∷ []) ∙ and_from _ _ all (and_from _ _ one refl)

-- a text of plain lines with one more line has these lines
pub lines_more : (lines : List (List ℕ)) (line text : List ℕ) → list_all is_plain lines ≡ true → is_plain line ≡ true →
    text ≡ text_of_lines lines → lines_of (text ++ (line ++ codes "\n")) ≡ lines ++ line ∷ []
lines_more lines line text all one is =
    ap (λ (t : List ℕ). lines_of (t ++ (line ++ codes "\n"))) is
    ∙ ap lines_of (sym (text_more lines line))
    ∙ lines_of-text_of (lines ++ line ∷ []) (plain_more lines line all one)

-- the lines of a text to which a line was added
module _ (text line new : List ℕ) (is : text_of_lines (lines_of text) ≡ text) (all : list_all is_plain (lines_of text) ≡ true)
    (one : is_plain line ≡ true) (e : new ≡ (text ++ line) ++ codes "\n") where
  pub pushed_lines : lines_of new ≡ lines_of text ++ line ∷ []
  pushed_lines = ap lines_of (e ∙ append_assoc text line (codes "\n")) ∙ lines_more (lines_of text) line text all one (sym is)

  pub pushed_text : text_of_lines (lines_of new) ≡ new
  pushed_text =
      ap text_of_lines pushed_lines
      ∙ text_more (lines_of text) line
      ∙ ap (λ (t : List ℕ). t ++ (line ++ codes "\n")) is
      ∙ sym (append_assoc text line (codes "\n"))
      ∙ sym e

  pub pushed_plain : list_all is_plain (lines_of new) ≡ true
  pushed_plain = ap (list_all is_plain) pushed_lines ∙ plain_more (lines_of text) line all one

-- a text and more lines
pub text_and_lines : (text more : List ℕ) (lines : List (List ℕ)) → text_of_lines (lines_of text) ≡ text → more ≡ text_of_lines lines →
    text ++ more ≡ text_of_lines (lines_of text ++ lines)
text_and_lines text more lines is e =
    ap (λ (t : List ℕ). text ++ t) e
    ∙ ap (λ (t : List ℕ). t ++ text_of_lines lines) (sym is)
    ∙ sym (flat_map-append (λ (t : List ℕ). t ++ codes "\n") (lines_of text) lines)

-- a text, a line and the end
pub text_and_end : (text line new : List ℕ) → text_of_lines (lines_of text) ≡ text → new ≡ (text ++ line) ++ codes "\nend\n" →
    new ≡ text_of_lines (lines_of text ++ line ∷ codes "end" ∷ [])
text_and_end text line new is e =
    e
    ∙ append_assoc text line (codes "\nend\n")
    ∙ ap (λ (t : List ℕ). text ++ t) (sym (append_assoc line (codes "\n") (codes "end\n")))
    ∙ text_and_lines text ((line ++ codes "\n") ++ codes "end\n") (line ∷ codes "end" ∷ []) is refl

-- the lines of a text, of a line and of the end
pub opening_lines : (text line new : List ℕ) → text_of_lines (lines_of text) ≡ text → list_all is_plain (lines_of text) ≡ true → is_plain line ≡ true →
    new ≡ (text ++ line) ++ codes "\nend\n" → lines_of new ≡ lines_of text ++ line ∷ codes "end" ∷ []
opening_lines text line new is all one e =
    ap lines_of (text_and_end text line new is e)
    ∙ lines_of-text_of (lines_of text ++ line ∷ codes "end" ∷ [])
    (list_all-append is_plain (lines_of text) (line ∷ codes "end" ∷ []) ∙ and_from _ _ all (and_from _ _ one (and_from _ _ plain_end refl)))
