use Rattle.std.proofs.Common.{ℕ, List, [], ◌∷◌, ◌-◌, length, take, drop, refl, ◌∙◌, ap}
use Rattle.std.specs.Prelude.{codes}
use Rattle.std.proofs.Math.Bool.{and-false}
use Rattle.tr_grammar.specs.Forms.{forms, act_forms, is_second, Undo, AddRect, AddSwap}
use Rattle.tr_words.specs.Answers.{texts}
use Rattle.tr_script.proofs.FormLemmas.{one_word, no_word, reads_by, reads_words, by_word, at_act}
use Rattle.tr_script.proofs.lines.take_act.Goals as goal

pub read_at-read-requires-clause-line : goal.read_at-read-requires-clause-line
read_at-read-requires-clause-line c = c.requires.line ∙ c.requires.words

pub take_read-requires-in_default : goal.take_read-requires-in_default
take_read-requires-in_default c =
    let reader = c.args.reader.now in
    let leaf = c.args.leaf.now in
    let rest = texts c.args.rest.now in
    reads_words reader forms (texts c.args.words.now) ((64 ∷ leaf) ∷ rest) c.read_at-read.result c.requires.words
    (reads_by reader forms act_forms ((64 ∷ leaf) ∷ rest) c.read_at-read.result (at_act reader.version leaf rest) c.read_at-read.ensures)

pub take_read-requires-in-undo : goal.take_read-requires-in-undo
take_read-requires-in-undo c =
    let reader = c.args.reader.now in
    let leaf = c.args.leaf.now in
    let rest = c.args.rest.now in
    let values = texts (take (length rest - 1) (drop 1 rest)) in
    let shown = c.requires.words ∙ ap (λ (ws : List (List ℕ)). (64 ∷ leaf) ∷ ws) (one_word rest no_word c.in-len1-up.len_at_least) in
    reads_words reader forms (texts c.args.words.now) _ c.read_undo-read.result shown
    (by_word reader forms (Undo ∷ []) (λ (act : List ℕ). (64 ∷ leaf) ∷ act ∷ values) _ (codes "undo") c.read_undo-read.result c.in-undo.is
    (at_act reader.version leaf (codes "undo" ∷ values) ∙ rw (and-false (is_second reader.version)) refl) c.read_undo-read.ensures)

pub take_read-requires-in-rect : goal.take_read-requires-in-rect
take_read-requires-in-rect c =
    let reader = c.args.reader.now in
    let leaf = c.args.leaf.now in
    let rest = c.args.rest.now in
    let values = texts (take (length rest - 1) (drop 1 rest)) in
    let shown = c.requires.words ∙ ap (λ (ws : List (List ℕ)). (64 ∷ leaf) ∷ ws) (one_word rest no_word c.in-len1-up.len_at_least) in
    reads_words reader forms (texts c.args.words.now) _ c.read_rect-read.result shown
    (by_word reader forms (AddRect ∷ []) (λ (act : List ℕ). (64 ∷ leaf) ∷ act ∷ values) _ (codes "rect") c.read_rect-read.result c.in-rect.is
    (at_act reader.version leaf (codes "rect" ∷ values) ∙ rw (and-false (is_second reader.version)) refl) c.read_rect-read.ensures)

pub take_read-requires-in-swap : goal.take_read-requires-in-swap
take_read-requires-in-swap c =
    let reader = c.args.reader.now in
    let leaf = c.args.leaf.now in
    let rest = c.args.rest.now in
    let values = texts (take (length rest - 1) (drop 1 rest)) in
    let shown = c.requires.words ∙ ap (λ (ws : List (List ℕ)). (64 ∷ leaf) ∷ ws) (one_word rest no_word c.in-len1-up.len_at_least) in
    reads_words reader forms (texts c.args.words.now) _ c.read_swap-read.result shown
    (by_word reader forms (AddSwap ∷ []) (λ (act : List ℕ). (64 ∷ leaf) ∷ act ∷ values) _ (codes "swap") c.read_swap-read.result c.in-swap.is
    (at_act reader.version leaf (codes "swap" ∷ values) ∙ rw (and-false (is_second reader.version)) refl) c.read_swap-read.ensures)
