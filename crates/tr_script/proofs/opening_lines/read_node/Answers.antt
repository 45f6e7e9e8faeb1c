use Rattle.std.proofs.Common.{◌≡◌, ℕ, List, [], ◌∷◌, None, ◌-◌, ◌≤◌, Result, length, get_or, take, drop, refl, sym, subst}
use Rattle.std.specs.Prelude.{codes}
use Rattle.std.specs.Borrow.{Bor}
use Rattle.std.proofs.Math.Bool.{and-false}
use Rattle.tr_grammar.specs.declared.Meaning.{Meaning}
use Rattle.tr_grammar.specs.declared.LineRefused.{LineRefused}
use Rattle.tr_grammar.specs.States.{SoFar}
use Rattle.tr_grammar.specs.Forms.{Form, node_forms, Split, Page, Border, Rigid, Translate, Pack, among, is_second}
use Rattle.tr_words.specs.Answers.{texts}
use Rattle.tr_script.specs.Reading.{Reads}
use Rattle.tr_script.proofs.FormLemmas.{differs, two_words, reads_by, only_first, by_word}
use Rattle.tr_script.proofs.opening_lines.read_node.Goals as goal

no_word : Bor (List ℕ)
no_word = record { ref_ptr = (0, 0); now = [] }

by_kind : (c : SoFar) (f : Form) (ws : List (Bor (List ℕ))) (d : Bor (List ℕ)) (t : List ℕ) (r : Result Meaning LineRefused) →
    2 ≤ length ws → (get_or ws 1 d).now ≡ t →
    among c.version node_forms (codes "node" ∷ (get_or ws 0 d).now ∷ t ∷ texts (take (length ws - 2) (drop 2 ws)))
    ≡ among c.version (f ∷ []) (codes "node" ∷ (get_or ws 0 d).now ∷ t ∷ texts (take (length ws - 2) (drop 2 ws))) →
    Reads c (f ∷ []) (codes "node" ∷ (get_or ws 0 d).now ∷ t ∷ texts (take (length ws - 2) (drop 2 ws))) r →
    Reads c node_forms (codes "node" ∷ texts ws) r
by_kind c f ws d t r le is same h =
    let line = λ (w : List ℕ). codes "node" ∷ (get_or ws 0 d).now ∷ w ∷ texts (take (length ws - 2) (drop 2 ws)) in
    let read = by_word c node_forms (f ∷ []) line (get_or ws 1 d).now t r is same h in
    subst (λ (words : List (List ℕ)). Reads c node_forms (codes "node" ∷ words) r) (sym (two_words ws d le)) read

pub returns-in-page : goal.returns-in-page
unfolding no_word
returns-in-page c =
    let known = and-false (is_second c.args.reader.now.version) in
    by_kind c.args.reader.now Page c.args.words.now no_word (codes "page") c.read_page.result c.in-len2-up.len_at_least c.in-page.is (rw known refl)
    c.read_page.ensures

pub returns-in-border : goal.returns-in-border
unfolding no_word
returns-in-border c =
    let known = and-false (is_second c.args.reader.now.version) in
    by_kind c.args.reader.now Border c.args.words.now no_word (codes "border") c.read_border.result c.in-len2-up.len_at_least c.in-border.is (rw known refl)
    c.read_border.ensures

pub returns-in-rigid : goal.returns-in-rigid
unfolding no_word
returns-in-rigid c =
    let known = and-false (is_second c.args.reader.now.version) in
    by_kind c.args.reader.now Rigid c.args.words.now no_word (codes "rigid") c.read_rigid.result c.in-len2-up.len_at_least c.in-rigid.is (rw known refl)
    c.read_rigid.ensures

pub returns-in-translate : goal.returns-in-translate
unfolding no_word
returns-in-translate c =
    let known = and-false (is_second c.args.reader.now.version) in
    by_kind c.args.reader.now Translate c.args.words.now no_word (codes "translate") c.read_translate.result c.in-len2-up.len_at_least
    c.in-translate.is (rw known refl) c.read_translate.ensures

pub returns-in-pack : goal.returns-in-pack
unfolding no_word
returns-in-pack c =
    by_kind c.args.reader.now Pack c.args.words.now no_word (codes "pack") c.read_pack.result c.in-len2-up.len_at_least c.in-pack.is refl
    c.read_pack.ensures

pub returns-in_default-kind : goal.returns-in_default-kind
unfolding no_word
returns-in_default-kind c =
    let words = c.args.words.now in
    let version = c.args.reader.now.version in
    let kind = (get_or words 1 no_word).now in
    let no_page = differs kind _ c.in_default-kind.not-page in
    let no_border = differs kind _ c.in_default-kind.not-border in
    let no_rigid = differs kind _ c.in_default-kind.not-rigid in
    let no_translate = differs kind _ c.in_default-kind.not-translate in
    let no_pack = differs kind _ c.in_default-kind.not-pack in
    let line = codes "node" ∷ (get_or words 0 no_word).now ∷ kind ∷ texts (take (length words - 2) (drop 2 words)) in
    let no_other : among version (Page ∷ Border ∷ Rigid ∷ Translate ∷ Pack ∷ []) line ≡ None =
    rw (no_page, no_border, no_rigid, no_translate, no_pack, and-false (is_second version)) refl in
    rw (two_words words no_word c.in-len2-up.len_at_least)
    (reads_by c.args.reader.now node_forms (Split ∷ []) line c.read_split.result
    (only_first version (Split ∷ []) (Page ∷ Border ∷ Rigid ∷ Translate ∷ Pack ∷ []) line no_other) c.read_split.ensures)
