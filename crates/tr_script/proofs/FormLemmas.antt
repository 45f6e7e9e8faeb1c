-- Which forms the words of a line can have, by its first words.
use Rattle.std.proofs.Common.{◌≡◌, ℕ, Bool, true, false, List, [], ◌∷◌, ◌++◌, Option, Some, None, ◌≤◌, ◌<◌, ◌-◌}
use Rattle.std.proofs.Common.{cond, eqb, length, get_or, take, drop, refl, sym, subst, ap, ◌∙◌, arith}
use Rattle.std.specs.Prelude.{◌&&◌, bytes_eq, codes, Result}
use Rattle.std.specs.Borrow.{Bor}
use Rattle.std.proofs.Math.Bool.{and-false}
use Rattle.std.proofs.lemmas.Bool.{false_from_ne_true, ne_eqb}
use Rattle.std.proofs.lemmas.Slice.Eq.{bytes_eq-Decides}
use Rattle.std.proofs.lemmas.List.{take_all, length-drop}
use Rattle.std.proofs.lemmas.Option.{none-some}
use Rattle.tr_grammar.specs.declared.Meaning.{Meaning}
use Rattle.tr_grammar.specs.declared.LineRefused.{LineRefused}
use Rattle.tr_grammar.specs.States.{SoFar}
use Rattle.tr_grammar.specs.Forms.{Form, AddLine, among, fields, has_form, is_known, is_second, node_forms, leaf_forms, act_forms, forms}
use Rattle.tr_words.specs.Answers.{texts}
use Rattle.tr_words.specs.declared.LeafWords.{LeafWords}
use Rattle.tr_script.specs.declared.act_lines.ActLine.{ActLine}
use Rattle.tr_script.specs.Reading.{Reads, ReadsAs, act_line, leaf_line, plain_forms}

-- words that aren't equal don't pass the test
pub differs : (w t : List ℕ) → (w ≡ t → ⊥) → bytes_eq w t ≡ false
differs w t different = false_from_ne_true (bytes_eq w t) (λ e. different ((bytes_eq-Decides w t).0 e))

-- a word that begins with no @
pub no_at : (w : List ℕ) → ((rest : List ℕ) → w ≡ 64 ∷ rest → ⊥) → eqb (get_or w 0 0) 64 ≡ false
no_at [] none = refl
no_at (b ∷ bs) none = ne_eqb b 64 (λ e. none bs (subst (λ (x : ℕ). b ∷ bs ≡ x ∷ bs) e refl))

-- ---- the words of a line that a pattern takes apart

rest_is : (n : ℕ) (ws : List (Bor (List ℕ))) → take (length ws - n) (drop n ws) ≡ drop n ws
rest_is n ws = take_all (length ws - n) (drop n ws) (omega (arith, length-drop n ws))

-- what stands where a list of words has none
abbrev pub no_word : Bor (List ℕ)
no_word = record { ref_ptr = (0, 0); now = [] }

pub one_word : (ws : List (Bor (List ℕ))) (d : Bor (List ℕ)) → 1 ≤ length ws →
    texts ws ≡ (get_or ws 0 d).now ∷ texts (take (length ws - 1) (drop 1 ws))
one_word [] d le = absurd (omega arith)
one_word (w ∷ ws) d le = rw (rest_is 1 (w ∷ ws)) refl

pub two_words : (ws : List (Bor (List ℕ))) (d : Bor (List ℕ)) → 2 ≤ length ws →
    texts ws ≡ (get_or ws 0 d).now ∷ (get_or ws 1 d).now ∷ texts (take (length ws - 2) (drop 2 ws))
two_words [] d le = absurd (omega arith)
two_words (w ∷ []) d le = absurd (omega arith)
two_words (w ∷ x ∷ ws) d le = rw (rest_is 2 (w ∷ x ∷ ws)) refl

pub eight_words : (ws : List (Bor (List ℕ))) (d : Bor (List ℕ)) → 8 ≤ length ws →
    texts ws ≡ (get_or ws 0 d).now ∷ (get_or ws 1 d).now ∷ (get_or ws 2 d).now ∷ (get_or ws 3 d).now ∷ (get_or ws 4 d).now
    ∷ (get_or ws 5 d).now ∷ (get_or ws 6 d).now ∷ (get_or ws 7 d).now ∷ texts (take (length ws - 8) (drop 8 ws))
eight_words [] d le = absurd (omega arith)
eight_words (a ∷ []) d le = absurd (omega arith)
eight_words (a ∷ b ∷ []) d le = absurd (omega arith)
eight_words (a ∷ b ∷ e ∷ []) d le = absurd (omega arith)
eight_words (a ∷ b ∷ e ∷ f ∷ []) d le = absurd (omega arith)
eight_words (a ∷ b ∷ e ∷ f ∷ g ∷ []) d le = absurd (omega arith)
eight_words (a ∷ b ∷ e ∷ f ∷ g ∷ h ∷ []) d le = absurd (omega arith)
eight_words (a ∷ b ∷ e ∷ f ∷ g ∷ h ∷ i ∷ []) d le = absurd (omega arith)
eight_words (a ∷ b ∷ e ∷ f ∷ g ∷ h ∷ i ∷ j ∷ ws) d le = rw (rest_is 8 (a ∷ b ∷ e ∷ f ∷ g ∷ h ∷ i ∷ j ∷ ws)) refl

-- ---- just so many words

pub just_three : (ws : List (Bor (List ℕ))) (d : Bor (List ℕ)) → 3 ≤ length ws → length ws < 4 →
    texts ws ≡ (get_or ws 0 d).now ∷ (get_or ws 1 d).now ∷ (get_or ws 2 d).now ∷ []
just_three [] d le lt = absurd (omega arith)
just_three (a ∷ []) d le lt = absurd (omega arith)
just_three (a ∷ b ∷ []) d le lt = absurd (omega arith)
just_three (a ∷ b ∷ e ∷ []) d le lt = refl
just_three (a ∷ b ∷ e ∷ f ∷ ws) d le lt = absurd (omega arith)

pub just_four : (ws : List (Bor (List ℕ))) (d : Bor (List ℕ)) → 4 ≤ length ws → length ws < 5 →
    texts ws ≡ (get_or ws 0 d).now ∷ (get_or ws 1 d).now ∷ (get_or ws 2 d).now ∷ (get_or ws 3 d).now ∷ []
just_four [] d le lt = absurd (omega arith)
just_four (a ∷ []) d le lt = absurd (omega arith)
just_four (a ∷ b ∷ []) d le lt = absurd (omega arith)
just_four (a ∷ b ∷ e ∷ []) d le lt = absurd (omega arith)
just_four (a ∷ b ∷ e ∷ f ∷ []) d le lt = refl
just_four (a ∷ b ∷ e ∷ f ∷ g ∷ ws) d le lt = absurd (omega arith)

pub just_five : (ws : List (Bor (List ℕ))) (d : Bor (List ℕ)) → 5 ≤ length ws → length ws < 6 →
    texts ws ≡ (get_or ws 0 d).now ∷ (get_or ws 1 d).now ∷ (get_or ws 2 d).now ∷ (get_or ws 3 d).now ∷ (get_or ws 4 d).now ∷ []
just_five [] d le lt = absurd (omega arith)
just_five (a ∷ []) d le lt = absurd (omega arith)
just_five (a ∷ b ∷ []) d le lt = absurd (omega arith)
just_five (a ∷ b ∷ e ∷ []) d le lt = absurd (omega arith)
just_five (a ∷ b ∷ e ∷ f ∷ []) d le lt = absurd (omega arith)
just_five (a ∷ b ∷ e ∷ f ∷ g ∷ []) d le lt = refl
just_five (a ∷ b ∷ e ∷ f ∷ g ∷ h ∷ ws) d le lt = absurd (omega arith)

pub just_six : (ws : List (Bor (List ℕ))) (d : Bor (List ℕ)) → 6 ≤ length ws → length ws < 7 →
    texts ws ≡ (get_or ws 0 d).now ∷ (get_or ws 1 d).now ∷ (get_or ws 2 d).now ∷ (get_or ws 3 d).now ∷ (get_or ws 4 d).now ∷ (get_or ws 5 d).now ∷ []
just_six [] d le lt = absurd (omega arith)
just_six (a ∷ []) d le lt = absurd (omega arith)
just_six (a ∷ b ∷ []) d le lt = absurd (omega arith)
just_six (a ∷ b ∷ e ∷ []) d le lt = absurd (omega arith)
just_six (a ∷ b ∷ e ∷ f ∷ []) d le lt = absurd (omega arith)
just_six (a ∷ b ∷ e ∷ f ∷ g ∷ []) d le lt = absurd (omega arith)
just_six (a ∷ b ∷ e ∷ f ∷ g ∷ h ∷ []) d le lt = refl
just_six (a ∷ b ∷ e ∷ f ∷ g ∷ h ∷ i ∷ ws) d le lt = absurd (omega arith)

pub just_seven : (ws : List (Bor (List ℕ))) (d : Bor (List ℕ)) → 7 ≤ length ws → length ws < 8 →
    texts ws ≡ (get_or ws 0 d).now ∷ (get_or ws 1 d).now ∷ (get_or ws 2 d).now ∷ (get_or ws 3 d).now ∷ (get_or ws 4 d).now
    ∷ (get_or ws 5 d).now ∷ (get_or ws 6 d).now ∷ []
just_seven [] d le lt = absurd (omega arith)
just_seven (a ∷ []) d le lt = absurd (omega arith)
just_seven (a ∷ b ∷ []) d le lt = absurd (omega arith)
just_seven (a ∷ b ∷ e ∷ []) d le lt = absurd (omega arith)
just_seven (a ∷ b ∷ e ∷ f ∷ []) d le lt = absurd (omega arith)
just_seven (a ∷ b ∷ e ∷ f ∷ g ∷ []) d le lt = absurd (omega arith)
just_seven (a ∷ b ∷ e ∷ f ∷ g ∷ h ∷ []) d le lt = absurd (omega arith)
just_seven (a ∷ b ∷ e ∷ f ∷ g ∷ h ∷ i ∷ []) d le lt = refl
just_seven (a ∷ b ∷ e ∷ f ∷ g ∷ h ∷ i ∷ j ∷ ws) d le lt = absurd (omega arith)

-- ---- too few words

-- a leaf has at least eight words behind the first
pub few_words : (v : ℕ) (ws : List (Bor (List ℕ))) → length ws < 8 → among v leaf_forms (codes "leaf" ∷ texts ws) ≡ None
few_words v [] le = rw (and-false (is_second v)) refl
few_words v (a ∷ []) le = rw (and-false (is_second v)) refl
few_words v (a ∷ b ∷ []) le = rw (and-false (is_second v)) refl
few_words v (a ∷ b ∷ e ∷ []) le = rw (and-false (is_second v)) refl
few_words v (a ∷ b ∷ e ∷ f ∷ []) le = rw (and-false (is_second v)) refl
few_words v (a ∷ b ∷ e ∷ f ∷ g ∷ []) le = rw (and-false (is_second v)) refl
few_words v (a ∷ b ∷ e ∷ f ∷ g ∷ h ∷ []) le = rw (and-false (is_second v)) refl
few_words v (a ∷ b ∷ e ∷ f ∷ g ∷ h ∷ i ∷ []) le = rw (and-false (is_second v)) refl
few_words v (a ∷ b ∷ e ∷ f ∷ g ∷ h ∷ i ∷ j ∷ ws) le = absurd (omega arith)

-- a leaf's actor does something
pub no_act_word : (v : ℕ) (leaf : List ℕ) (ws : List (Bor (List ℕ))) → length ws < 1 → among v act_forms ((64 ∷ leaf) ∷ texts ws) ≡ None
no_act_word v leaf [] le = rw (and-false (is_second v)) refl
no_act_word v leaf (a ∷ ws) le = absurd (omega arith)

-- ---- fewer forms

-- the words are read by fewer forms, where their form is one of these
pub reads_by : (c : SoFar) (fs gs : List Form) (ws : List (List ℕ)) (r : Result Meaning LineRefused) →
    among c.version fs ws ≡ among c.version gs ws → Reads c gs ws r → Reads c fs ws r
reads_by c fs gs ws r e h = subst (λ (o : Option Form). ReadsAs c o ws r) (sym e) h

-- what is read of these words is read of the same words
pub reads_words : (c : SoFar) (fs : List Form) (ws vs : List (List ℕ)) (r : Result Meaning LineRefused) → ws ≡ vs → Reads c fs vs r → Reads c fs ws r
reads_words c fs ws vs r same h = subst (λ (l : List (List ℕ)). Reads c fs l r) (sym same) h

-- the words have the one form that counts, where what it asks of them beside their number is so
pub reads_one : (c : SoFar) (f : Form) (ws : List (List ℕ)) (b : Bool) (r : Result Meaning LineRefused) → b ≡ true →
    among c.version (f ∷ []) ws ≡ cond (b && true) (Some f) None → ReadsAs c (Some f) ws r → Reads c (f ∷ []) ws r
reads_one c f ws b r is form h =
    subst (λ (o : Option Form). ReadsAs c o ws r) (sym (form ∙ ap (λ (x : Bool). cond (x && true) (Some f) None) is)) h

-- the first forms alone count, where no other is that of the words
pub only_first : (v : ℕ) (fs gs : List Form) (ws : List (List ℕ)) → among v gs ws ≡ None → among v (fs ++ gs) ws ≡ among v fs ws
only_first v [] gs ws none = none
only_first v (f ∷ fs) gs ws none = by_test (is_known v f && has_form v (fields f) ws) (only_first v fs gs ws none)
  where
    by_test : (b : Bool) → among v (fs ++ gs) ws ≡ among v fs ws → cond b (Some f) (among v (fs ++ gs) ws) ≡ cond b (Some f) (among v fs ws)
    by_test true same = refl
    by_test false same = same

-- the first forms don't count, where none of them is that of the words
pub not_first : (v : ℕ) (fs gs : List Form) (ws : List (List ℕ)) → among v fs ws ≡ None → among v (fs ++ gs) ws ≡ among v gs ws
not_first v [] gs ws none = refl
not_first v (f ∷ fs) gs ws none = by_test (is_known v f && has_form v (fields f) ws) none (not_first v fs gs ws)
  where
    by_test : (b : Bool) → cond b (Some f) (among v fs ws) ≡ None → (among v fs ws ≡ None → among v (fs ++ gs) ws ≡ among v gs ws) →
        cond b (Some f) (among v (fs ++ gs) ws) ≡ among v gs ws
    by_test true e more = absurd (none-some f (sym e))
    by_test false e more = more e

pub no_node : (v : ℕ) (w : List ℕ) (ws : List (List ℕ)) → bytes_eq w (codes "node") ≡ false → among v node_forms (w ∷ ws) ≡ None
no_node v w ws other = rw (other, and-false (is_second v)) refl

pub no_leaf : (v : ℕ) (w : List ℕ) (ws : List (List ℕ)) → bytes_eq w (codes "leaf") ≡ false → among v leaf_forms (w ∷ ws) ≡ None
no_leaf v w ws other = rw (other, and-false (is_second v)) refl

pub no_act : (v : ℕ) (w : List ℕ) (ws : List (List ℕ)) → eqb (get_or w 0 0) 64 ≡ false → among v act_forms (w ∷ ws) ≡ None
no_act v w ws other = rw (other, and-false (is_second v)) refl

-- a line that declares a node
pub at_node : (v : ℕ) (ws : List (List ℕ)) → among v forms (codes "node" ∷ ws) ≡ among v node_forms (codes "node" ∷ ws)
at_node v ws = only_first v node_forms (leaf_forms ++ act_forms ++ plain_forms) (codes "node" ∷ ws) (rw (and-false (is_second v)) refl)

-- a line that declares a leaf
pub at_leaf : (v : ℕ) (ws : List (List ℕ)) → among v forms (codes "leaf" ∷ ws) ≡ among v leaf_forms (codes "leaf" ∷ ws)
at_leaf v ws =
    not_first v node_forms (leaf_forms ++ act_forms ++ plain_forms) (codes "leaf" ∷ ws) (no_node v (codes "leaf") ws refl)
    ∙ only_first v leaf_forms (act_forms ++ plain_forms) (codes "leaf" ∷ ws) (rw (and-false (is_second v)) refl)

-- a line of a leaf's actor
pub at_act : (v : ℕ) (leaf : List ℕ) (ws : List (List ℕ)) → among v forms ((64 ∷ leaf) ∷ ws) ≡ among v act_forms ((64 ∷ leaf) ∷ ws)
at_act v leaf ws =
    not_first v (node_forms ++ leaf_forms) (act_forms ++ plain_forms) ((64 ∷ leaf) ∷ ws) (rw (and-false (is_second v)) refl)
    ∙ only_first v act_forms plain_forms ((64 ∷ leaf) ∷ ws) refl

-- one that adds a text to a leaf's lines
pub at_added : (v : ℕ) (leaf : List ℕ) (ws : List (List ℕ)) →
    among v forms ((64 ∷ leaf) ∷ codes "line" ∷ ws) ≡ among v (AddLine ∷ []) ((64 ∷ leaf) ∷ codes "line" ∷ ws)
at_added v leaf ws = at_act v leaf (codes "line" ∷ ws) ∙ refl

-- any other line
pub at_plain : (v : ℕ) (w : List ℕ) (ws : List (List ℕ)) → bytes_eq w (codes "node") ≡ false → bytes_eq w (codes "leaf") ≡ false →
    eqb (get_or w 0 0) 64 ≡ false → among v forms (w ∷ ws) ≡ among v plain_forms (w ∷ ws)
at_plain v w ws not_node not_leaf not_at =
    not_first v node_forms (leaf_forms ++ act_forms ++ plain_forms) (w ∷ ws) (no_node v w ws not_node)
    ∙ not_first v leaf_forms (act_forms ++ plain_forms) (w ∷ ws) (no_leaf v w ws not_leaf)
    ∙ not_first v act_forms plain_forms (w ∷ ws) (no_act v w ws not_at)

-- ---- a word is this one

-- the words of a line are read by the forms that one of its words leaves
pub by_word : (c : SoFar) (fs gs : List Form) (line : List ℕ → List (List ℕ)) (w t : List ℕ) (r : Result Meaning LineRefused) → w ≡ t →
    among c.version fs (line t) ≡ among c.version gs (line t) → Reads c gs (line t) r → Reads c fs (line w) r
by_word c fs gs line w t r is e h = subst (λ (x : List ℕ). Reads c fs (line x) r) (sym is) (reads_by c fs gs (line t) r e h)

-- the same, by the first word
pub by_first : (c : SoFar) (fs gs : List Form) (w t : List ℕ) (ws : List (List ℕ)) (r : Result Meaning LineRefused) → w ≡ t →
    among c.version fs (t ∷ ws) ≡ among c.version gs (t ∷ ws) → Reads c gs (t ∷ ws) r → Reads c fs (w ∷ ws) r
by_first c fs gs w t ws r is e h = by_word c fs gs (λ (x : List ℕ). x ∷ ws) w t r is e h

-- the same, where all forms of the first word are among others
pub by_others : (c : SoFar) (fs gs : List Form) (w t : List ℕ) (ws : List (List ℕ)) (r : Result Meaning LineRefused) → w ≡ t →
    among c.version fs (t ∷ ws) ≡ among c.version gs (t ∷ ws) → Reads c gs (w ∷ ws) r → Reads c fs (w ∷ ws) r
by_others c fs gs w t ws r is e h = by_first c fs gs w t ws r is e (subst (λ (x : List ℕ). Reads c gs (x ∷ ws) r) is h)

-- the same, by what a leaf's actor does
pub by_act : (c : SoFar) (fs : List Form) (f : Form) (h : ActLine) (t : List ℕ) (r : Result Meaning LineRefused) → h.act.now ≡ t →
    among c.version fs ((64 ∷ h.leaf.now) ∷ t ∷ texts h.values.now) ≡ among c.version (f ∷ []) ((64 ∷ h.leaf.now) ∷ t ∷ texts h.values.now) →
    Reads c (f ∷ []) ((64 ∷ h.leaf.now) ∷ t ∷ texts h.values.now) r → Reads c fs (act_line h) r
by_act c fs f h t r is e reads =
    by_word c fs (f ∷ []) (λ (x : List ℕ). (64 ∷ h.leaf.now) ∷ x ∷ texts h.values.now) h.act.now t r is e reads

-- the same, by the widget's word
pub by_widget : (c : SoFar) (f : Form) (h : LeafWords) (w t : List ℕ) (ws : List (List ℕ)) (r : Result Meaning LineRefused) → w ≡ t →
    among c.version leaf_forms (leaf_line h t ws) ≡ among c.version (f ∷ []) (leaf_line h t ws) →
    Reads c (f ∷ []) (leaf_line h t ws) r → Reads c leaf_forms (leaf_line h w ws) r
by_widget c f h w t ws r is e reads = by_word c leaf_forms (f ∷ []) (λ (x : List ℕ). leaf_line h x ws) w t r is e reads
