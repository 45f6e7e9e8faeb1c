use Rattle.std.proofs.Common.{◌∷◌, lit<}
use Rattle.std.specs.Prelude.{codes}
use Rattle.std.proofs.lemmas.Str.Pattern.{strip_prefix_char}
use Rattle.tr_grammar.specs.Forms.{forms, node_forms, leaf_forms, act_forms}
use Rattle.tr_words.specs.Answers.{texts}
use Rattle.tr_script.specs.Reading.{plain_forms}
use Rattle.tr_script.proofs.FormLemmas.{differs, no_at, reads_by, at_node, at_leaf, at_act, at_plain}
use Rattle.tr_script.proofs.lines.read_first.Goals as goal

pub returns-in-node : goal.returns-in-node
returns-in-node c =
    let words = texts c.args.words.now in
    rw c.in-node.is
    (reads_by c.args.reader.now forms node_forms (codes "node" ∷ words) c.read_node.result (at_node c.args.reader.now.version words) c.read_node.ensures)

pub returns-in-leaf : goal.returns-in-leaf
returns-in-leaf c =
    let words = texts c.args.words.now in
    rw c.in-leaf.is
    (reads_by c.args.reader.now forms leaf_forms (codes "leaf" ∷ words) c.read_leaf.result (at_leaf c.args.reader.now.version words) c.read_leaf.ensures)

pub returns-in-Some : goal.returns-in-Some
returns-in-Some c =
    let words = texts c.args.words.now in
    let stripped = strip_prefix_char 64 c.args.first.now c.strip_prefix.result c.strip_prefix.ensures.cases (lit< tt) in
    let is_act = rw c.in-Some.is at stripped in
    rw is_act
    (reads_by c.args.reader.now forms act_forms ((64 ∷ c.in-Some.leaf.now) ∷ words) c.read_at.result
    (at_act c.args.reader.now.version c.in-Some.leaf.now words) c.read_at.ensures)

pub returns-in_default : goal.returns-in_default
returns-in_default c =
    let first = c.args.first.now in
    let words = texts c.args.words.now in
    let stripped = strip_prefix_char 64 first c.strip_prefix.result c.strip_prefix.ensures.cases (lit< tt) in
    let none_at = no_at first (rw c.in-None.is at stripped) in
    reads_by c.args.reader.now forms plain_forms (first ∷ words) c.read_plain.result
    (at_plain c.args.reader.now.version first words (differs first _ c.in_default.not-node) (differs first _ c.in_default.not-leaf) none_at)
    c.read_plain.ensures
