-- The nodes and leaves that words name are those of the opening.
use Rattle.std.proofs.Common.{◌≡◌, ℕ, ◌<◌, false, List, length, Option, Some, None, Ok, Err, Result, refl, sym, arith}
use Rattle.std.specs.Prelude.{is_none, unwrap_or, IfOk}
use Rattle.std.proofs.lemmas.Bool.{false≢true}
use Rattle.tr_base.specs.declared.NodeId.{NodeId}
use Rattle.tr_base.specs.declared.LeafId.{LeafId}
use Rattle.tr_forest.specs.Nodes.{IsNode}
use Rattle.tr_journal.specs.Steps.{IsLeaf}
use Rattle.tr_grammar.specs.declared.Code.{Code}
use Rattle.tr_grammar.specs.declared.Code.TheVariants.{B3}
use Rattle.tr_grammar.specs.Names.{number_of, numbered}
use Rattle.tr_grammar.specs.States.{SoFar}
use Rattle.tr_grammar.specs.Faults.{nodes_so_far}
use Rattle.tr_words.specs.Answers.{Answers}
use Rattle.tr_reader.specs.Laws.{IsSoFar}
use Rattle.tr_reader.proofs.NameLemmas.{number_of-within}

-- the number that a name has is less than their count
within : (ns : List (List ℕ)) (w : List ℕ) (o : Option ℕ) → number_of ns w ≡ o → is_none o ≡ false → unwrap_or o 0 < length ns
within ns w None is named = absurd (false≢true (sym named))
within ns w (Some k) is named = number_of-within ns w k is

pub nodes_within : (c : SoFar) (w : List ℕ) (r : Result NodeId Code) → IsSoFar c →
    Answers (is_none (number_of c.names.nodes w)) B3 (λ n. n ≡ record { 0 = numbered c.names.nodes w }) r → IfOk r (λ n. IsNode (nodes_so_far c) n)
nodes_within c w (Ok n) law h =
    let less = within c.names.nodes w (number_of c.names.nodes w) refl h.0 in
    rw h.1 (record { within = omega (arith, law.nodes, less) })
nodes_within c w (Err e) law h = tt

pub leaves_within : (c : SoFar) (w : List ℕ) (r : Result LeafId Code) → IsSoFar c →
    Answers (is_none (number_of c.names.leaves w)) B3 (λ l. l ≡ record { 0 = numbered c.names.leaves w }) r → IfOk r (λ l. IsLeaf (nodes_so_far c) l)
leaves_within c w (Ok l) law h =
    let less = within c.names.leaves w (number_of c.names.leaves w) refl h.0 in
    rw h.1 (record { within = omega (arith, law.leaves, less) })
leaves_within c w (Err e) law h = tt
