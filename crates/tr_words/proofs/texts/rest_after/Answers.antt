use Rattle.std.proofs.Common.{◌≡◌, ℕ, List, drop, sym, subst, arith}
use Rattle.std.proofs.lemmas.List.{drop-drop}
use Rattle.tr_grammar.specs.Words.{words_of}
use Rattle.tr_words.specs.Answers.{AreWordsOf}
use Rattle.tr_words.proofs.WordLemmas.{joined}
use Rattle.tr_words.proofs.texts.rest_after.Goals as goal

pub loop-done-preserved : goal.loop-done-preserved
loop-done-preserved c =
    let words = words_of c.args.line.now in
    let passed = c.after_word-rest.ensures.follows (drop c.loop-done.done words) c.loop-done.invariant.follows in
    record {
      follows = subst (λ (ws : List (List ℕ)). AreWordsOf ws c.after_word-rest.result.now) (drop-drop 1 c.loop-done.done words) passed;
      printable = c.after_word-rest.ensures.printable c.loop-done.invariant.printable;
      utf8 = c.after_word-rest.utf8;
    }

pub returns-clause-rest : goal.returns-clause-rest
returns-clause-rest c =
    let all : c.loop-done.done ≡ c.args.words = omega (arith, c.loop-done-test.false, c.loop-done.auto.done-end) in
    let follows = subst (λ (i : ℕ). AreWordsOf (drop i (words_of c.args.line.now)) c.loop-done.rest.now) all c.loop-done.invariant.follows in
    sym (joined (drop c.args.words (words_of c.args.line.now)) c.loop-done.rest.now follows)
