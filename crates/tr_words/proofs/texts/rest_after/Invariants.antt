use Rattle.std.proofs.Common.{drop}
use Rattle.std.specs.List.{AllPass}
use denote.Shadow.{shadow}
use denote.Text.{Utf8}
use Rattle.tr_base.specs.Lines.{is_printable}
use Rattle.tr_grammar.specs.Words.{words_of}
use Rattle.tr_words.specs.Answers.{AreWordsOf}
use Rattle.tr_words.proofs.texts.rest_after.Given as goal

-- what is left of the line stands behind the words that were passed
abbrev pub invariant-loop-done : goal.invariant-loop-done
invariant-loop-done l = record {
  follows : AreWordsOf (drop l.done (words_of l.fn.line)) l.rest;
  printable : AllPass is_printable l.rest;
  utf8 : shadow (Utf8 l.rest);
}
