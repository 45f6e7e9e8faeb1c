use Rattle.std.proofs.Common.{◌≡◌, ◌++◌, length}
use denote.Shadow.{shadow}
use denote.Text.{Utf8}
use Rattle.tr_grammar.specs.Words.{words_of}
use Rattle.tr_words.specs.Answers.{texts}
use Rattle.tr_words.proofs.texts.words_into.Given as goal

-- the words so far stand before those of the rest
abbrev pub invariant-loop-word : goal.invariant-loop-word
invariant-loop-word l = record {
  utf8 : shadow (Utf8 l.rest);
  words : texts l.words.items ++ words_of l.rest ≡ words_of l.line;
}

abbrev pub decreases-loop-word : goal.decreases-loop-word
decreases-loop-word l = length l.rest
