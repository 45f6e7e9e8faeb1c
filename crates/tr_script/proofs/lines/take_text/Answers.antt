use Rattle.std.proofs.Common.{◌≡◌, ℕ, List, ap, subst, ◌∙◌}
use Rattle.tr_grammar.specs.Words.{words_of}
use Rattle.tr_words.specs.Answers.{texts}
use Rattle.tr_script.specs.Reading.{TakesWords}
use Rattle.tr_script.proofs.lines.take_text.Goals as goal

pub returns-in_ok-words_into-in-None : goal.returns-in_ok-words_into-in-None
returns-in_ok-words_into-in-None c =
    let cut : texts c.deref.result.now ≡ words_of c.args.line.now = ap texts c.deref.ensures.value ∙ c.in_ok-words_into-in-None.ensures.ok in
    subst (λ (ws : List (List ℕ)). TakesWords c.args.reader.now c.args.number ws c.take_words.new.reader c.take_words.result) cut c.take_words.ensures
