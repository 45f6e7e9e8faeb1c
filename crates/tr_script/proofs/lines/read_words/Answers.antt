use Rattle.tr_script.proofs.FormLemmas.{one_word, no_word}
use Rattle.tr_script.proofs.lines.read_words.Goals as goal

pub returns-in-len1-up : goal.returns-in-len1-up
returns-in-len1-up c = rw (one_word c.args.words.now no_word c.in-len1-up.len_at_least) c.read_first.ensures
