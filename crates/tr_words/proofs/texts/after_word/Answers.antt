use Rattle.tr_words.proofs.WordLemmas.{follows_none, follows_next}
use Rattle.tr_words.proofs.texts.after_word.Goals as goal

pub returns-in-Some-clause-follows : goal.returns-in-Some-clause-follows
returns-in-Some-clause-follows c = λ ws follows.
    follows_next ws c.args.line.now c.in-Some.field-0-0.now c.in-Some.rest.now c.in-Some.ensures.words c.in-Some.ensures.shorter follows

pub returns-in-None-clause-follows : goal.returns-in-None-clause-follows
returns-in-None-clause-follows c = λ ws follows. follows_none ws c.args.line.now c.in-None.ensures.words follows
