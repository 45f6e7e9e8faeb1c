use Rattle.std.proofs.Common.{lit<, arith}
use Rattle.std.proofs.lemmas.Str.Pattern.{strip_prefix_char}
use Rattle.tr_words.proofs.Numbers.{no_first}
use Rattle.tr_words.proofs.values.signed.Goals as goal

pub unsigned_part-requires-clause-plain : goal.unsigned_part-requires-clause-plain
unsigned_part-requires-clause-plain c =
    let p = strip_prefix_char 45 c.args.word.now c.strip_prefix.result c.strip_prefix.ensures.cases (lit< tt) in
    no_first 45 c.args.word.now (rw c.in-None.is at p) (omega arith)

pub returns-in-None-clause-value : goal.returns-in-None-clause-value
returns-in-None-clause-value c = c.unsigned_part.ensures.value c.args.low

pub returns-in-Some-clause-value : goal.returns-in-Some-clause-value
returns-in-Some-clause-value c =
    let p = rw c.in-Some.is at (strip_prefix_char 45 c.args.word.now c.strip_prefix.result c.strip_prefix.ensures.cases (lit< tt)) in
    rw (p, c.in-Some.digits-is) (c.signed_part.ensures.value c.args.high)
