use Rattle.std.proofs.Common.{ℕ, List, [], rules}
use Rattle.std.specs.Borrow.{Bor}
use Rattle.tr_script.proofs.FormLemmas.{just_three}
use Rattle.tr_script.proofs.desk_lines.read_offset.Goals as goal

no_word : Bor (List ℕ)
no_word = record { ref_ptr = (0, 0); now = [] }

pub returns-in_err-node : goal.returns-in_err-node
unfolding no_word
returns-in_err-node c = rw (just_three c.args.words.now no_word c.in-len3.len_at_least c.in-len3.len_below) (search rules)

pub returns : goal.returns
unfolding no_word
returns c = rw (just_three c.args.words.now no_word c.in-len3.len_at_least c.in-len3.len_below) (search rules)
