use Rattle.std.proofs.Common.{ℕ, List, []}
use Rattle.std.specs.Borrow.{Bor}
use Rattle.tr_script.proofs.FormLemmas.{just_seven}
use Rattle.tr_script.proofs.desk_lines.read_reshape.Goals as goal

no_word : Bor (List ℕ)
no_word = record { ref_ptr = (0, 0); now = [] }

pub returns : goal.returns
unfolding no_word
returns c = rw (just_seven c.args.words.now no_word c.in-len7.len_at_least c.in-len7.len_below) c.reshape.ensures
