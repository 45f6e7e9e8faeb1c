use Rattle.std.proofs.Common.{ℕ, List, []}
use Rattle.std.specs.Borrow.{Bor}
use Rattle.tr_script.proofs.FormLemmas.{just_four}
use Rattle.tr_script.proofs.widget_lines.read_swap.Goals as goal

no_word : Bor (List ℕ)
no_word = record { ref_ptr = (0, 0); now = [] }

pub returns : goal.returns
unfolding no_word
returns c = rw (just_four c.args.values.now no_word c.in-len4.len_at_least c.in-len4.len_below) c.swap.ensures
