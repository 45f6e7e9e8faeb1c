use Rattle.std.proofs.Common.{◌∙◌, sym}
use Rattle.tr_arguments.proofs.FlagLemmas.{has_flagged}
use Rattle.tr_arguments.proofs.commands.command_of.Goals as goal

pub returns-then-has_flag : goal.returns-then-has_flag
returns-then-has_flag c = has_flagged c.args.words.now (sym c.if-has_flag.true ∙ c.has_flag.ensures)
