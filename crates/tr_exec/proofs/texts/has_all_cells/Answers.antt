use Rattle.std.proofs.Common.{sym, ◌∙◌}
use Rattle.tr_base.proofs.RectFacts.{same_edges}
use Rattle.tr_exec.proofs.texts.has_all_cells.Goals as goal

pub returns : goal.returns
returns c = λ h. (same_edges c.args.text.now.area c.cells.result).0 (sym c.eq.ensures ∙ h) ∙ c.cells.ensures
