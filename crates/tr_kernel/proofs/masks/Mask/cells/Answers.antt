use Rattle.std.proofs.Common.{ℕ, get_or, Fits, w8, arith, rules}
use Rattle.tr_kernel.specs.Masks.{bit_in_cells}
use Rattle.tr_kernel.proofs.MaskLemmas.{stepped-masked}
use Rattle.tr_kernel.proofs.masks.Mask.cells.Goals as goal

pub returns-clause-whole : goal.returns-clause-whole
returns-clause-whole c =
    let fits : (k : ℕ) → Fits w8 (get_or c.args.row.now k 0) = λ k. search rules in
    rw (← c.self.view_is) (stepped-masked _ c.self.inside.steps c.self.invariant
    (bit_in_cells c.args.cells.now c.args.phase) c.args.row.now c.paint_cells.new.row (omega arith) fits c.paint_cells.ensures)
