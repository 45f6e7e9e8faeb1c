use Rattle.std.proofs.Common.{◌+◌, ◌/◌, ◌%◌, get_or, arith}
use Rattle.tr_kernel.proofs.PatternLemmas.{length-cell_lanes, cell_bit}
use Rattle.tr_kernel.proofs.patterns.CellsPattern.bits_at.Goals as goal

pub returns-clause-lanes : goal.returns-clause-lanes
returns-clause-lanes c =
    let place = c.from.result + c.args.at % 8 in
    let cells = c.args.self.now.cells.now in
    length-cell_lanes (place % 8) (get_or cells (c.args.at / 8 + place / 8) 0) (get_or cells c.min.result 0) (get_or cells c.min-2.result 0) (omega arith)

pub returns-clause-bits : goal.returns-clause-bits
returns-clause-bits c k lt reach =
    rw c.from.ensures (cell_bit c.args.self.now.cells.now c.args.self.now.phase c.args.at c.min.result c.min-2.result (omega arith)
    (omega arith) k lt reach.0 reach.1)
