use Rattle.std.proofs.Common.{◌≡◌, ◌+◌, ◌-◌, ◌<◌, ℕ, length, rules, arith}
use Rattle.tr_screen.specs.Runs.{in_run}
use Rattle.tr_repair.specs.Walks.{in_row, run_of}
use Rattle.tr_repair.proofs.MoveLemmas.{moves_fewer, run_moves, run_some, run_in_row, runs_back}
use Rattle.tr_repair.proofs.moving.move_row_back.Goals as goal

pub move_run-requires : goal.move_run-requires
move_run-requires c =
    let v = c.args.v in
    let row = c.args.row.now in
    let size = c.args.screen.now.size in
    let r = c.index-row-i.result in
    let k : ℕ = c.loop-i.i - 1 in
    let lt : k < length row = omega (arith, c.loop-i-test.true, c.loop-i.auto.i) in
    let within = run_in_row v row k r c.index-row-i.is lt c.requires.apart in
    let some = run_some v row k r c.index-row-i.is lt c.requires.apart in
    let on = run_moves size c.args.delta v r some (moves_fewer size c.args.delta (in_row v row) (in_run (run_of v r)) c.requires.moves within) in
    rw (c.run_in.ensures, c.loop-i.invariant.size) (record { to = on.0; from = on.1; room = search rules })

pub loop-i-preserved : goal.loop-i-preserved
loop-i-preserved c =
    let k : ℕ = c.loop-i.i - 1 in
    let lt : k < length c.args.row.now = omega (arith, c.loop-i-test.true, c.loop-i.auto.i) in
    let next : c.loop-i.i ≡ k + 1 = omega (arith, c.loop-i-test.true) in
    let moved = rw c.run_in.ensures at c.move_run.ensures in
    runs_back c.args.v c.args.row.now k c.index-row-i.result c.index-row-i.is lt c.requires.apart
    c.args.delta c.args.screen.now c.loop-i.screen _ c.requires.moves moved c.requires.way (rw next at c.loop-i.invariant)
