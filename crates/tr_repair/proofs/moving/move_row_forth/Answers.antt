use Rattle.std.proofs.Common.{◌≡◌, take, refl, rules}
use Rattle.std.proofs.lemmas.List.{take_all}
use Rattle.tr_screen.specs.Runs.{in_run}
use Rattle.tr_repair.specs.Walks.{in_row, run_of}
use Rattle.tr_repair.proofs.MoveLemmas.{moves_fewer, run_moves, run_some, run_in_row, runs_forth, row_none}
use Rattle.tr_repair.proofs.moving.move_row_forth.Goals as goal

pub loop-rect-init : goal.loop-rect-init
loop-rect-init c = row_none _ _ _ _ refl

pub move_run-requires : goal.move_run-requires
move_run-requires c =
    let v = c.args.v in
    let row = c.args.row.now in
    let size = c.args.screen.now.size in
    let r = c.rect-item.result in
    let within = run_in_row v row c.loop-rect.rect-index r c.rect-item.is c.loop-rect-test.true c.requires.apart in
    let some = run_some v row c.loop-rect.rect-index r c.rect-item.is c.loop-rect-test.true c.requires.apart in
    let on = run_moves size c.args.delta v r some (moves_fewer size c.args.delta (in_row v row) (in_run (run_of v r)) c.requires.moves within) in
    rw (c.run_in.ensures, c.loop-rect.invariant.size) (record { to = on.0; from = on.1; room = search rules })

pub loop-rect-preserved : goal.loop-rect-preserved
loop-rect-preserved c =
    let moved = rw c.run_in.ensures at c.move_run.ensures in
    runs_forth c.args.v c.args.row.now c.loop-rect.rect-index c.rect-item.result c.rect-item.is
    c.loop-rect-test.true c.requires.apart c.args.delta c.args.screen.now c.loop-rect.screen _
    c.requires.moves moved c.requires.way c.loop-rect.invariant

pub returns : goal.returns
returns c =
    let whole : take c.loop-rect.rect-index c.args.row.now ≡ c.args.row.now = take_all c.loop-rect.rect-index c.args.row.now c.loop-rect-test.false in
    rw whole at c.loop-rect.invariant
