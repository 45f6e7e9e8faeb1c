use Rattle.std.proofs.Common.{arith}
use Rattle.tr_screen.proofs.RunLemmas.{run_wide}
use Rattle.tr_repair.proofs.moving.move_run.Goals as goal

pub move_run_through-requires-clause-room : goal.move_run_through-requires-clause-room
move_run_through-requires-clause-room c = omega (arith, run_wide c.args.screen.now.size c.args.run c.requires.to, c.requires.room)
