use Rattle.std.proofs.Common.{◌≡◌, ◌*◌, ◌+◌, rules}
use Rattle.tr_region.specs.Places.{place_within}
use Rattle.tr_screen.specs.Runs.{point_in}
use Rattle.tr_surface.proofs.PutLemmas.{run_fits}
use Rattle.tr_surface.proofs.puts.start_within.Goals as goal

pub returns-clause-fits : goal.returns-clause-fits
returns-clause-fits c =
    let place : c.abs_diff-rows.result * c.size-wide.result.0 + c.abs_diff-columns.result
    ≡ place_within c.args.area.now (point_in c.args.run 0) = search rules in
    rw place (run_fits c.args.area.now c.args.run c.requires.some c.requires.within)
