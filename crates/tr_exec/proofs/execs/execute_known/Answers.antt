use Rattle.std.proofs.Common.{◌&&◌, not, ap, ◌∙◌}
use Rattle.tr_region.specs.Points.{holds}
use Rattle.std.specs.Prelude.{is_none}
use Rattle.tr_paint.specs.Traces.{Look, look_of}
use Rattle.tr_exec.specs.Executions.{base_of, colour_after}
use Rattle.tr_exec.proofs.BaseLemmas.{colour_known, known_after}
use Rattle.tr_exec.proofs.SiteLemmas.{on_greatest}
use Rattle.tr_exec.proofs.execs.execute_known.Goals as goal

pub plan-plan-requires-clause-visible : goal.plan-plan-requires-clause-visible
plan-plan-requires-clause-visible c = on_greatest c.args.screen.now.size c.args.visible.now c.invariant.ensures.size c.requires.visible

pub returns-clause-known : goal.returns-clause-known
returns-clause-known c = λ p x seen is.
    (c.paint_all.ensures c.in_ok-bad.bad).shown p x seen
    (colour_known (look_of c.args.env.now.kind c.args.env.now.font.now) c.args.origin c.args.visible.now c.args.good.now c.in_ok-bad.bad c.args.screen.now
    c.in_ok-bad.ensures.points c.args.batch.now p ∙ is)

pub returns-clause-good : goal.returns-clause-good
returns-clause-good c = λ p.
    let look : Look = look_of c.args.env.now.kind c.args.env.now.font.now in
    let seen = holds c.args.visible.now p in
    let old = colour_after look (base_of c.args.origin c.args.visible.now c.in_ok-bad.bad c.args.screen.now) c.args.batch.now c.args.origin p in
    c.in-Ok.ensures.points p
    ∙ ap (λ b. seen && not b) (c.in_ok-plan.ensures.bad look c.args.screen.now p)
    ∙ known_after seen (is_none old) (holds c.in_ok-bad.bad p)
    ∙ ap (λ o. seen && not (is_none o))
    (colour_known look c.args.origin c.args.visible.now c.args.good.now c.in_ok-bad.bad c.args.screen.now c.in_ok-bad.ensures.points c.args.batch.now p)

pub returns-clause-untouched : goal.returns-clause-untouched
returns-clause-untouched c = λ p seen none. (c.paint_all.ensures c.in_ok-bad.bad).untouched p seen none

pub returns-clause-pixels : goal.returns-clause-pixels
returns-clause-pixels c = λ p on hidden. (c.paint_all.ensures c.in_ok-bad.bad).others p on hidden

pub returns-clause-size : goal.returns-clause-size
returns-clause-size c = (c.paint_all.ensures c.in_ok-bad.bad).size

pub returns-clause-kind : goal.returns-clause-kind
returns-clause-kind c = (c.paint_all.ensures c.in_ok-bad.bad).kind
