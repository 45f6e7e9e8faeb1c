use Rattle.std.proofs.Common.{sym, ap, subst, ◌∙◌, arith}
use Rattle.std.proofs.lemmas.Result.{on_ok_weaker}
use Rattle.tr_screen.specs.Pictures.{Picture}
use Rattle.tr_mirror.specs.Streams.{HasItsPixels}
use Rattle.tr_machine.specs.Pictures.{render}
use Rattle.tr_stage.specs.Stages.{StageView, state}
use Rattle.tr_stage.specs.Standings.{Stands}
use Rattle.tr_serial.specs.Streams.{IsAppended}
use Rattle.tr_serial.proofs.DumpLemmas.{dumped_screen, mirrors_dump}
use Rattle.tr_serial.proofs.mirrors.mirror_dump.Goals as goal

pub append-requires-clause-pixels : goal.append-requires-clause-pixels
append-requires-clause-pixels g c =
    let client = g.C.Client in
    let stood = subst (λ (s : StageView _ _). Stands client s) c.stage.ensures c.invariant.ensures.stands in
    let stands = subst (λ (s : StageView _ _). Stands client s) c.stage-2.ensures c.invariant-2.ensures.stands in
    let values = subst (λ (s : StageView _ _). HasItsPixels (render client (state client s))) c.stage-3.ensures c.has_values.ensures in
    let screen = c.screen.ensures.value ∙ ap (λ (s : StageView _ _). s.screen) c.stage-4.ensures in
    let is = dumped_screen client g.C.Cmd.Command.words c.args.run.now c.report.new.self c.in_ok-report.ensures.ok stood stands in
    subst (λ (p : Picture). HasItsPixels p) (sym (screen ∙ is)) values

pub returns-clause-mirrors : goal.returns-clause-mirrors
returns-clause-mirrors g c =
    let client = g.C.Client in
    let stood = subst (λ (s : StageView _ _). Stands client s) c.stage.ensures c.invariant.ensures.stands in
    let stands = subst (λ (s : StageView _ _). Stands client s) c.stage-2.ensures c.invariant-2.ensures.stands in
    let screen = c.screen.ensures.value ∙ ap (λ (s : StageView _ _). s.screen) c.stage-4.ensures in
    on_ok_weaker c.append.result
    (λ appended. mirrors_dump client g.C.Cmd.Command.words c.args.run.now c.report.new.self c.in_ok-report.ensures.ok c.args.stream.now c.append.new.self
    stood stands (subst (λ (p : Picture). IsAppended c.args.stream.now c.append.new.self p) screen appended)) c.append.ensures.ok

pub returns-clause-count : goal.returns-clause-count
returns-clause-count g c = on_ok_weaker c.append.result (λ appended. omega (arith, appended.cuts)) c.append.ensures.ok
