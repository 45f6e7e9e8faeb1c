use Rattle.std.proofs.Common.{ap, length, map, subst, ◌∙◌}
use Rattle.std.proofs.lemmas.Result.{IfOk-weaker}
use Rattle.tr_machine.specs.SharedRepaints.{all_bad_leaves}
use Rattle.tr_stage.specs.Stages.{state}
use Rattle.tr_server.specs.Shares.{ArePaintedShares, share_of}
use Rattle.tr_server.proofs.ShareLemmas.{painted_all, ready_bad}
use Rattle.tr_server.proofs.locked.Locked.paint_bad_leaves.Goals as goal

pub returns : goal.returns
returns g c =
    let s = c.args.self.now in
    let m = state g.C.Client s in
    let lent = c.in_ok-shares.ensures
    ∙ ap (λ leaves. map (share_of s) leaves) (ready_bad g.C.Client (length m.windows) m c.requires) in
    IfOk-weaker c.paint_each.result _ _
    (λ all are. painted_all g.C.Client s (all_bad_leaves m) all.items (subst (λ shares. ArePaintedShares g.C.Client shares all.items) lent are))
    c.paint_each.ensures
