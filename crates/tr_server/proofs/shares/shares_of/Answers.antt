use Rattle.std.proofs.Common.{[], ◌∷◌, ◌++◌, ap, sym, ◌∙◌}
use Rattle.tr_server.specs.Shares.{share_of}
use Rattle.tr_server.proofs.ShareLemmas.{shares_less, shares_more}
use Rattle.tr_server.proofs.shares.shares_of.Goals.{then-branch+in_ok-push, else-branch}
use Rattle.tr_server.proofs.shares.shares_of.Goals as goal

pub loop-n-preserved : goal.loop-n-preserved
loop-n-preserved g c =
    let is = c.in_ok-is_ready.ensures in
    let has = c.loop-n.invariant in
    let s = c.args.stage.now in
    elim c.if-branch.branch [
      | then-branch+in_ok-push w ↦ rw (w.shares-is, w.in_ok-push.ensures.items)
          (ap (λ xs. xs ++ share_of s (record { 0 = c.loop-n.n }) ∷ []) has ∙ sym (shares_more g.C.Client s c.loop-n.n (sym is ∙ w.if-branch.true)))
      | else-branch w ↦ rw w.shares-is (has ∙ sym (shares_less g.C.Client s c.loop-n.n (sym is ∙ w.if-branch.false)))
    ]
