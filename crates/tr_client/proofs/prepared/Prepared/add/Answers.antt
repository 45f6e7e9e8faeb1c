use Rattle.std.proofs.Common.{◌≡◌, ◌∷◌, ◌++◌, [], arith}
use Rattle.tr_paint.specs.Traces.{look_of}
use Rattle.tr_paint.proofs.PatchLemmas.{two_patches}
use Rattle.tr_client.proofs.RunsLemmas.{content_more, patches_more}
use Rattle.tr_client.proofs.prepared.Prepared.add.Goals as goal

pub invariant_of-self-2-clause-contents : goal.invariant_of-self-2-clause-contents
invariant_of-self-2-clause-contents g c =
    let p = c.args.self.now in
    let pushed : c.push.new.self.items ≡ p.commands.items ++ c.args.cmd ∷ [] =
    rw (c.push.ensures.succeeds (omega (arith, c.in_ok-reserve.ensures.ok)), c.reserve.ensures.items) at c.push.ensures.items in
    rw (pushed, content_more g.C.Client p.from p.commands.items c.args.cmd, ← p.contents) c.in_ok-apply.ensures.content_ok

pub invariant_of-self-2-clause-patches : goal.invariant_of-self-2-clause-patches
invariant_of-self-2-clause-patches g c =
    let p = c.args.self.now in
    let look = look_of p.kind p.font in
    let pushed : c.push.new.self.items ≡ p.commands.items ++ c.args.cmd ∷ [] =
    rw (c.push.ensures.succeeds (omega (arith, c.in_ok-reserve.ensures.ok)), c.reserve.ensures.items) at c.push.ensures.items in
    rw (pushed, patches_more g.C.Client look p.size p.from p.commands.items c.args.cmd, ← p.contents, ← p.patches)
    c.in_ok-apply.ensures.batch_ok

pub invariant_of-self-2-clause-patch : goal.invariant_of-self-2-clause-patch
invariant_of-self-2-clause-patch g c =
    let p = c.args.self.now in
    let look = look_of p.kind p.font in
    let client = g.C.Client in
    rw (c.in_ok-apply.ensures.batch_ok, c.in_ok-apply.ensures.content_ok)
    (two_patches look p.size p.batch (client.patch look p.size p.to c.args.cmd) (client.pic look p.size p.from) (client.pic look p.size p.to)
    (client.pic look p.size (client.next p.to c.args.cmd)) p.patch c.obeys.ensures)
