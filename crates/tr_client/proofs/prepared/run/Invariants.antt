use Rattle.std.proofs.Common.{◌≡◌, take}
use Rattle.tr_paint.specs.Traces.{look_of}
use Rattle.tr_paint.specs.Patches.{IsPatch}
use Rattle.tr_client.specs.Runs.{content_after, patches_of}
use Rattle.tr_client.proofs.prepared.run.Given as goal

-- the content and the patches are those of the commands so far, and the patches lead from the first picture to the content's
abbrev pub invariant-loop-cmd : goal.invariant-loop-cmd
invariant-loop-cmd g l =
    let client = g.C.Client in
    let look = look_of l.env.kind l.env.font.now in
    let done = take l.cmd-index l.cmd-items in
    record {
      contents : l.to ≡ content_after client l.content done;
      patches : l.batch ≡ patches_of client look l.size l.content done;
      patch : IsPatch look l.size l.batch (client.pic look l.size l.content) (client.pic look l.size l.to);
    }
