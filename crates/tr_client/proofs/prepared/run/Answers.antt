use Rattle.std.proofs.Common.{◌≡◌, ◌+◌, ◌∷◌, ◌++◌, [], take, refl, ap, sym, ◌∙◌}
use Rattle.std.proofs.lemmas.List.{take_more}
use Rattle.tr_paint.specs.Traces.{look_of}
use Rattle.tr_paint.proofs.PatchLemmas.{no_patch, two_patches}
use Rattle.tr_client.proofs.RunsLemmas.{content_more, patches_more}
use Rattle.tr_client.proofs.prepared.run.Goals as goal

pub loop-cmd-init : goal.loop-cmd-init
loop-cmd-init g c =
    let look = look_of c.args.env.now.kind c.args.env.now.font.now in
    let picture = g.C.Client.pic look c.args.size c.args.content.now in
    record {
      contents = c.in_ok-to.ensures.copy;
      patches = c.new-batch.ensures;
      patch = rw (c.new-batch.ensures, c.in_ok-to.ensures.copy) (no_patch look c.args.size picture picture (λ q h. refl));
    }

pub loop-cmd-preserved : goal.loop-cmd-preserved
loop-cmd-preserved g c =
    let client = g.C.Client in
    let look = look_of c.args.env.now.kind c.args.env.now.font.now in
    let first = c.args.content.now in
    let cmds = c.deref-cmd-items.result.now in
    let cmd = c.cmd-item.result in
    let done = take c.loop-cmd.cmd-index cmds in
    let more : take (c.loop-cmd.cmd-index + 1) cmds ≡ done ++ cmd ∷ [] =
    take_more cmds c.loop-cmd.cmd-index cmd c.loop-cmd-test.true ∙ ap (λ m. done ++ m ∷ []) (sym c.cmd-item.is) in
    let patch = client.patch look c.args.size c.loop-cmd.to cmd in
    record {
      contents = rw (more, content_more client first done cmd, ← c.loop-cmd.invariant.contents) c.in_ok-apply.ensures.content_ok;
      patches = rw (more, patches_more client look c.args.size first done cmd, ← c.loop-cmd.invariant.contents, ← c.loop-cmd.invariant.patches)
          c.in_ok-apply.ensures.batch_ok;
      patch = rw (c.in_ok-apply.ensures.batch_ok, c.in_ok-apply.ensures.content_ok)
          (two_patches look c.args.size c.loop-cmd.batch patch (client.pic look c.args.size first) (client.pic look c.args.size c.loop-cmd.to)
          (client.pic look c.args.size (client.next c.loop-cmd.to cmd)) c.loop-cmd.invariant.patch c.obeys.ensures);
    }
