use Rattle.std.proofs.Common.{◌<◌, All, get_or, subst, sym, ◌∙◌, arith}
use Rattle.std.proofs.lemmas.List.{get_or_default, get_or_read}
use Rattle.std.proofs.Math.ListN.{length-set}
use Rattle.tr_base.specs.declared.NodeId.{NodeId}
use Rattle.tr_base.specs.Rects.{empty_rect}
use Rattle.tr_tree.proofs.LayLemmas.{spread_more}
use Rattle.tr_tree.proofs.domains.spread.Goals as goal

pub loop-i-preserved : goal.loop-i-preserved
loop-i-preserved c =
    let i = c.loop-i.i in
    let r = c.index.result.now in
    let now = c.loop-i.domains.items in
    let d : NodeId = record { 0 = 0 } in
    let child : NodeId = get_or c.args.children.now i d in
    let within = subst (λ n. All (λ (m : NodeId). m.0 < n) c.args.children.now) (sym c.loop-i.invariant.count) c.requires.within in
    record {
      count = length-set now c.from.result r ∙ c.loop-i.invariant.count;
      so_far = rw c.from.ensures
          (spread_more c.args.children.now c.args.places.now.items c.args.domains.now.items i now child r c.requires.once within c.loop-i-test.true
          (get_or_default c.args.children.now i d child c.loop-i-test.true)
          (get_or_read c.args.places.now.items i r (omega (arith, c.requires.room)) c.index.ensures empty_rect) c.loop-i.invariant.so_far);
    }
