use Rattle.tr_surface.proofs.CoverLemmas.{cover_is}
use Rattle.tr_surface.proofs.tree_changes.TreeChange.cover.Goals as goal

pub returns : goal.returns
returns c =
    cover_is c.args.self.now.was.now c.args.self.now.is.now c.args.self.now.moved _
    (record { before = c.invariant.ensures.forest; after = c.invariant-2.ensures.forest }) c.requires.alike c.requires.moved
    (c.moves_all.ensures c.if-not-moves_all.false) c.in_ok-region.ensures
