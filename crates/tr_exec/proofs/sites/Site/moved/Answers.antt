use Rattle.tr_exec.proofs.SiteLemmas.{region_in_reach}
use Rattle.tr_exec.proofs.sites.Site.moved.Goals as goal

pub shift-requires : goal.shift-requires
shift-requires c = region_in_reach c.args.region.now c.args.delta c.invariant.ensures c.requires.region c.requires.delta
