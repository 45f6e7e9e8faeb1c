use Rattle.tr_exec.proofs.SiteLemmas.{area_in_reach}
use Rattle.tr_exec.proofs.sites.Site.area.Goals as goal

pub shift-requires : goal.shift-requires
shift-requires c = area_in_reach c.area.result c.args.self.now.origin c.area.ensures.near c.requires.origin
