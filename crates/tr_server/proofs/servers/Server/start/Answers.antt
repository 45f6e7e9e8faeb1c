use Rattle.std.proofs.Common.{rules}
use Rattle.tr_server.proofs.servers.Server.start.Goals as goal

pub invariant_of-server : goal.invariant_of-server
invariant_of-server g c = (search rules, search rules, c.in-Ok-windows_and_passes.ensures.windows, search rules)
