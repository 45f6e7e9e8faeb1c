use Rattle.tr_kernel.proofs.Bytes.{exchange_step}
use Rattle.tr_kernel.proofs.lanes.exchange.Goals as goal

pub returns : goal.returns
returns c old small = exchange_step c.args.x c.args.y old c.ranges.x.fits c.ranges.y.fits small
