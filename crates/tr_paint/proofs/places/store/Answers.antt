use Rattle.std.proofs.Common.{◌≡◌, length, arith}
use Rattle.tr_paint.proofs.CommandListLemmas.{stored-added}
use Rattle.tr_paint.proofs.places.store.Goals as goal

pub returns-clause-ok : goal.returns-clause-ok
returns-clause-ok c =
    let place : length c.args.stored.now.items ≡ c.len-place.result = omega (arith, c.len-place.ensures, c.args.stored.now.ok.0) in
    rw c.in_ok-push.ensures.items (stored-added c.args.stored.now.items c.args.command c.len-place.result place)
