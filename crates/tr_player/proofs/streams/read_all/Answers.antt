use Rattle.std.proofs.Common.{◌≡◌, length, vec_len, arith, rules}
use Rattle.std.proofs.lemmas.Result.{err_from_is_err_and}
use Rattle.tr_player.proofs.StreamLemmas.{are_read, is_read_through}
use Rattle.tr_player.proofs.streams.read_all.Goals as goal

pub returns-clause-bytes : goal.returns-clause-bytes
returns-clause-bytes g c =
    let w = c.in_ok-bytes.ensures in
    let len : length c.in_ok-bytes.bytes.items ≡ vec_len c.in_ok-bytes.bytes = search rules in
    are_read _ _ _ _ w.taken (omega (arith, w.most)) (λ few. w.end (omega arith))

pub returns-clause-through : goal.returns-clause-through
returns-clause-through g c =
    let w = c.in_ok-bytes.ensures in
    let len : length c.in_ok-bytes.bytes.items ≡ vec_len c.in_ok-bytes.bytes = search rules in
    is_read_through _ _ _ _ w.taken (omega (arith, w.most)) (λ few. w.end (omega arith))

pub returns-in_err-bytes-clause-failed : goal.returns-in_err-bytes-clause-failed
returns-in_err-bytes-clause-failed g c =
    let p = err_from_is_err_and c.from_residual-in_err-bytes.result c.from_residual-in_err-bytes.ensures.1 in
    rw (p.1, p.2) c.in_err-bytes.ensures.failed
