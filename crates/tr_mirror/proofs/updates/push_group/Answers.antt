use Rattle.std.proofs.Common.{refl, rules}
use Rattle.std.proofs.lemmas.Result.{on_err_weaker}
use Rattle.tr_mirror.proofs.RoomLemmas.{starts_itself, starts_before, starts_on, starts_more}
use Rattle.tr_mirror.proofs.updates.push_group.Goals as goal

pub returns-in_err-push_start-clause-err : goal.returns-in_err-push_start-clause-err
returns-in_err-push_start-clause-err c =
    let kept = starts_itself c.push_start.new.out.items c.args.out.now.items c.in_err-push_start.ensures.err in
    search rules

pub returns-in_err-push_rows-clause-err : goal.returns-in_err-push_rows-clause-err
returns-in_err-push_rows-clause-err c =
    let kept =
    starts_before c.push_rows.new.out.items c.push_start.new.out.items c.args.out.now.items _ c.in_err-push_rows.ensures.err
    c.in_ok-push_start.ensures.ok in
    search rules

pub returns-clause-err : goal.returns-clause-err
returns-clause-err c =
    let old = c.args.out.now.items in
    let started = c.push_start.new.out.items in
    let rows = c.push_rows.new.out.items in
    let first = starts_more started old old _ (starts_itself old old refl) c.in_ok-push_start.ensures.ok in
    let second = starts_more rows started old _ first c.in_ok-push_rows.ensures.ok in
    on_err_weaker c.push_header.result (λ same. starts_on c.push_header.new.out.items rows old (starts_itself _ _ same) second) c.push_header.ensures.err
