use Rattle.std.proofs.Common.{rules}
use Rattle.tr_mirror.specs.Headers.{header_bytes}
use Rattle.tr_mirror.proofs.RoomLemmas.{starts_itself, starts_before}
use Rattle.tr_mirror.proofs.updates.push_record.Goals as goal

pub returns-in_err-push_header-clause-err : goal.returns-in_err-push_header-clause-err
returns-in_err-push_header-clause-err c =
    let kept = starts_itself c.push_header.new.out.items c.args.out.now.items c.in_err-push_header.ensures.err in
    search rules

pub returns-in_err-extend_from_slice-clause-err : goal.returns-in_err-extend_from_slice-clause-err
returns-in_err-extend_from_slice-clause-err c =
    let kept =
    starts_before c.extend_from_slice.new.self.items c.push_header.new.out.items c.args.out.now.items (header_bytes c.args.header)
    (starts_itself _ _ c.in_err-extend_from_slice.ensures.items) c.in_ok-push_header.ensures.ok in
    search rules
