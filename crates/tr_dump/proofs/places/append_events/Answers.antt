use Rattle.std.proofs.Common.{◌+◌, take, rules}
use Rattle.std.specs.List.{flat_map}
use Rattle.tr_dump.specs.Reports.{event_line}
use Rattle.tr_dump.proofs.BeginsLemmas.{begins_before}
use Rattle.tr_dump.proofs.JournalLemmas.{taken_more, appended_more}
use Rattle.tr_dump.proofs.places.append_events.Goals as goal

pub returns-in_err-append_event_line-clause-err : goal.returns-in_err-append_event_line-clause-err
returns-in_err-append_event_line-clause-err c =
    let so_far = flat_map event_line (take c.loop-i.i c.args.inbox.now.events) in
    let begins =
    begins_before c.append_event_line.new.out.items c.loop-i.out.items c.args.out.now.items so_far
    c.in_err-append_event_line.ensures.err c.loop-i.invariant in
    search rules

pub loop-i-preserved : goal.loop-i-preserved
loop-i-preserved c =
    let events = c.args.inbox.now.events in
    appended_more c.append_event_line.new.out.items c.loop-i.out.items c.args.out.now.items
    (flat_map event_line (take c.loop-i.i events)) (event_line c.get.result) (flat_map event_line (take (c.loop-i.i + 1) events))
    c.loop-i.invariant c.in_ok-append_event_line.ensures.ok (taken_more event_line events c.loop-i.i c.get.result c.get.ensures)
