use Rattle.std.proofs.Common.{◌≡◌, ◌++◌, take}
use Rattle.std.specs.List.{flat_map}
use Rattle.tr_dump.specs.Reports.{event_line}
use Rattle.tr_dump.proofs.places.append_events.Given as goal

-- the events so far stand behind what was there
abbrev pub invariant-loop-i : goal.invariant-loop-i
invariant-loop-i l = l.out.items ≡ l.fn.out.items ++ flat_map event_line (take l.i l.inbox.events)
