use Rattle.std.proofs.Common.{◌≡◌, ◌++◌, take}
use Rattle.std.specs.List.{flat_map}
use Rattle.tr_journal.specs.Names.{names_of}
use Rattle.tr_dump.specs.Reports.{sent_line}
use Rattle.tr_dump.proofs.journals.append_sent_lines.Given as goal

-- the lines so far stand behind what was there
abbrev pub invariant-loop-delivery : goal.invariant-loop-delivery
invariant-loop-delivery g l =
    l.out.items ≡ l.fn.out.items ++ flat_map (sent_line (names_of g.N.NameOf l.names)) (take l.delivery-index l.sent)
