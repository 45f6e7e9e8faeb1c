use Rattle.std.proofs.Common.{◌≡◌, ◌++◌, take}
use Rattle.std.specs.List.{enumerate_from, flat_map}
use Rattle.tr_journal.specs.Names.{names_of}
use Rattle.tr_dump.specs.Reports.{journal_line}
use Rattle.tr_dump.proofs.journals.append_entries.Given as goal

-- the lines so far stand behind what was there
abbrev pub invariant-loop-k : goal.invariant-loop-k
invariant-loop-k g l =
    l.out.items ≡ l.fn.out.items
    ++ flat_map (journal_line g.M.Command.words (names_of g.N.NameOf l.names)) (take l.k (enumerate_from 1 l.journal.lines))
