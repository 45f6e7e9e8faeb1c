-- The exit statuses.
use Rattle.std.specs.Prelude.{ℕ}
use Rattle.tr_player.specs.declared.statuses.Status.{Status}
use Rattle.tr_player.specs.declared.statuses.Status.TheVariants.{Done, Usage, Refused, ReadFault, WriteFault, NoMemory}

-- the exit status of the process
abbrev pub code : Status → ℕ
code Done = 0
code Usage = 2
code Refused = 3
code ReadFault = 4
code WriteFault = 5
code NoMemory = 6
