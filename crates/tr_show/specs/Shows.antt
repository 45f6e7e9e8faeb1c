-- The text of a stream of updates, and the causes of a refusal.
use Rattle.std.specs.Prelude.{◌≡◌, ⊤, ℕ, List, Option, Some}
use Rattle.std.specs.List.{flat_map}
use Rattle.tr_dump.specs.Reports.{dump_text}
use Rattle.tr_mirror.specs.declared.faults.MirrorFault.{MirrorFault}
use Rattle.tr_mirror.specs.Readings.{screens_shown}
use Rattle.tr_show.specs.declared.errors.ShowRefused.{ShowRefused}
use Rattle.tr_show.specs.declared.errors.ShowRefused.TheVariants as refused

-- the text of a stream: the dumps of the screens at its cuts
abbrev pub shown_text : List ℕ → List ℕ
shown_text stream = flat_map dump_text (screens_shown stream)

-- the cause of a refusal: the first fault of the bytes, or want of memory
abbrev pub IsShowCause : Option MirrorFault → ShowRefused → Type 0
IsShowCause first refused.NoMemory = ⊤
IsShowCause first (refused.Fault fault) = first ≡ Some fault
