-- Private contracts alone cite this file.
-- The code's reading of a stream, byte by byte, and why it is the reading by records.
use Rattle.std.specs.Prelude.{◌≡◌, ℕ, ◌+◌, ◌*◌, ◌<◌, ◌≤◌, ◌==◌, List, [], ◌∷◌, ◌++◌, length, drop, Option, Some, None, is_some, nat_lt, if◌then◌else◌}
use Rattle.tr_base.specs.Rects.{IsScreenSize}
use Rattle.tr_screen.specs.Pictures.{Picture}
use Rattle.tr_mirror.specs.declared.faults.StreamFault.{StreamFault}
use Rattle.tr_mirror.specs.declared.faults.StreamFault.TheVariants.{Unknown}
use Rattle.tr_mirror.specs.declared.changes.Change.{Change}
use Rattle.tr_mirror.specs.declared.changes.Change.TheVariants.{Nothing}
use Rattle.tr_mirror.specs.Headers.{header_len, header_of, longest_record, record_len}
use Rattle.tr_mirror.specs.Standings.{Standing, most_groups, stream_start, after_record, header_fault, pixel_fault}
use Rattle.tr_mirror.specs.Records.{is_unknown}
use Rattle.tr_mirror.specs.Readings.{Reading, cut_between}
use Rattle.tr_mirror.specs.Changes.{change_with}

-- the reading of no bytes
abbrev pub at_first : Reading
at_first = record { standing = stream_start; changed = Nothing; begun = []; fed = 0; fault = None }

-- The fault that the newest byte of a record shows. M1 is tested at the first byte; M5, M3 and M2 at the end of the header; and M2
-- of the pixels at the end of the record.
unfoldable pub record_fault : Standing → List ℕ → Option StreamFault
record_fault s bytes =
    if length bytes == 1 then (if is_unknown bytes then Some Unknown else None)
    else if length bytes == header_len bytes then header_fault s (header_of bytes)
    else if length bytes == record_len bytes then pixel_fault s (drop (header_len bytes) bytes)
    else None

-- a fault ends the reading, which keeps the state after the whole records before the fault
abbrev pub failed : Reading → StreamFault → Reading
failed m fault =
    record { standing = m.standing; changed = m.changed; begun = []; fed = m.fed; fault = Some (record { place = m.fed; fault = fault }) }

-- the change of a group before its next record: a record after a Cut begins a new group
abbrev pub change_before : Standing → Change → Change
change_before s changed = if s.within then changed else Nothing

-- the reading after a whole record
abbrev pub record_taken : Reading → List ℕ → Reading
record_taken m bytes = record {
  standing = after_record m.standing (header_of bytes) (drop (header_len bytes) bytes);
  changed = change_with (header_of bytes) (change_before m.standing m.changed);
  begun = [];
  fed = m.fed + length bytes;
  fault = m.fault;
}

-- the record isn't whole yet
abbrev pub unfinished : Reading → List ℕ → Reading
unfinished m bytes = record { standing = m.standing; changed = m.changed; begun = bytes; fed = m.fed; fault = m.fault }

abbrev pub judged : Reading → List ℕ → Option StreamFault → Reading
judged m bytes (Some fault) = failed m fault
judged m bytes None = if length bytes == record_len bytes then record_taken m bytes else unfinished m bytes

-- the reading after a record has begun with these bytes
unfoldable pub tried : Reading → List ℕ → Reading
tried m bytes = judged m bytes (record_fault m.standing bytes)

-- the reading after one byte more
abbrev pub after_byte : Reading → ℕ → Reading
after_byte m byte = if is_some m.fault then m else tried m (m.begun ++ byte ∷ [])

-- the reading after more bytes
abbrev pub after_bytes : Reading → List ℕ → Reading
after_bytes m [] = m
after_bytes m (byte ∷ bytes) = after_bytes (after_byte m byte) bytes

-- the screens at the cuts that these bytes end
abbrev pub shown_from : Reading → List ℕ → List Picture
shown_from m [] = []
shown_from m (byte ∷ bytes) = cut_between m.standing (after_byte m byte).standing ++ shown_from (after_byte m byte) bytes

-- the number of bytes of a record at which the next faults are tested, if these bytes have come
abbrev pub try_len : List ℕ → ℕ
try_len bytes =
    if length bytes == 0 then 1
    else if nat_lt (length bytes) (header_len bytes) then header_len bytes
    else record_len bytes

-- the most bytes of whole records, by the state after them: a group has at most 1,055,755
abbrev pub spent : Standing → ℕ
spent s = 1055755 * s.cuts + (if s.within then 6 + longest_record * s.south else 0)

-- bounds of whole records: they have no more bytes than 64 groups can have, and a screen has a possible size
pub record IsBounded (s : Standing) (fed : ℕ) : Type 0 where
  pub cuts : s.cuts ≤ most_groups
  pub spent : fed ≤ spent s
  pub south : s.south ≤ 1024
  pub sized : (p : Picture) → s.screen ≡ Some p → IsScreenSize p.size

-- A property of every reading: the record that has begun isn't whole, and its header, if that is whole, has no fault
pub record IsReading (m : Reading) : Type 0 where
  pub short : length m.begun < try_len m.begun
  pub sound : 0 < length m.begun → header_len m.begun ≤ length m.begun → header_fault m.standing (header_of m.begun) ≡ None
  pub bounded : IsBounded m.standing m.fed
