-- The records of a stream, and the fault of the record after them.
use Rattle.std.specs.Prelude.{ℕ, zero, suc, ◌<◌, ◌==◌, ◌&&◌, Bool, List, [], ◌∷◌, ◌++◌, length, take, drop, Option, Some, None, option_map, slice_index, is_none, nat_lt, nat_le, not, if◌then◌else◌}
use Rattle.std.specs.List.{flat_map}
use Rattle.tr_mirror.specs.declared.faults.MirrorFault.{MirrorFault}
use Rattle.tr_mirror.specs.declared.faults.StreamFault.{StreamFault}
use Rattle.tr_mirror.specs.declared.faults.StreamFault.TheVariants.{Unknown}
use Rattle.tr_mirror.specs.declared.headers.Header.{Header}
use Rattle.tr_mirror.specs.Headers.{header_bytes, tag_of, header_len, header_of, record_len, pixel_count}
use Rattle.tr_mirror.specs.Standings.{Standing, stream_start, after_record, header_fault, pixel_fault}

-- a record of a stream: its header and its pixels; a Run has `count` pixels, a Fill one, a Screen and a Cut none
pub record Record : Type 0 where
  pub header : Header
  pub pixels : List ℕ

-- the bytes of a record
abbrev pub record_bytes : Record → List ℕ
record_bytes r = header_bytes r.header ++ r.pixels

-- the bytes of records, one after another
abbrev pub spelled : List Record → List ℕ
spelled records = flat_map record_bytes records

-- each element is a byte (an index after the end gives 0)
abbrev pub IsBytes : List ℕ → Type 0
IsBytes bytes = (i : ℕ) → slice_index bytes i < 256

-- the state after these records
abbrev pub after_records : Standing → List Record → Standing
after_records s [] = s
after_records s (r ∷ rs) = after_records (after_record s r.header r.pixels) rs

-- ---- the record at the front of some bytes

-- M1: the first byte isn't 1 to 4; `front_fault` tests first that there is a byte
abbrev pub is_unknown : List ℕ → Bool
is_unknown bytes = not (nat_le 1 (tag_of bytes) && nat_le (tag_of bytes) 4)

-- the pixels of the record at the front
abbrev pub pixels_of : List ℕ → List ℕ
pixels_of bytes = take (pixel_count (header_of bytes)) (drop (header_len bytes) bytes)

-- the record at the front
abbrev pub record_at : List ℕ → Record
record_at bytes = record { header = header_of bytes; pixels = pixels_of bytes }

-- the first fault if there is one, else the second
abbrev pub or_fault : Option StreamFault → Option StreamFault → Option StreamFault
or_fault (Some fault) other = Some fault
or_fault None other = other

-- The fault of the record at the front, as far as its bytes show one. M1 is tested if there is a byte; then M5, M3 and M2, if the
-- header is whole; then M2 for the pixels, if the record is whole.
unfoldable pub front_fault : Standing → List ℕ → Option StreamFault
front_fault s bytes =
    if length bytes == 0 then None
    else if is_unknown bytes then Some Unknown
    else if nat_lt (length bytes) (header_len bytes) then None
    else or_fault (header_fault s (header_of bytes))
    (if nat_lt (length bytes) (record_len bytes) then None else pixel_fault s (pixels_of bytes))

-- the bytes begin with a whole record without a fault
abbrev pub has_record : Standing → List ℕ → Bool
has_record s bytes = nat_lt 0 (length bytes) && nat_le (record_len bytes) (length bytes) && is_none (front_fault s bytes)

-- ---- the records of a stream

-- the whole records without a fault at the front of some bytes, at most `n`
abbrev pub records_within : ℕ → Standing → List ℕ → List Record
records_within zero s bytes = []
records_within (suc n) s bytes =
    if has_record s bytes then
    record_at bytes ∷ records_within n (after_record s (header_of bytes) (pixels_of bytes)) (drop (record_len bytes) bytes)
    else []

-- The whole records of a stream before its first fault. Each has 5 bytes at least, so there are no more records than bytes.
abbrev pub records_of : List ℕ → List Record
records_of stream = records_within (length stream) stream_start stream

-- the state after these records
abbrev pub standing_of : List ℕ → Standing
standing_of stream = after_records stream_start (records_of stream)

-- the place of the first byte after these records
abbrev pub place_behind : List ℕ → ℕ
place_behind stream = length (spelled (records_of stream))

-- the bytes after these records
abbrev pub rest_of : List ℕ → List ℕ
rest_of stream = drop (place_behind stream) stream

-- the fault of the record after these, if its bytes show one
abbrev pub fault_in : List ℕ → Option MirrorFault
fault_in stream =
    option_map (λ fault. record { place = place_behind stream; fault = fault }) (front_fault (standing_of stream) (rest_of stream))
