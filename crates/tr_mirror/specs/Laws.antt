-- The terms in which the functions of src/laws.rt state the laws of streams: the first fault by the list of faults, and streams as groups.
use Rattle.std.specs.Prelude.{◌≡◌, ℕ, ◌+◌, ◌<◌, ◌≤◌, ◌⊎◌, true, List, [], ◌∷◌, ◌++◌, length, Option, Some, None, replicate, slice_index}
use Rattle.std.specs.List.{flat_map, list_all}
use Rattle.tr_base.specs.Rects.{IsScreenSize}
use Rattle.tr_screen.specs.Pictures.{Picture, blank_of}
use Rattle.tr_mirror.specs.declared.faults.MirrorFault.{MirrorFault}
use Rattle.tr_mirror.specs.declared.faults.StreamFault.TheVariants.{Unfinished, TooMany}
use Rattle.tr_mirror.specs.declared.headers.Segment.{Segment}
use Rattle.tr_mirror.specs.declared.headers.Header.{Header}
use Rattle.tr_mirror.specs.declared.headers.Header.TheVariants.{Run, Fill}
use Rattle.tr_mirror.specs.Headers.{record_len}
use Rattle.tr_mirror.specs.Standings.{stream_start, has_pixel, pixels_written, most_groups}
use Rattle.tr_mirror.specs.Records.{Record, spelled, after_records, front_fault}
use Rattle.tr_mirror.specs.Readings.{longest_stream}
use Rattle.tr_mirror.specs.Faults.{BeginsWithRecords}
use Rattle.tr_mirror.specs.Streams.{screen_record, cut_record}

-- ---- the table of faults

-- M1, M2, M3 or M5: the first record with a fault shows this one
pub record IsFirstFault (stream : List ℕ) (fault : MirrorFault) : Type 0 where
  pub records : List Record
  pub rest : List ℕ
  pub begins : BeginsWithRecords stream records rest
  pub place : fault.place ≡ length (spelled records)
  pub shows : front_fault (after_records stream_start records) rest ≡ Some fault.fault

-- M4: the stream ends within a record that shows no fault so far, or within a group
pub record IsUnfinished (stream : List ℕ) (fault : MirrorFault) : Type 0 where
  pub records : List Record
  pub rest : List ℕ
  pub begins : BeginsWithRecords stream records rest
  pub none : front_fault (after_records stream_start records) rest ≡ None
  pub part : 0 < length rest → length rest < record_len rest
  pub is_open : (0 < length rest) ⊎ ((after_records stream_start records).within ≡ true)
  pub place : fault.place ≡ length (spelled records)
  pub is : fault.fault ≡ Unfinished

-- byte 0 M5: the stream is too long, with any bytes
pub record IsTooLong (stream : List ℕ) (fault : MirrorFault) : Type 0 where
  pub long : longest_stream < length stream
  pub place : fault.place ≡ 0
  pub is : fault.fault ≡ TooMany

-- the first fault of a whole stream, by the table
abbrev pub IsFaultOf : List ℕ → MirrorFault → Type 0
IsFaultOf stream fault =
    IsTooLong stream fault ⊎ ((length stream ≤ longest_stream) × (IsFirstFault stream fault ⊎ IsUnfinished stream fault))

-- ---- the grammar of groups

-- each pixel is a value of the picture's kind
abbrev pub ArePixelsOf : Picture → List ℕ → Type 0
ArePixelsOf p pixels = list_all (has_pixel p.kind) pixels ≡ true

-- a segment of at least one pixel on the screen, in row `v` or south of it
pub record IsOnScreen (p : Picture) (v : ℕ) (segment : Segment) : Type 0 where
  pub later : v ≤ segment.v
  pub row : segment.v < p.size.high
  pub some : 0 < segment.count
  pub columns : segment.west + segment.count ≤ p.size.wide

-- a Run or a Fill with pixels of the screen's kind, in row `v` or south of it
abbrev pub IsRowRecord : Picture → ℕ → Header → List ℕ → Type 0
IsRowRecord p v (Run segment) pixels = IsOnScreen p v segment × (length pixels ≡ segment.count) × ArePixelsOf p pixels
IsRowRecord p v (Fill segment) pixels = IsOnScreen p v segment × (length pixels ≡ 1) × ArePixelsOf p pixels
IsRowRecord p v header pixels = ⊥

-- the row after that of a Run or a Fill
abbrev pub row_behind : Header → ℕ
row_behind (Run segment) = segment.v + 1
row_behind (Fill segment) = segment.v + 1
row_behind header = 0

-- Runs and Fills from north to south, from row `v` on
abbrev pub AreRowRecords : Picture → ℕ → List Record → Type 0
AreRowRecords p v [] = Unit {0}
AreRowRecords p v (r ∷ rs) = IsRowRecord p v r.header r.pixels × AreRowRecords p (row_behind r.header) rs

abbrev pub drawn_by : Picture → Header → List ℕ → Picture
drawn_by p (Run segment) pixels = pixels_written p segment.v segment.west pixels
drawn_by p (Fill segment) pixels = pixels_written p segment.v segment.west (replicate segment.count (slice_index pixels 0))
drawn_by p header pixels = p

-- the picture after all of them
abbrev pub with_rows_drawn : Picture → List Record → Picture
with_rows_drawn p [] = p
with_rows_drawn p (r ∷ rs) = with_rows_drawn (drawn_by p r.header r.pixels) rs

-- the start of a group: a Screen with a kind and a size from 1 to 1024 each way, without pixels, and then a blank picture; or no record,
-- and the picture of the last cut
abbrev pub BeginsWith : Option Picture → List Record → Picture → Type 0
BeginsWith last [] base = last ≡ Some base
BeginsWith last (r ∷ []) base = (r ≡ screen_record base) × (base ≡ blank_of base.size base.kind) × IsScreenSize base.size
BeginsWith last (r ∷ q ∷ more) base = ⊥

-- a group from the screen of the last cut, if there is one, to the screen `now`
pub record IsGroupTo (last : Option Picture) (number : ℕ) (group : List Record) (now : Picture) : Type 0 where
  pub first : List Record
  pub base : Picture
  pub rows : List Record
  pub begins : BeginsWith last first base
  pub are_rows : AreRowRecords base 0 rows
  pub leads : now ≡ with_rows_drawn base rows
  pub parts : group ≡ first ++ (rows ++ cut_record number ∷ [])

-- groups, numbered from `number` on, and their screens
abbrev pub AreGroups : Option Picture → ℕ → List (List Record) → List Picture → Type 0
AreGroups last number [] [] = Unit {0}
AreGroups last number (group ∷ groups) (now ∷ screens) = IsGroupTo last number group now × AreGroups (Some now) (number + 1) groups screens
AreGroups last number groups screens = ⊥

-- the stream is at most 64 groups, and these are their screens
pub record IsRowOfGroups (stream : List ℕ) (screens : List Picture) : Type 0 where
  pub groups : List (List Record)
  pub are_groups : AreGroups None 1 groups screens
  pub few : length groups ≤ most_groups
  pub parts : stream ≡ spelled (flat_map (λ (group : List Record). group) groups)
