-- Windows with a row of bars, each with a height.
use Rattle.std.specs.Prelude.{ℕ, ◌+◌, ◌*◌, ◌/◌, ◌<◌, ◌≤◌, ◌^◌, ℤ, pos, ◌-ℤ◌, ◌&&◌, Bool, nat_lt, int_le, if◌then◌else◌, List, [], ◌∷◌, ◌++◌, length, slice_index, slice_set, unsigned_abs, Option, Some, None, codes, decimal}
use Rattle.std.specs.Int.{int_max}
use Rattle.tr_base.specs.declared.Point.{Point}
use Rattle.tr_base.specs.declared.Size.{Size}
use Rattle.tr_base.specs.declared.Event.{Event}
use Rattle.tr_base.specs.declared.Event.TheVariants.{Key}
use Rattle.tr_base.specs.declared.Op.TheVariants.{Bg, Fg}
use Rattle.tr_base.specs.Rects.{Edges, empty_rect, meet_of, rect_of, whole_of}
use Rattle.tr_paint.specs.declared.Paint.{Paint}
use Rattle.tr_paint.specs.declared.Paint.TheVariants.{Tint}
use Rattle.tr_paint.specs.Traces.{Look}
use Rattle.tr_paint.specs.Batches.{batch_of}
use Rattle.tr_client.specs.Plain.{colour_of}
use Rattle.w_meter.specs.declared.meters.MeterCmd.{MeterCmd}
use Rattle.w_meter.specs.declared.meters.MeterCmd.TheVariants.{Bar}

-- there are 1 to 32 bars
pub record IsMeter (heights : List ℕ) : Type 0 where
  pub some : 1 ≤ length heights
  pub most : length heights ≤ 32

-- a command names one of 32 bars, and a height that is a byte
pub record IsSetting (bar height : ℕ) : Type 0 where
  pub number : bar < 32
  pub byte : height < 2 ^ 8

abbrev pub IsMeterCmd : MeterCmd → Type 0
IsMeterCmd (Bar bar height) = IsSetting bar height

-- the words of a command in a script
abbrev pub meter_words : MeterCmd → List ℕ
meter_words (Bar bar height) = codes "bar " ++ decimal bar ++ codes " " ++ decimal height

-- the point lies in a bar: each is eight columns wide, and rests on the window's south edge
abbrev pub in_bar : Size → List ℕ → Point → Bool
in_bar size heights q =
    let bar = unsigned_abs q.h / 8 in
    int_le (pos 0) q.h && (nat_lt bar (length heights) && int_le (pos size.high -ℤ pos (slice_index heights bar)) q.v)

-- the bars are foreground, and all other points are background
abbrev pub meter_pic : Look → Size → List ℕ → Point → ℕ
meter_pic look size heights q = colour_of (in_bar size heights q)

-- a command sets the height of a bar, if there is such a bar
abbrev pub meter_next : List ℕ → MeterCmd → List ℕ
meter_next heights (Bar bar height) = if nat_lt bar (length heights) then slice_set heights bar height else heights

-- the first row of a bar of this height
abbrev pub top_of : Size → ℕ → ℤ
top_of size height = int_max (pos size.high -ℤ pos height) (pos 0)

-- the rows of a bar's columns that lie in a part of the window
abbrev pub rows_of : Edges → ℕ → ℤ → ℤ → Edges
rows_of part bar north south = meet_of part (rect_of (pos (8 * bar)) (pos (8 * bar + 8)) north south)

-- the bar's columns are painted: background above its new height, and foreground below
abbrev pub meter_patch : Look → Size → List ℕ → MeterCmd → List Paint
meter_patch look size heights (Bar bar height) =
    let top = top_of size height in
    if nat_lt bar (length heights)
    then batch_of (Tint (rows_of (whole_of size) bar (pos 0) top) Bg ∷ Tint (rows_of (whole_of size) bar top (pos size.high)) Fg ∷ [])
    else []

-- a key's number is the height of the first bar
abbrev pub meter_answer : List ℕ → Event → Option MeterCmd
meter_answer heights (Key time code) = Some (Bar 0 code)
meter_answer heights event = None

-- the height of the first bar in decimal
abbrev pub meter_value : List ℕ → List ℕ
meter_value heights = decimal (slice_index heights 0)

-- bars move with the south edge, so nothing is kept
abbrev pub meter_keeps : List ℕ → Size → Size → Edges
meter_keeps heights from to = empty_rect
