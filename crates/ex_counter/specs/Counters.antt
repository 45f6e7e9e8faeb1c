-- Windows with a bar; its length is a number that events count up.
use Rattle.std.specs.Prelude.{ℕ, ◌+◌, ◌<◌, ◌^◌, ◌==◌, min, pos, if◌then◌else◌, List, [], ◌∷◌, ◌++◌, Option, Some, None, codes, decimal}
use Rattle.tr_base.specs.declared.Point.{Point}
use Rattle.tr_base.specs.declared.Size.{Size}
use Rattle.tr_base.specs.declared.Event.{Event}
use Rattle.tr_base.specs.declared.Event.TheVariants.{Mouse, Key}
use Rattle.tr_base.specs.declared.Click.{Click}
use Rattle.tr_base.specs.declared.Click.TheVariants.{FirstDown}
use Rattle.tr_base.specs.declared.Op.TheVariants.{Bg, Set}
use Rattle.tr_base.specs.Ops.{eff}
use Rattle.tr_base.specs.Rects.{Edges, between, meet_of, rect_of, whole_of}
use Rattle.tr_paint.specs.declared.Paint.{Paint}
use Rattle.tr_paint.specs.declared.Paint.TheVariants.{Tint}
use Rattle.tr_paint.specs.Traces.{Look}
use Rattle.tr_paint.specs.Batches.{batch_of}
use Rattle.ex_counter.specs.declared.counters.Counter.{Counter}
use Rattle.ex_counter.specs.declared.counters.CounterCmd.{CounterCmd}
use Rattle.ex_counter.specs.declared.counters.CounterCmd.TheVariants.{Add}

-- ---- contents and commands

-- the number and the tint are bytes
pub record IsCounter (x : Counter) : Type 0 where
  pub count : x.count < 2 ^ 8
  pub tint : x.tint < 2 ^ 8

-- the addend of a command is a byte
abbrev pub IsCounterCmd : CounterCmd → Type 0
IsCounterCmd (Add n) = n < 2 ^ 8

-- the words of a command in a script
abbrev pub counter_words : CounterCmd → List ℕ
counter_words (Add n) = codes "add " ++ decimal n

-- the greatest number, at which counting stops
abbrev pub greatest : ℕ
greatest = 255

-- a command adds to the number; the tint stays
abbrev pub counter_next : Counter → CounterCmd → Counter
counter_next x (Add n) = record x { count = min (x.count + n) greatest }

-- ---- the picture

-- the first `count` columns have the tint, as the kind has it; the others are background
abbrev pub counter_pic : Look → Size → Counter → Point → ℕ
counter_pic look size x q = eff look.kind (if between (pos 0) (pos x.count) q.h then Set x.tint else Bg) 0

-- the columns from `from` on, before `to`, of a part of the window
abbrev pub columns_of : Edges → ℕ → ℕ → Edges
columns_of part from to = meet_of part (rect_of (pos from) (pos to) part.north part.south)

-- the painting of a part: all of it background, and the bar over it
abbrev pub counter_paints : Edges → Counter → List Paint
counter_paints part x = batch_of (Tint part Bg ∷ Tint (columns_of part 0 x.count) (Set x.tint) ∷ [])

-- the painting from one bar to a longer one: only the columns between their ends
abbrev pub growth_paints : Edges → Counter → Counter → List Paint
growth_paints part x longer = batch_of (Tint (columns_of part x.count longer.count) (Set longer.tint) ∷ [])

-- a command's patch paints the growth of the bar
abbrev pub counter_patch : Look → Size → Counter → CounterCmd → List Paint
counter_patch look size x cmd = growth_paints (whole_of size) x (counter_next x cmd)

-- the picture doesn't depend on the size, so the part that both windows have is kept
abbrev pub counter_keeps : Counter → Size → Size → Edges
counter_keeps x from to = meet_of (whole_of from) (whole_of to)

-- ---- events, and the value for others

-- the code of the key that counts
abbrev pub plus : ℕ
plus = 43

-- the key adds 1
abbrev pub added_by_key : ℕ → Option CounterCmd
added_by_key code = if code == plus then Some (Add 1) else None

-- the first button that goes down adds 10
abbrev pub added_by_click : Click → Option CounterCmd
added_by_click FirstDown = Some (Add 10)
added_by_click click = None

-- the command for an event
abbrev pub counter_answer : Counter → Event → Option CounterCmd
counter_answer x (Mouse time click button at) = added_by_click click
counter_answer x (Key time code) = added_by_key code
counter_answer x event = None

-- the number in decimal
abbrev pub counter_value : Counter → List ℕ
counter_value x = decimal x.count
