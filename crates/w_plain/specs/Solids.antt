-- Windows of one colour.
use Rattle.std.specs.Prelude.{ℕ, ◌<◌, ◌^◌, List, [], ◌∷◌, ◌++◌, Option, Some, None, codes, decimal}
use Rattle.tr_base.specs.declared.Point.{Point}
use Rattle.tr_base.specs.declared.Size.{Size}
use Rattle.tr_base.specs.declared.Event.{Event}
use Rattle.tr_base.specs.declared.Event.TheVariants.{Key}
use Rattle.tr_base.specs.declared.Op.TheVariants.{Set}
use Rattle.tr_base.specs.Ops.{eff}
use Rattle.tr_base.specs.Rects.{Edges, meet_of, whole_of}
use Rattle.tr_paint.specs.declared.Paint.{Paint}
use Rattle.tr_paint.specs.declared.Paint.TheVariants.{Tint as Tinted}
use Rattle.tr_paint.specs.Traces.{Look}
use Rattle.tr_paint.specs.Batches.{batch_of}
use Rattle.w_plain.specs.declared.solids.Solid.{Solid}
use Rattle.w_plain.specs.declared.solids.SolidCmd.{SolidCmd}
use Rattle.w_plain.specs.declared.solids.SolidCmd.TheVariants.{Tint}

-- a tint is a byte
pub record IsSolid (x : Solid) : Type 0 where
  pub tint : x.tint < 2 ^ 8

-- the tint of a command is a byte
abbrev pub IsSolidCmd : SolidCmd → Type 0
IsSolidCmd (Tint n) = n < 2 ^ 8

-- the words of a command in a script
abbrev pub solid_words : SolidCmd → List ℕ
solid_words (Tint n) = codes "tint " ++ decimal n

-- each point has the tint, cut to the kind
abbrev pub solid_pic : Look → Size → Solid → Point → ℕ
solid_pic look size x q = eff look.kind (Set x.tint) 0

-- a command sets the tint
abbrev pub solid_next : Solid → SolidCmd → Solid
solid_next x (Tint n) = record { tint = n }

-- the commands that paint a part of the picture
abbrev pub solid_paints : Edges → Solid → List Paint
solid_paints part x = batch_of (Tinted part (Set x.tint) ∷ [])

-- all of the window is painted with the new tint
abbrev pub solid_patch : Look → Size → Solid → SolidCmd → List Paint
solid_patch look size x cmd = solid_paints (whole_of size) (solid_next x cmd)

-- a key's number is the new tint
abbrev pub solid_answer : Solid → Event → Option SolidCmd
solid_answer x (Key time code) = Some (Tint code)
solid_answer x event = None

-- the tint in decimal
abbrev pub solid_value : Solid → List ℕ
solid_value x = decimal x.tint

-- the points in both windows
abbrev pub solid_keeps : Solid → Size → Size → Edges
solid_keeps x from to = meet_of (whole_of from) (whole_of to)
