-- A Solid obeys the laws of clients.
-- These proofs are in specs/ because an impl may cite nothing else of its crate. No contract cites them.
use Rattle.std.proofs.Common.{◌≡◌, [], true, refl, ap}
use Rattle.std.specs.Prelude.{IfSome}
use Rattle.tr_base.specs.declared.Point.{Point}
use Rattle.tr_base.specs.declared.Size.{Size}
use Rattle.tr_base.specs.declared.Event.{Event}
use Rattle.tr_base.specs.declared.Event.TheVariants.{Key}
use Rattle.tr_base.specs.declared.Op.TheVariants.{Set}
use Rattle.tr_base.specs.Ops.{IsPixel}
use Rattle.tr_base.proofs.OpLemmas.{pixel-resolved}
use Rattle.tr_base.specs.Rects.{Edges, whole_of}
use Rattle.tr_paint.specs.declared.Paint.TheVariants.{Tint as Tinted}
use Rattle.tr_paint.specs.Traces.{Look}
use Rattle.tr_paint.specs.Patches.{IsPatch}
use Rattle.tr_paint.specs.Paintings.{IsPainting}
use Rattle.tr_paint.proofs.PaintingLemmas.{painting_alone, painting_is_patch}
use Rattle.tr_client.specs.Laws.{IsWindowSize, is_flat, IsEvent, Survives}
use Rattle.tr_client.proofs.KeepingLemmas.{survives-meet}
use Rattle.tr_client.proofs.FlatLemmas.{flat-whole}
use Rattle.w_plain.specs.declared.solids.Solid.{Solid}
use Rattle.w_plain.specs.declared.solids.SolidCmd.{SolidCmd}
use Rattle.w_plain.specs.declared.solids.SolidCmd.TheVariants.{Tint}
use Rattle.w_plain.specs.Solids.{IsSolid, IsSolidCmd, solid_pic, solid_next, solid_paints, solid_patch, solid_answer, solid_keeps}

pub solid_painting : (look : Look) (size : Size) (part : Edges) (x : Solid) →
    IsPainting look part (solid_paints part x) (solid_pic look size x)
solid_painting look size part x =
    painting_alone look part (Tinted part (Set x.tint)) (solid_pic look size x) (λ q here. rw here refl) (λ q h. h)

pub solid_contents : (x : Solid) (cmd : SolidCmd) → IsSolid x → IsSolidCmd cmd → IsSolid (solid_next x cmd)
solid_contents x (Tint n) valid known = record { tint = known }

pub solid_answers : (x : Solid) (event : Event) → IsSolid x → IsEvent event → IfSome (solid_answer x event) (λ cmd. IsSolidCmd cmd)
solid_answers x (Key time code) valid known = known.1
solid_answers x event valid known = tt

pub solid_patches : (look : Look) (size : Size) (x : Solid) (cmd : SolidCmd) → IsSolid x → IsSolidCmd cmd → IsWindowSize size →
    IsPatch look size (solid_patch look size x cmd) (solid_pic look size x) (solid_pic look size (solid_next x cmd))
solid_patches look size x cmd valid known small =
    painting_is_patch look size (solid_patch look size x cmd) (solid_pic look size x) (solid_pic look size (solid_next x cmd))
    (solid_painting look size (whole_of size) (solid_next x cmd))

pub solid_empty_patches : (look : Look) (size : Size) (x : Solid) (cmd : SolidCmd) → IsSolid x → IsSolidCmd cmd → IsWindowSize size →
    is_flat size ≡ true → solid_patch look size x cmd ≡ []
solid_empty_patches look size x cmd valid known small flat = ap (λ part. solid_paints part (solid_next x cmd)) (flat-whole size flat)

pub solid_keeping : (look : Look) (from to : Size) (x : Solid) → IsSolid x → IsWindowSize from → IsWindowSize to →
    Survives (solid_keeps x from to) from to (solid_pic look from x) (solid_pic look to x)
solid_keeping look from to x valid small small' = survives-meet from to (solid_pic look from x) (solid_pic look to x) (λ q h k. refl)

pub solid_kinds : (look : Look) (size : Size) (x : Solid) (p : Point) → IsSolid x → IsWindowSize size →
    IsPixel look.kind (solid_pic look size x p)
solid_kinds look size x p valid small = pixel-resolved look.kind x.tint valid.tint
