-- A Label obeys the laws of clients.
-- These proofs are in specs/ because an impl may cite nothing else of its crate. No contract cites them.
use Rattle.std.proofs.Common.{◌≡◌, ◌<◌, ◌&&◌, Bool, true, false, cond, [], ◌∷◌, ◌++◌, length, Some, None, refl, ap, ◌∙◌, arith}
use Rattle.std.specs.Prelude.{nat_lt, IfSome}
use Rattle.std.proofs.lemmas.List.{length-append}
use Rattle.std.proofs.lemmas.List.Elements.{All-push}
use Rattle.std.proofs.lemmas.Bool.{and_parts}
use borrow.Author.Tests.{ltb-true}
use Rattle.tr_base.specs.declared.Point.{Point}
use Rattle.tr_base.specs.declared.Size.{Size}
use Rattle.tr_base.specs.declared.Event.{Event}
use Rattle.tr_base.specs.declared.Event.TheVariants.{Key}
use Rattle.tr_base.specs.declared.Op.TheVariants.{Bg}
use Rattle.tr_base.specs.Ops.{IsPixel}
use Rattle.tr_base.specs.Rects.{Edges, has_point, whole_of, empty_rect, origin}
use Rattle.tr_base.specs.Lines.{is_printable}
use Rattle.tr_paint.specs.declared.Paint.TheVariants.{Tint, Text as Written}
use Rattle.tr_paint.specs.Paints.{cells_of, text_bit}
use Rattle.tr_paint.specs.Traces.{Look}
use Rattle.tr_paint.specs.Patches.{IsPatch}
use Rattle.tr_paint.specs.Paintings.{IsPainting}
use Rattle.tr_paint.proofs.PaintingLemmas.{painting_alone, painting_pushed, painting_is_patch}
use Rattle.tr_client.specs.Laws.{IsWindowSize, is_flat, IsEvent, Survives}
use Rattle.tr_client.specs.Plain.{plain}
use Rattle.tr_client.proofs.KeepingLemmas.{survives-meet}
use Rattle.tr_client.proofs.FlatLemmas.{flat-whole, meet-nothing}
use Rattle.tr_client.proofs.PlainLemmas.{text-makes, meet-inside, pixel-text}
use Rattle.w_plain.specs.declared.labels.Label.{Label}
use Rattle.w_plain.specs.declared.labels.LabelCmd.{LabelCmd}
use Rattle.w_plain.specs.declared.labels.LabelCmd.TheVariants.{Text}
use Rattle.w_plain.specs.Labels.{IsLabel, IsLabelCmd, label_pic, label_next, label_paints, label_patch, label_answer, label_keeps}

pub label_painting : (look : Look) (size : Size) (part : Edges) (x : Label) →
    IsPainting look part (label_paints part x) (label_pic look size x)
label_painting look size part x =
    painting_pushed look part (Tint part Bg ∷ []) (Written plain part origin x.text) (λ q. 0) (label_pic look size x)
    (painting_alone look part (Tint part Bg) (λ q. 0) (λ q here. rw here refl) (λ q h. h))
    (λ q here. text-makes look part origin x.text q 0 here)
    (meet-inside part (cells_of origin (length x.text)))

pub label_contents : (x : Label) (cmd : LabelCmd) → IsLabel x → IsLabelCmd cmd → IsLabel (label_next x cmd)
label_contents x (Text text) valid known = record { text = known }

pub label_answers : (x : Label) (event : Event) → IsLabel x → IsEvent event → IfSome (label_answer x event) (λ cmd. IsLabelCmd cmd)
label_answers x (Key time code) valid known = by_test (is_printable code && nat_lt (length x.text) 80) refl
  where
    by_test : (b : Bool) → (is_printable code && nat_lt (length x.text) 80) ≡ b →
        IfSome (cond b (Some (Text (x.text ++ code ∷ []))) None) (λ cmd. IsLabelCmd cmd)
    by_test true fits =
        let both = and_parts (is_printable code) (nat_lt (length x.text) 80) fits in
        let room : length x.text < 80 = ltb-true (length x.text) 80 both.1 in
        record {
          short = omega (arith, room, length-append x.text (code ∷ []));
          printable = All-push (λ c. is_printable c ≡ true) x.text code valid.text.printable both.0;
        }
    by_test false full = tt
label_answers x event valid known = tt

pub label_patches : (look : Look) (size : Size) (x : Label) (cmd : LabelCmd) → IsLabel x → IsLabelCmd cmd → IsWindowSize size →
    IsPatch look size (label_patch look size x cmd) (label_pic look size x) (label_pic look size (label_next x cmd))
label_patches look size x cmd valid known small =
    painting_is_patch look size (label_patch look size x cmd) (label_pic look size x) (label_pic look size (label_next x cmd))
    (label_painting look size (whole_of size) (label_next x cmd))

pub label_empty_patches : (look : Look) (size : Size) (x : Label) (cmd : LabelCmd) → IsLabel x → IsLabelCmd cmd → IsWindowSize size →
    is_flat size ≡ true → label_patch look size x cmd ≡ []
label_empty_patches look size x cmd valid known small flat =
    ap (λ part. label_paints part (label_next x cmd)) (flat-whole size flat) ∙ nothing (label_next x cmd)
  where
    nothing : (y : Label) → label_paints empty_rect y ≡ []
    nothing y = rw (meet-nothing (cells_of origin (length y.text))) refl

pub label_keeping : (look : Look) (from to : Size) (x : Label) → IsLabel x → IsWindowSize from → IsWindowSize to →
    Survives (label_keeps x from to) from to (label_pic look from x) (label_pic look to x)
label_keeping look from to x valid small small' = survives-meet from to (label_pic look from x) (label_pic look to x) (λ q h k. refl)

pub label_kinds : (look : Look) (size : Size) (x : Label) (p : Point) → IsLabel x → IsWindowSize size →
    IsPixel look.kind (label_pic look size x p)
label_kinds look size x p valid small =
    pixel-text look.kind (has_point (cells_of origin (length x.text)) p) (text_bit look.font origin x.text p)
