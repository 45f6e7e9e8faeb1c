-- How far a plan has come.
use Rattle.std.proofs.Common.{◌≡◌, ◌&&◌, true, false, List, [], ◌∷◌, ◌++◌, refl, sym, ap, ◌∙◌}
use Rattle.std.specs.List.{AllZip}
use Rattle.std.proofs.lemmas.Bool.{and_parts}
use Rattle.tr_base.specs.declared.Point.{Point}
use Rattle.tr_base.specs.Rects.{Edges, before_shift, has_point, shifted}
use Rattle.tr_base.proofs.BoolLemmas.{or_false}
use Rattle.tr_base.proofs.RectLemmas.{has_point-shifted}
use Rattle.tr_region.specs.Points.{holds, Includes}
use Rattle.tr_screen.specs.Pictures.{Picture}
use Rattle.tr_paint.specs.declared.Paint.{Paint}
use Rattle.tr_paint.specs.Paints.{area}
use Rattle.tr_paint.specs.Traces.{Look}
use Rattle.tr_exec.specs.Executions.{base_of}
use Rattle.tr_exec.specs.declared.effects.Effect.{Effect}
use Rattle.tr_exec.specs.declared.effects.Effect.TheVariants.{Tells, Loses, Keeps, Moves}
use Rattle.tr_exec.specs.Unknown.{effect_of, keeps_known, unknown_after, IsMovedBy, TellsUnknown, moved_by}
use Rattle.tr_exec.proofs.UnknownLemmas.{kept_within, none_within}
use Rattle.tr_exec.proofs.PlanLemmas.{tells_none, tells_more, moved-is, zip_push}

-- for the commands so far it is known what each moves, and which points are unknown after them
pub record IsPlanned (origin : Point) (visible bad : List Edges) (batch : List Paint) (moved : List (List Edges)) (lost : List Edges) : Type 0 where
  pub moves : AllZip (IsMovedBy origin visible) batch moved
  pub unknown : (look : Look) (screen : Picture) → TellsUnknown look (base_of origin visible bad screen) batch origin visible lost
  pub seen : Includes visible lost

module _ (origin : Point) (visible bad : List Edges) where
  -- at first the visible bad points are unknown
  pub planned_none : (moved : List (List Edges)) (lost : List Edges) → moved ≡ [] → ((p : Point) → holds lost p ≡ (holds visible p && holds bad p)) →
      IsPlanned origin visible bad [] moved lost
  planned_none moved lost none made = rw none (record {
    moves = tt;
    unknown = λ look screen. tells_none look origin visible bad screen lost made;
    seen = λ p held. (and_parts _ _ (sym (made p) ∙ held)).0;
  })

  -- one command more, whose area on the screen is rect
  pub planned_more : (batch : List Paint) (moved : List (List Edges)) (lost : List Edges) (c : Paint) (rect more next : List Edges) →
      IsPlanned origin visible bad batch moved lost →
      ((p : Point) → holds rect p ≡ has_point (area c) (before_shift p origin)) →
      ((p : Point) → holds more p ≡ moved_by (effect_of c) rect visible p) →
      ((p : Point) → holds next p ≡ unknown_after (effect_of c) rect visible lost p) →
      IsPlanned origin visible bad (batch ++ c ∷ []) (moved ++ more ∷ []) next
  planned_more batch moved lost c rect more next planned within moves made = record {
    moves = zip_push (IsMovedBy origin visible) batch moved c more planned.moves (moved-is c origin visible rect more within moves);
    unknown = λ look screen. tells_more look origin visible bad screen batch c rect lost next (planned.unknown look screen) within made;
    seen = λ p held. (and_parts _ _ (sym (made p) ∙ held)).0;
  }

  -- one command more that keeps what is known
  pub planned_kept : (batch : List Paint) (moved : List (List Edges)) (lost : List Edges) (c : Paint) (more : List Edges) →
      IsPlanned origin visible bad batch moved lost → keeps_known (effect_of c) lost ≡ true → more ≡ [] →
      IsPlanned origin visible bad (batch ++ c ∷ []) (moved ++ more ∷ []) lost
  planned_kept batch moved lost c more planned keeps none =
      planned_more batch moved lost c rect more lost planned within (λ p. ap (λ (rs : List Edges). holds rs p) none ∙ still (effect_of c) lost keeps p)
      (kept (effect_of c) lost planned.seen keeps)
    where
      rect : List Edges
      rect = shifted (area c) origin ∷ []

      within : (p : Point) → holds rect p ≡ has_point (area c) (before_shift p origin)
      within p = or_false (has_point (shifted (area c) origin) p) ∙ has_point-shifted (area c) origin p

      still : (effect : Effect) (unknown : List Edges) → keeps_known effect unknown ≡ true → (p : Point) → false ≡ moved_by effect rect visible p
      still Tells unknown h p = refl
      still Loses unknown h p = refl
      still Keeps unknown h p = refl
      still (Moves delta) unknown h p = absurd cc

      kept : (effect : Effect) (unknown : List Edges) → Includes visible unknown → keeps_known effect unknown ≡ true →
          (p : Point) → holds unknown p ≡ unknown_after effect rect visible unknown p
      kept Tells [] seen h p = none_within (holds visible p) (holds rect p)
      kept Tells (r ∷ rects) seen h p = absurd cc
      kept Loses unknown seen h p = absurd cc
      kept Keeps unknown seen h p = kept_within (holds visible p) (holds rect p) (holds unknown p) (seen p)
      kept (Moves delta) unknown seen h p = absurd cc
