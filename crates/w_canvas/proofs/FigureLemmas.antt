-- Lists of figures.
use Rattle.std.proofs.Common.{◌≡◌, ℕ, ◌+◌, ◌<◌, List, [], ◌∷◌, ◌++◌, length, map, take, get_or, sym, ap, ◌∙◌}
use Rattle.std.proofs.lemmas.List.{append-nil, append_assoc, map-append, get_or_default}
use Rattle.std.proofs.lemmas.Grind.{flat_map-append}
use Rattle.tr_base.specs.Rects.{Edges, empty_rect, meet_of}
use Rattle.tr_base.specs.declared.Op.{Op}
use Rattle.tr_base.specs.declared.Op.TheVariants.{Bg}
use Rattle.tr_paint.specs.declared.Paint.{Paint}
use Rattle.tr_paint.specs.declared.Paint.TheVariants.{Tint}
use Rattle.tr_paint.specs.Batches.{kept, batch_of}
use Rattle.w_canvas.specs.declared.canvases.Figure.{Figure}
use Rattle.w_canvas.specs.Canvases.{figure_paint, canvas_paints}

-- one figure more is painted
pub paints-more : (part : Edges) (figures : List Figure) (f : Figure) →
    canvas_paints part (figures ++ f ∷ []) ≡ canvas_paints part figures ++ kept (figure_paint part f)
paints-more part figures f =
    ap (λ (cs : List Paint). kept (Tint part Bg) ++ cs)
    (ap batch_of (map-append (figure_paint part) figures (f ∷ []))
    ∙ flat_map-append kept (map (figure_paint part) figures) (figure_paint part f ∷ [])
    ∙ ap (λ (cs : List Paint). batch_of (map (figure_paint part) figures) ++ cs) (append-nil (kept (figure_paint part f))))
    ∙ sym (append_assoc (kept (Tint part Bg)) (batch_of (map (figure_paint part) figures)) (kept (figure_paint part f)))

-- without figures the background alone is painted
pub paints-none : (part : Edges) → kept (Tint part Bg) ≡ canvas_paints part []
paints-none part = sym (append-nil (kept (Tint part Bg)))

-- a rectangle without points paints nothing
none_kept : (clip : Edges) (op : Op) → clip ≡ empty_rect → kept (Tint clip op) ≡ []
none_kept clip op none = ap (λ (e : Edges). kept (Tint e op)) none

-- one more figure is painted behind what was there
pub pushed_more : (part clip : Edges) (figures : List Figure) (i : ℕ) (f : Figure) (old before now : List Paint) →
    take (i + 1) figures ≡ take i figures ++ f ∷ [] → clip ≡ meet_of part f.area → before ≡ old ++ canvas_paints part (take i figures) →
    now ≡ before ++ kept (Tint clip f.op) → now ≡ old ++ canvas_paints part (take (i + 1) figures)
pushed_more part clip figures i f old before now more is so_far new =
    new ∙ ap (λ (e : Edges). before ++ kept (Tint e f.op)) is ∙ ap (λ (cs : List Paint). cs ++ kept (figure_paint part f)) so_far
    ∙ append_assoc old (canvas_paints part (take i figures)) (kept (figure_paint part f))
    ∙ ap (λ (cs : List Paint). old ++ cs) (sym (paints-more part (take i figures) f) ∙ ap (canvas_paints part) (sym more))

-- a figure outside of the part isn't painted
pub skipped_more : (part clip : Edges) (figures : List Figure) (i : ℕ) (f : Figure) (old now : List Paint) →
    take (i + 1) figures ≡ take i figures ++ f ∷ [] → clip ≡ meet_of part f.area → clip ≡ empty_rect → now ≡ old ++ canvas_paints part (take i figures) →
    now ≡ old ++ canvas_paints part (take (i + 1) figures)
skipped_more part clip figures i f old now more is none so_far =
    pushed_more part clip figures i f old now now more is so_far (sym (ap (λ (cs : List Paint). now ++ cs) (none_kept clip f.op none) ∙ append-nil now))

-- lists that differ at a place are not the same
pub lists-differ : {X : Type 0} (xs ys : List X) (i : ℕ) (x y : X) → i < length xs → x ≡ get_or xs i x → y ≡ get_or ys i y → (x ≡ y → ⊥) → xs ≡ ys → ⊥
lists-differ xs ys i x y within is-x is-y apart same =
    apart (is-x ∙ get_or_default xs i x y within ∙ ap (λ l. get_or l i y) same ∙ sym is-y)
