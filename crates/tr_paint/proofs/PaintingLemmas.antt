-- How paintings are shown to be right: command by command, and point by point, with no base in sight.
use Rattle.std.proofs.Common.{◌≡◌, ℕ, Bool, true, false, ◌||◌, cond, List, [], ◌∷◌, ◌++◌, Option, Some, refl, sym, ap, subst, ◌∙◌}
use Rattle.std.specs.Option.{option_map}
use Rattle.std.proofs.lemmas.List.{append-nil}
use Rattle.std.proofs.lemmas.Grind.{flat_map-append}
use Rattle.std.proofs.lemmas.List.Folds.{list_any-append}
use Rattle.tr_base.specs.declared.Point.{Point}
use Rattle.tr_base.specs.declared.Kind.{Kind}
use Rattle.tr_base.specs.Ops.{eff}
use Rattle.tr_base.specs.declared.Size.{Size}
use Rattle.tr_base.specs.Rects.{Edges, has_point, whole_of}
use Rattle.tr_base.proofs.RectLemmas.{between-empty}
use Rattle.tr_paint.specs.declared.paints.Paint.{Paint}
use Rattle.tr_paint.specs.Paints.{area, has_area}
use Rattle.tr_paint.specs.Traces.{Look, Deed, Keep, Lose, From, Value, Change, deed, deed_within, Base, after_deed, trace, after}
use Rattle.tr_paint.specs.Batches.{kept, batch_of, touches}
use Rattle.tr_paint.specs.Patches.{IsPatch}
use Rattle.tr_paint.specs.Paintings.{IsPainting}
use Rattle.tr_paint.proofs.TraceLemmas.{after-last}

-- a deed makes the second colour of the first; one that loses or moves colours makes none
abbrev pub Makes : Kind → Deed → ℕ → ℕ → Type 0
Makes kind Keep old new = old ≡ new
Makes kind Lose old new = ⊥
Makes kind (From r) old new = ⊥
Makes kind (Value x) old new = x ≡ new
Makes kind (Change op) old new = eff kind op old ≡ new

-- what is known after a deed that makes one colour of another
made : (kind : Kind) (d : Deed) (before : Point → Option ℕ) (q : Point) (old new : ℕ) → before q ≡ Some old → Makes kind d old new →
    after_deed kind d before q ≡ Some new
made kind Keep before q old new known makes = known ∙ ap (λ n. Some n) makes
made kind Lose before q old new known makes = absurd makes
made kind (From r) before q old new known makes = absurd makes
made kind (Value x) before q old new known makes = ap (λ n. Some n) makes
made kind (Change op) before q old new known makes = ap (λ o. option_map (eff kind op) o) known ∙ ap (λ n. Some n) makes

-- a command whose area is empty has no point there, and so leaves each point
pub flat-nowhere : (c : Paint) (q : Point) → has_area c ≡ false → has_point (area c) q ≡ false
flat-nowhere c q flat = rw (between-empty (area c).west (area c).east q.h flat) refl

pub flat-keeps : (look : Look) (c : Paint) (q : Point) → has_area c ≡ false → deed look c q ≡ Keep
flat-keeps look c q flat = ap (λ b. cond b (deed_within look c q) Keep) (flat-nowhere c q flat)

-- a command that is kept touches the points of its area
touches-kept : (c : Paint) (q : Point) → touches (kept c) q ≡ true → has_point (area c) q ≡ true
touches-kept c q = by_test (has_area c)
  where
    or_none : (b : Bool) → b || false ≡ true → b ≡ true
    or_none true h = refl
    or_none false h = h

    by_test : (b : Bool) → touches (cond b (c ∷ []) []) q ≡ true → has_point (area c) q ≡ true
    by_test true h = or_none (has_point (area c) q) h
    by_test false h = cc

-- one command paints a part where it lies in the part and gives each of its points the picture's colour, whatever was there
pub painting_first : (look : Look) (part : Edges) (c : Paint) (picture : Point → ℕ) →
    ((q : Point) → has_point part q ≡ true → deed look c q ≡ Value (picture q)) →
    ((q : Point) → has_point (area c) q ≡ true → has_point part q ≡ true) → IsPainting look part (kept c) picture
painting_first look part c picture gives inside = record {
  shows = λ base q seen here. shown base q seen here (has_area c) refl;
  within = λ q h. inside q (touches-kept c q h);
}
  where
    shown : (base : Base) (q : Point) → base.visible q ≡ true → has_point part q ≡ true → (b : Bool) → has_area c ≡ b →
        after look base (cond b (c ∷ []) []) q ≡ Some (picture q)
    shown base q seen here true some = rw seen (ap (λ d. after_deed look.kind d (λ r. trace look base [] r) q) (gives q here))
    shown base q seen here false flat =
        let left : Value (picture q) ≡ Keep = sym (gives q here) ∙ flat-keeps look c q flat in cc

-- one more command paints the new picture where it makes each point's colour of the one in the old picture
pub painting_more : (look : Look) (part : Edges) (batch : List Paint) (c : Paint) (old new : Point → ℕ) → IsPainting look part batch old →
    ((q : Point) → has_point part q ≡ true → Makes look.kind (deed look c q) (old q) (new q)) →
    ((q : Point) → has_point (area c) q ≡ true → has_point part q ≡ true) → IsPainting look part (batch ++ kept c) new
painting_more look part batch c old new painted makes inside = record {
  shows = λ base q seen here. shown base q seen here (has_area c) refl;
  within = λ q h. by_test (touches batch q) q refl (sym (list_any-append (λ d. has_point (area d) q) batch (kept c)) ∙ h);
}
  where
    shown : (base : Base) (q : Point) → base.visible q ≡ true → has_point part q ≡ true → (b : Bool) → has_area c ≡ b →
        after look base (batch ++ cond b (c ∷ []) []) q ≡ Some (new q)
    shown base q seen here true some =
        after-last look base batch c q
        ∙ rw seen (made look.kind (deed look c q) (λ r. after look base batch r) q (old q) (new q) (painted.shows base q seen here) (makes q here))
    shown base q seen here false flat =
        let P : Deed → Type 0 = λ d. Makes look.kind d (old q) (new q) in
        let same : old q ≡ new q = subst P (flat-keeps look c q flat) (makes q here) in
        ap (λ (cs : List Paint). after look base cs q) (append-nil batch) ∙ painted.shows base q seen here ∙ ap (λ n. Some n) same

    by_test : (b : Bool) (q : Point) → touches batch q ≡ b → b || touches (kept c) q ≡ true → has_point part q ≡ true
    by_test true q is h = painted.within q is
    by_test false q is h = inside q (touches-kept c q h)

-- a painting of one picture is one of another that is the same in the part
pub painting_along : (look : Look) (part : Edges) (batch : List Paint) (old new : Point → ℕ) →
    ((q : Point) → has_point part q ≡ true → old q ≡ new q) → IsPainting look part batch old → IsPainting look part batch new
painting_along look part batch old new same painted = record {
  shows = λ base q seen here. painted.shows base q seen here ∙ ap (λ n. Some n) (same q here);
  within = painted.within;
}

-- what paints a whole window, whatever was there, is a patch from any picture
pub painting_is_patch : (look : Look) (size : Size) (batch : List Paint) (old new : Point → ℕ) →
    IsPainting look (whole_of size) batch new → IsPatch look size batch old new
painting_is_patch look size batch old new painted base within shows q seen = rw (painted.shows base q seen (within q seen)) refl

-- the same for a batch by its list: of one command
pub painting_alone : (look : Look) (part : Edges) (c : Paint) (picture : Point → ℕ) →
    ((q : Point) → has_point part q ≡ true → deed look c q ≡ Value (picture q)) →
    ((q : Point) → has_point (area c) q ≡ true → has_point part q ≡ true) → IsPainting look part (batch_of (c ∷ [])) picture
painting_alone look part c picture gives inside =
    let P : List Paint → Type 0 = λ cs. IsPainting look part cs picture in
    subst P (sym (append-nil (kept c))) (painting_first look part c picture gives inside)

-- and of one command more
pub painting_pushed : (look : Look) (part : Edges) (cs : List Paint) (c : Paint) (old new : Point → ℕ) → IsPainting look part (batch_of cs) old →
    ((q : Point) → has_point part q ≡ true → Makes look.kind (deed look c q) (old q) (new q)) →
    ((q : Point) → has_point (area c) q ≡ true → has_point part q ≡ true) → IsPainting look part (batch_of (cs ++ c ∷ [])) new
painting_pushed look part cs c old new painted makes inside =
    let P : List Paint → Type 0 = λ ds. IsPainting look part ds new in
    let pushed : batch_of (cs ++ c ∷ []) ≡ batch_of cs ++ kept c = flat_map-append kept cs (c ∷ []) ∙ ap (λ ds. batch_of cs ++ ds) (append-nil (kept c)) in
    subst P (sym pushed) (painting_more look part (batch_of cs) c old new painted makes inside)
