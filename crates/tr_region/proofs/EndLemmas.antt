-- What is left of a list, behind a list that is made: its first band may continue the last one, and all others stay as they are.
use Rattle.std.proofs.Common.{◌≡◌, ◌≢◌, ℕ, ℤ, pos, ◌-ℤ◌, ◌≤ℤ◌, ◌<ℤ◌, Bool, true, false, ◌&&◌, ◌||◌, cond, List, [], ◌∷◌, ◌++◌, drop, length, refl, sym, ap, ◌∙◌, arith}
use Rattle.std.specs.List.{AllByRecursion}
use Rattle.std.proofs.lemmas.Int.{ints}
use Rattle.std.proofs.lemmas.List.Concat.{flat_map-append}
use Rattle.tr_base.specs.Rects.{Edges, InReach, AreInReach, between}
use Rattle.tr_base.proofs.RectFacts.{between-within}
use Rattle.tr_base.proofs.BoolLemmas.{or_false}
use Rattle.tr_region.specs.declared.operations.Operation.{Operation}
use Rattle.tr_region.specs.declared.operations.Operation.TheVariants.{Union, Meet, Minus}
use Rattle.tr_region.specs.declared.strips.Strip.{Strip}
use Rattle.tr_region.specs.Operations.{keeps}
use Rattle.tr_region.specs.Bands.{Span, Band, IsCanonical, IsBand, AreBands, bands_of, rects_of, rects_in, in_spans, spans_at}
use Rattle.tr_region.specs.Sweeps.{north_of, south_of, begun_at, first_count, IsInFirst, IsFirst, EndBy, count_before_last, Continues, IsMade, AddsRows}
use Rattle.tr_region.proofs.ListLemmas.{AllByRecursion-append, AllByRecursion-drop}
use Rattle.tr_region.proofs.BandLemmas.{FollowsFirst, AreBands-parts, rects_of-bands_of, bands_of-rects_of}
use Rattle.tr_region.proofs.SweepLemmas.{bands_of-drop_first, north_of-tail, spans_at-below}
use Rattle.tr_region.proofs.JoinLemmas.{spans_at-beyond}
use Rattle.tr_region.proofs.Unique.{same_spans, AreApart-spans_at}
use Rattle.tr_region.proofs.CutLemmas.{in_parts}

-- a list whose last row has these spans ends with them
ends_with : (bands : List Band) (y : ℤ) (spans : List Span) → AreBands bands → EndBy y bands → spans_at bands (y -ℤ pos 1) ≡ spans → spans ≢ [] →
    Continues bands y spans
ends_with [] y spans h ends is some = absurd (some (sym is))
ends_with (b ∷ []) y spans h ends is some = by_test (between b.north b.south (y -ℤ pos 1)) refl
  where
    by_test : (t : Bool) → between b.north b.south (y -ℤ pos 1) ≡ t → Continues (b ∷ []) y spans
    by_test true e =
        let south = ends.0 in
        let last : b.south ≡ y = grind (arith, ints) in
        (last, rw e at is)
    by_test false e = absurd (some (sym (rw e at is)))
ends_with (b ∷ c ∷ bands) y spans h ends is some =
    by_test (λ is. ends_with (c ∷ bands) y spans h.2 ends.1 is some) (between b.north b.south (y -ℤ pos 1)) refl
  where
    by_test : (spans_at (c ∷ bands) (y -ℤ pos 1) ≡ spans → Continues (c ∷ bands) y spans) → (t : Bool) →
        between b.north b.south (y -ℤ pos 1) ≡ t → Continues (c ∷ bands) y spans
    by_test recur true e =
        let low : (y -ℤ pos 1) <ℤ b.south = grind (arith, ints) in
        let follows = h.1.south in
        let rows = (AreBands-parts c bands h.2).0.rows in
        let south = ends.1.0 in
        absurd (omega (arith, ints))
    by_test recur false e = recur (rw e at is)

-- bands that end with a band's spans, where that ends, go on with what follows it
AreBands-continued : (bands : List Band) (b : Band) (more : List Band) →
    AreBands bands → Continues bands b.south b.spans → FollowsFirst b more → AreBands more →
    AreBands (bands ++ more)
AreBands-continued [] b more h last follows k = absurd last
AreBands-continued (c ∷ []) b [] h last follows k = h
AreBands-continued (c ∷ []) b (d ∷ more) h last follows k =
    let south = follows.south in
    (h, record { south = omega (arith, ints, last.0); differ = λ touch same. follows.differ (sym last.0 ∙ touch) (sym last.1 ∙ same) }, k)
AreBands-continued (c ∷ e ∷ bands) b more h last follows k = (h.0, h.1, AreBands-continued (e ∷ bands) b more h.2 last follows k)

-- a list with the first band of another behind it, and then the others
pub record IsEnded (made : List Edges) (rest : List Band) (all : List Edges) : Type 0 where
  pub canonical : IsCanonical all
  pub points : (y x : ℤ) → in_spans (spans_at (bands_of all) y) x ≡ in_spans (spans_at (bands_of made) y) x || in_spans (spans_at rest y) x

-- the spans of a band more, and those of bands that follow it
ended_by : (made all : List Edges) (b : Band) (bands : List Band) (top : ℤ) (spans : List Span) (rest : List Edges) → IsCanonical all →
    IsBand (record { north = top; south = b.south; spans = b.spans }) → FollowsFirst b bands → AreBands bands → InReach b.south → b.south ≤ℤ north_of bands →
    bands_of rest ≡ bands → AllByRecursion AreInReach rest → EndBy top (bands_of made) → EndBy b.south (bands_of all) →
    ((y : ℤ) → spans_at (bands_of all) y ≡ cond (between top b.south y) spans (spans_at (bands_of made) y)) →
    ((x : ℤ) → in_spans spans x ≡ in_spans b.spans x || false) →
    IsEnded made (record { north = top; south = b.south; spans = b.spans } ∷ bands) (all ++ rest)
ended_by made all b bands top spans rest h is follows are reach south tail within made_ends ends rows points =
    record {
      canonical = record {
        bands = rw whole both;
        reach = AllByRecursion-append AreInReach all rest h.reach within;
      };
      points = λ y x. rw (whole, in_parts (bands_of all) bands y x both, rows y) (by_test y x (between top b.south y) refl);
    }
  where
    plain : (x : ℤ) → in_spans spans x ≡ in_spans b.spans x
    plain x = points x ∙ or_false (in_spans b.spans x)

    last_row : spans_at (bands_of all) (b.south -ℤ pos 1) ≡ spans
    last_row =
        let down = is.rows in
        let inside : between top b.south (b.south -ℤ pos 1) ≡ true =
        between-within top b.south (b.south -ℤ pos 1) (omega (arith, ints)) (omega (arith, ints)) in
        rw inside at (rows (b.south -ℤ pos 1))

    same : spans ≡ b.spans
    same = same_spans spans b.spans (rw last_row at (AreApart-spans_at (bands_of all) (b.south -ℤ pos 1) h.bands)) is.apart plain

    last : Continues (bands_of all) b.south b.spans
    last = ends_with (bands_of all) b.south b.spans h.bands ends (last_row ∙ same) is.some

    both : AreBands (bands_of all ++ bands)
    both = AreBands-continued (bands_of all) b bands h.bands last follows are

    whole : bands_of (all ++ rest) ≡ bands_of all ++ bands
    whole =
        let rects : rects_of (bands_of all ++ bands) ≡ all ++ rest =
        rw (flat_map-append rects_in (bands_of all) bands, rects_of-bands_of all, ← tail, rects_of-bands_of rest) refl in
        ap bands_of (sym rects) ∙ bands_of-rects_of (bands_of all ++ bands) both

    by_test : (y x : ℤ) (t : Bool) → between top b.south y ≡ t →
        in_spans (cond t spans (spans_at (bands_of made) y)) x || in_spans (spans_at bands y) x
        ≡ in_spans (spans_at (bands_of made) y) x || in_spans (cond t b.spans (spans_at bands y)) x
    by_test y x true e =
        let low : top ≤ℤ y = grind (arith, ints) in
        let high : y <ℤ b.south = grind (arith, ints) in
        let none : spans_at (bands_of made) y ≡ [] = spans_at-beyond (bands_of made) top y made_ends low in
        let past : spans_at bands y ≡ [] = spans_at-below bands y are (omega (arith, ints)) in
        rw (none, past) (or_false (in_spans spans x) ∙ plain x)
    by_test y x false e = refl

-- what is left of a list, with its first band added and then the others
pub ended : (made all rects : List Edges) (count last : ℕ) (top bottom : ℤ) (rest : List Band) (strip : Strip) (first : List Span) →
    IsFirst rects count top bottom → begun_at top (bands_of rects) ≡ rest → rest ≢ [] → first ≡ spans_at rest top →
    strip.operation ≡ Union → strip.rows.north ≡ top → strip.rows.south ≡ bottom →
    EndBy top (bands_of made) → AddsRows strip first [] made all → IsMade strip.rows.south all last → IsEnded made rest (all ++ drop count rects)
ended made all rects count last top bottom rest strip first f seen some row union north south ends added made_all = by_bands (bands_of rects) refl
  where
    by_bands : (bands : List Band) → bands_of rects ≡ bands → IsEnded made rest (all ++ drop count rects)
    by_bands [] k = absurd (some (sym seen ∙ ap (begun_at top) k))
    by_bands (b ∷ bands) k =
        let begins : IsInFirst top (b ∷ bands) = rw k at f.begins in
        let are : AreBands (b ∷ bands) = rw k at f.canonical.bands in
        let parts = AreBands-parts b bands are in
        let width : count ≡ length b.spans = f.width ∙ ap first_count k in
        let bottom_is : bottom ≡ b.south = f.ends ∙ ap south_of k in
        let reach : InReach b.south = rw bottom_is at f.bottom_reach in
        let tail : bands_of (drop count rects) ≡ bands = rw width (bands_of-drop_first rects b bands k are) in
        let rest_is : record { north = top; south = b.south; spans = b.spans } ∷ bands ≡ rest = rw k at seen in
        let inside : between top b.south top ≡ true = between-within top b.south top (omega (arith, ints)) begins.1 in
        let first_is : first ≡ b.spans = rw (← rest_is, inside) at row in
        rw (← rest_is) (ended_by made all b bands top added.spans (drop count rects) made_all.canonical
        (record { rows = begins.1; some = parts.0.some; apart = parts.0.apart }) parts.1 parts.2 reach (north_of-tail b bands are reach)
        tail (AllByRecursion-drop AreInReach count rects f.canonical.reach) ends (rw (south, bottom_is) at made_all.ends)
        (λ y. rw (north, south, bottom_is) at (added.rows y)) (λ x. rw (union, first_is) at (added.points x)))

-- an operation keeps of one list alone what it keeps of its points, or nothing
pub second_left : (operation : Operation) (s : Bool) → keeps operation false true && s ≡ keeps operation false s
second_left Union s = refl
second_left Meet s = refl
second_left Minus s = refl

pub first_left : (operation : Operation) (f : Bool) → keeps operation true false && f ≡ keeps operation f false
first_left Union true = refl
first_left Union false = refl
first_left Meet true = refl
first_left Meet false = refl
first_left Minus true = refl
first_left Minus false = refl

-- where nothing is kept of a list, its last band isn't either
pub none_begun : (kept : Bool) (rects : List Edges) → kept ≡ false → 0 ≡ count_before_last (bands_of (cond kept rects []))
unfolding bands_of
none_begun true rects e = cc
none_begun false rects e = refl
