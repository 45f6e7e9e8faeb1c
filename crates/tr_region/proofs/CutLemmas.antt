-- A list of bands in two parts: those that end at a row or north of it, and the others.
use Rattle.std.proofs.Common.{◌≡◌, ℕ, zero, suc, ◌+◌, ◌-◌, ◌≤◌, ◌<◌, ℤ, pos, ◌≤ℤ◌, ◌<ℤ◌, Bool, true, false, ◌&&◌, ◌||◌, cond, ◌⊎◌, inl, inr, List, [], ◌∷◌, ◌++◌, length, take, drop, get_or, refl, sym, ap, subst, ◌∙◌, arith}
use Rattle.std.specs.Prelude.{int_lt, int_le}
use Rattle.std.specs.Int.{int_min}
use Rattle.std.specs.List.{AllWithin}
use Rattle.std.specs.List.Sorted.{IsPartitionPoint}
use Rattle.std.proofs.lemmas.Bool.{false≢true, cases_lt}
use Rattle.std.proofs.lemmas.Int.{ints, clamps, by_lt_z}
use Rattle.std.proofs.lemmas.List.{length-append, get_or-map, get_or_append_left, get_or-append_right}
use Rattle.std.proofs.Math.Seq.{take-append-add, drop-append-add}
use Rattle.tr_base.specs.Rects.{Edges, AreInReach, between, empty_rect}
use Rattle.tr_base.proofs.BoolLemmas.{and_false}
use Rattle.tr_region.specs.declared.operations.Operation.{Operation}
use Rattle.tr_region.specs.declared.operations.Operation.TheVariants.{Union, Meet, Minus}
use Rattle.tr_region.specs.Operations.{keeps}
use Rattle.tr_region.specs.Bands.{Span, Band, IsCanonical, IsBand, AreBands, bands_of, rects_of, rects_in, rect_in, in_spans, spans_at}
use Rattle.tr_region.specs.Sweeps.{north_of, EndBy, count_before_last, IsCut, IsMade}
use Rattle.tr_region.proofs.ListLemmas.{AllByRecursion-drop, AllByRecursion-take}
use Rattle.tr_region.proofs.BandLemmas.{AreBands-parts, BeginsFrom, BeginsFrom-after, spans_at-north, rects_of-bands_of, bands_of-rects_of}
use Rattle.tr_region.proofs.SweepLemmas.{length-rects_in, some_length, no_rects, spans_at-below, north_of-bands_of}
use Rattle.tr_region.proofs.JoinLemmas.{rects_in-south, spans_at-beyond}
use Rattle.tr_region.proofs.StripLemmas.{IsSwept}

-- ---- two parts of bands

pub AreBands-front : (bands more : List Band) → AreBands (bands ++ more) → AreBands bands
AreBands-front [] more h = tt
AreBands-front (b ∷ []) more h = (AreBands-parts b more h).0
AreBands-front (b ∷ c ∷ bands) more h = (h.0, h.1, AreBands-front (c ∷ bands) more h.2)

pub AreBands-back : (bands more : List Band) → AreBands (bands ++ more) → AreBands more
AreBands-back [] more h = h
AreBands-back (b ∷ bands) more h = AreBands-back bands more (AreBands-parts b (bands ++ more) h).2

-- the bands of the front end where those of the back begin, or north of that
pub ends_before : (bands more : List Band) (y : ℤ) → AreBands (bands ++ more) → EndBy y bands → y ≤ℤ pos 1048576 →
    EndBy (int_min (north_of more) y) bands
ends_before [] more y h e top = tt
ends_before (b ∷ []) [] y h e top = let south = e.0 in (omega (arith, ints, clamps), tt)
ends_before (b ∷ []) (c ∷ more) y h e top =
    let south = e.0 in
    let follows = h.1.south in
    (omega (arith, ints, clamps), tt)
ends_before (b ∷ c ∷ bands) more y h e top =
    let later = ends_before (c ∷ bands) more y h.2 e.1 top in
    let south = later.0 in
    let follows = h.1.south in
    let rows = (AreBands-parts c (bands ++ more) h.2).0.rows in
    (omega (arith, ints, clamps), later)

-- a row of both parts is a row of one of them
pub in_parts : (bands more : List Band) (y x : ℤ) → AreBands (bands ++ more) →
    in_spans (spans_at (bands ++ more) y) x ≡ in_spans (spans_at bands y) x || in_spans (spans_at more y) x
in_parts [] more y x h = refl
in_parts (b ∷ bands) more y x h = by_test (in_parts bands more y x (AreBands-parts b (bands ++ more) h).2) (between b.north b.south y) refl
  where
    parts : IsBand b × BeginsFrom b.south (bands ++ more) × AreBands (bands ++ more)
    parts = let p = AreBands-parts b (bands ++ more) h in (p.0, BeginsFrom-after b (bands ++ more) p.1, p.2)

    or_nothing : (a c d : Bool) → c || d ≡ false → a ≡ a || d
    or_nothing true c d e = refl
    or_nothing false true d e = absurd (false≢true (sym e))
    or_nothing false false d e = sym e

    by_test : in_spans (spans_at (bands ++ more) y) x ≡ in_spans (spans_at bands y) x || in_spans (spans_at more y) x →
        (t : Bool) → between b.north b.south y ≡ t →
        in_spans (cond t b.spans (spans_at (bands ++ more) y)) x ≡ in_spans (cond t b.spans (spans_at bands y)) x || in_spans (spans_at more y) x
    by_test tail true e =
        let south : y <ℤ b.south = grind (arith, ints) in
        let later : in_spans (spans_at (bands ++ more) y) x ≡ false =
        ap (λ (ss : List Span). in_spans ss x) (spans_at-north (bands ++ more) y b.south parts.2 parts.1 south) in
        or_nothing (in_spans b.spans x) (in_spans (spans_at bands y) x) (in_spans (spans_at more y) x) (sym tail ∙ later)
    by_test tail false e = tail

-- ---- how many rectangles the front has

-- the rectangles of a band and then those of others, one by one
length-first : (b : Band) (bands : List Band) → length (rects_in b ++ rects_of bands) ≡ length b.spans + length (rects_of bands)
length-first b bands = length-append (rects_in b) (rects_of bands) ∙ ap (λ k. k + length (rects_of bands)) (length-rects_in b)

at_first : (b : Band) (bands : List Band) (k : ℕ) (d : Edges) → k < length b.spans → get_or (rects_in b ++ rects_of bands) k d ≡ get_or (rects_in b) k d
at_first b bands k d lt = get_or_append_left (rects_in b) (rects_of bands) d k (omega (arith, length-rects_in b))

at_later : (b : Band) (bands : List Band) (k : ℕ) (d : Edges) →
    get_or (rects_in b ++ rects_of bands) (length b.spans + k) d ≡ get_or (rects_of bands) k d
at_later b bands k d =
    let over : length b.spans + k - length b.spans ≡ k = omega arith in
    get_or-append_right (rects_in b) (rects_of bands) (length b.spans) (length b.spans + k) d (length-rects_in b) (omega arith)
    ∙ ap (λ i. get_or (rects_of bands) i d) over

-- the rectangles of a list, of which so many end at a row or north of it
record IsFront (bands : List Band) (y : ℤ) (n : ℕ) : Type 0 where
  front : List Band
  back : List Band
  whole : bands ≡ front ++ back
  ends : EndBy y front
  first : take n (rects_of bands) ≡ rects_of front
  rest : drop n (rects_of bands) ≡ rects_of back

front_of : (bands : List Band) (y : ℤ) (n : ℕ) → AreBands bands → n ≤ length (rects_of bands) →
    AllWithin (λ (r : Edges). r.south ≤ℤ y) (rects_of bands) 0 n →
    AllWithin (λ (r : Edges). y <ℤ r.south) (rects_of bands) n (length (rects_of bands)) → IsFront bands y n
front_of [] y zero h fits low high = record { front = []; back = []; whole = refl; ends = tt; first = refl; rest = refl }
front_of [] y (suc n) h fits low high = absurd (omega arith)
front_of (b ∷ bands) y n h fits low high =
    by_order (λ m e low high. front_of bands y m (AreBands-parts b bands h).2 e low high) (cases_lt n (length b.spans))
  where
    parts : IsBand b × AreBands bands
    parts = let p = AreBands-parts b bands h in (p.0, p.2)

    south_at : (k : ℕ) → k < length b.spans → (get_or (rects_in b ++ rects_of bands) k empty_rect).south ≡ b.south
    south_at k lt = ap (λ (e : Edges). e.south) (at_first b bands k empty_rect lt) ∙ rects_in-south b k empty_rect lt

    -- it is in the back with all that follow it
    stays : n < length b.spans → (m : ℕ) → n ≡ m → IsFront (b ∷ bands) y n
    stays lt zero e = rw e (record { front = []; back = b ∷ bands; whole = refl; ends = tt; first = refl; rest = refl })
    stays lt (suc m) e =
        let up = high n empty_rect (omega arith) (omega (arith, length-first b bands)) in
        let down = low zero empty_rect (omega arith) (omega arith) in
        let one = south_at n lt in
        let two = south_at zero (omega arith) in
        absurd (omega (arith, ints))

    Tail : Type 0
    Tail = (m : ℕ) → m ≤ length (rects_of bands) → AllWithin (λ (r : Edges). r.south ≤ℤ y) (rects_of bands) 0 m →
        AllWithin (λ (r : Edges). y <ℤ r.south) (rects_of bands) m (length (rects_of bands)) → IsFront bands y m

    goes : Tail → length b.spans ≤ n → (m : ℕ) → n ≡ length b.spans + m → IsFront (b ∷ bands) y n
    goes recur le m e =
        let tail = recur m (omega (arith, length-first b bands))
        (λ k d lo hi. rw (at_later b bands k d) at (low (length b.spans + k) d (omega arith) (omega arith)))
        (λ k d lo hi. rw (at_later b bands k d) at (high (length b.spans + k) d (omega arith) (omega (arith, length-first b bands)))) in
        let down = low zero empty_rect (omega arith) (omega (arith, some_length b.spans parts.0.some)) in
        let south = south_at zero (some_length b.spans parts.0.some) in
        rw (e, ← length-rects_in b)
        (record {
          front = b ∷ tail.front;
          back = tail.back;
          whole = ap (λ (bs : List Band). b ∷ bs) tail.whole;
          ends = (omega (arith, ints), tail.ends);
          first = take-append-add (rects_in b) (rects_of bands) m ∙ ap (λ (es : List Edges). rects_in b ++ es) tail.first;
          rest = drop-append-add (rects_in b) (rects_of bands) m ∙ tail.rest;
        })

    by_order : Tail → (n < length b.spans) ⊎ (length b.spans ≤ n) → IsFront (b ∷ bands) y n
    by_order recur (inl lt) = stays lt n refl
    by_order recur (inr le) = goes recur le (n - length b.spans) (omega arith)

-- where a search by the south edge parts a list, it is cut between two bands
pub cut_at : (rects : List Edges) (y : ℤ) (n : ℕ) → IsCanonical rects → n ≤ length rects →
    IsPartitionPoint (λ (r : Edges). int_le r.south y ≡ true) (λ (r : Edges). int_le r.south y ≡ false) rects n → IsCut y rects n
cut_at rects y n h fits parted =
    let list : rects_of (bands_of rects) ≡ rects = rects_of-bands_of rects in
    let f = front_of (bands_of rects) y n h.bands (rw list fits)
    (rw list (λ k d lo hi. let t = parted.0 k d lo hi in grind (arith, ints)))
    (rw list (λ k d lo hi. let t = parted.1 k d lo hi in grind (arith, ints))) in
    let both : AreBands (f.front ++ f.back) = rw f.whole at h.bands in
    let front : bands_of (take n rects) ≡ f.front = ap bands_of (rw list at f.first) ∙ bands_of-rects_of f.front (AreBands-front f.front f.back both) in
    let back : bands_of (drop n rects) ≡ f.back = ap bands_of (rw list at f.rest) ∙ bands_of-rects_of f.back (AreBands-back f.front f.back both) in
    record { fits = fits; bands = f.whole ∙ sym (rw (front, back) refl); before = rw front f.ends }

-- a list may be cut before all its bands
pub cut_none : (rects : List Edges) (y : ℤ) → IsCut y rects 0
unfolding bands_of
cut_none rects y = record { fits = omega arith; bands = refl; before = tt }

pub cut_front : (rects : List Edges) (y : ℤ) (n : ℕ) → IsCanonical rects → IsCut y rects n → IsCanonical (take n rects)
cut_front rects y n h cut = record {
  bands = AreBands-front (bands_of (take n rects)) (bands_of (drop n rects)) (rw cut.bands at h.bands);
  reach = AllByRecursion-take AreInReach n rects h.reach;
}

pub cut_back : (rects : List Edges) (y : ℤ) (n : ℕ) → IsCanonical rects → IsCut y rects n → IsCanonical (drop n rects)
cut_back rects y n h cut = record {
  bands = AreBands-back (bands_of (take n rects)) (bands_of (drop n rects)) (rw cut.bands at h.bands);
  reach = AllByRecursion-drop AreInReach n rects h.reach;
}

-- ---- where the last band begins

-- the last band begins at this row
abbrev LastBegins : ℤ → List Band → Type 0
LastBegins z [] = ⊥
LastBegins z (b ∷ []) = b.north ≡ z
LastBegins z (b ∷ c ∷ bands) = LastBegins z (c ∷ bands)

begins_before : (b c : Band) (bands : List Band) (z : ℤ) → AreBands (b ∷ c ∷ bands) → LastBegins z (c ∷ bands) → b.north <ℤ z
begins_before b c [] z h last =
    let rows = h.0.rows in
    let follows = h.1.south in
    omega (arith, ints, last)
begins_before b c (d ∷ bands) z h last =
    let later = begins_before c d bands z h.2 last in
    let rows = h.0.rows in
    let follows = h.1.south in
    omega (arith, ints)

north_in : (b : Band) (k : ℕ) (d : Edges) → k < length b.spans → (get_or (rects_in b) k d).north ≡ b.north
north_in b k d h = ap (λ (e : Edges). e.north) (get_or-map (rect_in b) b.spans k (record { west = pos 0; east = pos 0 }) d h)

some_rects : (b : Band) (bands : List Band) → AreBands (b ∷ bands) → 0 < length (rects_of (b ∷ bands))
some_rects b bands h =
    let some = some_length b.spans (AreBands-parts b bands h).0.some in
    omega (arith, length-first b bands)

-- it begins where its last rectangle does
last_of_rects : (b : Band) (bands : List Band) (d : Edges) (k : ℕ) → AreBands (b ∷ bands) → k + 1 ≡ length (rects_of (b ∷ bands)) →
    LastBegins (get_or (rects_of (b ∷ bands)) k d).north (b ∷ bands)
last_of_rects b [] d k h e =
    let lt : k < length b.spans = omega (arith, length-first b []) in
    sym (ap (λ (r : Edges). r.north) (at_first b [] k d lt) ∙ north_in b k d lt)
last_of_rects b (c ∷ bands) d k h e =
    let some = some_rects c bands h.2 in
    let long = length-first b (c ∷ bands) in
    let at : k ≡ length b.spans + (k - length b.spans) = omega arith in
    let same : get_or (rects_of (b ∷ c ∷ bands)) k d ≡ get_or (rects_of (c ∷ bands)) (k - length b.spans) d =
    ap (λ i. get_or (rects_of (b ∷ c ∷ bands)) i d) at ∙ at_later b (c ∷ bands) (k - length b.spans) d in
    subst (λ (r : Edges). LastBegins r.north (c ∷ bands)) (sym same) (last_of_rects c bands d (k - length b.spans) h.2 (omega arith))

-- so many rectangles begin before its row
last_found : (bands : List Band) (z : ℤ) (n : ℕ) → AreBands bands → LastBegins z bands → n ≤ length (rects_of bands) →
    AllWithin (λ (r : Edges). r.north <ℤ z) (rects_of bands) 0 n →
    AllWithin (λ (r : Edges). z ≤ℤ r.north) (rects_of bands) n (length (rects_of bands)) → n ≡ count_before_last bands
last_found [] z n h last fits low high = absurd last
last_found (b ∷ []) z zero h last fits low high = refl
last_found (b ∷ []) z (suc n) h last fits low high =
    let some = some_length b.spans h.some in
    let down = low zero empty_rect (omega arith) (omega arith) in
    let north = ap (λ (r : Edges). r.north) (at_first b [] zero empty_rect some) ∙ north_in b zero empty_rect some in
    absurd (omega (arith, ints, last))
last_found (b ∷ c ∷ bands) z n h last fits low high =
    by_order (λ m fits low high. last_found (c ∷ bands) z m h.2 last fits low high) (cases_lt n (length b.spans))
  where
    long : length (rects_of (b ∷ c ∷ bands)) ≡ length b.spans + length (rects_of (c ∷ bands))
    long = length-first b (c ∷ bands)

    Tail : Type 0
    Tail = (m : ℕ) → m ≤ length (rects_of (c ∷ bands)) → AllWithin (λ (r : Edges). r.north <ℤ z) (rects_of (c ∷ bands)) 0 m →
        AllWithin (λ (r : Edges). z ≤ℤ r.north) (rects_of (c ∷ bands)) m (length (rects_of (c ∷ bands))) → m ≡ count_before_last (c ∷ bands)

    by_order : Tail → (n < length b.spans) ⊎ (length b.spans ≤ n) → n ≡ length b.spans + count_before_last (c ∷ bands)
    by_order recur (inl lt) =
        let up = high n empty_rect (omega arith) (omega (arith, long)) in
        let north = ap (λ (r : Edges). r.north) (at_first b (c ∷ bands) n empty_rect lt) ∙ north_in b n empty_rect lt in
        let before = begins_before b c bands z h last in
        absurd (omega (arith, ints))
    by_order recur (inr le) =
        let at : n ≡ length b.spans + (n - length b.spans) = omega arith in
        let m = n - length b.spans in
        let tail = recur m (omega (arith, long))
        (λ k d lo hi. rw (at_later b (c ∷ bands) k d) at (low (length b.spans + k) d (omega arith) (omega arith)))
        (λ k d lo hi. rw (at_later b (c ∷ bands) k d) at (high (length b.spans + k) d (omega arith) (omega (arith, long)))) in
        omega arith

pub last_none : (rects : List Edges) → length rects ≡ 0 → 0 ≡ count_before_last (bands_of rects)
unfolding bands_of
last_none [] e = refl
last_none (r ∷ rects) e = absurd (omega arith)

-- where a search by the north edge of the last rectangle parts a list, its last band begins
pub last_at : (rects : List Edges) (r : Edges) (z : ℤ) (n : ℕ) → IsCanonical rects → 0 < length rects → r ≡ get_or rects (length rects - 1) r → z ≡ r.north →
    n ≤ length rects → IsPartitionPoint (λ (e : Edges). int_lt e.north z ≡ true) (λ (e : Edges). int_lt e.north z ≡ false) rects n →
    n ≡ count_before_last (bands_of rects)
last_at rects r z n h some is e fits parted = by_bands (bands_of rects) refl
  where
    by_bands : (bands : List Band) → bands_of rects ≡ bands → n ≡ count_before_last bands
    by_bands [] k = let none = ap length (no_rects rects k) in absurd (omega arith)
    by_bands (b ∷ bands) k =
        let list : rects_of (b ∷ bands) ≡ rects = sym (ap rects_of k) ∙ rects_of-bands_of rects in
        let are : AreBands (b ∷ bands) = rw k at h.bands in
        let last : LastBegins (get_or rects (length rects - 1) r).north (b ∷ bands) =
        subst (λ (es : List Edges). LastBegins (get_or es (length rects - 1) r).north (b ∷ bands)) list
        (last_of_rects b bands r (length rects - 1) are (omega (arith, ap length list))) in
        let begins : LastBegins z (b ∷ bands) = subst (λ n. LastBegins n (b ∷ bands)) (sym (e ∙ ap (λ (x : Edges). x.north) is)) last in
        last_found (b ∷ bands) z n are begins (omega (arith, ap length list))
        (rw list (λ i d lo hi. let t = parted.0 i d lo hi in grind (arith, ints)))
        (rw list (λ i d lo hi. let t = parted.1 i d lo hi in grind (arith, ints)))

-- ---- a sweep behind the front of a list

first_kept : (operation : Operation) (a b s : Bool) → a && s ≡ false →
    cond (keeps operation true false) a false || keeps operation b s ≡ keeps operation (a || b) s
first_kept Union true b s e = refl
first_kept Union false b s e = refl
first_kept Meet true b s e = rw e (and_false b)
first_kept Meet false b s e = refl
first_kept Minus true b s e = rw e refl
first_kept Minus false b s e = refl

second_kept : (operation : Operation) (f a b : Bool) → f && a ≡ false →
    cond (keeps operation false true) a false || keeps operation f b ≡ keeps operation f (a || b)
second_kept Union true true b e = refl
second_kept Union true false b e = refl
second_kept Union false a b e = refl
second_kept Meet true a b e = rw e refl
second_kept Meet false a b e = refl
second_kept Minus true a b e = rw e refl
second_kept Minus false a b e = refl

in_kept : (kept : Bool) (rects : List Edges) (y x : ℤ) →
    in_spans (spans_at (bands_of (cond kept rects [])) y) x ≡ cond kept (in_spans (spans_at (bands_of rects) y) x) false
unfolding bands_of
in_kept true rects y x = refl
in_kept false rects y x = refl

-- what ends before a list begins has no row of it
apart : (front bands : List Band) (y x : ℤ) → AreBands bands → EndBy (north_of bands) front →
    in_spans (spans_at front y) x && in_spans (spans_at bands y) x ≡ false
apart front bands y x h ends = by_lt_z y (north_of bands) above below
  where
    above : y <ℤ north_of bands → in_spans (spans_at front y) x && in_spans (spans_at bands y) x ≡ false
    above lt = rw (spans_at-below bands y h lt) (and_false (in_spans (spans_at front y) x))

    below : north_of bands ≤ℤ y → in_spans (spans_at front y) x && in_spans (spans_at bands y) x ≡ false
    below le = rw (spans_at-beyond front (north_of bands) y ends le) refl

and_swap : (a b : Bool) → a && b ≡ b && a
and_swap true true = refl
and_swap true false = refl
and_swap false true = refl
and_swap false false = refl

-- a list begins within reach
pub north_of-reach : (rects : List Edges) → IsCanonical rects → north_of (bands_of rects) ≤ℤ pos 1048576
unfolding bands_of
north_of-reach [] h = omega (arith, ints)
north_of-reach (r ∷ rects) h =
    let is = north_of-bands_of (r ∷ rects) r refl in
    let high = h.reach.0.north.high in
    rw is high

-- what is made of the front of a list is a list
front_made : (kept : Bool) (rects : List Edges) (y z : ℤ) (n last : ℕ) → IsCanonical rects → IsCut y rects n → y ≤ℤ pos 1048576 →
    z ≡ int_min (north_of (bands_of (drop n rects))) y →
    last ≡ count_before_last (bands_of (cond kept (take n rects) [])) → IsMade z (cond kept (take n rects) []) last
unfolding bands_of
front_made true rects y z n last h cut top e begins =
    let both : AreBands (bands_of (take n rects) ++ bands_of (drop n rects)) = rw cut.bands at h.bands in
    record {
      canonical = cut_front rects y n h cut;
      ends = rw e (ends_before (bands_of (take n rects)) (bands_of (drop n rects)) y both cut.before top);
      begins = begins;
    }
front_made false rects y z n last h cut top e begins = record { canonical = record { bands = tt; reach = tt }; ends = tt; begins = begins }

-- a sweep from where the second list begins, in what is left of the first one
pub swept_first : (operation : Operation) (first second out : List Edges) (n last : ℕ) → IsCanonical first → IsCanonical second →
    IsCut (north_of (bands_of second)) first n → out ≡ cond (keeps operation true false) (take n first) [] →
    last ≡ count_before_last (bands_of (cond (keeps operation true false) (take n first) [])) →
    IsSwept operation first second (bands_of (drop n first)) (bands_of second) out last
swept_first operation first second out n last h k cut is begins = rw is (record {
  made = front_made (keeps operation true false) first (north_of (bands_of second)) _ n last h cut (north_of-reach second k) refl begins;
  kept = λ y x.
      rw (
        in_kept (keeps operation true false) (take n first) y x,
        cut.bands,
        in_parts (bands_of (take n first)) (bands_of (drop n first)) y x (rw cut.bands at h.bands),
      )
      (first_kept operation (in_spans (spans_at (bands_of (take n first)) y) x) (in_spans (spans_at (bands_of (drop n first)) y) x)
      (in_spans (spans_at (bands_of second) y) x) (apart (bands_of (take n first)) (bands_of second) y x k.bands cut.before));
})

-- and from where the first list begins, in what is left of the second one
pub swept_second : (operation : Operation) (first second out : List Edges) (n last : ℕ) → IsCanonical first → IsCanonical second →
    IsCut (north_of (bands_of first)) second n → out ≡ cond (keeps operation false true) (take n second) [] →
    last ≡ count_before_last (bands_of (cond (keeps operation false true) (take n second) [])) →
    IsSwept operation first second (bands_of first) (bands_of (drop n second)) out last
swept_second operation first second out n last h k cut is begins = rw is (record {
  made = front_made (keeps operation false true) second (north_of (bands_of first)) _ n last k cut (north_of-reach first h)
      (min_swap (north_of (bands_of first)) (north_of (bands_of (drop n second)))) begins;
  kept = λ y x.
      rw (
        in_kept (keeps operation false true) (take n second) y x,
        cut.bands,
        in_parts (bands_of (take n second)) (bands_of (drop n second)) y x (rw cut.bands at k.bands),
      )
      (second_kept operation (in_spans (spans_at (bands_of first) y) x) (in_spans (spans_at (bands_of (take n second)) y) x)
      (in_spans (spans_at (bands_of (drop n second)) y) x)
      (and_swap (in_spans (spans_at (bands_of first) y) x) (in_spans (spans_at (bands_of (take n second)) y) x)
      ∙ apart (bands_of (take n second)) (bands_of first) y x h.bands cut.before));
})
  where
    min_swap : (a b : ℤ) → int_min a b ≡ int_min b a
    min_swap a b = grind (arith, ints, clamps)
