-- What a group of records changes: record by record, and outside of it the screen is that of the cut before.
use Rattle.std.proofs.Common.{◌≡◌, ℕ, ◌+◌, ◌-◌, ◌<◌, ◌≤◌, ◌||◌, ◌⊎◌, ◌==◌, Bool, true, false, not, List, [], ◌∷◌, ◌++◌, length, get_or, take, drop, set, replicate, Option, Some, None, is_none, option_map, refl, sym, ap, subst, ◌∙◌, arith, inl, inr, append_assoc, if◌then◌else◌, slice_index}
use Rattle.std.proofs.lemmas.Bool.{true≢false, ne_eqb, or_parts, or_cases, not-true, not-false, cases_Bool, cases_eq, cases_lt}
use Rattle.std.proofs.lemmas.List.{append-nil, append_cancel_right, length-append, length-take, length-take-le, length-replicate, get_or-take, get_or-drop, get_or_append_left, get_or-append_right, get_or_past, get_or-set_same, get_or-set_other, set_past}
use Rattle.std.proofs.lemmas.Option.{same_Some}
use Rattle.tr_screen.specs.Pictures.{Picture, row_of, written_at}
use Rattle.tr_mirror.specs.declared.changes.Bounds.{Bounds}
use Rattle.tr_mirror.specs.declared.changes.Change.{Change}
use Rattle.tr_mirror.specs.declared.changes.Change.TheVariants as changes
use Rattle.tr_mirror.specs.declared.headers.Segment.{Segment}
use Rattle.tr_mirror.specs.declared.headers.Header.{Header}
use Rattle.tr_mirror.specs.declared.headers.Header.TheVariants.{Screen, Run, Fill, Cut}
use Rattle.tr_mirror.specs.Headers.{pixel_count}
use Rattle.tr_mirror.specs.Standings.{Standing, stream_start, after_record, header_fault, pixels_written}
use Rattle.tr_mirror.specs.Records.{Record, after_records}
use Rattle.tr_mirror.specs.Readings.{list_of_option, cut_between, screens_by, last_of}
use Rattle.tr_mirror.specs.Faults.{AreSound}
use Rattle.tr_mirror.specs.Changes.{Has, IsSameOutside, Covers, around_of, bounds_of, joined_of, change_with, change_by, is_cut, has_inner_cut, last_group}
use Rattle.tr_mirror.proofs.HeaderLemmas.{no_fault}
use Rattle.tr_mirror.proofs.ShownLemmas.{no_cut, last_of-push}
use Rattle.tr_mirror.proofs.RecordLemmas.{after_all-append, screens_by-append}

-- ---- the order of records doesn't matter

same_bounds : (a b : Bounds) → a.west ≡ b.west → a.east ≡ b.east → a.north ≡ b.north → a.south ≡ b.south → a ≡ b
same_bounds a b west east north south =
    ap (λ (n : ℕ). record { west = n; east = a.east; north = a.north; south = a.south }) west
    ∙ ap (λ (n : ℕ). record { west = b.west; east = n; north = a.north; south = a.south }) east
    ∙ ap (λ (n : ℕ). record { west = b.west; east = b.east; north = n; south = a.south }) north
    ∙ ap (λ (n : ℕ). record { west = b.west; east = b.east; north = b.north; south = n }) south

around_two : (a b : Bounds) → around_of a b ≡ around_of b a
around_two a b = same_bounds (around_of a b) (around_of b a) (omega arith) (omega arith) (omega arith) (omega arith)

around_three : (a b c : Bounds) → around_of a (around_of b c) ≡ around_of b (around_of a c)
around_three a b c =
    same_bounds (around_of a (around_of b c)) (around_of b (around_of a c)) (omega arith) (omega arith) (omega arith) (omega arith)

joined_swap : (a b : Bounds) (c : Change) → joined_of a (joined_of b c) ≡ joined_of b (joined_of a c)
joined_swap a b changes.Nothing = ap (λ (x : Bounds). changes.Within x) (around_two a b)
joined_swap a b (changes.Within c) = ap (λ (x : Bounds). changes.Within x) (around_three a b c)
joined_swap a b changes.Screen = refl

change_swap : (g h : Header) (c : Change) → change_with g (change_with h c) ≡ change_with h (change_with g c)
change_swap (Cut number) h c = refl
change_swap (Screen wide high kind) (Screen wide' high' kind') c = refl
change_swap (Screen wide high kind) (Run t) c = refl
change_swap (Screen wide high kind) (Fill t) c = refl
change_swap (Screen wide high kind) (Cut number) c = refl
change_swap (Run s) (Screen wide high kind) c = refl
change_swap (Run s) (Run t) c = joined_swap (bounds_of s) (bounds_of t) c
change_swap (Run s) (Fill t) c = joined_swap (bounds_of s) (bounds_of t) c
change_swap (Run s) (Cut number) c = refl
change_swap (Fill s) (Screen wide high kind) c = refl
change_swap (Fill s) (Run t) c = joined_swap (bounds_of s) (bounds_of t) c
change_swap (Fill s) (Fill t) c = joined_swap (bounds_of s) (bounds_of t) c
change_swap (Fill s) (Cut number) c = refl

change_by-push : (rs : List Record) (r : Record) → change_by (rs ++ r ∷ []) ≡ change_with r.header (change_by rs)
change_by-push [] r = refl
change_by-push (q ∷ rs) r =
    ap (λ (c : Change). change_with q.header c) (change_by-push rs r) ∙ change_swap q.header r.header (change_by rs)

-- ---- one record more

within_after : (s : Standing) (h : Header) (pixels : List ℕ) → (after_record s h pixels).within ≡ not (is_cut h)
unfolding after_record
within_after s (Screen wide high kind) pixels = refl
within_after s (Run segment) pixels = refl
within_after s (Fill segment) pixels = refl
within_after s (Cut number) pixels = refl

-- the last record is a Cut, or there is none
abbrev rests : List Record → Bool
rests [] = true
rests (r ∷ []) = is_cut r.header
rests (r ∷ q ∷ rs) = rests (q ∷ rs)

within_rests : (s : Standing) (r : Record) (rs : List Record) → (after_records s (r ∷ rs)).within ≡ not (rests (r ∷ rs))
within_rests s r [] = within_after s r.header r.pixels
within_rests s r (q ∷ rs) = within_rests (after_record s r.header r.pixels) q rs

or_swap : (a b c : Bool) → (a || (b || c)) ≡ (b || (a || c))
or_swap true true c = refl
or_swap true false c = refl
or_swap false true c = refl
or_swap false false c = refl

inner-push : (q : Record) (rs : List Record) (r : Record) →
    has_inner_cut (q ∷ (rs ++ r ∷ [])) ≡ (rests (q ∷ rs) || has_inner_cut (q ∷ rs))
inner-push q [] r = refl
inner-push q (p ∷ rs) r =
    ap (λ (b : Bool). is_cut q.header || b) (inner-push p rs r) ∙ or_swap (is_cut q.header) (rests (p ∷ rs)) (has_inner_cut (p ∷ rs))

pick : (c b i : Bool) (one group all : List Record) →
    (if c || (b || i) then (if b then one else group ++ one) else all ++ one) ≡ (if b then one else (if c || i then group else all) ++ one)
pick true true i one group all = refl
pick false true i one group all = refl
pick true false i one group all = refl
pick false false true one group all = refl
pick false false false one group all = refl

last_group-push : (q : Record) (rs : List Record) (r : Record) →
    last_group (q ∷ (rs ++ r ∷ [])) ≡ (if rests (q ∷ rs) then r ∷ [] else last_group (q ∷ rs) ++ r ∷ [])
last_group-push q [] r =
    elim (is_cut q.header) as (λ (b : Bool). (if b || false then r ∷ [] else q ∷ r ∷ []) ≡ (if b then r ∷ [] else q ∷ r ∷ [])) [
      | true ↦ refl
      | false ↦ refl
    ]
last_group-push q (p ∷ rs) r =
    ap (λ (b : Bool). if is_cut q.header || b then last_group (p ∷ (rs ++ r ∷ [])) else q ∷ p ∷ (rs ++ r ∷ [])) (inner-push p rs r)
    ∙ ap (λ (l : List Record). if is_cut q.header || (rests (p ∷ rs) || has_inner_cut (p ∷ rs)) then l else q ∷ p ∷ (rs ++ r ∷ []))
    (last_group-push p rs r)
    ∙ pick (is_cut q.header) (rests (p ∷ rs)) (has_inner_cut (p ∷ rs)) (r ∷ []) (last_group (p ∷ rs)) (q ∷ p ∷ rs)

by_rest : (b : Bool) (group : List Record) (r : Record) →
    change_by (if b then r ∷ [] else group ++ r ∷ []) ≡ change_with r.header (if not b then change_by group else changes.Nothing)
by_rest true group r = refl
by_rest false group r = change_by-push group r

-- what the last group changes with a record more: a record behind a Cut begins a new group
pub change_push : (s : Standing) (rs : List Record) (r : Record) → s.within ≡ false →
    change_by (last_group (rs ++ r ∷ []))
    ≡ change_with r.header (if (after_records s rs).within then change_by (last_group rs) else changes.Nothing)
change_push s [] r rest =
    ap (λ (b : Bool). change_with r.header (if b then change_by (last_group []) else changes.Nothing)) (sym rest)
change_push s (q ∷ rs) r rest =
    ap (λ (l : List Record). change_by l) (last_group-push q rs r)
    ∙ by_rest (rests (q ∷ rs)) (last_group (q ∷ rs)) r
    ∙ ap (λ (b : Bool). change_with r.header (if b then change_by (last_group (q ∷ rs)) else changes.Nothing)) (sym (within_rests s q rs))

-- ---- the pixels outside of a record are as before

kept_behind : (xs w : List ℕ) (i h : ℕ) → i ≤ length xs → i + length w ≤ h →
    get_or (take i xs ++ (w ++ drop (i + length w) xs)) h 0 ≡ get_or xs h 0
kept_behind xs w i h fits behind =
    let n : ℕ = h - i in
    let k : ℕ = n - length w in
    let place : i + length w + k ≡ h = omega arith in
    get_or-append_right (take i xs) (w ++ drop (i + length w) xs) i h 0 (length-take-le i xs fits) (omega arith)
    ∙ get_or-append_right w (drop (i + length w) xs) (length w) n 0 refl (omega arith)
    ∙ get_or-drop (i + length w) xs k 0
    ∙ ap (λ (j : ℕ). get_or xs j 0) place

kept_before : (xs w : List ℕ) (i h : ℕ) → h < length xs → h < i → get_or (take i xs ++ (w ++ drop (i + length w) xs)) h 0 ≡ get_or xs h 0
kept_before xs w i h below before =
    get_or_append_left (take i xs) (w ++ drop (i + length w) xs) 0 h (omega (arith, length-take i xs)) ∙ get_or-take i xs h 0 before

kept_within : (xs w : List ℕ) (i h : ℕ) → h < length xs → (i ≤ h → h < i + length w → ⊥) →
    get_or (take i xs ++ (w ++ drop (i + length w) xs)) h 0 ≡ get_or xs h 0
kept_within xs w i h below apart = elim (cases_lt h i) [
  | inl before ↦ kept_before xs w i h below before
  | inr from ↦ elim (cases_lt h (i + length w)) [
    | inl to ↦ absurd (apart from to)
    | inr behind ↦ kept_behind xs w i h (omega arith) behind
  ]
]

-- what is written over a list leaves the places before and behind it
kept_place : (xs w : List ℕ) (i h : ℕ) → (i ≤ h → h < i + length w → ⊥) → get_or (written_at xs i w) h 0 ≡ get_or xs h 0
kept_place xs w i h apart =
    let all : List ℕ = take i xs ++ (w ++ drop (i + length w) xs) in
    elim (cases_lt h (length xs)) [
      | inl below ↦ get_or-take (length xs) all h 0 below ∙ kept_within xs w i h below apart
      | inr past ↦ get_or_past (take (length xs) all) h 0 (omega (arith, length-take (length xs) all)) ∙ sym (get_or_past xs h 0 past)
    ]

pixel_kept : (p : Picture) (v west : ℕ) (w : List ℕ) (h k : ℕ) → (k ≡ v → west ≤ h → h < west + length w → ⊥) →
    slice_index (row_of (pixels_written p v west w) k) h ≡ slice_index (row_of p k) h
unfolding pixels_written
pixel_kept p v west w h k apart =
    let row : List ℕ = written_at (row_of p v) west w in
    elim (cases_eq k v) [
      | inr other ↦ ap (λ (l : List ℕ). get_or l h 0) (get_or-set_other p.rows v k row [] other)
      | inl same ↦ elim (cases_lt v (length p.rows)) [
        | inl below ↦
            ap (λ (j : ℕ). get_or (get_or (set p.rows v row) j []) h 0) same
            ∙ ap (λ (l : List ℕ). get_or l h 0) (get_or-set_same p.rows v row [] below)
            ∙ kept_place (row_of p v) w west h (apart same)
            ∙ ap (λ (j : ℕ). get_or (row_of p j) h 0) (sym same)
        | inr past ↦ ap (λ (rows : List (List ℕ)). get_or (get_or rows k []) h 0) (set_past p.rows v row past)
      ]
    ]

same_outside : (p : Picture) (segment : Segment) (w : List ℕ) → length w ≡ segment.count →
    IsSameOutside (bounds_of segment) p (pixels_written p segment.v segment.west w)
unfolding pixels_written
same_outside p segment w count = record {
  size = refl;
  kind = refl;
  pixels = λ h v out. pixel_kept p segment.v segment.west w h v (λ row from to. out (record {
    west = from;
    east = omega arith;
    north = omega arith;
    south = omega arith;
  }));
}

-- ---- outside of what records change the screen is as before

wider : (a b : Bounds) (h v : ℕ) → Has a h v → Has (around_of a b) h v
wider a b h v at = record { west = omega arith; east = omega arith; north = omega arith; south = omega arith }

wider_by : (a b : Bounds) (h v : ℕ) → Has b h v → Has (around_of a b) h v
wider_by a b h v at = record { west = omega arith; east = omega arith; north = omega arith; south = omega arith }

covers_joined : (b : Bounds) (c : Change) (p m q : Picture) → IsSameOutside b p m → Covers c m q → Covers (joined_of b c) p q
covers_joined b changes.Nothing p m q first later = subst (λ (x : Picture). IsSameOutside b p x) (sym later) first
covers_joined b (changes.Within more) p m q first later = record {
  size = later.size ∙ first.size;
  kind = later.kind ∙ first.kind;
  pixels = λ h v out. later.pixels h v (λ at. out (wider_by b more h v at)) ∙ first.pixels h v (λ at. out (wider b more h v at));
}
covers_joined b changes.Screen p m q first later = tt

covers_record : (s : Standing) (h : Header) (pixels : List ℕ) (p : Picture) (c : Change) (q : Picture) → length pixels ≡ pixel_count h →
    s.screen ≡ Some p → ((m : Picture) → (after_record s h pixels).screen ≡ Some m → Covers c m q) → Covers (change_with h c) p q
unfolding after_record
covers_record s (Screen wide high kind) pixels p c q count first rest = tt
covers_record s (Run segment) pixels p c q count first rest =
    let m : Picture = pixels_written p segment.v segment.west pixels in
    covers_joined (bounds_of segment) c p m q (same_outside p segment pixels count)
    (rest m (ap (λ o. option_map (λ (x : Picture). pixels_written x segment.v segment.west pixels) o) first))
covers_record s (Fill segment) pixels p c q count first rest =
    let w : List ℕ = replicate segment.count (slice_index pixels 0) in
    let m : Picture = pixels_written p segment.v segment.west w in
    covers_joined (bounds_of segment) c p m q (same_outside p segment w (length-replicate segment.count (slice_index pixels 0)))
    (rest m (ap (λ o. option_map (λ (x : Picture). pixels_written x segment.v segment.west w) o) first))
covers_record s (Cut number) pixels p c q count first rest = rest p first

covers_by : (s : Standing) (rs : List Record) (p q : Picture) → AreSound s rs → s.screen ≡ Some p → (after_records s rs).screen ≡ Some q →
    Covers (change_by rs) p q
covers_by s [] p q sound first last = same_Some q p (sym last ∙ first)
covers_by s (r ∷ rs) p q sound first last =
    covers_record s r.header r.pixels p (change_by rs) q sound.0.count first
    (λ m here. covers_by (after_record s r.header r.pixels) rs m q sound.1 here last)

-- ---- the last group, and the records before it

abbrev before_last : List Record → List Record
before_last [] = []
before_last (r ∷ rs) = if has_inner_cut (r ∷ rs) then r ∷ before_last rs else []

parts : (rs : List Record) → before_last rs ++ last_group rs ≡ rs
parts [] = refl
parts (r ∷ rs) =
    elim (has_inner_cut (r ∷ rs)) as (λ (b : Bool). (if b then r ∷ before_last rs else []) ++ (if b then last_group rs else r ∷ rs) ≡ r ∷ rs) [
      | true ↦ ap (λ (l : List Record). r ∷ l) (parts rs)
      | false ↦ refl
    ]

-- the group begins behind a Cut, or at the start
rested : (s : Standing) (rs : List Record) → (s.within ≡ false) ⊎ (has_inner_cut rs ≡ true) → (after_records s (before_last rs)).within ≡ false
rested s [] (inl k) = k
rested s [] (inr k) = absurd (cc)
rested s (r ∷ []) (inl k) = k
rested s (r ∷ []) (inr k) = absurd (cc)
rested s (r ∷ q ∷ rs) start = elim (cases_Bool (has_inner_cut (r ∷ q ∷ rs))) [
  | inl e ↦
      ap (λ (b : Bool). (after_records s (if b then r ∷ before_last (q ∷ rs) else [])).within) e
      ∙ rested (after_record s r.header r.pixels) (q ∷ rs) (behind e)
  | inr e ↦ ap (λ (b : Bool). (after_records s (if b then r ∷ before_last (q ∷ rs) else [])).within) e ∙ first e start
]
  where
    behind : has_inner_cut (r ∷ q ∷ rs) ≡ true →
        ((after_record s r.header r.pixels).within ≡ false) ⊎ (has_inner_cut (q ∷ rs) ≡ true)
    behind e = elim (or_cases (is_cut r.header) (has_inner_cut (q ∷ rs)) e) [
      | inl cut ↦ inl (within_after s r.header r.pixels ∙ ap not cut)
      | inr more ↦ inr more
    ]

    first : has_inner_cut (r ∷ q ∷ rs) ≡ false → (s.within ≡ false) ⊎ (has_inner_cut (r ∷ q ∷ rs) ≡ true) → s.within ≡ false
    first e (inl k) = k
    first e (inr k) = absurd (true≢false (sym k ∙ e))

one_group : (rs : List Record) → has_inner_cut (last_group rs) ≡ false
one_group [] = refl
one_group (r ∷ rs) = elim (cases_Bool (has_inner_cut (r ∷ rs))) [
  | inl e ↦ ap (λ (b : Bool). has_inner_cut (if b then last_group rs else r ∷ rs)) e ∙ one_group rs
  | inr e ↦ ap (λ (b : Bool). has_inner_cut (if b then last_group rs else r ∷ rs)) e ∙ e
]

some_group : (r : Record) (rs : List Record) → last_group (r ∷ rs) ≡ [] → ⊥
some_group r [] none = cc
some_group r (q ∷ rs) none = elim (cases_Bool (has_inner_cut (r ∷ q ∷ rs))) [
  | inl e ↦ some_group q rs (ap (λ (b : Bool). if b then last_group (q ∷ rs) else r ∷ q ∷ rs) (sym e) ∙ none)
  | inr e ↦ (let all : r ∷ q ∷ rs ≡ [] = ap (λ (b : Bool). if b then last_group (q ∷ rs) else r ∷ q ∷ rs) (sym e) ∙ none in cc)
]

AreSound-parts : (s : Standing) (xs ys : List Record) → AreSound s (xs ++ ys) → AreSound s xs × AreSound (after_records s xs) ys
AreSound-parts s [] ys k = (tt, k)
AreSound-parts s (x ∷ xs) ys k = let more = AreSound-parts (after_record s x.header x.pixels) xs ys k.1 in ((k.0, more.0), more.1)

-- ---- the screens at the cuts of a group

cut_step : (s : Standing) (h : Header) (pixels : List ℕ) → is_cut h ≡ true →
    cut_between s (after_record s h pixels) ≡ list_of_option (after_record s h pixels).screen
unfolding after_record
cut_step s (Screen wide high kind) pixels cut = absurd (cc)
cut_step s (Run segment) pixels cut = absurd (cc)
cut_step s (Fill segment) pixels cut = absurd (cc)
cut_step s (Cut number) pixels cut = rw (ne_eqb s.cuts (s.cuts + 1) (λ e. omega arith)) refl

still_step : (s : Standing) (h : Header) (pixels : List ℕ) → is_cut h ≡ false → cut_between s (after_record s h pixels) ≡ []
unfolding after_record
still_step s (Screen wide high kind) pixels still = no_cut s (after_record s (Screen wide high kind) pixels) refl
still_step s (Run segment) pixels still = no_cut s (after_record s (Run segment) pixels) refl
still_step s (Fill segment) pixels still = no_cut s (after_record s (Fill segment) pixels) refl
still_step s (Cut number) pixels still = absurd (cc)

open_shown : (s : Standing) (rs : List Record) → has_inner_cut rs ≡ false → (after_records s rs).within ≡ true → screens_by s rs ≡ []
open_shown s [] one within = refl
open_shown s (r ∷ []) one within =
    let still : is_cut r.header ≡ false = not-true (is_cut r.header) (sym (within_after s r.header r.pixels) ∙ within) in
    ap (λ l. l ++ []) (still_step s r.header r.pixels still)
open_shown s (r ∷ q ∷ rs) one within =
    let t : Standing = after_record s r.header r.pixels in
    let p = or_parts (is_cut r.header) (has_inner_cut (q ∷ rs)) one in
    ap (λ l. l ++ screens_by t (q ∷ rs)) (still_step s r.header r.pixels p.0) ∙ open_shown t (q ∷ rs) p.1 within

cut_shown : (s : Standing) (rs : List Record) → (rs ≡ [] → ⊥) → has_inner_cut rs ≡ false → (after_records s rs).within ≡ false →
    screens_by s rs ≡ list_of_option (after_records s rs).screen
cut_shown s [] some one rest = absurd (some refl)
cut_shown s (r ∷ []) some one rest =
    let t : Standing = after_record s r.header r.pixels in
    let cut : is_cut r.header ≡ true = not-false (is_cut r.header) (sym (within_after s r.header r.pixels) ∙ rest) in
    ap (λ l. l ++ []) (cut_step s r.header r.pixels cut) ∙ append-nil (list_of_option t.screen)
cut_shown s (r ∷ q ∷ rs) some one rest =
    let t : Standing = after_record s r.header r.pixels in
    let p = or_parts (is_cut r.header) (has_inner_cut (q ∷ rs)) one in
    ap (λ l. l ++ screens_by t (q ∷ rs)) (still_step s r.header r.pixels p.0) ∙ cut_shown t (q ∷ rs) (λ e. cc) p.1 rest

listed_last : (o : Option Picture) (done : List Picture) → is_none o ≡ false → last_of (done ++ list_of_option o) ≡ o
listed_last None done some = absurd (cc)
listed_last (Some p) done some = last_of-push done p

last_step : (s : Standing) (h : Header) (pixels : List ℕ) (done : List Picture) → header_fault s h ≡ None →
    (after_record s h pixels).within ≡ false →
    last_of (done ++ cut_between s (after_record s h pixels)) ≡ (after_record s h pixels).screen
unfolding after_record
last_step s (Screen wide high kind) pixels done sound rest = absurd (true≢false rest)
last_step s (Run segment) pixels done sound rest = absurd (true≢false rest)
last_step s (Fill segment) pixels done sound rest = absurd (true≢false rest)
last_step s (Cut number) pixels done sound rest =
    let some = (or_parts (is_none s.screen) (not (number == s.cuts + 1)) (no_fault s (Cut number) sound).1).0 in
    rw (ne_eqb s.cuts (s.cuts + 1) (λ e. omega arith)) (listed_last s.screen done some)

-- between groups the screen is that of the last cut
last_shown : (s : Standing) (done : List Picture) (rs : List Record) → AreSound s rs → (s.within ≡ false → last_of done ≡ s.screen) →
    (after_records s rs).within ≡ false → last_of (done ++ screens_by s rs) ≡ (after_records s rs).screen
last_shown s done [] sound start rest = ap (λ l. last_of l) (append-nil done) ∙ start rest
last_shown s done (r ∷ rs) sound start rest =
    let t : Standing = after_record s r.header r.pixels in
    ap (λ l. last_of l) (sym (append_assoc done (cut_between s t) (screens_by t rs)))
    ∙ last_shown t (done ++ cut_between s t) rs sound.1 (last_step s r.header r.pixels done sound.0.header) rest

-- ---- what the last group changes

module _ (rs : List Record) (before now : Picture) (k : AreSound stream_start rs) where
  sound : AreSound stream_start (before_last rs) × AreSound (after_records stream_start (before_last rs)) (last_group rs)
  sound = AreSound-parts stream_start (before_last rs) (last_group rs) (subst (λ (l : List Record). AreSound stream_start l) (sym (parts rs)) k)

  at_end : after_records (after_records stream_start (before_last rs)) (last_group rs) ≡ after_records stream_start rs
  at_end = sym (after_all-append stream_start (before_last rs) (last_group rs)) ∙ ap (λ (l : List Record). after_records stream_start l) (parts rs)

  shows : screens_by stream_start rs ≡ screens_by stream_start (before_last rs) ++ screens_by (after_records stream_start (before_last rs)) (last_group rs)
  shows = ap (λ (l : List Record). screens_by stream_start l) (sym (parts rs)) ∙ screens_by-append stream_start (before_last rs) (last_group rs)

  at_base : last_of (screens_by stream_start (before_last rs)) ≡ (after_records stream_start (before_last rs)).screen
  at_base = last_shown stream_start [] (before_last rs) sound.0 (λ _. refl) (rested stream_start rs (inl refl))

  covers_from : last_of (screens_by stream_start (before_last rs)) ≡ Some before → (after_records stream_start rs).screen ≡ Some now →
      Covers (change_by (last_group rs)) before now
  covers_from base end =
      covers_by (after_records stream_start (before_last rs)) (last_group rs) before now sound.1 (sym at_base ∙ base)
      (ap (λ (s : Standing). s.screen) at_end ∙ end)

  -- within a group: outside of the change the screen is that of the last cut
  pub covers_part : (after_records stream_start rs).within ≡ true → last_of (screens_by stream_start rs) ≡ Some before →
      (after_records stream_start rs).screen ≡ Some now → Covers (change_by (last_group rs)) before now
  covers_part within last end =
      let none : screens_by (after_records stream_start (before_last rs)) (last_group rs) ≡ [] =
      open_shown (after_records stream_start (before_last rs)) (last_group rs) (one_group rs) (ap (λ (s : Standing). s.within) at_end ∙ within) in
      let all : screens_by stream_start rs ≡ screens_by stream_start (before_last rs) =
      shows ∙ ap (λ l. screens_by stream_start (before_last rs) ++ l) none ∙ append-nil (screens_by stream_start (before_last rs)) in
      covers_from (ap (λ l. last_of l) (sym all) ∙ last) end

  -- after a cut: outside of the change the screen is that of the cut before it
  pub covers_cut : (screens : List Picture) → (after_records stream_start rs).within ≡ false →
      screens_by stream_start rs ≡ screens ++ before ∷ now ∷ [] → Covers (change_by (last_group rs)) before now
  covers_cut screens rest is =
      let t : Standing = after_records stream_start (before_last rs) in
      let pushed : screens ++ before ∷ now ∷ [] ≡ (screens ++ before ∷ []) ++ now ∷ [] = sym (append_assoc screens (before ∷ []) (now ∷ [])) in
      let end : (after_records stream_start rs).screen ≡ Some now =
      sym (last_shown stream_start [] rs k (λ _. refl) rest) ∙ ap (λ l. last_of l) (is ∙ pushed) ∙ last_of-push (screens ++ before ∷ []) now in
      let here : screens_by t (last_group rs) ≡ now ∷ [] =
      cut_shown t (last_group rs) (some_records rs is) (one_group rs) (ap (λ (s : Standing). s.within) at_end ∙ rest)
      ∙ ap (λ (s : Standing). list_of_option s.screen) at_end ∙ ap (λ (o : Option Picture). list_of_option o) end in
      let earlier : screens_by stream_start (before_last rs) ≡ screens ++ before ∷ [] =
      append_cancel_right (screens_by stream_start (before_last rs)) (screens ++ before ∷ []) (now ∷ [])
      (ap (λ l. screens_by stream_start (before_last rs) ++ l) (sym here) ∙ sym shows ∙ is ∙ pushed) in
      covers_from (ap (λ l. last_of l) earlier ∙ last_of-push screens before) end
    where
      some_records : (l : List Record) → screens_by stream_start l ≡ screens ++ before ∷ now ∷ [] → last_group l ≡ [] → ⊥
      some_records [] shown none = omega (arith, ap (λ (x : List Picture). length x) shown, length-append screens (before ∷ now ∷ []))
      some_records (r ∷ l) shown none = some_group r l none
