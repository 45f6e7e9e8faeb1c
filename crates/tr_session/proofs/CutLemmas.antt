-- The cuts of a session make streams.
use Rattle.std.proofs.Common.{◌≡◌, ℕ, zero, suc, ◌+◌, ◌≤◌, ◌<◌, Bool, true, false, List, [], ◌∷◌, ◌++◌, Some, append_assoc, cond, drop, leb-true, length, nat_le, take, refl, sym, ap, ◌∙◌, arith}
use Rattle.std.specs.Prelude.{All}
use Rattle.std.proofs.lemmas.Bool.{le-leb, leb-false, lt-leb}
use Rattle.std.proofs.lemmas.Grind.{flat_map-append}
use Rattle.std.proofs.lemmas.List.{append-nil, length-drop, length-take, take-append-drop}
use Rattle.std.proofs.lemmas.List.Elements.{All-cons, All-drop, All-nil, All-take, recursion_from_All}
use Rattle.tr_screen.specs.Pictures.{Picture}
use Rattle.tr_mirror.specs.Records.{record_bytes, spelled}
use Rattle.tr_mirror.specs.Streams.{IsShowable, group_of, groups_of, stream_of}
use Rattle.tr_mirror.proofs.StreamLemmas.{stream_of-shows}
use Rattle.tr_session.specs.Cuts.{CutsSoFar, bytes_of_cuts, cut_bytes, no_cut, open_stream, with_cut}
use Rattle.tr_session.specs.Laws.{AreFull, CutsAreShown, ShowsCuts, ShowsScreens}

-- a stream with less than 64 groups goes on
same_stream : (c : CutsSoFar) → c.groups < 64 → open_stream c ≡ c
same_stream c few =
    ap (λ (b : Bool). cond b no_cut c) (lt-leb 64 c.groups few)

-- the bytes of at most 64 cuts are those of the groups
cuts_are : (c : CutsSoFar) (screens : List Picture) → c.groups + length screens ≤ 64 →
    bytes_of_cuts c screens ≡ spelled (groups_of c.last (c.groups + 1) screens)
cuts_are c [] few = refl
cuts_are c (now ∷ rest) few =
    let here : c.groups < 64 = omega (arith, few) in
    let next : CutsSoFar = record { last = Some now; groups = c.groups + 1 } in
    ap (λ (d : CutsSoFar). spelled (group_of d.last now (d.groups + 1)) ++ bytes_of_cuts (record { last = Some now; groups = d.groups + 1 }) rest)
    (same_stream c here)
    ∙ ap (λ (more : List ℕ). spelled (group_of c.last now (c.groups + 1)) ++ more) (cuts_are next rest (omega (arith, few)))
    ∙ sym (flat_map-append record_bytes (group_of c.last now (c.groups + 1)) (groups_of (Some now) (c.groups + 1 + 1) rest))

-- ---- behind 64 groups

-- another stream begins
another_stream : (c : CutsSoFar) → c.groups ≡ 64 → open_stream c ≡ no_cut
another_stream c full = ap (λ (b : Bool). cond b no_cut c) (le-leb 64 c.groups (omega (arith, full)))

begins_anew : (c : CutsSoFar) (screens : List Picture) → c.groups ≡ 64 → bytes_of_cuts c screens ≡ bytes_of_cuts no_cut screens
begins_anew c [] full = refl
begins_anew c (now ∷ rest) full =
    ap (λ (d : CutsSoFar). spelled (group_of d.last now (d.groups + 1)) ++ bytes_of_cuts (record { last = Some now; groups = d.groups + 1 }) rest)
    (another_stream c full)

-- the bytes of more cuts
cuts_and_more : (c : CutsSoFar) (screens more : List Picture) → c.groups + length screens ≡ 64 →
    bytes_of_cuts c (screens ++ more) ≡ bytes_of_cuts c screens ++ bytes_of_cuts no_cut more
cuts_and_more c [] more full = begins_anew c more (omega (arith, full))
cuts_and_more c (now ∷ rest) more full =
    let here : c.groups < 64 = omega (arith, full) in
    let count : (open_stream c).groups + 1 + length rest ≡ 64 = omega (arith, full, ap (λ (d : CutsSoFar). d.groups) (same_stream c here)) in
    ap (λ (bytes : List ℕ). cut_bytes c now ++ bytes) (cuts_and_more (with_cut c now) rest more count)
    ∙ sym (append_assoc (cut_bytes c now) (bytes_of_cuts (with_cut c now) rest) (bytes_of_cuts no_cut more))

cuts_begin_anew : (screens more : List Picture) → length screens ≡ 64 →
    bytes_of_cuts no_cut (screens ++ more) ≡ stream_of screens ++ bytes_of_cuts no_cut more
cuts_begin_anew screens more full =
    cuts_and_more no_cut screens more (omega (arith, full))
    ∙ ap (λ (bytes : List ℕ). bytes ++ bytes_of_cuts no_cut more) (cuts_are no_cut screens (omega (arith, full)))

-- ---- the streams of all cuts

shows_screens : (screens : List Picture) → length screens ≤ 64 → All IsShowable screens → ShowsScreens screens
shows_screens screens few each =
    let shows = stream_of-shows screens few (recursion_from_All IsShowable screens each) in record { is_stream = shows.0; shows = shows.1 }

full_before : (screens : List Picture) (more : List (List Picture)) → length screens ≡ 64 → AreFull more → AreFull (screens ∷ more)
full_before screens [] count full = omega (arith, count)
full_before screens (part ∷ parts) count full = (count, full)

-- the first 64 cuts are a stream, if there are as many, and the others make streams
streams_before : (screens : List Picture) → All IsShowable screens → ShowsCuts (drop 64 screens) → ShowsCuts screens
streams_before screens each rest = by_length (nat_le (length screens) 64) refl
  where
    by_length : (b : Bool) → nat_le (length screens) 64 ≡ b → ShowsCuts screens
    by_length true short =
        let few : length screens ≤ 64 = leb-true (length screens) 64 short in
        record {
          streams = screens ∷ [];
          full = few;
          whole = append-nil screens;
          bytes = cuts_are no_cut screens (omega (arith, few)) ∙ sym (append-nil (stream_of screens));
          shown = All-cons ShowsScreens screens [] (shows_screens screens few each) (All-nil ShowsScreens);
        }
    by_length false long =
        let first : List Picture = take 64 screens in
        let count : length first ≡ 64 = omega (arith, length-take 64 screens, leb-false (length screens) 64 long) in
        let joined : first ++ drop 64 screens ≡ screens = take-append-drop 64 screens in
        record {
          streams = first ∷ rest.streams;
          full = full_before first rest.streams count rest.full;
          whole = ap (λ (more : List Picture). first ++ more) rest.whole ∙ joined;
          bytes = ap (bytes_of_cuts no_cut) (sym joined)
              ∙ cuts_begin_anew first (drop 64 screens) count
              ∙ ap (λ (more : List ℕ). stream_of first ++ more) rest.bytes;
          shown = All-cons ShowsScreens first rest.streams (shows_screens first (omega (arith, count)) (All-take IsShowable 64 screens each)) rest.shown;
        }

all_streams : (n : ℕ) (screens : List Picture) → length screens ≤ n → All IsShowable screens → ShowsCuts screens
all_streams n [] few each = record { streams = []; full = tt; whole = refl; bytes = refl; shown = All-nil ShowsScreens }
all_streams zero (now ∷ rest) few each = absurd (omega (arith, few))
all_streams (suc n) (now ∷ rest) few each =
    streams_before (now ∷ rest) each
    (all_streams n (drop 64 (now ∷ rest)) (omega (arith, few, length-drop 64 (now ∷ rest))) (All-drop IsShowable 64 (now ∷ rest) each))

pub cuts_are_shown : (screens : List Picture) → CutsAreShown screens
cuts_are_shown screens each = all_streams (length screens) screens (omega arith) each
