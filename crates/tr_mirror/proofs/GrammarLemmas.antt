-- The records of a stream are a row of groups, and a row of groups is a stream.
use Rattle.std.proofs.Common.{◌≡◌, ℕ, zero, suc, ◌+◌, ◌*◌, ◌<◌, ◌≤◌, ◌==◌, ◌||◌, ◌&&◌, not, Bool, true, false, List, [], ◌∷◌, ◌++◌, length, replicate, Option, Some, None, option_map, slice_index, refl, sym, ap, subst, ◌∙◌, arith, if◌then◌else◌, append_assoc, length-append, is_none, is_some, nat_lt, nat_le}
use Rattle.std.proofs.lemmas.Bool.{true≢false, and_parts, and_from, or_parts, or_from, ltb-true, ltb-false, lt-ltb, le-ltb, leb-true, le-leb, eqb-true, eqb-false, ne_eqb, eq-eqb, not-true, not-false, not_from_true, not_from_false}
use Rattle.std.proofs.lemmas.List.{append-nil, nil_from_length}
use Rattle.std.proofs.lemmas.Option.{same_Some}
use Rattle.std.specs.List.{flat_map, list_all}
use Rattle.tr_base.specs.declared.sizes.Size.{Size}
use Rattle.tr_base.specs.Rects.{IsScreenSize}
use Rattle.tr_base.specs.Lists.{first_true}
use Rattle.tr_screen.specs.Pictures.{Picture, blank_of}
use Rattle.tr_mirror.specs.declared.faults.MirrorFault.{MirrorFault}
use Rattle.tr_mirror.specs.declared.faults.StreamFault.TheVariants.{OutOfRange, Unfinished, TooMany}
use Rattle.tr_mirror.specs.declared.headers.Segment.{Segment}
use Rattle.tr_mirror.specs.declared.headers.Header.{Header}
use Rattle.tr_mirror.specs.declared.headers.Header.TheVariants.{Screen, Run, Fill, Cut}
use Rattle.tr_mirror.specs.Headers.{header_bytes, pixel_count}
use Rattle.tr_mirror.specs.Standings.{Standing, stream_start, after_record, with_pixels, cut_off, pixels_written, kind_of, kind_code, has_pixel, have_pixels, is_too_late, is_segment_on, most_groups, header_fault, pixel_fault}
use Rattle.tr_mirror.specs.Records.{Record, IsBytes, record_bytes, spelled, after_records, records_of, rest_of, fault_in}
use Rattle.tr_mirror.specs.Readings.{Reading, reading_of, is_between, longest_stream, fault_at_end, IsStream, cut_between, list_of_option, screens_by, screens_shown}
use Rattle.tr_mirror.specs.Streams.{screen_record, cut_record}
use Rattle.tr_mirror.specs.Faults.{IsSegment, IsSoundRecord, AreSound}
use Rattle.tr_mirror.specs.Laws.{ArePixelsOf, IsOnScreen, IsRowRecord, row_behind, AreRowRecords, drawn_by, with_rows_drawn, BeginsWith, IsGroupTo, AreGroups, IsRowOfGroups}
use Rattle.tr_mirror.proofs.HeaderLemmas.{no_fault, screen_range}
use Rattle.tr_mirror.specs.Automata.{IsBounded}
use Rattle.tr_mirror.proofs.BoundLemmas.{len_of, IsBounded-after}
use Rattle.tr_mirror.proofs.ShownLemmas.{no_cut}
use Rattle.tr_mirror.proofs.RecordLemmas.{length-header_bytes, after_all-append, AreSound-append, screens_by-append}
use Rattle.tr_mirror.proofs.FaultLemmas.{front_none}
use Rattle.tr_mirror.proofs.GroupLemmas.{fine_header, fine_pixels, IsDrawn, IsDrawn-append, IsGroup, screen_drawn, closed}
use Rattle.tr_mirror.proofs.RecordsOfLemmas.{IsAllOf, records_of-is, rest_of-is, records_of-all}
use Rattle.tr_mirror.proofs.FirstFaultLemmas.{fault_in-is}

-- the records of groups
abbrev flat : List (List Record) → List Record
flat groups = flat_map (λ (group : List Record). group) groups

-- ---- rows

drawn_by-format : (p : Picture) (header : Header) (pixels : List ℕ) → ((drawn_by p header pixels).size ≡ p.size) × ((drawn_by p header pixels).kind ≡ p.kind)
unfolding pixels_written
drawn_by-format p (Screen wide high kind) pixels = (refl, refl)
drawn_by-format p (Run segment) pixels = (refl, refl)
drawn_by-format p (Fill segment) pixels = (refl, refl)
drawn_by-format p (Cut number) pixels = (refl, refl)

with_rows_drawn-size : (p : Picture) (rows : List Record) → (with_rows_drawn p rows).size ≡ p.size
with_rows_drawn-size p [] = refl
with_rows_drawn-size p (r ∷ rs) = with_rows_drawn-size (drawn_by p r.header r.pixels) rs ∙ (drawn_by-format p r.header r.pixels).0

-- only the size and the kind of a screen say which rows it can have
module _ (p q : Picture) (size : p.size ≡ q.size) (kind : p.kind ≡ q.kind) where
  on_other : (v : ℕ) (segment : Segment) → IsOnScreen p v segment → IsOnScreen q v segment
  on_other v segment o = record {
    later = o.later;
    row = subst (λ (s : Size). segment.v < s.high) size o.row;
    some = o.some;
    columns = subst (λ (s : Size). segment.west + segment.count ≤ s.wide) size o.columns;
  }

  row_other : (v : ℕ) (header : Header) (pixels : List ℕ) → IsRowRecord p v header pixels → IsRowRecord q v header pixels
  row_other v (Screen wide high code) pixels r = absurd r
  row_other v (Run segment) pixels r = (on_other v segment r.0, r.1, subst (λ k. list_all (has_pixel k) pixels ≡ true) kind r.2)
  row_other v (Fill segment) pixels r = (on_other v segment r.0, r.1, subst (λ k. list_all (has_pixel k) pixels ≡ true) kind r.2)
  row_other v (Cut number) pixels r = absurd r

  rows_other : (v : ℕ) (rows : List Record) → AreRowRecords p v rows → AreRowRecords q v rows
  rows_other v [] a = tt
  rows_other v (r ∷ rs) a = (row_other v r.header r.pixels a.0, rows_other (row_behind r.header) rs a.1)

-- ---- from records to groups

-- the records of the rest of a group that draws on p, and then groups
record IsRest (s : Standing) (p : Picture) (rs : List Record) : Type 0 where
  rows : List Record
  groups : List (List Record)
  screens : List Picture
  are_rows : AreRowRecords p s.south rows
  are_groups : AreGroups (Some (with_rows_drawn p rows)) (s.cuts + 1 + 1) groups screens
  parts : rs ≡ rows ++ (cut_record (s.cuts + 1) ∷ flat groups)
  shown : screens_by s rs ≡ with_rows_drawn p rows ∷ screens
  cuts : (after_records s rs).cuts ≡ s.cuts + 1 + length groups

record ArePlain (s : Standing) (rs : List Record) : Type 0 where
  groups : List (List Record)
  are_groups : AreGroups s.screen (s.cuts + 1) groups (screens_by s rs)
  parts : rs ≡ flat groups
  cuts : (after_records s rs).cuts ≡ s.cuts + length groups

-- within a group, and between two
record IsSplit (s : Standing) (rs : List Record) : Type 0 where
  opened : s.within ≡ true → (p : Picture) → s.screen ≡ Some p → IsRest s p rs
  plain : s.within ≡ false → s.south ≡ 0 → ArePlain s rs

have_all : (s : Standing) (pixels : List ℕ) (p : Picture) → pixel_fault s pixels ≡ None → s.screen ≡ Some p → ArePixelsOf p pixels
unfolding pixel_fault
have_all s pixels p none is = sym (ap (λ o. have_pixels o pixels) is) ∙ by_test (have_pixels s.screen pixels) none
  where
    by_test : (b : Bool) → first_true ((OutOfRange, not b) ∷ []) ≡ None → b ≡ true
    by_test true h = refl
    by_test false h = absurd (cc)

on_screen : (p : Picture) (south : ℕ) (segment : Segment) → is_segment_on (Some p) segment ≡ true → nat_lt segment.v south ≡ false → IsOnScreen p south segment
on_screen p south segment on rises =
    let a = and_parts (nat_lt segment.v p.size.high) (nat_lt 0 segment.count && nat_le (segment.west + segment.count) p.size.wide) on in
    let b = and_parts (nat_lt 0 segment.count) (nat_le (segment.west + segment.count) p.size.wide) a.1 in
    record {
      later = ltb-false segment.v south rises;
      row = ltb-true segment.v p.size.high a.0;
      some = ltb-true 0 segment.count b.0;
      columns = leb-true (segment.west + segment.count) p.size.wide b.1;
    }

-- a Run or a Fill, and then the rest
module _ (s t : Standing) (p : Picture) (r : Record) (rs : List Record) (row : IsRowRecord p s.south r.header r.pixels) (cuts : t.cuts ≡ s.cuts)
    (south : t.south ≡ row_behind r.header) (after : after_record s r.header r.pixels ≡ t) (d : IsRest t (drawn_by p r.header r.pixels) rs) where
  row_rest : IsRest s p (r ∷ rs)
  row_rest =
      let q : Picture = drawn_by p r.header r.pixels in
      let same = drawn_by-format p r.header r.pixels in
      let below : AreRowRecords p (row_behind r.header) d.rows =
      subst (λ v. AreRowRecords p v d.rows) south (rows_other q p same.0 same.1 t.south d.rows d.are_rows) in
      record {
        rows = r ∷ d.rows;
        groups = d.groups;
        screens = d.screens;
        are_rows = (row, below);
        are_groups = subst (λ n. AreGroups (Some (with_rows_drawn q d.rows)) (n + 1 + 1) d.groups d.screens) cuts d.are_groups;
        parts = ap (λ l. r ∷ l) (d.parts ∙ ap (λ n. d.rows ++ (cut_record (n + 1) ∷ flat d.groups)) cuts);
        shown = ap (λ u. cut_between s u ++ screens_by u rs) after ∙ ap (λ l. l ++ screens_by t rs) (no_cut s t (sym cuts)) ∙ d.shown;
        cuts = ap (λ u. (after_records u rs).cuts) after ∙ d.cuts ∙ ap (λ n. n + 1 + length d.groups) cuts;
      }

opens : Header → Bool
opens (Screen wide high kind) = true
opens header = false

module _ (s : Standing) (p : Picture) (pixels : List ℕ) (rs : List Record) (is : s.screen ≡ Some p) where
  run_rest : (segment : Segment) → IsSoundRecord s (record { header = Run segment; pixels = pixels }) → IsSplit (after_record s (Run segment) pixels) rs →
      IsRest s p (record { header = Run segment; pixels = pixels } ∷ rs)
  unfolding after_record
  run_rest segment k ih =
      let f = no_fault s (Run segment) k.header in
      let on = ap (λ o. is_segment_on o segment) (sym is) ∙ not-false (is_segment_on s.screen segment) f.2 in
      let rises = (or_parts (is_none s.screen) (nat_lt segment.v s.south) f.1).1 in
      row_rest s (with_pixels s segment pixels) p (record { header = Run segment; pixels = pixels }) rs
      (on_screen p s.south segment on rises, k.count, have_all s pixels p k.pixels is) refl refl refl
      (ih.opened refl (drawn_by p (Run segment) pixels) (ap (λ o. option_map (λ q. pixels_written q segment.v segment.west pixels) o) is))

  fill_rest : (segment : Segment) → IsSoundRecord s (record { header = Fill segment; pixels = pixels }) → IsSplit (after_record s (Fill segment) pixels) rs →
      IsRest s p (record { header = Fill segment; pixels = pixels } ∷ rs)
  unfolding after_record
  fill_rest segment k ih =
      let f = no_fault s (Fill segment) k.header in
      let on = ap (λ o. is_segment_on o segment) (sym is) ∙ not-false (is_segment_on s.screen segment) f.2 in
      let rises = (or_parts (is_none s.screen) (nat_lt segment.v s.south) f.1).1 in
      let px : List ℕ = replicate segment.count (slice_index pixels 0) in
      row_rest s (with_pixels s segment px) p (record { header = Fill segment; pixels = pixels }) rs
      (on_screen p s.south segment on rises, k.count, have_all s pixels p k.pixels is) refl refl refl
      (ih.opened refl (drawn_by p (Fill segment) pixels) (ap (λ o. option_map (λ q. pixels_written q segment.v segment.west px) o) is))

  cut_rest : (number : ℕ) → IsSoundRecord s (record { header = Cut number; pixels = pixels }) → IsSplit (after_record s (Cut number) pixels) rs →
      IsRest s p (record { header = Cut number; pixels = pixels } ∷ rs)
  unfolding after_record
  cut_rest number k ih =
      let t : Standing = cut_off s in
      let f = no_fault s (Cut number) k.header in
      let wrong = (or_parts (is_none s.screen) (not (number == s.cuts + 1)) f.1).1 in
      let next : number ≡ s.cuts + 1 = eqb-true number (s.cuts + 1) (not-false (number == s.cuts + 1) wrong) in
      let none : pixels ≡ [] = nil_from_length pixels k.count in
      let d : ArePlain t rs = ih.plain refl refl in
      let new : cut_between s t ≡ p ∷ [] = rw (ne_eqb s.cuts (s.cuts + 1) (λ e. omega arith)) (ap (λ o. list_of_option o) is) in
      record {
        rows = [];
        groups = d.groups;
        screens = screens_by t rs;
        are_rows = tt;
        are_groups = subst (λ o. AreGroups o (s.cuts + 1 + 1) d.groups (screens_by t rs)) is d.are_groups;
        parts = ap (λ n. record { header = Cut n; pixels = pixels } ∷ rs) next
            ∙ ap (λ l. record { header = Cut (s.cuts + 1); pixels = l } ∷ rs) none ∙ ap (λ l. cut_record (s.cuts + 1) ∷ l) d.parts;
        shown = ap (λ l. l ++ screens_by t rs) new;
        cuts = d.cuts;
      }

in_group : (s : Standing) (p : Picture) (header : Header) (pixels : List ℕ) (rs : List Record) → s.screen ≡ Some p → opens header ≡ false →
    IsSoundRecord s (record { header = header; pixels = pixels }) → IsSplit (after_record s header pixels) rs →
    IsRest s p (record { header = header; pixels = pixels } ∷ rs)
unfolding opens
in_group s p (Screen wide high kind) pixels rs is other k ih = absurd (true≢false other)
in_group s p (Run segment) pixels rs is other k ih = run_rest s p pixels rs is segment k ih
in_group s p (Fill segment) pixels rs is other k ih = fill_rest s p pixels rs is segment k ih
in_group s p (Cut number) pixels rs is other k ih = cut_rest s p pixels rs is number k ih

-- within a group no Screen comes
opens_none : (s : Standing) (header : Header) → header_fault s header ≡ None → s.within ≡ true → opens header ≡ false
unfolding opens
opens_none s (Screen wide high kind) sound within = absurd (true≢false (sym within ∙ (no_fault s (Screen wide high kind) sound).1))
opens_none s (Run segment) sound within = refl
opens_none s (Fill segment) sound within = refl
opens_none s (Cut number) sound within = refl

-- records of a group that begins so, and then groups
module _ (s t : Standing) (first : List Record) (p : Picture) (rs all : List Record) (begins : BeginsWith s.screen first p) (cuts : t.cuts ≡ s.cuts)
    (south : t.south ≡ 0) (d : IsRest t p rs) (whole : all ≡ first ++ rs) (shown : screens_by s all ≡ screens_by t rs)
    (after : after_records s all ≡ after_records t rs) where
  plain_of : ArePlain s all
  plain_of =
      let now : Picture = with_rows_drawn p d.rows in
      let cut : List Record = cut_record (s.cuts + 1) ∷ [] in
      let group : List Record = first ++ (d.rows ++ cut) in
      let one : IsGroupTo s.screen (s.cuts + 1) group now = record {
        first = first;
        base = p;
        rows = d.rows;
        begins = begins;
        are_rows = subst (λ v. AreRowRecords p v d.rows) south d.are_rows;
        leads = refl;
        parts = refl;
      } in
      let more : AreGroups (Some now) (s.cuts + 1 + 1) d.groups d.screens =
      subst (λ n. AreGroups (Some now) (n + 1 + 1) d.groups d.screens) cuts d.are_groups in
      record {
        groups = group ∷ d.groups;
        are_groups = subst (λ l. AreGroups s.screen (s.cuts + 1) (group ∷ d.groups) l) (sym (shown ∙ d.shown)) (one, more);
        parts = whole ∙ ap (λ l. first ++ l) (d.parts ∙ ap (λ n. d.rows ++ (cut_record (n + 1) ∷ flat d.groups)) cuts
            ∙ sym (append_assoc d.rows cut (flat d.groups)))
            ∙ sym (append_assoc first (d.rows ++ cut) (flat d.groups));
        cuts = ap (λ (u : Standing). u.cuts) after ∙ omega (arith, d.cuts, cuts);
      }

code_again : (code : ℕ) → code ≤ 2 → kind_code (kind_of code) ≡ code
code_again zero few = refl
code_again (suc zero) few = refl
code_again (suc (suc zero)) few = refl
code_again (suc (suc (suc code))) few = absurd (omega arith)

some_screen : (o : Option Picture) → is_none o ≡ false → (p : Picture) × (o ≡ Some p)
some_screen None h = absurd (true≢false h)
some_screen (Some p) h = (p, refl)

module _ (s : Standing) (pixels : List ℕ) (rs : List Record) (within : s.within ≡ false) (south : s.south ≡ 0) where
  screen_plain : (wide high kind : ℕ) → IsSoundRecord s (record { header = Screen wide high kind; pixels = pixels }) →
      IsSplit (after_record s (Screen wide high kind) pixels) rs → ArePlain s (record { header = Screen wide high kind; pixels = pixels } ∷ rs)
  unfolding after_record
  screen_plain wide high kind k ih =
      let size : Size = record { wide = wide; high = high } in
      let base : Picture = blank_of size (kind_of kind) in
      let r : Record = record { header = Screen wide high kind; pixels = pixels } in
      let t : Standing = record { cuts = s.cuts; screen = Some base; within = true; south = 0 } in
      let range = screen_range s wide high kind k.header in
      let none : pixels ≡ [] = nil_from_length pixels k.count in
      let is : r ≡ screen_record base = ap (λ l. record { header = Screen wide high kind; pixels = l }) none
      ∙ ap (λ c. record { header = Screen wide high c; pixels = [] }) (sym (code_again kind range.1)) in
      plain_of s t (r ∷ []) base rs (r ∷ rs) (is, refl, range.0) refl refl (ih.opened refl base refl) refl
      (ap (λ l. l ++ screens_by t rs) (no_cut s t refl)) refl

  -- a group that begins without a Screen
  other_plain : (header : Header) → opens header ≡ false → is_none s.screen ≡ false →
      IsSoundRecord s (record { header = header; pixels = pixels }) → IsSplit (after_record s header pixels) rs →
      ArePlain s (record { header = header; pixels = pixels } ∷ rs)
  other_plain header other placed k ih =
      let p = some_screen s.screen placed in
      let r : Record = record { header = header; pixels = pixels } in
      plain_of s s [] p.0 (r ∷ rs) (r ∷ rs) p.1 refl south (in_group s p.0 header pixels rs p.1 other k ih) refl refl refl

  plain_step : (header : Header) → IsSoundRecord s (record { header = header; pixels = pixels }) → IsSplit (after_record s header pixels) rs →
      ArePlain s (record { header = header; pixels = pixels } ∷ rs)
  unfolding opens
  plain_step (Screen wide high kind) k ih = screen_plain wide high kind k ih
  plain_step (Run segment) k ih = other_plain (Run segment) refl
      (or_parts (is_none s.screen) (nat_lt segment.v s.south) (no_fault s (Run segment) k.header).1).0 k ih
  plain_step (Fill segment) k ih = other_plain (Fill segment) refl
      (or_parts (is_none s.screen) (nat_lt segment.v s.south) (no_fault s (Fill segment) k.header).1).0 k ih
  plain_step (Cut number) k ih = other_plain (Cut number) refl
      (or_parts (is_none s.screen) (not (number == s.cuts + 1)) (no_fault s (Cut number) k.header).1).0 k ih

split : (s : Standing) (rs : List Record) → AreSound s rs → (after_records s rs).within ≡ false → IsSplit s rs
split s [] sound ended = record {
  opened = λ within p is. absurd (true≢false (sym within ∙ ended));
  plain = λ within south. record { groups = []; are_groups = tt; parts = refl; cuts = omega arith };
}
split s (r ∷ rs) sound ended =
    let ih : IsSplit (after_record s r.header r.pixels) rs = split (after_record s r.header r.pixels) rs sound.1 ended in
    record {
      opened = λ within p is. in_group s p r.header r.pixels rs is (opens_none s r.header sound.0.header within) sound.0 ih;
      plain = λ within south. plain_step s r.pixels rs within south r.header sound.0 ih;
    }

-- ---- how many cuts and bytes records have

cuts_after : (s : Standing) (header : Header) (pixels : List ℕ) → header_fault s header ≡ None → s.cuts ≤ most_groups →
    (after_record s header pixels).cuts ≤ most_groups
unfolding after_record
cuts_after s (Screen wide high kind) pixels sound few = few
cuts_after s (Run segment) pixels sound few = few
cuts_after s (Fill segment) pixels sound few = few
cuts_after s (Cut number) pixels sound few =
    let n : s.cuts ≡ 64 → ⊥ = eqb-false s.cuts most_groups (no_fault s (Cut number) sound).0 in omega arith

pub cuts_few : (s : Standing) (rs : List Record) → AreSound s rs → s.cuts ≤ most_groups → (after_records s rs).cuts ≤ most_groups
cuts_few s [] sound few = few
cuts_few s (r ∷ rs) sound few = cuts_few (after_record s r.header r.pixels) rs sound.1 (cuts_after s r.header r.pixels sound.0.header few)

bounded_all : (s : Standing) (fed : ℕ) (rs : List Record) → IsBounded s fed → AreSound s rs → IsBounded (after_records s rs) (fed + length (spelled rs))
bounded_all s fed [] k sound =
    let same : fed ≡ fed + length (spelled []) = omega arith in
    subst (λ n. IsBounded s n) same k
bounded_all s fed (r ∷ rs) k sound =
    let t : Standing = after_record s r.header r.pixels in
    let n : ℕ = len_of r.header + pixel_count r.header in
    let long : fed + n + length (spelled rs) ≡ fed + length (spelled (r ∷ rs)) = omega (
      arith,
      length-append (record_bytes r) (spelled rs),
      length-append (header_bytes r.header) r.pixels,
      length-header_bytes r.header,
      sound.0.count,
    ) in
    subst (λ m. IsBounded (after_records t rs) m) long
    (bounded_all t (fed + n) rs (IsBounded-after s fed k r.header r.pixels sound.0.header) sound.1)

-- ---- from groups to records

module _ (s : Standing) (p : Picture) (v : ℕ) (segment : Segment) (pixels : List ℕ) (is : s.screen ≡ Some p) (size : IsScreenSize p.size)
    (few : s.cuts < most_groups) (south : s.south ≤ v) (o : IsOnScreen p v segment) (have : ArePixelsOf p pixels) where
  late : is_too_late s ≡ false
  late = ne_eqb s.cuts most_groups (λ e. omega arith)

  placed : (is_none s.screen || nat_lt segment.v s.south) ≡ false
  placed = or_from (is_none s.screen) (nat_lt segment.v s.south) (ap (λ q. is_none q) is) (le-ltb segment.v s.south (omega (arith, o.later)))

  on : not (is_segment_on s.screen segment) ≡ false
  on = not_from_true (is_segment_on s.screen segment) (ap (λ q. is_segment_on q segment) is
      ∙ and_from (nat_lt segment.v p.size.high) (nat_lt 0 segment.count && nat_le (segment.west + segment.count) p.size.wide)
      (lt-ltb segment.v p.size.high o.row)
      (and_from (nat_lt 0 segment.count) (nat_le (segment.west + segment.count) p.size.wide) (lt-ltb 0 segment.count o.some)
      (le-leb (segment.west + segment.count) p.size.wide o.columns)))

  small : IsSegment segment
  small = record { west = omega (arith, o.columns, size.wide); v = omega (arith, o.row, size.high); count = omega (arith, o.columns, size.wide) }

  fine : pixel_fault s pixels ≡ None
  fine = fine_pixels s pixels (ap (λ q. have_pixels q pixels) is ∙ have)

  run_drawn : length pixels ≡ segment.count →
      IsDrawn s (record { header = Run segment; pixels = pixels } ∷ []) (drawn_by p (Run segment) pixels) (segment.v + 1)
  unfolding after_record
  run_drawn count = record {
    sound = (record { fits = small; count = count; header = fine_header s (Run segment) late placed on; pixels = fine }, tt);
    cuts = refl;
    screen = ap (λ q. option_map (λ x. pixels_written x segment.v segment.west pixels) q) is;
    south = omega arith;
    shown = ap (λ l. l ++ []) (no_cut s (with_pixels s segment pixels) refl);
  }

  fill_drawn : length pixels ≡ 1 →
      IsDrawn s (record { header = Fill segment; pixels = pixels } ∷ []) (drawn_by p (Fill segment) pixels) (segment.v + 1)
  unfolding after_record
  fill_drawn count =
      let px : List ℕ = replicate segment.count (slice_index pixels 0) in
      record {
        sound = (record { fits = small; count = count; header = fine_header s (Fill segment) late placed on; pixels = fine }, tt);
        cuts = refl;
        screen = ap (λ q. option_map (λ x. pixels_written x segment.v segment.west px) q) is;
        south = omega arith;
        shown = ap (λ l. l ++ []) (no_cut s (with_pixels s segment px) refl);
      }

row_drawn : (s : Standing) (p : Picture) (v : ℕ) (header : Header) (pixels : List ℕ) → s.screen ≡ Some p → IsScreenSize p.size → s.cuts < most_groups →
    s.south ≤ v → IsRowRecord p v header pixels →
    IsDrawn s (record { header = header; pixels = pixels } ∷ []) (drawn_by p header pixels) (row_behind header)
row_drawn s p v (Screen wide high kind) pixels is size few south row = absurd row
row_drawn s p v (Run segment) pixels is size few south row = run_drawn s p v segment pixels is size few south row.0 row.2 row.1
row_drawn s p v (Fill segment) pixels is size few south row = fill_drawn s p v segment pixels is size few south row.0 row.2 row.1
row_drawn s p v (Cut number) pixels is size few south row = absurd row

rows_drawn : (s : Standing) (p : Picture) (v : ℕ) (rows : List Record) → s.screen ≡ Some p → IsScreenSize p.size → s.cuts < most_groups → s.south ≤ v →
    AreRowRecords p v rows → IsDrawn s rows (with_rows_drawn p rows) (after_records s rows).south
rows_drawn s p v [] is size few south a = record { sound = tt; cuts = refl; screen = is; south = omega arith; shown = refl }
rows_drawn s p v (r ∷ rs) is size few south a =
    let q : Picture = drawn_by p r.header r.pixels in
    let t : Standing = after_record s r.header r.pixels in
    let same = drawn_by-format p r.header r.pixels in
    let one : IsDrawn s (r ∷ []) q (row_behind r.header) = row_drawn s p v r.header r.pixels is size few south a.0 in
    let later : AreRowRecords q (row_behind r.header) rs = rows_other p q (sym same.0) (sym same.1) (row_behind r.header) rs a.1 in
    let more : IsDrawn t rs (with_rows_drawn q rs) (after_records t rs).south =
    rows_drawn t q (row_behind r.header) rs one.screen (subst IsScreenSize (sym same.0) size) (omega (arith, one.cuts)) one.south later in
    IsDrawn-append s (r ∷ []) rs q (with_rows_drawn q rs) (row_behind r.header) (after_records t rs).south one more

-- a group of the grammar is one that a reader takes
module _ (s : Standing) (number : ℕ) (base : Picture) (rows : List Record) (sized : (p : Picture) → s.screen ≡ Some p → IsScreenSize p.size)
    (within : s.within ≡ false) (south : s.south ≡ 0) (next : s.cuts + 1 ≡ number) (few : number ≤ most_groups) (a : AreRowRecords base 0 rows) where
  record IsTaken (first : List Record) : Type 0 where
    group : IsGroup s (first ++ (rows ++ cut_record number ∷ [])) (with_rows_drawn base rows)
    size : IsScreenSize base.size

  group_taken : (first : List Record) → BeginsWith s.screen first base → IsTaken first
  group_taken [] is =
      let size : IsScreenSize base.size = sized base is in
      let d : IsDrawn s rows (with_rows_drawn base rows) (after_records s rows).south = rows_drawn s base 0 rows is size (omega arith) (omega arith) a in
      record { group = closed s rows (with_rows_drawn base rows) number (after_records s rows).south d next few; size = size }
  group_taken (r ∷ []) b =
      let size : IsScreenSize base.size = b.2 in
      let opened : IsDrawn s (screen_record base ∷ []) (blank_of base.size base.kind) 0 = screen_drawn base s size within (omega arith) in
      let blank : IsDrawn s (screen_record base ∷ []) base 0 = subst (λ p. IsDrawn s (screen_record base ∷ []) p 0) (sym b.1) opened in
      let one : IsDrawn s (r ∷ []) base 0 = subst (λ x. IsDrawn s (x ∷ []) base 0) (sym b.0) blank in
      let t : Standing = after_records s (r ∷ []) in
      let d : IsDrawn t rows (with_rows_drawn base rows) (after_records t rows).south =
      rows_drawn t base 0 rows one.screen size (omega (arith, one.cuts)) one.south a in
      let e : IsDrawn s (r ∷ rows) (with_rows_drawn base rows) (after_records t rows).south =
      IsDrawn-append s (r ∷ []) rows base (with_rows_drawn base rows) 0 (after_records t rows).south one d in
      record { group = closed s (r ∷ rows) (with_rows_drawn base rows) number (after_records t rows).south e next few; size = size }
  group_taken (r ∷ q ∷ more) b = absurd b

-- the records of groups are taken, and show their screens
record AreTaken (s : Standing) (groups : List (List Record)) (screens : List Picture) : Type 0 where
  sound : AreSound s (flat groups)
  within : (after_records s (flat groups)).within ≡ false
  cuts : (after_records s (flat groups)).cuts ≡ s.cuts + length groups
  shown : screens_by s (flat groups) ≡ screens

groups_taken : (s : Standing) (groups : List (List Record)) (screens : List Picture) → ((p : Picture) → s.screen ≡ Some p → IsScreenSize p.size) →
    s.within ≡ false → s.south ≡ 0 → s.cuts + length groups ≤ most_groups → AreGroups s.screen (s.cuts + 1) groups screens → AreTaken s groups screens
groups_taken s [] [] sized within south few a = record { sound = tt; within = within; cuts = omega arith; shown = refl }
groups_taken s [] (p ∷ ps) sized within south few a = absurd a
groups_taken s (g ∷ gs) [] sized within south few a = absurd a
groups_taken s (g ∷ gs) (now ∷ screens) sized within south few a =
    let k : IsGroupTo s.screen (s.cuts + 1) g now = a.0 in
    let made : Picture = with_rows_drawn k.base k.rows in
    let w : IsTaken s (s.cuts + 1) k.base k.rows sized within south refl (omega arith) k.are_rows k.first =
    group_taken s (s.cuts + 1) k.base k.rows sized within south refl (omega arith) k.are_rows k.first k.begins in
    let whole : IsGroup s g made = subst (λ l. IsGroup s l made) (sym k.parts) w.group in
    let one : IsGroup s g now = subst (λ p. IsGroup s g p) (sym k.leads) whole in
    let t : Standing = record { cuts = s.cuts + 1; screen = Some now; within = false; south = 0 } in
    let size : IsScreenSize now.size = subst IsScreenSize (sym (ap (λ (p : Picture). p.size) k.leads ∙ with_rows_drawn-size k.base k.rows)) w.size in
    let sized' : (p : Picture) → t.screen ≡ Some p → IsScreenSize p.size = λ p e. subst (λ (q : Picture). IsScreenSize q.size) (same_Some now p e) size in
    let rest : AreTaken t gs screens = groups_taken t gs screens sized' refl refl (omega arith) a.1 in
    let after : after_records s (g ++ flat gs) ≡ after_records t (flat gs) = after_all-append s g (flat gs) ∙ ap (λ u. after_records u (flat gs)) one.after in
    record {
      sound = AreSound-append s g (flat gs) one.sound (subst (λ u. AreSound u (flat gs)) (sym one.after) rest.sound);
      within = ap (λ (u : Standing). u.within) after ∙ rest.within;
      cuts = ap (λ (u : Standing). u.cuts) after ∙ omega (arith, rest.cuts);
      shown = screens_by-append s g (flat gs) ∙ ap (λ l. l ++ screens_by (after_records s g) (flat gs)) one.shown
          ∙ ap (λ u. now ∷ screens_by u (flat gs)) one.after ∙ ap (λ l. now ∷ l) rest.shown;
    }

-- ---- the law

limit_none : (b : Bool) (g : MirrorFault) (o : Option MirrorFault) → (if b then Some g else o) ≡ None → o ≡ None
limit_none true g o h = absurd (cc)
limit_none false g o h = h

end_none : (m : Reading) (o : Option MirrorFault) → fault_at_end m o ≡ None → (o ≡ None) × (is_between m ≡ true)
end_none m (Some f) h = absurd (cc)
end_none m None h = (refl, by_test (is_between m) (record { place = m.fed; fault = Unfinished }) h)
  where
    by_test : (b : Bool) (f : MirrorFault) → (if b then None else Some f) ≡ None → b ≡ true
    by_test true f h = refl
    by_test false f h = absurd (cc)

pub stream_to_groups : (stream : List ℕ) (screens : List Picture) → IsBytes stream → IsStream stream → screens_shown stream ≡ screens →
    IsRowOfGroups stream screens
stream_to_groups stream screens k is shown =
    let m : Reading = reading_of stream in
    let rs : List Record = records_of stream in
    let a : IsAllOf stream rs (rest_of stream) = records_of-all stream k in
    let ended : fault_at_end m (fault_in stream) ≡ None =
    limit_none (nat_lt longest_stream (length stream)) (record { place = 0; fault = TooMany }) (fault_at_end m (fault_in stream)) is in
    let e = end_none m (fault_in stream) ended in
    let b = and_parts (not m.standing.within) (length m.begun == 0) e.1 in
    let within : m.standing.within ≡ false = not-true m.standing.within b.0 in
    let begun : m.begun ≡ rest_of stream = ap (λ o. if is_some o then [] else rest_of stream) e.0 in
    let empty : rest_of stream ≡ [] = sym begun ∙ nil_from_length m.begun (eqb-true (length m.begun) 0 b.1) in
    let p : ArePlain stream_start rs = (split stream_start rs a.begins.sound within).plain refl refl in
    record {
      groups = p.groups;
      are_groups = subst (λ l. AreGroups None 1 p.groups l) shown p.are_groups;
      few = omega (arith, p.cuts, cuts_few stream_start rs a.begins.sound (omega arith));
      parts = a.begins.spelled_as ∙ ap (λ l. spelled rs ++ l) empty ∙ append-nil (spelled rs) ∙ ap (λ l. spelled l) p.parts;
    }

pub groups_to_stream : (stream : List ℕ) (screens : List Picture) → IsRowOfGroups stream screens → IsStream stream × (screens_shown stream ≡ screens)
groups_to_stream stream screens g =
    let m : Reading = reading_of stream in
    let rs : List Record = flat g.groups in
    let t : AreTaken stream_start g.groups screens =
    groups_taken stream_start g.groups screens (λ p e. absurd (cc)) refl refl (omega (arith, g.few)) g.are_groups in
    let s : Standing = after_records stream_start rs in
    let a : IsAllOf stream rs [] = record {
      begins = record { spelled_as = g.parts ∙ sym (append-nil (spelled rs)); sound = t.sound };
      ended = refl;
    } in
    let records : records_of stream ≡ rs = records_of-is stream rs [] a in
    let rest : rest_of stream ≡ [] = rest_of-is stream rs [] a in
    let none : fault_in stream ≡ None = fault_in-is stream rs [] a
    ∙ ap (λ o. option_map (λ fault. record { place = length (spelled rs); fault = fault }) o) (front_none s [] refl) in
    let n : ℕ = 0 + length (spelled rs) in
    let nothing : IsBounded stream_start 0 = record { cuts = omega arith; spent = omega arith; south = omega arith; sized = λ p e. absurd (cc) } in
    let k : IsBounded s n = bounded_all stream_start 0 rs nothing t.sound in
    let most : n ≤ 1055755 * s.cuts + 0 = subst (λ b. n ≤ 1055755 * s.cuts + (if b then 6 + 1031 * s.south else 0)) t.within k.spent in
    let short : length stream ≤ longest_stream = omega (arith, ap (λ l. length l) g.parts, t.cuts, g.few) in
    let within : m.standing.within ≡ false = ap (λ l. (after_records stream_start l).within) records ∙ t.within in
    let begun : m.begun ≡ [] = ap (λ o. if is_some o then [] else rest_of stream) none ∙ rest in
    let between : is_between m ≡ true = and_from (not m.standing.within) (length m.begun == 0) (not_from_false m.standing.within within)
    (eq-eqb (length m.begun) 0 (ap (λ l. length l) begun)) in (
      ap (λ b. if b then Some (record { place = 0; fault = TooMany }) else fault_at_end m (fault_in stream)) (le-ltb longest_stream (length stream) short)
          ∙ ap (λ o. fault_at_end m o) none ∙ ap (λ b. if b then None else Some (record { place = m.fed; fault = Unfinished })) between,
      ap (λ l. screens_by stream_start l) records ∙ t.shown,
    )
