-- How many bytes and cuts whole records can have, and which screen they leave.
use Rattle.std.proofs.Common.{◌≡◌, ◌≢◌, ℕ, ◌+◌, ◌*◌, ◌≤◌, ◌==◌, ◌||◌, ◌&&◌, Bool, true, false, List, Option, Some, None, option_map, refl, subst, arith, if◌then◌else◌, is_none, nat_lt, nat_le}
use Rattle.std.proofs.lemmas.Bool.{eqb-false, ltb-false, ltb-true, leb-true, not-false, and_parts, or_parts}
use Rattle.std.proofs.lemmas.Option.{same_Some}
use Rattle.tr_base.specs.Rects.{IsScreenSize}
use Rattle.tr_screen.specs.Pictures.{Picture}
use Rattle.tr_mirror.specs.declared.headers.Segment.{Segment}
use Rattle.tr_mirror.specs.declared.headers.Header.{Header}
use Rattle.tr_mirror.specs.declared.headers.Header.TheVariants.{Screen, Run, Fill, Cut}
use Rattle.tr_mirror.specs.Headers.{tag_of, header_len, header_of, pixel_count}
use Rattle.tr_mirror.specs.Standings.{Standing, most_groups, after_record, pixels_written, header_fault, is_segment_on}
use Rattle.tr_mirror.specs.Automata.{IsBounded}
use Rattle.tr_mirror.specs.Changes.{IsOnLargest, WritesOnLargest}
use Rattle.tr_mirror.proofs.HeaderLemmas.{no_fault, screen_range}

-- how many bytes a header has
abbrev pub len_of : Header → ℕ
len_of (Screen wide high kind) = 6
len_of (Run segment) = 7
len_of (Fill segment) = 7
len_of (Cut number) = 5

len_by_tag : (t u v : Bool) (wide high kind number : ℕ) (segment : Segment) →
    (if t then 6 else if u || v then 7 else 5) ≡ len_of (if t then Screen wide high kind else if u then Run segment else if v then Fill segment else Cut number)
len_by_tag true u v wide high kind number segment = refl
len_by_tag false true v wide high kind number segment = refl
len_by_tag false false true wide high kind number segment = refl
len_by_tag false false false wide high kind number segment = refl

pub header_len-is : (bytes : List ℕ) → header_len bytes ≡ len_of (header_of bytes)
unfolding header_of
header_len-is bytes = len_by_tag (tag_of bytes == 1) (tag_of bytes == 2) (tag_of bytes == 3) _ _ _ _ _

-- ---- the screen

painted_sized : (o : Option Picture) (v west : ℕ) (pixels : List ℕ) → ((p : Picture) → o ≡ Some p → IsScreenSize p.size) →
    (p : Picture) → option_map (λ q. pixels_written q v west pixels) o ≡ Some p → IsScreenSize p.size
unfolding pixels_written
painted_sized None v west pixels sized p h = absurd (cc)
painted_sized (Some q) v west pixels sized p h = subst (λ (r : Picture). IsScreenSize r.size) (same_Some _ _ h) (sized q refl)

-- a record leaves a screen of a possible size
after_sized : (s : Standing) (header : Header) (pixels : List ℕ) → header_fault s header ≡ None →
    ((p : Picture) → s.screen ≡ Some p → IsScreenSize p.size) →
    (p : Picture) → (after_record s header pixels).screen ≡ Some p → IsScreenSize p.size
unfolding after_record
after_sized s (Screen wide high kind) pixels sound sized p h =
    subst (λ (r : Picture). IsScreenSize r.size) (same_Some _ _ h) (screen_range s wide high kind sound).0
after_sized s (Run segment) pixels sound sized p h = painted_sized s.screen segment.v segment.west _ sized p h
after_sized s (Fill segment) pixels sound sized p h = painted_sized s.screen segment.v segment.west _ sized p h
after_sized s (Cut number) pixels sound sized p h = sized p h

segment_on : (o : Option Picture) (segment : Segment) → is_segment_on o segment ≡ true → ((p : Picture) → o ≡ Some p → IsScreenSize p.size) →
    IsOnLargest segment
segment_on None segment h sized = absurd (cc)
segment_on (Some p) segment h sized =
    let a = and_parts (nat_lt segment.v p.size.high) (nat_lt 0 segment.count && nat_le (segment.west + segment.count) p.size.wide) h in
    let b = and_parts (nat_lt 0 segment.count) (nat_le (segment.west + segment.count) p.size.wide) a.1 in
    let k = sized p refl in
    let below = ltb-true segment.v p.size.high a.0 in
    let within = leb-true (segment.west + segment.count) p.size.wide b.1 in
    record { row = omega (arith, k.high); columns = omega (arith, k.wide) }

-- ---- the bytes

spent_row : (b : Bool) (cuts south v fed n : ℕ) → fed ≤ 1055755 * cuts + (if b then 6 + 1031 * south else 0) → south ≤ v → n ≤ 1031 →
    fed + n ≤ 1055755 * cuts + (6 + 1031 * (v + 1))
spent_row true cuts south v fed n a b c = omega arith
spent_row false cuts south v fed n a b c = omega arith

spent_cut : (b : Bool) (cuts south fed : ℕ) → fed ≤ 1055755 * cuts + (if b then 6 + 1031 * south else 0) → south ≤ 1024 → fed + 5 ≤ 1055755 * (cuts + 1) + 0
spent_cut true cuts south fed a b = omega arith
spent_cut false cuts south fed a b = omega arith

spent_none : (b : Bool) (cuts south fed : ℕ) → fed ≤ 1055755 * cuts + (if b then 6 + 1031 * south else 0) → b ≡ false → fed ≤ 1055755 * cuts
spent_none true cuts south fed a b = absurd (cc)
spent_none false cuts south fed a b = omega arith

module _ (s : Standing) (fed : ℕ) (k : IsBounded s fed) where
  pub run_reach : (segment : Segment) → header_fault s (Run segment) ≡ None → IsOnLargest segment
  run_reach segment sound = segment_on s.screen segment (not-false (is_segment_on s.screen segment) (no_fault s (Run segment) sound).2) k.sized

  pub fill_reach : (segment : Segment) → header_fault s (Fill segment) ≡ None → IsOnLargest segment
  fill_reach segment sound = segment_on s.screen segment (not-false (is_segment_on s.screen segment) (no_fault s (Fill segment) sound).2) k.sized

  -- a record writes pixels of the largest screen
  pub writes_on_largest : (header : Header) → header_fault s header ≡ None → WritesOnLargest header
  writes_on_largest (Screen wide high kind) sound = tt
  writes_on_largest (Run segment) sound = run_reach segment sound
  writes_on_largest (Fill segment) sound = fill_reach segment sound
  writes_on_largest (Cut number) sound = tt

  -- the longest record has 1031 bytes
  pub count_range : (header : Header) → header_fault s header ≡ None → pixel_count header ≤ 1024
  count_range (Screen wide high kind) sound = omega arith
  count_range (Run segment) sound = omega (arith, (run_reach segment sound).columns)
  count_range (Fill segment) sound = omega arith
  count_range (Cut number) sound = omega arith

  -- with a record more
  pub IsBounded-after : (header : Header) (pixels : List ℕ) → header_fault s header ≡ None →
      IsBounded (after_record s header pixels) (fed + (len_of header + pixel_count header))
  unfolding after_record
  IsBounded-after (Screen wide high kind) pixels sound =
      let first = spent_none s.within s.cuts s.south fed k.spent (no_fault s (Screen wide high kind) sound).1 in
      record { cuts = k.cuts; spent = omega arith; south = omega arith; sized = after_sized s (Screen wide high kind) pixels sound k.sized }
  IsBounded-after (Run segment) pixels sound =
      let f = no_fault s (Run segment) sound in
      let reach = run_reach segment sound in
      let rises = ltb-false segment.v s.south (or_parts (is_none s.screen) (nat_lt segment.v s.south) f.1).1 in
      record {
        cuts = k.cuts;
        spent = spent_row s.within s.cuts s.south segment.v fed (7 + segment.count) k.spent rises (omega (arith, reach.columns));
        south = omega (arith, reach.row);
        sized = after_sized s (Run segment) pixels sound k.sized;
      }
  IsBounded-after (Fill segment) pixels sound =
      let f = no_fault s (Fill segment) sound in
      let rises = ltb-false segment.v s.south (or_parts (is_none s.screen) (nat_lt segment.v s.south) f.1).1 in
      record {
        cuts = k.cuts;
        spent = spent_row s.within s.cuts s.south segment.v fed 8 k.spent rises (omega arith);
        south = omega (arith, (fill_reach segment sound).row);
        sized = after_sized s (Fill segment) pixels sound k.sized;
      }
  IsBounded-after (Cut number) pixels sound =
      let few : s.cuts ≢ most_groups = eqb-false s.cuts most_groups (no_fault s (Cut number) sound).0 in
      record {
        cuts = omega (arith, k.cuts);
        spent = spent_cut s.within s.cuts s.south fed k.spent k.south;
        south = omega arith;
        sized = after_sized s (Cut number) pixels sound k.sized;
      }
