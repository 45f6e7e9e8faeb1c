-- A Meter obeys the laws of clients.
-- These proofs are in specs/ because an impl may cite nothing else of its crate. No contract cites them.
use Rattle.std.proofs.Common.{◌≡◌, ℕ, ◌+◌, ◌*◌, ◌/◌, ◌<◌, ◌≤◌, ◌==◌, ◌&&◌, ℤ, pos, ◌-ℤ◌, ◌≤ℤ◌, ◌<ℤ◌, Bool, true, false, not, cond, List, [], ◌∷◌, ◌++◌, length, take, refl, sym, ap, subst, ◌∙◌, arith, eqb-true}
use Rattle.std.specs.Prelude.{nat_lt, int_le, slice_index, slice_set, unsigned_abs, IfSome}
use Rattle.std.specs.Int.{int_max}
use Rattle.std.proofs.lemmas.Int.{ints, clamps}
use Rattle.std.proofs.lemmas.Bool.Decides.{nat_tests}
use Rattle.std.proofs.lemmas.Bool.{eqb-false, and_parts}
use Rattle.std.proofs.lemmas.List.{get_or-set_same, get_or-set_other, length-set, length-take, get_or-take}
use borrow.Author.Tests.{ltb-true}
use Rattle.tr_base.specs.declared.Point.{Point}
use Rattle.tr_base.specs.declared.Size.{Size}
use Rattle.tr_base.specs.declared.Event.{Event}
use Rattle.tr_base.specs.declared.Event.TheVariants.{Key}
use Rattle.tr_base.specs.declared.Op.{Op}
use Rattle.tr_base.specs.declared.Op.TheVariants.{Bg, Fg}
use Rattle.tr_base.specs.Ops.{IsPixel}
use Rattle.tr_base.specs.Rects.{Edges, between, has_point, rect_of, whole_of, empty_rect}
use Rattle.tr_base.proofs.RectLemmas.{has_point-rect_of, has_point-meet_of}
use Rattle.tr_paint.specs.declared.Paint.{Paint}
use Rattle.tr_paint.specs.declared.Paint.TheVariants.{Tint}
use Rattle.tr_paint.specs.Traces.{Look, Keep, Value, deed}
use Rattle.tr_paint.specs.Patches.{IsPatch}
use Rattle.tr_paint.specs.Batches.{kept, batch_of}
use Rattle.tr_paint.proofs.PatchLemmas.{Gives, no_patch, kept_patch, two_patches}
use Rattle.tr_paint.specs.Paintings.{IsPainting}
use Rattle.tr_paint.proofs.PaintingLemmas.{Makes, painting_first, painting_more}
use Rattle.tr_client.proofs.PlainLemmas.{meet-inside, pixel-colour_of}
use Rattle.tr_client.specs.Laws.{IsWindowSize, is_flat, IsEvent, Survives}
use Rattle.tr_client.specs.Plain.{colour_of}
use Rattle.tr_client.proofs.KeepingLemmas.{survives-nothing}
use Rattle.tr_client.proofs.FlatLemmas.{flat-whole, meet-nothing}
use Rattle.w_meter.specs.declared.meters.MeterCmd.{MeterCmd}
use Rattle.w_meter.specs.declared.meters.MeterCmd.TheVariants.{Bar}
use Rattle.w_meter.specs.Meters.{IsMeter, IsMeterCmd, in_bar, meter_pic, meter_next, meter_patch, meter_answer, meter_keeps, rows_of, top_of}

-- a bar's columns are those whose number, divided by 8, is the bar's number
pub columns-are : (bar : ℕ) (h : ℤ) → pos 0 ≤ℤ h → between (pos (8 * bar)) (pos (8 * bar + 8)) h ≡ (unsigned_abs h / 8 == bar)
columns-are bar h first = grind (arith, ints, nat_tests)

-- a point of a part lies in the painted part of a bar's columns if it lies in the columns and between the two rows
pub rows-have : (part : Edges) (bar : ℕ) (north south : ℤ) (q : Point) → has_point part q ≡ true →
    has_point (rows_of part bar north south) q ≡ between (pos (8 * bar)) (pos (8 * bar + 8)) q.h && between north south q.v
rows-have part bar north south q here =
    has_point-meet_of part (rect_of (pos (8 * bar)) (pos (8 * bar + 8)) north south) q
    ∙ ap (λ b. b && has_point (rect_of (pos (8 * bar)) (pos (8 * bar + 8)) north south) q) here
    ∙ has_point-rect_of (pos (8 * bar)) (pos (8 * bar + 8)) north south q

-- a number at which the test `between` holds
pub record Lies (low high x : ℤ) : Type 0 where
  pub first : low ≤ℤ x
  pub last : x <ℤ high

pub lies-between : (low high x : ℤ) → between low high x ≡ true → Lies low high x
lies-between low high x h = record { first = grind (arith, ints); last = grind (arith, ints) }

pub lies-whole : (size : Size) (q : Point) → has_point (whole_of size) q ≡ true →
    Lies (pos 0) (pos size.wide) q.h × Lies (pos 0) (pos size.high) q.v
lies-whole size q here =
    let both = and_parts _ _ (sym (has_point-rect_of (pos 0) (pos size.wide) (pos 0) (pos size.high) q) ∙ here) in
    (lies-between _ _ _ both.0, lies-between _ _ _ both.1)

-- in a window the rows from a bar's top on lie in the bar, and the other rows lie above it
pub rows-below : (low high v : ℤ) → Lies (pos 0) high v → between (int_max low (pos 0)) high v ≡ int_le low v
rows-below low high v lies = let a = lies.first in let b = lies.last in grind (arith, ints, clamps)

pub rows-over : (low high v : ℤ) → Lies (pos 0) high v → between (pos 0) (int_max low (pos 0)) v ≡ not (int_le low v)
rows-over low high v lies = let a = lies.first in let b = lies.last in grind (arith, ints, clamps)

-- the first command gives background above the bar's new height, and changes nothing else
first-gives : (look : Look) (size : Size) (column low : Bool) (old : Point → ℕ) (q : Point) →
    Gives look.kind size (cond (column && not low) (Value 0) Keep) old q (cond (column && not low) 0 (old q))
first-gives look size column low old q = by_case (column && not low)
  where
    by_case : (b : Bool) → Gives look.kind size (cond b (Value 0) Keep) old q (cond b 0 (old q))
    by_case true = refl
    by_case false = refl

-- the second command gives the new picture, by whether the point lies in the bar's columns and below its height
second-gives : (look : Look) (size : Size) (column low other : Bool) (mid : Point → ℕ) (q : Point) (old : ℕ) →
    mid q ≡ cond (column && not low) 0 old → (column ≡ false → old ≡ colour_of other) → (column ≡ true → other ≡ low) →
    Gives look.kind size (cond (column && low) (Value 1) Keep) mid q (colour_of other)
second-gives look size true true other mid q old is apart same = ap colour_of (sym (same refl))
second-gives look size true false other mid q old is apart same = is ∙ ap colour_of (sym (same refl))
second-gives look size false low other mid q old is apart same = is ∙ apart refl

-- the heights of bars after one of them was set
pub set-here : (heights : List ℕ) (bar height : ℕ) → bar < length heights → slice_index (slice_set heights bar height) bar ≡ height
set-here heights bar height some = get_or-set_same heights bar height 0 some

pub set-elsewhere : (heights : List ℕ) (bar height other : ℕ) → (other ≡ bar → ⊥) →
    slice_index (slice_set heights bar height) other ≡ slice_index heights other
set-elsewhere heights bar height other apart = get_or-set_other heights bar other height 0 apart

-- a point lies in the bar of its column, by its row
abbrev in_nth : Size → List ℕ → ℕ → ℤ → Bool
in_nth size heights bar v = nat_lt bar (length heights) && int_le (pos size.high -ℤ pos (slice_index heights bar)) v

in_bar-nth : (size : Size) (heights : List ℕ) (q : Point) → pos 0 ≤ℤ q.h →
    in_bar size heights q ≡ in_nth size heights (unsigned_abs q.h / 8) q.v
in_bar-nth size heights q first =
    ap (λ b. b && (nat_lt (unsigned_abs q.h / 8) (length heights)
    && int_le (pos size.high -ℤ pos (slice_index heights (unsigned_abs q.h / 8))) q.v))
    (at_least q.h first)
  where
    at_least : (h : ℤ) → pos 0 ≤ℤ h → int_le (pos 0) h ≡ true
    at_least h first = grind (arith, ints)

nth-here : (size : Size) (heights : List ℕ) (bar height : ℕ) (v : ℤ) → bar < length heights →
    in_nth size (slice_set heights bar height) bar v ≡ int_le (pos size.high -ℤ pos height) v
nth-here size heights bar height v some =
    let long : nat_lt bar (length (slice_set heights bar height)) ≡ true =
    rw (length-set heights bar height) (grind (arith, nat_tests)) in
    rw (long, set-here heights bar height some) refl

nth-elsewhere : (size : Size) (heights : List ℕ) (bar height other : ℕ) (v : ℤ) → (other ≡ bar → ⊥) →
    in_nth size heights other v ≡ in_nth size (slice_set heights bar height) other v
nth-elsewhere size heights bar height other v apart = rw (length-set heights bar height, set-elsewhere heights bar height other apart) refl

set_patches : (look : Look) (size : Size) (heights : List ℕ) (bar height : ℕ) → bar < length heights →
    (let top = top_of size height in
    IsPatch look size
    (kept (Tint (rows_of (whole_of size) bar (pos 0) top) Bg)
    ++ (kept (Tint (rows_of (whole_of size) bar top (pos size.high)) Fg) ++ []))
    (meter_pic look size heights) (meter_pic look size (slice_set heights bar height)))
set_patches look size heights bar height some =
    two_patches look size (kept above) (kept below ++ []) old mid new
    (kept_patch look size above old mid (λ q here. first q here))
    (two_patches look size (kept below) [] mid new new
    (kept_patch look size below mid new (λ q here. second q here))
    (no_patch look size new new (λ q here. refl)))
  where
    top : ℤ
    top = top_of size height

    low : Point → Bool
    low q = int_le (pos size.high -ℤ pos height) q.v

    column : Point → Bool
    column q = unsigned_abs q.h / 8 == bar

    above : Paint
    above = Tint (rows_of (whole_of size) bar (pos 0) (top_of size height)) Bg

    below : Paint
    below = Tint (rows_of (whole_of size) bar (top_of size height) (pos size.high)) Fg

    old : Point → ℕ
    old = meter_pic look size heights

    new : Point → ℕ
    new = meter_pic look size (slice_set heights bar height)

    mid : Point → ℕ
    mid q = cond (unsigned_abs q.h / 8 == bar && not (int_le (pos size.high -ℤ pos height) q.v)) 0 (meter_pic look size heights q)

    first : (q : Point) → has_point (whole_of size) q ≡ true → Gives look.kind size (deed look above q) old q (mid q)
    first q here =
        let lies = lies-whole size q here in
        let are : has_point (rows_of (whole_of size) bar (pos 0) (top_of size height)) q
        ≡ (unsigned_abs q.h / 8 == bar) && not (int_le (pos size.high -ℤ pos height) q.v) =
        rows-have (whole_of size) bar (pos 0) (top_of size height) q here
        ∙ rw (columns-are bar q.h lies.0.first, rows-over (pos size.high -ℤ pos height) (pos size.high) q.v lies.1) refl in
        rw are (first-gives look size (unsigned_abs q.h / 8 == bar) (int_le (pos size.high -ℤ pos height) q.v) old q)

    second : (q : Point) → has_point (whole_of size) q ≡ true → Gives look.kind size (deed look below q) mid q (new q)
    second q here =
        let lies = lies-whole size q here in
        let k = unsigned_abs q.h / 8 in
        let are : has_point (rows_of (whole_of size) bar (top_of size height) (pos size.high)) q
        ≡ (k == bar) && int_le (pos size.high -ℤ pos height) q.v =
        rows-have (whole_of size) bar (top_of size height) (pos size.high) q here
        ∙ rw (columns-are bar q.h lies.0.first, rows-below (pos size.high -ℤ pos height) (pos size.high) q.v lies.1) refl in
        let nth = in_bar-nth size (slice_set heights bar height) q lies.0.first in
        rw (are, nth)
        (second-gives look size (k == bar) (int_le (pos size.high -ℤ pos height) q.v)
        (in_nth size (slice_set heights bar height) k q.v) mid q (old q) refl
        (λ apart. ap colour_of
        (in_bar-nth size heights q lies.0.first ∙ nth-elsewhere size heights bar height k q.v (eqb-false k bar apart)))
        (λ same. subst (λ (n : ℕ). in_nth size (slice_set heights bar height) n q.v ≡ int_le (pos size.high -ℤ pos height) q.v)
        (sym (eqb-true k bar same)) (nth-here size heights bar height q.v some)))

pub meter_contents : (x : List ℕ) (cmd : MeterCmd) → IsMeter x → IsMeterCmd cmd → IsMeter (meter_next x cmd)
meter_contents x (Bar bar height) valid known = by_test (nat_lt bar (length x))
  where
    long : length (slice_set x bar height) ≡ length x
    long = length-set x bar height

    by_test : (b : Bool) → IsMeter (cond b (slice_set x bar height) x)
    by_test true = record { some = rw (length-set x bar height) valid.some; most = rw (length-set x bar height) valid.most }
    by_test false = valid

pub meter_answers : (x : List ℕ) (event : Event) → IsMeter x → IsEvent event → IfSome (meter_answer x event) (λ cmd. IsMeterCmd cmd)
meter_answers x (Key time code) valid known = record { number = omega arith; byte = known.1 }
meter_answers x event valid known = tt

pub meter_patches : (look : Look) (size : Size) (x : List ℕ) (cmd : MeterCmd) → IsMeter x → IsMeterCmd cmd → IsWindowSize size →
    IsPatch look size (meter_patch look size x cmd) (meter_pic look size x) (meter_pic look size (meter_next x cmd))
meter_patches look size x (Bar bar height) valid known small = by_test (nat_lt bar (length x)) refl
  where
    by_test : (b : Bool) → nat_lt bar (length x) ≡ b →
        IsPatch look size
        (cond b (batch_of (Tint (rows_of (whole_of size) bar (pos 0) (top_of size height)) Bg
        ∷ Tint (rows_of (whole_of size) bar (top_of size height) (pos size.high)) Fg ∷ [])) [])
        (meter_pic look size x) (meter_pic look size (cond b (slice_set x bar height) x))
    by_test true some = set_patches look size x bar height (ltb-true bar (length x) some)
    by_test false none = no_patch look size (meter_pic look size x) (meter_pic look size x) (λ q here. refl)

pub meter_empty_patches : (look : Look) (size : Size) (x : List ℕ) (cmd : MeterCmd) → IsMeter x → IsMeterCmd cmd → IsWindowSize size →
    is_flat size ≡ true → meter_patch look size x cmd ≡ []
meter_empty_patches look size x (Bar bar height) valid known small flat = by_test (nat_lt bar (length x))
  where
    nothing : (part : Edges) → part ≡ empty_rect → (north south : ℤ) (op : Op) → kept (Tint (rows_of part bar north south) op) ≡ []
    nothing part is north south op = rw (is, meet-nothing (rect_of (pos (8 * bar)) (pos (8 * bar + 8)) north south)) refl

    by_test : (b : Bool) →
        cond b (batch_of (Tint (rows_of (whole_of size) bar (pos 0) (top_of size height)) Bg
        ∷ Tint (rows_of (whole_of size) bar (top_of size height) (pos size.high)) Fg ∷ [])) []
        ≡ []
    by_test true =
        rw (
          nothing (whole_of size) (flat-whole size flat) (pos 0) (top_of size height) Bg,
          nothing (whole_of size) (flat-whole size flat) (top_of size height) (pos size.high) Fg,
        ) refl
    by_test false = refl

pub meter_keeping : (look : Look) (from to : Size) (x : List ℕ) → IsMeter x → IsWindowSize from → IsWindowSize to →
    Survives (meter_keeps x from to) from to (meter_pic look from x) (meter_pic look to x)
meter_keeping look from to x valid small small' = survives-nothing from to (meter_pic look from x) (meter_pic look to x)

pub meter_kinds : (look : Look) (size : Size) (x : List ℕ) (p : Point) → IsMeter x → IsWindowSize size →
    IsPixel look.kind (meter_pic look size x p)
meter_kinds look size x p valid small = pixel-colour_of look.kind (in_bar size x p)

-- a point lies in one of the first `n` bars if it lies in that bar of all bars
nth-take : (size : Size) (heights : List ℕ) (n bar : ℕ) (v : ℤ) → n ≤ length heights →
    in_nth size (take n heights) bar v ≡ nat_lt bar n && in_nth size heights bar v
nth-take size heights n bar v some = by_test (nat_lt bar n) refl
  where
    by_test : (b : Bool) → nat_lt bar n ≡ b →
        nat_lt bar (length (take n heights)) && int_le (pos size.high -ℤ pos (slice_index (take n heights) bar)) v
        ≡ b && (nat_lt bar (length heights) && int_le (pos size.high -ℤ pos (slice_index heights bar)) v)
    by_test true lt =
        let below : bar < n = ltb-true bar n lt in
        let here : nat_lt bar (length (take n heights)) ≡ true = rw (length-take n heights) (grind (arith, nat_tests)) in
        let all : nat_lt bar (length heights) ≡ true = grind (arith, nat_tests) in
        rw (here, all, get_or-take n heights bar 0 below) refl
    by_test false ge =
        let beyond : nat_lt bar (length (take n heights)) ≡ false = rw (length-take n heights) (grind (arith, nat_tests)) in
        rw beyond refl

-- after the next bar is painted, the picture is that of one more bar
bar-makes : (look : Look) (column low : Bool) (old new : Bool) → (column ≡ true → (old ≡ false) × (new ≡ low)) →
    (column ≡ false → old ≡ new) → Makes look.kind (cond (column && low) (Value 1) Keep) (colour_of old) (colour_of new)
bar-makes look true true old new is apart = ap colour_of (sym (is refl).1)
bar-makes look true false old new is apart = ap colour_of ((is refl).0 ∙ sym (is refl).1)
bar-makes look false low old new is apart = ap colour_of (apart refl)

pub bar_pushed : (look : Look) (size : Size) (part : Edges) (batch : List Paint) (heights : List ℕ) (bar : ℕ) →
    ((q : Point) → has_point part q ≡ true → has_point (whole_of size) q ≡ true) → bar < length heights →
    IsPainting look part batch (meter_pic look size (take bar heights)) →
    IsPainting look part (batch ++ kept (Tint (rows_of part bar (top_of size (slice_index heights bar)) (pos size.high)) Fg))
    (meter_pic look size (take (bar + 1) heights))
bar_pushed look size part batch heights bar inside some painted =
    painting_more look part batch (Tint (rows_of part bar (top_of size (slice_index heights bar)) (pos size.high)) Fg)
    (meter_pic look size (take bar heights)) (meter_pic look size (take (bar + 1) heights)) painted makes
    (meet-inside part (rect_of (pos (8 * bar)) (pos (8 * bar + 8)) (top_of size (slice_index heights bar)) (pos size.high)))
  where
    makes : (q : Point) → has_point part q ≡ true →
        Makes look.kind (deed look (Tint (rows_of part bar (top_of size (slice_index heights bar)) (pos size.high)) Fg) q)
        (meter_pic look size (take bar heights) q) (meter_pic look size (take (bar + 1) heights) q)
    makes q within =
        let lies = lies-whole size q (inside q within) in
        let k = unsigned_abs q.h / 8 in
        let low = int_le (pos size.high -ℤ pos (slice_index heights bar)) q.v in
        let are : has_point (rows_of part bar (top_of size (slice_index heights bar)) (pos size.high)) q ≡ (k == bar) && low =
        rows-have part bar (top_of size (slice_index heights bar)) (pos size.high) q within
        ∙ rw (
          columns-are bar q.h lies.0.first,
          rows-below (pos size.high -ℤ pos (slice_index heights bar)) (pos size.high) q.v lies.1,
        ) refl in
        let before = in_bar-nth size (take bar heights) q lies.0.first ∙ nth-take size heights bar k q.v (omega arith) in
        let after = in_bar-nth size (take (bar + 1) heights) q lies.0.first ∙ nth-take size heights (bar + 1) k q.v (omega arith) in
        rw (are, before, after)
        (bar-makes look (k == bar) low (nat_lt k bar && in_nth size heights k q.v) (nat_lt k (bar + 1) && in_nth size heights k q.v)
        (λ same. at_bar k q.v (eqb-true k bar same)) (λ apart. elsewhere k q.v (eqb-false k bar apart)))
      where
        at_bar : (k : ℕ) (v : ℤ) → k ≡ bar →
            (nat_lt k bar && in_nth size heights k v ≡ false)
            × (nat_lt k (bar + 1) && in_nth size heights k v ≡ int_le (pos size.high -ℤ pos (slice_index heights bar)) v)
        at_bar k v same =
            let not_before : nat_lt bar bar ≡ false = grind (arith, nat_tests) in
            let now : nat_lt bar (bar + 1) ≡ true = grind (arith, nat_tests) in
            let all : nat_lt bar (length heights) ≡ true = grind (arith, nat_tests) in
            rw same (rw not_before refl, rw (now, all) refl)

        elsewhere : (k : ℕ) (v : ℤ) → (k ≡ bar → ⊥) →
            nat_lt k bar && in_nth size heights k v ≡ nat_lt k (bar + 1) && in_nth size heights k v
        elsewhere k v apart =
            let same : nat_lt k bar ≡ nat_lt k (bar + 1) = grind (arith, nat_tests) in
            rw same refl

pub no_bars : (look : Look) (size : Size) (part : Edges) (heights : List ℕ) →
    IsPainting look part (kept (Tint part Bg)) (meter_pic look size (take 0 heights))
no_bars look size part heights =
    painting_first look part (Tint part Bg) (meter_pic look size [])
    (λ q here. rw here (ap (λ b. Value (colour_of b)) (sym (none q)))) (λ q h. h)
  where
    and_false : (b : Bool) → b && false ≡ false
    and_false true = refl
    and_false false = refl

    none : (q : Point) → in_bar size [] q ≡ false
    none q = let never : nat_lt (unsigned_abs q.h / 8) 0 ≡ false = grind (arith, nat_tests) in rw never (and_false (int_le (pos 0) q.h))
