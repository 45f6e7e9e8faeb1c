-- A Counter obeys the laws of clients.
-- These proofs are in specs/ because an impl may cite nothing else of its crate. No contract cites them.
use Rattle.std.proofs.Common.{◌≡◌, ℕ, ◌+◌, ◌<◌, ◌≤◌, ◌^◌, ◌==◌, ◌&&◌, min, ℤ, pos, Bool, true, false, cond, [], ◌∷◌, Some, None, refl, ap, ◌∙◌, arith}
use Rattle.std.specs.Prelude.{IfSome}
use Rattle.std.proofs.lemmas.Int.{ints}
use Rattle.std.proofs.lemmas.Bool.{and_parts}
use Rattle.tr_base.specs.declared.Point.{Point}
use Rattle.tr_base.specs.declared.Size.{Size}
use Rattle.tr_base.specs.declared.Event.{Event}
use Rattle.tr_base.specs.declared.Event.TheVariants.{Mouse, Key}
use Rattle.tr_base.specs.declared.Click.{Click}
use Rattle.tr_base.specs.declared.Click.TheVariants.{FirstDown}
use Rattle.tr_base.specs.declared.Kind.{Kind}
use Rattle.tr_base.specs.declared.Op.TheVariants.{Bg, Set}
use Rattle.tr_base.specs.Ops.{eff, IsPixel}
use Rattle.tr_base.proofs.OpLemmas.{pixel-bit, pixel-resolved}
use Rattle.tr_base.specs.Rects.{Edges, between, has_point, rect_of, whole_of}
use Rattle.tr_base.proofs.RectLemmas.{has_point-meet_of, has_point-rect_of}
use Rattle.tr_base.proofs.BoolLemmas.{and_true}
use Rattle.tr_paint.specs.declared.Paint.{Paint}
use Rattle.tr_paint.specs.declared.Paint.TheVariants.{Tint}
use Rattle.tr_paint.specs.Traces.{Look, Keep, Value, deed}
use Rattle.tr_paint.specs.Batches.{batch_of, kept}
use Rattle.tr_paint.specs.Patches.{IsPatch}
use Rattle.tr_paint.specs.Paintings.{IsPainting}
use Rattle.tr_paint.proofs.PatchLemmas.{Gives, kept_patch, no_patch, two_patches}
use Rattle.tr_paint.proofs.PaintingLemmas.{Makes, painting_alone, painting_pushed}
use Rattle.tr_client.specs.Laws.{IsWindowSize, is_flat, IsEvent, Survives}
use Rattle.tr_client.proofs.PlainLemmas.{meet-inside}
use Rattle.tr_client.proofs.KeepingLemmas.{survives-meet}
use Rattle.tr_client.proofs.FlatLemmas.{flat-whole, meet-nothing}
use Rattle.ex_counter.specs.declared.counters.Counter.{Counter}
use Rattle.ex_counter.specs.declared.counters.CounterCmd.{CounterCmd}
use Rattle.ex_counter.specs.declared.counters.CounterCmd.TheVariants.{Add}
use Rattle.ex_counter.specs.Counters.{IsCounter, IsCounterCmd, greatest, counter_next, counter_pic, columns_of, counter_paints, counter_patch, counter_keeps, plus, added_by_key, added_by_click, counter_answer}

-- ---- columns

-- a point of a part lies in some columns of the part, by the point's column alone
columns-have : (part : Edges) (from to : ℕ) (q : Point) → has_point part q ≡ true →
    has_point (columns_of part from to) q ≡ between (pos from) (pos to) q.h
columns-have part from to q here =
    has_point-meet_of part (rect_of (pos from) (pos to) part.north part.south) q
    ∙ ap (λ b. b && has_point (rect_of (pos from) (pos to) part.north part.south) q) here
    ∙ has_point-rect_of (pos from) (pos to) part.north part.south q
    ∙ ap (λ b. between (pos from) (pos to) q.h && b)
    (and_parts (between part.west part.east q.h) (between part.north part.south q.v) here).1
    ∙ and_true (between (pos from) (pos to) q.h)

-- the growth of a bar lies in the longer bar
grown-in : (low high : ℕ) (h : ℤ) → between (pos low) (pos high) h ≡ true → between (pos 0) (pos high) h ≡ true
grown-in low high h within = grind (arith, ints)

-- elsewhere both bars have the same columns
grown-beside : (low high : ℕ) (h : ℤ) → low ≤ high → between (pos low) (pos high) h ≡ false →
    between (pos 0) (pos low) h ≡ between (pos 0) (pos high) h
grown-beside low high h order beside = grind (arith, ints)

-- ---- the painting of a part

-- the bar over the background, by whether a point lies in the bar
bar_on_background-makes : (look : Look) (tint : ℕ) (bar : Bool) →
    Makes look.kind (cond bar (Value (eff look.kind (Set tint) 0)) Keep) 0 (eff look.kind (cond bar (Set tint) Bg) 0)
bar_on_background-makes look tint true = refl
bar_on_background-makes look tint false = refl

pub counter_painting : (look : Look) (size : Size) (part : Edges) (x : Counter) →
    IsPainting look part (counter_paints part x) (counter_pic look size x)
counter_painting look size part x =
    painting_pushed look part (Tint part Bg ∷ []) bar (λ q. 0) (counter_pic look size x)
    (painting_alone look part (Tint part Bg) (λ q. 0) (λ q here. rw here refl) (λ q h. h))
    (λ q here. makes q here)
    (meet-inside part (rect_of (pos 0) (pos x.count) part.north part.south))
  where
    bar : Paint
    bar = Tint (columns_of part 0 x.count) (Set x.tint)

    makes : (q : Point) → has_point part q ≡ true → Makes look.kind (deed look bar q) 0 (counter_pic look size x q)
    makes q here = rw (columns-have part 0 x.count q here) (bar_on_background-makes look x.tint (between (pos 0) (pos x.count) q.h))

-- ---- the laws

pub counter_contents : (x : Counter) (cmd : CounterCmd) → IsCounter x → IsCounterCmd cmd → IsCounter (counter_next x cmd)
counter_contents x (Add n) valid known = record { count = omega arith; tint = valid.tint }

added_by_click-valid : (click : Click) → IfSome (added_by_click click) (λ cmd. IsCounterCmd cmd)
added_by_click-valid FirstDown = omega arith
added_by_click-valid click = tt

added_by_key-valid : (code : ℕ) → IfSome (added_by_key code) (λ cmd. IsCounterCmd cmd)
added_by_key-valid code = by_test (code == plus)
  where
    by_test : (b : Bool) → IfSome (cond b (Some (Add 1)) None) (λ cmd. IsCounterCmd cmd)
    by_test true = omega arith
    by_test false = tt

pub counter_answers : (x : Counter) (event : Event) → IsCounter x → IsEvent event →
    IfSome (counter_answer x event) (λ cmd. IsCounterCmd cmd)
counter_answers x (Mouse time click button at) valid known = added_by_click-valid click
counter_answers x (Key time code) valid known = added_by_key-valid code
counter_answers x event valid known = tt

-- the painted columns have the tint in the longer bar, and the others didn't change
grown-gives : (look : Look) (size : Size) (tint : ℕ) (grown after before : Bool) (old : Point → ℕ) (q : Point) →
    old q ≡ eff look.kind (cond before (Set tint) Bg) 0 → (grown ≡ true → after ≡ true) → (grown ≡ false → before ≡ after) →
    Gives look.kind size (cond grown (Value (eff look.kind (Set tint) 0)) Keep) old q (eff look.kind (cond after (Set tint) Bg) 0)
grown-gives look size tint true after before old q is inside beside = rw (inside refl) refl
grown-gives look size tint false after before old q is inside beside = is ∙ ap (λ b. eff look.kind (cond b (Set tint) Bg) 0) (beside refl)

pub counter_patches : (look : Look) (size : Size) (x : Counter) (cmd : CounterCmd) → IsCounter x → IsCounterCmd cmd → IsWindowSize size →
    IsPatch look size (counter_patch look size x cmd) (counter_pic look size x) (counter_pic look size (counter_next x cmd))
counter_patches look size x (Add n) valid known small =
    two_patches look size (kept growth) [] old new new
    (kept_patch look size growth old new (λ q here. gives q here))
    (no_patch look size new new (λ q here. refl))
  where
    high : ℕ
    high = min (x.count + n) greatest

    growth : Paint
    growth = Tint (columns_of (whole_of size) x.count high) (Set x.tint)

    old : Point → ℕ
    old = counter_pic look size x

    new : Point → ℕ
    new = counter_pic look size (counter_next x (Add n))

    order : x.count ≤ min (x.count + n) greatest
    order = omega (arith, valid.count)

    gives : (q : Point) → has_point (whole_of size) q ≡ true → Gives look.kind size (deed look growth q) old q (new q)
    gives q here =
        rw (columns-have (whole_of size) x.count (min (x.count + n) greatest) q here)
        (grown-gives look size x.tint (between (pos x.count) (pos high) q.h) (between (pos 0) (pos high) q.h)
        (between (pos 0) (pos x.count) q.h) old q refl (grown-in x.count high q.h)
        (grown-beside x.count high q.h order))

pub counter_empty_patches : (look : Look) (size : Size) (x : Counter) (cmd : CounterCmd) → IsCounter x → IsCounterCmd cmd →
    IsWindowSize size → is_flat size ≡ true → counter_patch look size x cmd ≡ []
counter_empty_patches look size x (Add n) valid known small flat =
    ap (λ (part : Edges). batch_of (Tint (columns_of part x.count (min (x.count + n) greatest)) (Set x.tint) ∷ [])) (flat-whole size flat)
    ∙ ap (λ (part : Edges). batch_of (Tint part (Set x.tint) ∷ []))
    (meet-nothing (rect_of (pos x.count) (pos (min (x.count + n) greatest)) (pos 0) (pos 0)))

pub counter_keeping : (look : Look) (from to : Size) (x : Counter) → IsCounter x → IsWindowSize from → IsWindowSize to →
    Survives (counter_keeps x from to) from to (counter_pic look from x) (counter_pic look to x)
counter_keeping look from to x valid small small' = survives-meet from to (counter_pic look from x) (counter_pic look to x) (λ q h k. refl)

-- each kind has a value for a byte that is set, and has background
bar-kinds : (kind : Kind) (tint : ℕ) (bar : Bool) → tint < 2 ^ 8 → IsPixel kind (eff kind (cond bar (Set tint) Bg) 0)
bar-kinds kind tint true byte = pixel-resolved kind tint byte
bar-kinds kind tint false byte = pixel-bit kind 0 (omega arith)

pub counter_kinds : (look : Look) (size : Size) (x : Counter) (p : Point) → IsCounter x → IsWindowSize size →
    IsPixel look.kind (counter_pic look size x p)
counter_kinds look size x p valid small = bar-kinds look.kind x.tint (between (pos 0) (pos x.count) p.h) valid.tint
