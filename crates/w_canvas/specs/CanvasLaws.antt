-- A Canvas obeys the laws of clients.
-- These proofs are in specs/ because an impl may cite nothing else of its crate. No contract cites them.
use Rattle.std.proofs.Common.{◌≡◌, ℕ, ◌+◌, ◌-◌, ◌<◌, ◌≤◌, ◌&&◌, ℤ, pos, ◌+ℤ◌, ◌==◌, Bool, true, false, cond, List, [], ◌∷◌, ◌++◌, length, map, get_or, Option, Some, None, inl, inr, refl, sym, ap, subst, ◌∙◌, arith, append_assoc}
use Rattle.std.specs.Prelude.{nat_lt, slice_get, IfSome}
use Rattle.std.specs.List.{fold}
use Rattle.std.proofs.lemmas.List.{append-nil, length-append, length-take, take_all, take_more}
use Rattle.std.specs.List.{All}
use Rattle.std.proofs.lemmas.List.Elements.{All-append, All-take, All-from_recursion, All-head, All-tail}
use Rattle.std.proofs.lemmas.List.Sums.{fold-append}
use Rattle.std.proofs.lemmas.Int.{ints}
use Rattle.std.proofs.lemmas.Option.{slice_get_cases}
use Rattle.std.proofs.lemmas.Bool.{and_parts}
use borrow.Author.Tests.{ltb-true}
use Rattle.tr_base.specs.declared.Point.{Point}
use Rattle.tr_base.specs.declared.Size.{Size}
use Rattle.tr_base.specs.declared.Click.{Click}
use Rattle.tr_base.specs.declared.Click.TheVariants.{FirstDown}
use Rattle.tr_base.specs.declared.Event.{Event}
use Rattle.tr_base.specs.declared.Event.TheVariants.{Mouse, Key}
use Rattle.tr_base.specs.declared.Kind.{Kind}
use Rattle.tr_base.specs.declared.Op.{Op}
use Rattle.tr_base.specs.declared.Op.TheVariants.{Bg, Fg, Transparent, Set, Exchange as Exchanged}
use Rattle.tr_base.specs.Ops.{resolved, eff, opaque, IsPixel}
use Rattle.tr_base.proofs.OpLemmas.{pixel-bit, pixel-resolved, pixel-exchanged}
use Rattle.tr_base.specs.Layouts.{longest}
use Rattle.tr_base.specs.Rects.{Edges, between, empty_rect, has_point, meet_of, whole_of}
use Rattle.tr_base.proofs.RectLemmas.{has_point-meet_of}
use Rattle.tr_paint.specs.declared.Paint.{Paint}
use Rattle.tr_paint.specs.declared.Paint.TheVariants.{Tint}
use Rattle.tr_paint.specs.Traces.{Look, Deed, Keep, Lose, From, Value, Change, deed}
use Rattle.tr_paint.specs.Patches.{IsPatch}
use Rattle.tr_paint.specs.Batches.{kept, batch_of}
use Rattle.tr_paint.specs.Paintings.{IsPainting}
use Rattle.tr_paint.proofs.PatchLemmas.{Gives, no_patch, kept_patch}
use Rattle.tr_paint.proofs.PaintingLemmas.{Makes, painting_first, painting_more}
use Rattle.tr_client.specs.Laws.{IsWindowSize, is_flat, IsEvent, Survives}
use Rattle.tr_client.proofs.KeepingLemmas.{survives-meet}
use Rattle.tr_client.proofs.FlatLemmas.{flat-whole, meet-nothing}
use Rattle.tr_client.proofs.PlainLemmas.{meet-inside}
use Rattle.w_canvas.specs.declared.canvases.Figure.{Figure}
use Rattle.w_canvas.specs.declared.commands.CanvasCmd.{CanvasCmd}
use Rattle.w_canvas.specs.declared.commands.CanvasCmd.TheVariants.{Rect, Exchange, Undo}
use Rattle.w_canvas.specs.Canvases.{IsFigureOp, IsFigure, IsCanvas, IsCanvasCmd, most_figures, filled, exchanging, drawn_over, canvas_pic, with_figure, without_last, canvas_next, figure_paint, canvas_paints, with_patch, gone_patch, undo_patch, canvas_patch, is_drawable, square_at, backspace, click_answer, key_answer, canvas_answer, canvas_keeps}
use Rattle.w_canvas.specs.Areas.{IsFigureEdge, IsArea}
use Rattle.w_canvas.specs.AreaFacts.{area-rect_of}
use Rattle.w_canvas.specs.PartPatches.{part_patch}

-- the effect of a command with an operation on a pixel, by whether the point lies in its area
op-makes : (kind : Kind) (op : Op) (inside : Bool) (old : ℕ) →
    Makes kind (cond inside (cond (opaque op) (Value (eff kind op 0)) (Change op)) Keep) old (cond inside (eff kind op old) old)
op-makes kind Bg true old = refl
op-makes kind Fg true old = refl
op-makes kind Transparent true old = refl
op-makes kind (Set n) true old = refl
op-makes kind (Exchanged a b) true old = refl
op-makes kind op false old = refl

-- the command that paints a figure in a part has the figure's effect on each pixel of the part
figure-makes : (look : Look) (part : Edges) (f : Figure) (q : Point) (old : ℕ) → has_point part q ≡ true →
    Makes look.kind (deed look (figure_paint part f) q) old (drawn_over look.kind q old f)
figure-makes look part f q old here = rw (has_point-meet_of part f.area q, here) (op-makes look.kind f.op (has_point f.area q) old)

-- painting figures over a painted picture
figures-over : (look : Look) (part : Edges) (batch : List Paint) (start : Point → ℕ) (figures : List Figure) →
    IsPainting look part batch start →
    IsPainting look part (batch ++ batch_of (map (figure_paint part) figures)) (λ q. fold (drawn_over look.kind q) (start q) figures)
figures-over look part batch start [] painted = subst (λ (cs : List Paint). IsPainting look part cs start) (sym (append-nil batch)) painted
figures-over look part batch start (f ∷ figures) painted =
    subst (λ (cs : List Paint). IsPainting look part cs (λ q. fold (drawn_over look.kind q) (drawn_over look.kind q (start q) f) figures))
    (append_assoc batch (kept (figure_paint part f)) (batch_of (map (figure_paint part) figures)))
    (figures-over look part (batch ++ kept (figure_paint part f)) (λ q. drawn_over look.kind q (start q) f) figures
    (painting_more look part batch (figure_paint part f) start (λ q. drawn_over look.kind q (start q) f) painted
    (λ q here. figure-makes look part f q (start q) here) (meet-inside part f.area)))

pub canvas_painting : (look : Look) (size : Size) (part : Edges) (figures : List Figure) →
    IsPainting look part (canvas_paints part figures) (canvas_pic look size figures)
canvas_painting look size part figures =
    figures-over look part (kept (Tint part Bg)) (λ q. 0) figures
    (painting_first look part (Tint part Bg) (λ q. 0) (λ q here. rw here refl) (λ q h. h))

-- one more figure changes the picture at its points
pic-more : (look : Look) (size : Size) (figures : List Figure) (f : Figure) (q : Point) →
    canvas_pic look size (figures ++ f ∷ []) q ≡ drawn_over look.kind q (canvas_pic look size figures q) f
pic-more look size figures f q = fold-append (drawn_over look.kind q) 0 figures (f ∷ [])

-- a command that makes a colour at a point from the pixel there alone gives it, for any picture elsewhere
makes-gives : (kind : Kind) (size : Size) (d : Deed) (old : Point → ℕ) (q : Point) (new : ℕ) → Makes kind d (old q) new →
    Gives kind size d old q new
makes-gives kind size Keep old q new makes = makes
makes-gives kind size Lose old q new makes = tt
makes-gives kind size (From r) old q new makes = absurd makes
makes-gives kind size (Value x) old q new makes = makes
makes-gives kind size (Change op) old q new makes = makes

-- a new figure is painted over the others
with_patches : (look : Look) (size : Size) (figures : List Figure) (f : Figure) →
    IsPatch look size (with_patch size figures f) (canvas_pic look size figures) (canvas_pic look size (with_figure figures f))
with_patches look size figures f = by_room (nat_lt (length figures) most_figures)
  where
    old : Point → ℕ
    old = canvas_pic look size figures

    new : Point → ℕ
    new = canvas_pic look size (figures ++ f ∷ [])

    gives : (q : Point) → has_point (whole_of size) q ≡ true →
        Gives look.kind size (deed look (figure_paint (whole_of size) f) q) old q (new q)
    gives q here =
        rw (pic-more look size figures f q)
        (makes-gives look.kind size (deed look (figure_paint (whole_of size) f) q) old q _
        (figure-makes look (whole_of size) f q (old q) here))

    by_room : (b : Bool) →
        IsPatch look size (cond b (batch_of (figure_paint (whole_of size) f ∷ [])) []) (canvas_pic look size figures)
        (canvas_pic look size (cond b (figures ++ f ∷ []) figures))
    by_room true = subst (λ (cs : List Paint). IsPatch look size cs old new) (sym (append-nil (kept (figure_paint (whole_of size) f))))
        (kept_patch look size (figure_paint (whole_of size) f) old new gives)
    by_room false = no_patch look size old old (λ q here. refl)

-- the figures under the last one are painted anew in its rectangle
under_patches : (look : Look) (size : Size) (left : List Figure) (f : Figure) →
    IsPatch look size (gone_patch size left (Some f)) (canvas_pic look size (left ++ f ∷ [])) (canvas_pic look size left)
under_patches look size left f =
    part_patch look size (meet_of (whole_of size) f.area) (canvas_paints (meet_of (whole_of size) f.area) left)
    (canvas_pic look size (left ++ f ∷ [])) (canvas_pic look size left)
    (canvas_painting look size (meet_of (whole_of size) f.area) left) outside
  where
    outside : (q : Point) → has_point (whole_of size) q ≡ true → has_point (meet_of (whole_of size) f.area) q ≡ false →
        canvas_pic look size (left ++ f ∷ []) q ≡ canvas_pic look size left q
    outside q here apart =
        let away : has_point f.area q ≡ false =
        ap (λ b. b && has_point f.area q) (sym here) ∙ sym (has_point-meet_of (whole_of size) f.area q) ∙ apart in
        pic-more look size left f q ∙ rw away refl

-- a list with a last figure is the others and that one
split-last : (figures : List Figure) (f : Figure) → length figures - 1 < length figures → get_or figures (length figures - 1) f ≡ f →
    figures ≡ without_last figures ++ f ∷ []
split-last figures f some is =
    let count : length figures - 1 + 1 ≡ length figures = omega arith in
    sym (take_all (length figures - 1 + 1) figures (omega arith))
    ∙ take_more figures (length figures - 1) f some
    ∙ ap (λ (l : Figure). without_last figures ++ l ∷ []) is

-- the last figure is removed, or there is none
last_patches : (look : Look) (size : Size) (figures : List Figure) (f : Figure) → figures ≡ without_last figures ++ f ∷ [] →
    IsPatch look size (gone_patch size (without_last figures) (Some f))
    (canvas_pic look size figures) (canvas_pic look size (without_last figures))
last_patches look size figures f split =
    let left = without_last figures in
    let P : List Figure → Type 0 =
    λ all. IsPatch look size (gone_patch size left (Some f)) (canvas_pic look size all) (canvas_pic look size left) in
    subst P (sym split) (under_patches look size left f)

none_patches : (look : Look) (size : Size) (figures : List Figure) → length figures ≤ length figures - 1 →
    IsPatch look size [] (canvas_pic look size figures) (canvas_pic look size (without_last figures))
none_patches look size figures none =
    no_patch look size (canvas_pic look size figures) (canvas_pic look size (without_last figures))
    (λ q here. ap (λ (all : List Figure). canvas_pic look size all q) (sym (take_all (length figures - 1) figures none)))

undo_patches : (look : Look) (size : Size) (figures : List Figure) →
    IsPatch look size (undo_patch size figures) (canvas_pic look size figures) (canvas_pic look size (without_last figures))
undo_patches look size figures =
    let left = without_last figures in
    let P : Option Figure → Type 0 =
    λ gone. IsPatch look size (gone_patch size left gone) (canvas_pic look size figures) (canvas_pic look size left) in
    elim (slice_get_cases figures (length figures - 1)).1 [
      | inl some ↦ subst P (sym some.2) (last_patches look size figures some.0 (split-last figures some.0 some.1 some.3))
      | inr none ↦ subst P (sym none.1) (none_patches look size figures none.0)
    ]

-- one more figure, if there is room, keeps all in range
pub grown-valid : (x : List Figure) (f : Figure) → length x < most_figures → IsCanvas x → IsFigure f → IsCanvas (x ++ f ∷ [])
grown-valid x f room valid known = record {
  most = omega (arith, length-append x (f ∷ []), valid.most);
  each = All-append IsFigure x (f ∷ []) valid.each (All-from_recursion IsFigure (f ∷ []) (known, tt));
}

with-valid : (x : List Figure) (f : Figure) → IsCanvas x → IsFigure f → IsCanvas (with_figure x f)
with-valid x f valid known = by_room (nat_lt (length x) most_figures) refl
  where
    by_room : (b : Bool) → nat_lt (length x) most_figures ≡ b → IsCanvas (cond b (x ++ f ∷ []) x)
    by_room true room = grown-valid x f (ltb-true (length x) most_figures room) valid known
    by_room false full = valid

without-valid : (x : List Figure) → IsCanvas x → IsCanvas (without_last x)
without-valid x valid = record {
  most = omega (arith, length-take (length x - 1) x, valid.most);
  each = All-take IsFigure (length x - 1) x valid.each;
}

pub canvas_contents : (x : List Figure) (cmd : CanvasCmd) → IsCanvas x → IsCanvasCmd cmd → IsCanvas (canvas_next x cmd)
canvas_contents x (Rect area tint) valid known = with-valid x (filled area tint) valid known
canvas_contents x (Exchange area a b) valid known = with-valid x (exchanging area a b) valid known
canvas_contents x Undo valid known = without-valid x valid

-- the small square at a point of the greatest window is in range
square-valid : (at : Point) → is_drawable at ≡ true → IsArea (square_at at)
square-valid at drawable =
    let both = and_parts (between (pos 0) (pos longest) at.h) (between (pos 0) (pos longest) at.v) drawable in
    area-rect_of at.h (at.h +ℤ pos 2) at.v (at.v +ℤ pos 2) (here at.h both.0) (beyond at.h both.0) (here at.v both.1) (beyond at.v both.1)
  where
    here : (x : ℤ) → between (pos 0) (pos longest) x ≡ true → IsFigureEdge x
    here x within = record { low = grind (arith, ints); high = grind (arith, ints) }

    beyond : (x : ℤ) → between (pos 0) (pos longest) x ≡ true → IsFigureEdge (x +ℤ pos 2)
    beyond x within = record { low = grind (arith, ints); high = grind (arith, ints) }

click_answers : (click : Click) (at : Point) → IfSome (click_answer click at) (λ cmd. IsCanvasCmd cmd)
click_answers FirstDown at = by_test (is_drawable at) refl
  where
    by_test : (b : Bool) → is_drawable at ≡ b → IfSome (cond b (Some (Rect (square_at at) 1)) None) (λ cmd. IsCanvasCmd cmd)
    by_test true drawable = record { area = square-valid at drawable; op = omega arith }
    by_test false beside = tt
click_answers click at = tt

key_answers : (code : ℕ) → IfSome (key_answer code) (λ cmd. IsCanvasCmd cmd)
key_answers code = by_test (code == backspace)
  where
    by_test : (b : Bool) → IfSome (cond b (Some Undo) None) (λ cmd. IsCanvasCmd cmd)
    by_test true = tt
    by_test false = tt

pub canvas_answers : (x : List Figure) (event : Event) → IsCanvas x → IsEvent event →
    IfSome (canvas_answer x event) (λ cmd. IsCanvasCmd cmd)
canvas_answers x (Mouse time click button at) valid known = click_answers click at
canvas_answers x (Key time code) valid known = key_answers code
canvas_answers x event valid known = tt

pub canvas_patches : (look : Look) (size : Size) (x : List Figure) (cmd : CanvasCmd) → IsCanvas x → IsCanvasCmd cmd → IsWindowSize size →
    IsPatch look size (canvas_patch look size x cmd) (canvas_pic look size x) (canvas_pic look size (canvas_next x cmd))
canvas_patches look size x (Rect area tint) valid known small = with_patches look size x (filled area tint)
canvas_patches look size x (Exchange area a b) valid known small = with_patches look size x (exchanging area a b)
canvas_patches look size x Undo valid known small = undo_patches look size x

-- nothing is painted in an empty part
flat-kept : (f : Figure) → kept (figure_paint empty_rect f) ≡ []
flat-kept f = rw (meet-nothing f.area) refl

flat-figures : (figures : List Figure) → batch_of (map (figure_paint empty_rect) figures) ≡ []
flat-figures [] = refl
flat-figures (f ∷ figures) = rw (flat-kept f) (flat-figures figures)

pub canvas_empty_patches : (look : Look) (size : Size) (x : List Figure) (cmd : CanvasCmd) → IsCanvas x → IsCanvasCmd cmd →
    IsWindowSize size → is_flat size ≡ true → canvas_patch look size x cmd ≡ []
canvas_empty_patches look size x cmd valid known small flat = by_cmd cmd
  where
    drawn : (part : Edges) → part ≡ empty_rect → (f : Figure) (b : Bool) → cond b (batch_of (figure_paint part f ∷ [])) [] ≡ []
    drawn part is f true = rw (is, flat-kept f) refl
    drawn part is f false = refl

    gone : (part : Edges) → part ≡ empty_rect → (left : List Figure) (f : Figure) → canvas_paints (meet_of part f.area) left ≡ []
    gone part is left f =
        ap (λ (p : Edges). canvas_paints p left) (ap (λ (p : Edges). meet_of p f.area) is ∙ meet-nothing f.area) ∙ flat-figures left

    undone : (left : List Figure) (o : Option Figure) → gone_patch size left o ≡ []
    undone left None = refl
    undone left (Some f) = gone (whole_of size) (flat-whole size flat) left f

    by_cmd : (cmd : CanvasCmd) → canvas_patch look size x cmd ≡ []
    by_cmd (Rect area tint) = drawn (whole_of size) (flat-whole size flat) (filled area tint) (nat_lt (length x) most_figures)
    by_cmd (Exchange area a b) = drawn (whole_of size) (flat-whole size flat) (exchanging area a b) (nat_lt (length x) most_figures)
    by_cmd Undo = undone (without_last x) (slice_get x (length x - 1))

pub canvas_keeping : (look : Look) (from to : Size) (x : List Figure) → IsCanvas x → IsWindowSize from → IsWindowSize to →
    Survives (canvas_keeps x from to) from to (canvas_pic look from x) (canvas_pic look to x)
canvas_keeping look from to x valid small small' = survives-meet from to (canvas_pic look from x) (canvas_pic look to x) (λ q h k. refl)

-- a figure's operation leaves a value of the kind
op-kind : (kind : Kind) (op : Op) (old : ℕ) → IsFigureOp op → IsPixel kind old → IsPixel kind (eff kind op old)
op-kind kind (Set n) old byte known = pixel-resolved kind n byte
op-kind kind (Exchanged a b) old bytes known =
    pixel-exchanged kind (resolved kind a) (resolved kind b) old (pixel-resolved kind a bytes.0) (pixel-resolved kind b bytes.1) known
op-kind kind op old never known = absurd never

figures-kind : (kind : Kind) (q : Point) (old : ℕ) (figures : List Figure) → All IsFigure figures → IsPixel kind old →
    IsPixel kind (fold (drawn_over kind q) old figures)
figures-kind kind q old [] each known = known
figures-kind kind q old (f ∷ figures) each known =
    figures-kind kind q (drawn_over kind q old f) figures (All-tail IsFigure f figures each) (by_point (has_point f.area q))
  where
    by_point : (b : Bool) → IsPixel kind (cond b (eff kind f.op old) old)
    by_point true = op-kind kind f.op old (All-head IsFigure f figures each).op known
    by_point false = known

pub canvas_kinds : (look : Look) (size : Size) (x : List Figure) (p : Point) → IsCanvas x → IsWindowSize size →
    IsPixel look.kind (canvas_pic look size x p)
canvas_kinds look size x p valid small = figures-kind look.kind p 0 x valid.each (pixel-bit look.kind 0 (omega arith))
