-- What is painted by brushes is what the commands do.
use Rattle.std.proofs.Common.{◌≡◌, ℕ, ◌*◌, ◌<◌, ℤ, pos, ◌+ℤ◌, ◌-ℤ◌, Bool, true, false, ◌&&◌, cond, List, [], ◌∷◌, length, get_or, zero, suc, refl, sym, ap, ◌∙◌, arith}
use Rattle.std.specs.List.{AllZip}
use Rattle.std.proofs.lemmas.Int.{ints}
use Rattle.std.proofs.lemmas.Bool.{and_parts}
use Rattle.tr_base.specs.declared.Point.{Point}
use Rattle.tr_base.specs.declared.Size.{Size}
use Rattle.tr_base.specs.declared.Kind.{Kind}
use Rattle.tr_base.specs.declared.Pair.{Pair}
use Rattle.tr_base.specs.declared.Op.{Op}
use Rattle.tr_base.specs.declared.Op.TheVariants.{Bg, Fg, Transparent, Set, Exchange}
use Rattle.tr_base.specs.Ops.{eff, opaque}
use Rattle.tr_base.specs.Rects.{Edges, between, before_shift, has_point, meet_of, rect_of, shifted, whole_of}
use Rattle.tr_base.proofs.RectLemmas.{has_point-meet_of, has_point-rect_of, has_point-shifted}
use Rattle.tr_screen.specs.Pictures.{Picture, pixel_of}
use Rattle.tr_screen.specs.Runs.{Repaints}
use Rattle.tr_paint.specs.Paints.{cells_of}
use Rattle.tr_exec.specs.Executions.{screen_point}
use Rattle.tr_exec.proofs.PlacedLemmas.{before-both}

-- the points of an area that is cut by where a picture lies are points of the picture
pub pixels_within : (a clip : Edges) (size : Size) (origin delta : Point) →
    ((p : Point) → has_point a p ≡ has_point (meet_of clip (shifted (whole_of size) delta)) (before_shift p origin)) →
    (p : Point) → has_point a p ≡ true → has_point (whole_of size) (before_shift p (screen_point origin delta)) ≡ true
pixels_within a clip size origin delta area p on =
    let q = before_shift p origin in
    let cut = sym (has_point-meet_of clip (shifted (whole_of size) delta) q) ∙ sym (area p) ∙ on in
    ap (λ (r : Point). has_point (whole_of size) r) (sym (before-both origin p delta)) ∙ sym (has_point-shifted (whole_of size) delta q) ∙ (and_parts _ _ cut).1

-- a coordinate from an edge on is counted from it
pub between_from : (a x : ℤ) (n : ℕ) → between a (a +ℤ pos n) x ≡ between (pos 0) (pos n) (x -ℤ a)
between_from a x n = grind (arith, ints)

-- the points of an area that is cut by a text's cells are points of the cells
pub text_within : (a clip : Edges) (n : ℕ) (origin at : Point) →
    ((p : Point) → has_point a p ≡ has_point (meet_of clip (cells_of at n)) (before_shift p origin)) →
    (p : Point) → has_point a p ≡ true → has_point (rect_of (pos 0) (pos (8 * n)) (pos 0) (pos 8)) (before_shift p (screen_point origin at)) ≡ true
text_within a clip n origin at area p on =
    let q = before_shift p origin in
    let cut = sym (has_point-meet_of clip (cells_of at n) q) ∙ sym (area p) ∙ on in
    let cells = sym (has_point-rect_of at.h (at.h +ℤ pos (8 * n)) at.v (at.v +ℤ pos 8) q) ∙ (and_parts _ _ cut).1 in
    ap (λ (r : Point). has_point (rect_of (pos 0) (pos (8 * n)) (pos 0) (pos 8)) r) (sym (before-both origin p at))
    ∙ has_point-rect_of (pos 0) (pos (8 * n)) (pos 0) (pos 8) (before_shift q at)
    ∙ ap (λ b. b && between (pos 0) (pos 8) (q.v -ℤ at.v)) (sym (between_from at.h q.h (8 * n)))
    ∙ ap (λ b. between at.h (at.h +ℤ pos (8 * n)) q.h && b) (sym (between_from at.v q.v 8)) ∙ cells

-- the same points, and the same pixels
pub repaints_as : (test other : Point → Bool) (f g : Point → ℕ) (old new : Picture) → Repaints test f old new →
    ((p : Point) → other p ≡ test p) → ((p : Point) → g p ≡ f p) → Repaints other g old new
repaints_as test other f g old new h same pixels = record {
  size = h.size;
  kind = h.kind;
  points = λ p on. h.points p on ∙ ap (λ b. cond b (f p) (pixel_of old p)) (sym (same p)) ∙ ap (λ x. cond (other p) x (pixel_of old p)) (sym (pixels p));
}

-- nothing changes where each point gets its own pixel
pub repaints_own : (test : Point → Bool) (old : Picture) → Repaints test (λ p. pixel_of old p) old old
repaints_own test old = record { size = refl; kind = refl; points = λ p on. either (test p) (pixel_of old p) }
  where
    either : (b : Bool) (x : ℕ) → x ≡ cond b x x
    either true x = refl
    either false x = refl

-- what holds of two lists place by place holds at a place
pub zip_at : {A B : Type 0} (R : A → B → Type 0) (xs : List A) (ys : List B) (i : ℕ) (x : A) (y : B) → AllZip R xs ys → i < length xs →
    x ≡ get_or xs i x → y ≡ get_or ys i y → R x y
zip_at R [] ys i x y all below is_x is_y = absurd (omega arith)
zip_at R (a ∷ xs) [] i x y all below is_x is_y = absurd all
zip_at R (a ∷ xs) (b ∷ ys) zero x y all below is_x is_y = rw (is_x, is_y) all.0
zip_at R (a ∷ xs) (b ∷ ys) (suc i) x y all below is_x is_y = zip_at R xs ys i x y all.1 (omega (arith, below)) is_x is_y

-- where an operation is opaque, what it leaves doesn't depend on the old pixel
pub opaque-eff : (kind : Kind) (op : Op) (old : ℕ) → opaque op ≡ true → eff kind op old ≡ eff kind op 0
opaque-eff kind Bg old h = refl
opaque-eff kind Fg old h = refl
opaque-eff kind Transparent old h = absurd cc
opaque-eff kind (Set n) old h = refl
opaque-eff kind (Exchange a b) old h = absurd cc

-- two opaque operations write two colours
pub two_colours : (kind : Kind) (ops : Pair) (bit : Bool) (old : ℕ) → opaque ops.one ≡ true → opaque ops.zero ≡ true →
    eff kind (cond bit ops.one ops.zero) old ≡ cond bit (eff kind ops.one 0) (eff kind ops.zero 0)
two_colours kind ops true old one other = opaque-eff kind ops.one old one
two_colours kind ops false old one other = opaque-eff kind ops.zero old other
