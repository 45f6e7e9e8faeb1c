-- Lists whose first elements were replaced, and the screens of cuts.
use Rattle.std.proofs.Common.{◌≡◌, ℕ, zero, suc, ◌<◌, ◌≤◌, true, List, [], ◌∷◌, ◌++◌, length, take, drop, get_or, map, min, refl, sym, ap, ◌∙◌, arith}
use Rattle.std.specs.Prelude.{unsigned_abs}
use Rattle.std.specs.List.{list_all}
use Rattle.std.proofs.Math.ListN.{get_or-map, length-map, set}
use Rattle.std.proofs.lemmas.Bool.{and_from, and_parts, lt-ltb, ltb-true}
use Rattle.std.proofs.lemmas.List.Elements.{All-map}
use Rattle.tr_base.specs.declared.Point.{Point}
use Rattle.tr_base.specs.declared.Kind.{Kind}
use Rattle.tr_base.specs.declared.Kind.TheVariants.{Mono, Map4, Map8}
use Rattle.tr_screen.specs.Pictures.{IsPicture, Picture, pixel_of, row_of}
use Rattle.tr_mirror.specs.Standings.{has_pixel}
use Rattle.tr_mirror.specs.Streams.{HasItsPixels, IsShowable}
use Rattle.tr_session.specs.Cuts.{fitted, fitted_pixel}
use Rattle.tr_session.specs.Laws.{KeepsPixel}

module _ {A : Type 0} (f : A → A) where
  -- the next element is replaced
  pub set_next : (from to : List A) (i : ℕ) (d : A) → i < length from → length to ≡ length from →
      set (map f (take i from) ++ drop i to) i (f (get_or from i d)) ≡ map f (take (suc i) from) ++ drop (suc i) to
  set_next [] to i d within same = absurd (omega arith)
  set_next (x ∷ xs) [] i d within same = absurd (omega (arith, same))
  set_next (x ∷ xs) (y ∷ ys) zero d within same = refl
  set_next (x ∷ xs) (y ∷ ys) (suc i) d within same =
      ap (λ (zs : List A). f x ∷ zs) (set_next xs ys i d (omega (arith, within)) (omega (arith, same)))

  -- which is still the old one
  pub get_next : (from to : List A) (i : ℕ) (d : A) → i < length from → length to ≡ length from →
      get_or (map f (take i from) ++ drop i to) i d ≡ get_or to i d
  get_next [] to i d within same = absurd (omega arith)
  get_next (x ∷ xs) [] i d within same = absurd (omega (arith, same))
  get_next (x ∷ xs) (y ∷ ys) zero d within same = refl
  get_next (x ∷ xs) (y ∷ ys) (suc i) d within same = get_next xs ys i d (omega (arith, within)) (omega (arith, same))

  -- all were replaced
  pub all_replaced : (from to : List A) (i : ℕ) → length from ≤ i → length to ≡ length from → map f (take i from) ++ drop i to ≡ map f from
  all_replaced [] [] i over same = none i
    where
      none : (i : ℕ) → map f (take i []) ++ drop i [] ≡ []
      none zero = refl
      none (suc i) = refl
  all_replaced [] (y ∷ ys) i over same = absurd (omega (arith, same))
  all_replaced (x ∷ xs) [] i over same = absurd (omega (arith, same))
  all_replaced (x ∷ xs) (y ∷ ys) zero over same = absurd (omega (arith, over))
  all_replaced (x ∷ xs) (y ∷ ys) (suc i) over same =
      ap (λ (zs : List A). f x ∷ zs) (all_replaced xs ys i (omega (arith, over)) (omega (arith, same)))

-- a fitted pixel is a value of the kind
fits : (kind : Kind) (pixel : ℕ) → has_pixel kind (fitted_pixel kind pixel) ≡ true
fits Mono pixel = lt-ltb (min pixel 1) 2 (omega arith)
fits Map4 pixel = lt-ltb (min pixel 15) 16 (omega arith)
fits Map8 pixel = lt-ltb (min pixel 255) 256 (omega arith)

row_fits : (kind : Kind) (row : List ℕ) → list_all (has_pixel kind) (map (fitted_pixel kind) row) ≡ true
row_fits kind [] = refl
row_fits kind (pixel ∷ row) = and_from _ _ (fits kind pixel) (row_fits kind row)

-- a fitted screen has values of its kind alone
pub fitted_pixels : (p : Picture) → HasItsPixels (fitted p)
fitted_pixels p v below =
    ap (list_all (has_pixel p.kind)) (get_or-map (map (fitted_pixel p.kind)) p.rows v []) ∙ row_fits p.kind (get_or p.rows v [])

-- and it is a picture, if the screen is one
pub fitted_shows : (p : Picture) → IsPicture p → IsShowable (fitted p)
fitted_shows p is = record {
  picture = record {
    size = is.size;
    high = length-map p.rows (λ (row : List ℕ). map (fitted_pixel p.kind) row) ∙ is.high;
    wide = All-map (λ (row : List ℕ). length row ≡ p.size.wide) (λ (row : List ℕ). map (fitted_pixel p.kind) row) p.rows
        (λ v d below. length-map (get_or p.rows v d) (fitted_pixel p.kind) ∙ is.wide v d below);
  };
  pixels = fitted_pixels p;
}

-- ---- values of the kind stay

same_pixel : (kind : Kind) (pixel : ℕ) → has_pixel kind pixel ≡ true → fitted_pixel kind pixel ≡ pixel
same_pixel Mono pixel has = let below = ltb-true pixel 2 has in omega (arith, below)
same_pixel Map4 pixel has = let below = ltb-true pixel 16 has in omega (arith, below)
same_pixel Map8 pixel has = let below = ltb-true pixel 256 has in omega (arith, below)

-- a point keeps its pixel, if that is a value of the kind
zero_fits : (kind : Kind) → fitted_pixel kind 0 ≡ 0
zero_fits Mono = refl
zero_fits Map4 = refl
zero_fits Map8 = refl

pub fitted_point : (p : Picture) (at : Point) → KeepsPixel p at
fitted_point p at has =
    let fit : ℕ → ℕ = fitted_pixel p.kind in
    let row : List ℕ = row_of p (unsigned_abs at.v) in
    let h : ℕ = unsigned_abs at.h in
    ap (λ (fitted : List ℕ). get_or fitted h 0) (get_or-map (map fit) p.rows (unsigned_abs at.v) [])
    ∙ ap (λ (d : ℕ). get_or (map fit row) h d) (sym (zero_fits p.kind))
    ∙ get_or-map fit row h 0
    ∙ same_pixel p.kind (pixel_of p at) has

same_row : (kind : Kind) (row : List ℕ) → list_all (has_pixel kind) row ≡ true → map (fitted_pixel kind) row ≡ row
same_row kind [] all = refl
same_row kind (pixel ∷ row) all =
    let both = and_parts (has_pixel kind pixel) (list_all (has_pixel kind) row) all in
    ap (λ (fit : ℕ). fit ∷ map (fitted_pixel kind) row) (same_pixel kind pixel both.0) ∙ ap (λ (fit : List ℕ). pixel ∷ fit) (same_row kind row both.1)

same_rows : (kind : Kind) (rows : List (List ℕ)) → ((v : ℕ) → v < length rows → list_all (has_pixel kind) (get_or rows v []) ≡ true) →
    map (λ (row : List ℕ). map (fitted_pixel kind) row) rows ≡ rows
same_rows kind [] all = refl
same_rows kind (row ∷ rows) all =
    ap (λ (fit : List ℕ). fit ∷ map (λ (other : List ℕ). map (fitted_pixel kind) other) rows) (same_row kind row (all 0 (omega arith)))
    ∙ ap (λ (fit : List (List ℕ)). row ∷ fit) (same_rows kind rows (λ v below. all (suc v) (omega (arith, below))))

-- a screen that a stream can show is fitted as it is
pub fitted_same : (p : Picture) → IsShowable p → fitted p ≡ p
fitted_same p shows =
    ap (λ (rows : List (List ℕ)). record p { rows = rows })
    (same_rows p.kind p.rows (λ v below. shows.pixels v (omega (arith, below, shows.picture.high))))
