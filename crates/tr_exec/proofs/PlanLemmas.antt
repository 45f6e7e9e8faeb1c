-- One command more: which points are unknown after it, and which it moves.
use Rattle.std.proofs.Common.{◌≡◌, ℕ, suc, Bool, true, false, ◌&&◌, ◌||◌, not, cond, List, [], ◌∷◌, ◌++◌, length, Option, Some, None, refl, sym, ap, ◌∙◌}
use Rattle.std.specs.Prelude.{is_none}
use Rattle.std.specs.Option.{option_map}
use Rattle.std.specs.List.{AllZip}
use Rattle.tr_base.specs.declared.Point.{Point}
use Rattle.tr_base.specs.declared.Kind.{Kind}
use Rattle.tr_base.specs.Ops.{eff}
use Rattle.tr_base.specs.Rects.{Edges, before_shift, has_point}
use Rattle.tr_region.specs.Points.{holds}
use Rattle.tr_screen.specs.Pictures.{Picture, pixel_of}
use Rattle.tr_paint.specs.declared.Paint.{Paint}
use Rattle.tr_paint.specs.declared.Paint.TheVariants.{Tint, Texture, Pixels, Text, Scroll, Spoil}
use Rattle.tr_paint.specs.Paints.{area, is_opaque, op_at}
use Rattle.tr_paint.specs.Traces.{Look, Base, after, Deed, Keep, Value, Change, deed, deed_within, after_deed}
use Rattle.tr_paint.proofs.TraceLemmas.{after-last, trace-unseen}
use Rattle.tr_exec.specs.declared.effects.Effect.{Effect}
use Rattle.tr_exec.specs.declared.effects.Effect.TheVariants.{Tells, Loses, Keeps, Moves}
use Rattle.tr_exec.specs.Executions.{screen_point, base_of}
use Rattle.tr_exec.specs.Unknown.{effect_of, lost_by, unseen, unknown_after, TellsUnknown, moved_by, IsMovedBy}
use Rattle.tr_exec.proofs.PlacedLemmas.{placed-before, before-placed, placed-source}

-- what is unknown depends on what was unknown alone
lost-same : (e : Effect) (f g : Point → Bool) (p : Point) → ((r : Point) → f r ≡ g r) → lost_by e f p ≡ lost_by e g p
lost-same Tells f g p same = refl
lost-same Loses f g p same = refl
lost-same Keeps f g p same = same p
lost-same (Moves delta) f g p same = same (before_shift p delta)

-- an effect on points of the window is the same on points of the screen
lost-placed : (e : Effect) (f : Point → Bool) (origin q : Point) → lost_by e (λ r. f (screen_point origin r)) q ≡ lost_by e f (screen_point origin q)
lost-placed Tells f origin q = refl
lost-placed Loses f origin q = refl
lost-placed Keeps f origin q = refl
lost-placed (Moves delta) f origin q = ap f (placed-source origin q delta)

none-map : {A B : Type 0} (f : A → B) (o : Option A) → is_none (option_map f o) ≡ is_none o
none-map f None = refl
none-map f (Some x) = refl

-- a painting deed tells a point, or keeps what is known of it
lost-painted : (kind : Kind) (b : Bool) (x : ℕ) (d : Deed) (e : Effect) (known : Point → Option ℕ) (q : Point) →
    is_none (after_deed kind d known q) ≡ lost_by e (λ r. is_none (known r)) q →
    is_none (after_deed kind (cond b (Value x) d) known q) ≡ lost_by (cond b Tells e) (λ r. is_none (known r)) q
lost-painted kind true x d e known q same = refl
lost-painted kind false x d e known q same = same

-- what a command's deed within its area makes of what is known
lost-within : (look : Look) (c : Paint) (known : Point → Option ℕ) (q : Point) →
    is_none (after_deed look.kind (deed_within look c q) known q) ≡ lost_by (effect_of c) (λ r. is_none (known r)) q
lost-within look (Tint clip op) known q =
    let c = Tint clip op in
    lost-painted look.kind (is_opaque c) (eff look.kind (op_at look.font c q) 0)
    (Change (op_at look.font c q)) Keeps known q (none-map _ (known q))
lost-within look (Texture ops clip tile delta) known q =
    let c = Texture ops clip tile delta in
    lost-painted look.kind (is_opaque c) (eff look.kind (op_at look.font c q) 0)
    (Change (op_at look.font c q)) Keeps known q (none-map _ (known q))
lost-within look (Pixels clip src delta) known q = refl
lost-within look (Text ops clip at text) known q =
    let c = Text ops clip at text in
    lost-painted look.kind (is_opaque c) (eff look.kind (op_at look.font c q) 0)
    (Change (op_at look.font c q)) Keeps known q (none-map _ (known q))
lost-within look (Scroll clip delta) known q = refl
lost-within look (Spoil clip) known q = refl

-- the same for its deed anywhere
lost-deed : (look : Look) (c : Paint) (known : Point → Option ℕ) (q : Point) →
    is_none (after_deed look.kind (deed look c q) known q) ≡ cond (has_point (area c) q) (lost_by (effect_of c) (λ r. is_none (known r)) q) (is_none (known q))
lost-deed look c known q = by_test (has_point (area c) q)
  where
    by_test : (b : Bool) →
        is_none (after_deed look.kind (cond b (deed_within look c q) Keep) known q)
        ≡ cond b (lost_by (effect_of c) (λ r. is_none (known r)) q) (is_none (known q))
    by_test true = lost-within look c known q
    by_test false = refl

module _ (look : Look) (origin : Point) (visible bad : List Edges) (screen : Picture) where
  base : Base
  base = base_of origin visible bad screen

  -- a point of the window is unknown after the batch where the screen's point isn't visible, or is one of the unknown ones
  unseen-is : (batch : List Paint) (unknown : List Edges) → TellsUnknown look (base_of origin visible bad screen) batch origin visible unknown → (q : Point) →
      is_none (after look (base_of origin visible bad screen) batch q) ≡ unseen visible unknown (screen_point origin q)
  unseen-is batch unknown tells q =
      let at : holds unknown (screen_point origin q)
      ≡ (holds visible (screen_point origin q) && is_none (after look (base_of origin visible bad screen) batch q)) =
      tells (screen_point origin q)
      ∙ ap (λ r. holds visible (screen_point origin q) && is_none (after look (base_of origin visible bad screen) batch r)) (before-placed origin q) in
      by_sight (holds visible (screen_point origin q)) refl at
    where
      by_sight : (b : Bool) → holds visible (screen_point origin q) ≡ b →
          holds unknown (screen_point origin q) ≡ (b && is_none (after look (base_of origin visible bad screen) batch q)) →
          is_none (after look (base_of origin visible bad screen) batch q) ≡ not b || holds unknown (screen_point origin q)
      by_sight true seen at = sym at
      by_sight false hidden at = ap (λ o. is_none o) (trace-unseen look (base_of origin visible bad screen) _ q hidden)

  -- one command more
  pub tells_more : (batch : List Paint) (c : Paint) (rect unknown next : List Edges) →
      TellsUnknown look (base_of origin visible bad screen) batch origin visible unknown →
      ((p : Point) → holds rect p ≡ has_point (area c) (before_shift p origin)) →
      ((p : Point) → holds next p ≡ unknown_after (effect_of c) rect visible unknown p) →
      TellsUnknown look (base_of origin visible bad screen) (batch ++ c ∷ []) origin visible next
  tells_more batch c rect unknown next tells within made p =
      made p ∙ by_sight (holds visible p) refl
    where
      q : Point
      q = before_shift p origin

      f : Point → Bool
      f r = is_none (after look (base_of origin visible bad screen) batch r)

      same : (r : Point) → is_none (after look (base_of origin visible bad screen) batch r) ≡ unseen visible unknown (screen_point origin r)
      same r = unseen-is batch unknown tells r

      here : is_none (after look (base_of origin visible bad screen) batch (before_shift p origin)) ≡ unseen visible unknown p
      here = unseen-is batch unknown tells (before_shift p origin) ∙ ap (λ r. unseen visible unknown r) (placed-before origin p)

      moved :
          lost_by (effect_of c) (λ r. is_none (after look (base_of origin visible bad screen) batch r)) (before_shift p origin)
          ≡ lost_by (effect_of c) (unseen visible unknown) p
      moved =
          lost-same (effect_of c) (λ r. is_none (after look (base_of origin visible bad screen) batch r)) (λ r. unseen visible unknown (screen_point origin r))
          (before_shift p origin) (λ r. unseen-is batch unknown tells r)
          ∙ lost-placed (effect_of c) (unseen visible unknown) origin (before_shift p origin)
          ∙ ap (λ r. lost_by (effect_of c) (unseen visible unknown) r) (placed-before origin p)

      by_sight : (b : Bool) → holds visible p ≡ b →
          b && cond (holds rect p) (lost_by (effect_of c) (unseen visible unknown) p) (unseen visible unknown p)
          ≡ b && is_none (after look (base_of origin visible bad screen) (batch ++ c ∷ []) (before_shift p origin))
      by_sight false hidden = refl
      by_sight true seen =
          let sight : holds visible (screen_point origin (before_shift p origin)) ≡ true = ap (λ r. holds visible r) (placed-before origin p) ∙ seen in
          let last = after-last look (base_of origin visible bad screen) batch c (before_shift p origin) in
          let known : Point → Option ℕ = λ r. after look (base_of origin visible bad screen) batch r in
          let told = lost-deed look c known (before_shift p origin) in
          ap (λ b. cond b (lost_by (effect_of c) (unseen visible unknown) p) (unseen visible unknown p)) (within p)
          ∙ ap (λ b. cond (has_point (area c) (before_shift p origin)) b (unseen visible unknown p)) (sym moved)
          ∙ ap (λ b. cond (has_point (area c) (before_shift p origin)) (lost_by (effect_of c) (λ r. is_none (known r)) (before_shift p origin)) b) (sym here)
          ∙ sym told
          ∙ ap (λ b. is_none (cond b (after_deed look.kind (deed look c (before_shift p origin)) known (before_shift p origin)) None)) (sym sight)
          ∙ ap (λ o. is_none o) (sym last)

  -- before any command the visible bad points are unknown
  pub tells_none : (unknown : List Edges) → ((p : Point) → holds unknown p ≡ (holds visible p && holds bad p)) →
      TellsUnknown look (base_of origin visible bad screen) [] origin visible unknown
  tells_none unknown made p = made p ∙ by_tests (holds visible p) (holds bad p) refl refl
    where
      at : (r : Point) →
          is_none (after look (base_of origin visible bad screen) [] r)
          ≡ is_none (cond (holds visible (screen_point origin r))
          (cond (holds bad (screen_point origin r)) None (Some (pixel_of screen (screen_point origin r)))) None)
      at r = refl

      by_tests : (v b : Bool) → holds visible p ≡ v → holds bad p ≡ b →
          v && b ≡ v && is_none (after look (base_of origin visible bad screen) [] (before_shift p origin))
      by_tests false b hidden known = refl
      by_tests true b seen known =
          let there : Point = screen_point origin (before_shift p origin) in
          let sight : holds visible there ≡ true = ap (λ r. holds visible r) (placed-before origin p) ∙ seen in
          let faulty : holds bad there ≡ b = ap (λ r. holds bad r) (placed-before origin p) ∙ known in
          none b ∙ ap (λ t. is_none (cond true (cond t None (Some (pixel_of screen there))) None)) (sym faulty)
          ∙ ap (λ t. is_none (cond t (cond (holds bad there) None (Some (pixel_of screen there))) None)) (sym sight)
        where
          none : (t : Bool) → t ≡ is_none (cond true (cond t None (Some (pixel_of screen (screen_point origin (before_shift p origin))))) None)
          none true = refl
          none false = refl

-- the visible points that are unknown, and of the others those that were bad
pub bad-is : (v b n u : Bool) → u ≡ v && n → (b && not v) || u ≡ cond v n b
bad-is true b n u told = by_bad b ∙ told
  where
    by_bad : (t : Bool) → (t && false) || u ≡ u
    by_bad true = refl
    by_bad false = refl
bad-is false b n u told = by_bad b
  where
    by_bad : (t : Bool) → (t && true) || u ≡ t
    by_bad true = refl
    by_bad false = told

-- what a command moves, by its effect
pub moved-is : (c : Paint) (origin : Point) (visible rect moved : List Edges) → ((p : Point) → holds rect p ≡ has_point (area c) (before_shift p origin)) →
    ((p : Point) → holds moved p ≡ moved_by (effect_of c) rect visible p) → IsMovedBy origin visible c moved
moved-is (Tint clip op) origin visible rect moved within made p = made p ∙ still (is_opaque (Tint clip op))
  where
    still : (b : Bool) → moved_by (cond b Tells Keeps) rect visible p ≡ false
    still true = refl
    still false = refl
moved-is (Texture ops clip tile delta) origin visible rect moved within made p = made p ∙ still (is_opaque (Texture ops clip tile delta))
  where
    still : (b : Bool) → moved_by (cond b Tells Keeps) rect visible p ≡ false
    still true = refl
    still false = refl
moved-is (Pixels clip src delta) origin visible rect moved within made p = made p
moved-is (Text ops clip at text) origin visible rect moved within made p = made p ∙ still (is_opaque (Text ops clip at text))
  where
    still : (b : Bool) → moved_by (cond b Tells Keeps) rect visible p ≡ false
    still true = refl
    still false = refl
moved-is (Scroll clip delta) origin visible rect moved within made p =
    made p ∙ ap (λ b. (holds visible p && b) && holds visible (before_shift p delta)) (within p)
moved-is (Spoil clip) origin visible rect moved within made p = made p

-- one more of each of two lists, place by place
pub zip_push : {A B : Type 0} (R : A → B → Type 0) (xs : List A) (ys : List B) (x : A) (y : B) → AllZip R xs ys → R x y → AllZip R (xs ++ x ∷ []) (ys ++ y ∷ [])
zip_push R [] [] x y all one = (one, tt)
zip_push R [] (b ∷ ys) x y all one = absurd all
zip_push R (a ∷ xs) [] x y all one = absurd all
zip_push R (a ∷ xs) (b ∷ ys) x y all one = (all.0, zip_push R xs ys x y all.1 one)

-- two lists, place by place, are as long
pub zip_long : {A B : Type 0} (R : A → B → Type 0) (xs : List A) (ys : List B) → AllZip R xs ys → length ys ≡ length xs
zip_long R [] [] all = refl
zip_long R [] (b ∷ ys) all = absurd all
zip_long R (a ∷ xs) [] all = absurd all
zip_long R (a ∷ xs) (b ∷ ys) all = ap (λ n. suc n) (zip_long R xs ys all.1)
