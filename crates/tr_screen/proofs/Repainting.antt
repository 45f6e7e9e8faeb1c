-- What is painted one after another: laws of `Repaints`.
use Rattle.std.proofs.Common.{◌≡◌, ℕ, ◌<◌, List, length, get_or, refl, sym, ap, ◌∙◌, subst, arith}
use Rattle.std.specs.Prelude.{Bool, true, false, cond, ◌||◌}
use Rattle.tr_base.specs.declared.points.Point.{Point}
use Rattle.tr_base.specs.declared.sizes.Size.{Size}
use Rattle.tr_base.specs.Rects.{before_shift}
use Rattle.tr_screen.specs.Pictures.{Picture, pixel_of}
use Rattle.tr_screen.specs.declared.runs.Run.{Run}
use Rattle.tr_screen.specs.Runs.{in_run, width_of, column_in, point_in, IsRun, IsOn, Repaints}
use Rattle.tr_screen.proofs.RunLemmas.{column_is, point_in-column}

-- nothing is painted where no point passes
pub repaints_none : (test : Point → Bool) (f : Point → ℕ) (old : Picture) → ((p : Point) → IsOn old.size p → test p ≡ false) → Repaints test f old old
repaints_none test f old none = record { size = refl; kind = refl; points = λ p on. rw (none p on) refl }

-- a test that the same points of the screen pass says the same
pub repaints_same : (test other : Point → Bool) (f : Point → ℕ) (old new : Picture) →
    Repaints test f old new → ((p : Point) → IsOn old.size p → other p ≡ test p) →
    Repaints other f old new
repaints_same test other f old new h same = record { size = h.size; kind = h.kind; points = λ p on. rw (same p on) (h.points p on) }

-- other words for the same pixels
pub repaints_by : (test : Point → Bool) (f g : Point → ℕ) (old new : Picture) →
    Repaints test f old new → ((p : Point) → test p ≡ true → f p ≡ g p) →
    Repaints test g old new
repaints_by test f g old new h same = record { size = h.size; kind = h.kind; points = λ p on. h.points p on ∙ by_test p (test p) refl }
  where
    by_test : (p : Point) (t : Bool) → test p ≡ t → cond t (f p) (pixel_of old p) ≡ cond t (g p) (pixel_of old p)
    by_test p true e = same p e
    by_test p false e = refl

-- more points get their pixels of f
pub repaints_more : (test more both : Point → Bool) (f g : Point → ℕ) (old mid new : Picture) → Repaints test f old mid → Repaints more g mid new →
    ((p : Point) → IsOn old.size p → more p ≡ true → g p ≡ f p) → ((p : Point) → IsOn old.size p → both p ≡ more p || test p) → Repaints both f old new
repaints_more test more both f g old mid new h k same grown = record {
  size = k.size ∙ h.size;
  kind = k.kind ∙ h.kind;
  points = λ p on. k.points p (subst (λ (s : Size). IsOn s p) (sym h.size) on) ∙ rw (grown p on) (by_test p on (more p) refl);
}
  where
    by_test : (p : Point) → IsOn old.size p → (t : Bool) → more p ≡ t → cond t (g p) (pixel_of mid p) ≡ cond (t || test p) (f p) (pixel_of old p)
    by_test p on true e = same p on e
    by_test p on false e = h.points p on

-- more points get the pixel that lay delta before them, which is the old one where that point wasn't painted yet
pub moved_more : (test more both : Point → Bool) (d : Point) (old mid new : Picture) →
    Repaints test (λ p. pixel_of old (before_shift p d)) old mid →
    Repaints more (λ p. pixel_of mid (before_shift p d)) mid new →
    ((p : Point) → IsOn old.size p → more p ≡ true → IsOn old.size (before_shift p d) × (test (before_shift p d) ≡ false)) →
    ((p : Point) → IsOn old.size p → both p ≡ more p || test p) →
    Repaints both (λ p. pixel_of old (before_shift p d)) old new
moved_more test more both d old mid new h k unread grown =
    repaints_more test more both (λ p. pixel_of old (before_shift p d)) (λ p. pixel_of mid (before_shift p d))
    old mid new h k same grown
  where
    same : (p : Point) → IsOn old.size p → more p ≡ true → pixel_of mid (before_shift p d) ≡ pixel_of old (before_shift p d)
    same p on e =
        let source = unread p on e in
        h.points (before_shift p d) source.0 ∙ rw (source.1) refl

-- more points get what becomes of their own pixels, which are the old ones where they weren't painted yet
pub painted_more : (test more both : Point → Bool) (f : Point → ℕ → ℕ) (old mid new : Picture) →
    Repaints test (λ p. f p (pixel_of old p)) old mid →
    Repaints more (λ p. f p (pixel_of mid p)) mid new →
    ((p : Point) → IsOn old.size p → more p ≡ true → test p ≡ false) → ((p : Point) → IsOn old.size p → both p ≡ more p || test p) →
    Repaints both (λ p. f p (pixel_of old p)) old new
painted_more test more both f old mid new h k fresh grown =
    repaints_more test more both (λ p. f p (pixel_of old p)) (λ p. f p (pixel_of mid p)) old mid new h k
    (λ p on e. ap (λ x. f p x) (h.points p on ∙ rw (fresh p on e) refl)) grown

-- a run that was lent and written pixel by pixel is painted
pub painted_by : (f : Point → ℕ → ℕ) (r : Run) (old new : Picture) (w lent : List ℕ) →
    IsRun old.size r → length lent ≡ width_of r →
    Repaints (in_run r) (λ p. get_or w (column_in r p) 0) old new →
    ((k : ℕ) → k < length lent → get_or w k 0 ≡ f (point_in r k) (get_or lent k 0)) →
    ((p : Point) → in_run r p ≡ true → get_or lent (column_in r p) 0 ≡ pixel_of old p) →
    Repaints (in_run r) (λ p. f p (pixel_of old p)) old new
painted_by f r old new w lent on wide h by held = record { size = h.size; kind = h.kind; points = λ p at. h.points p at ∙ by_test p (in_run r p) refl }
  where
    by_test : (p : Point) → (t : Bool) → in_run r p ≡ t → cond t (get_or w (column_in r p) 0) (pixel_of old p) ≡ cond t (f p (pixel_of old p)) (pixel_of old p)
    by_test p true t =
        let k : ℕ = column_in r p in
        let below : k < length lent = omega (arith, (column_is old.size r p on t).1) in
        by k below ∙ ap (λ q. f q (get_or lent k 0)) (point_in-column r p t) ∙ ap (λ x. f p x) (held p t)
    by_test p false t = refl
