-- Which pixels the good points have after a tree step.
use Rattle.std.proofs.Common.{◌≡◌, Bool, true, false, cond, ◌&&◌, Option, Some, None, refl, sym, ap, ◌∙◌}
use Rattle.tr_base.specs.declared.Point.{Point}
use Rattle.tr_base.specs.declared.Size.{Size}
use Rattle.tr_base.specs.declared.NodeId.{NodeId}
use Rattle.tr_base.specs.Rects.{before_shift, has_point, whole_of}
use Rattle.tr_base.proofs.BoolLemmas.{from_false-true}
use Rattle.tr_base.specs.Ops.{same_kind}
use Rattle.tr_screen.specs.Pictures.{Picture, pixel_of}
use Rattle.tr_screen.specs.Runs.{Repaints}
use Rattle.tr_repair.specs.Moves.{MovesOn}
use Rattle.tr_tree.specs.Trees.{Seen}
use Rattle.tr_spot.specs.Spots.{HasRoot, spot}
use Rattle.tr_surface.specs.Surfaces.{is_on}
use Rattle.tr_surface.specs.TreeSteps.{WindowFacts, is_below, source_by, way_of}
use Rattle.tr_surface.specs.Survivors.{IsFitted, change, follows_by, good_by, is_below_moved, way_of_moved}
use Rattle.tr_surface.proofs.KnownLemmas.{IsGood, good_parts, none_good}

-- what follows the child that is moved: the size of the screen stays where one is
pub record IsMove (was is : Seen) (moved : Option NodeId) : Type 0 where
  pub root : HasRoot is
  pub size : (child : NodeId) → moved ≡ Some child → is.size ≡ was.size

on_same : (t u : Seen) → u.size ≡ t.size → (p : Point) → is_on t p ≡ true → is_on u p ≡ true
on_same t u same p on = ap (λ (z : Size). has_point (whole_of z) p) same ∙ on

-- a good point that follows comes from as far away as the child
follows_from : (k : WindowFacts) (was is : Seen) (moved : Option NodeId) (bad : Point → Bool) → IsMove was is moved →
    (p : Point) → follows_by k (change was is moved bad) p ≡ true →
    (is_on is p ≡ true) × (is_on is (before_shift p (way_of_moved was is moved)) ≡ true)
follows_from k was is None bad move p h = from_false-true h
follows_from k was is (Some child) bad move p h = by_below (is_below is.nodes child (spot is p)) refl h
  where
    good : Bool
    good = good_by k (change was is (Some child) bad) p

    by_below : (b : Bool) → is_below is.nodes child (spot is p) ≡ b → (b && good) ≡ true →
        (is_on is p ≡ true) × (is_on is (before_shift p (way_of was is child)) ≡ true)
    by_below false e g = from_false-true g
    by_below true e g =
        let fine : IsGood k was is (Some child) bad p = good_parts k was is (Some child) bad p g in
        let source : source_by was is (Some child) p ≡ before_shift p (way_of was is child) = ap (λ b. cond b (before_shift p (way_of was is child)) p) e in
        (fine.on, on_same was is (move.size child refl) (before_shift p (way_of was is child)) (sym (ap (λ (s : Point). is_on was s) source) ∙ fine.was_on))

pub moves_on : (k : WindowFacts) (was is : Seen) (moved : Option NodeId) (bad test : Point → Bool) → IsMove was is moved → (size : Size) → size ≡ is.size →
    ((p : Point) → test p ≡ follows_by k (change was is moved bad) p) → MovesOn size (way_of_moved was is moved) test
moves_on k was is moved bad test move size same follows = λ p h.
    let both = follows_from k was is moved bad move p (sym (follows p) ∙ h) in (
      ap (λ (z : Size). has_point (whole_of z) p) same ∙ both.0,
      ap (λ (z : Size). has_point (whole_of z) (before_shift p (way_of_moved was is moved))) same ∙ both.1,
    )

-- a good point's kind stays
good_kind : (k : WindowFacts) (was is : Seen) (moved : Option NodeId) (bad : Point → Bool) → HasRoot is →
    (p : Point) → good_by k (change was is moved bad) p ≡ true → same_kind was.kind is.kind ≡ true
good_kind k was is moved bad root p h = by_kind (same_kind was.kind is.kind) refl
  where
    by_kind : (b : Bool) → same_kind was.kind is.kind ≡ b → b ≡ true
    by_kind true e = refl
    by_kind false e = sym (none_good k was is moved bad root e p) ∙ h

-- the old screen, the one that is fitted to the new tree, and the one in which the pixels have moved
pub record AreScreens (was is : Seen) (old mid : Picture) : Type 0 where
  pub size : old.size ≡ was.size
  pub kind : old.kind ≡ was.kind
  pub fitted : IsFitted is old mid

-- a point that has kept its place has its pixel
kept_pixel : (was is : Seen) (old mid : Picture) → AreScreens was is old mid → same_kind was.kind is.kind ≡ true →
    (p : Point) → is_on was p ≡ true → is_on is p ≡ true → pixel_of mid p ≡ pixel_of old p
kept_pixel was is old mid screens same p was_on on =
    screens.fitted.points p (ap (λ k. same_kind k is.kind) screens.kind ∙ same) (ap (λ (z : Size). has_point (whole_of z) p) screens.size ∙ was_on) on

pub pixels_come : (k : WindowFacts) (was is : Seen) (moved : Option NodeId) (bad test : Point → Bool) → IsMove was is moved →
    (old mid new : Picture) → AreScreens was is old mid → ((p : Point) → test p ≡ follows_by k (change was is moved bad) p) →
    Repaints test (λ p. pixel_of mid (before_shift p (way_of_moved was is moved))) mid new →
    (p : Point) → good_by k (change was is moved bad) p ≡ true → pixel_of new p ≡ pixel_of old (source_by was is moved p)
pixels_come k was is moved bad test move old mid new screens follows paints p h =
    paints.points p (ap (λ (z : Size). has_point (whole_of z) p) screens.fitted.size ∙ fine.on)
    ∙ ap (λ b. cond b (pixel_of mid (before_shift p (way_of_moved was is moved))) (pixel_of mid p)) (follows p ∙ ap (λ b. is_below_moved is moved p && b) h)
    ∙ by_moved moved move fine
  where
    fine : IsGood k was is moved bad p
    fine = good_parts k was is moved bad p h

    same : same_kind was.kind is.kind ≡ true
    same = good_kind k was is moved bad move.root p h

    by_moved : (o : Option NodeId) → IsMove was is o → IsGood k was is o bad p →
        cond (is_below_moved is o p && true) (pixel_of mid (before_shift p (way_of_moved was is o))) (pixel_of mid p)
        ≡ pixel_of old (source_by was is o p)
    by_moved None m g = kept_pixel was is old mid screens same p g.was_on g.on
    by_moved (Some child) m g = by_below (is_below is.nodes child (spot is p)) refl
      where
        by_below : (b : Bool) → is_below is.nodes child (spot is p) ≡ b →
            cond (is_below is.nodes child (spot is p) && true) (pixel_of mid (before_shift p (way_of was is child))) (pixel_of mid p)
            ≡ pixel_of old (source_by was is (Some child) p)
        by_below true e =
            let source : source_by was is (Some child) p ≡ before_shift p (way_of was is child) = ap (λ b. cond b (before_shift p (way_of was is child)) p) e in
            let was_on : is_on was (before_shift p (way_of was is child)) ≡ true = sym (ap (λ (s : Point). is_on was s) source) ∙ g.was_on in
            ap (λ b. cond (b && true) (pixel_of mid (before_shift p (way_of was is child))) (pixel_of mid p)) e
            ∙ kept_pixel was is old mid screens same (before_shift p (way_of was is child)) was_on
            (on_same was is (m.size child refl) (before_shift p (way_of was is child)) was_on)
            ∙ sym (ap (λ (s : Point). pixel_of old s) source)
        by_below false e =
            let source : source_by was is (Some child) p ≡ p = ap (λ b. cond b (before_shift p (way_of was is child)) p) e in
            let was_on : is_on was p ≡ true = sym (ap (λ (s : Point). is_on was s) source) ∙ g.was_on in
            ap (λ b. cond (b && true) (pixel_of mid (before_shift p (way_of was is child))) (pixel_of mid p)) e
            ∙ kept_pixel was is old mid screens same p was_on g.on
            ∙ sym (ap (λ (s : Point). pixel_of old s) source)
