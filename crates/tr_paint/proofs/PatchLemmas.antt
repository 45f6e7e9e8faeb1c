-- How patches are shown to be right: command by command, and point by point, with no base in sight.
use Rattle.std.proofs.Common.{◌≡◌, ℕ, Bool, true, false, cond, List, [], ◌∷◌, ◌++◌, Option, Some, None, refl, ap, subst, ◌∙◌}
use Rattle.std.specs.Prelude.{IfSome}
use Rattle.std.specs.Option.{option_map}
use Rattle.tr_base.specs.declared.Point.{Point}
use Rattle.tr_base.specs.declared.Size.{Size}
use Rattle.tr_base.specs.declared.Kind.{Kind}
use Rattle.tr_base.specs.Ops.{eff}
use Rattle.tr_base.specs.Rects.{has_point, whole_of}
use Rattle.tr_base.proofs.RectLemmas.{between-empty}
use Rattle.tr_paint.specs.declared.paints.Paint.{Paint}
use Rattle.tr_paint.specs.Paints.{area, has_area}
use Rattle.tr_paint.specs.Traces.{Look, Deed, Keep, Lose, From, Value, Change, deed, deed_within, Base, after_deed, trace, left_by}
use Rattle.tr_paint.specs.Batches.{kept}
use Rattle.tr_paint.specs.Patches.{LiesIn, Shows, IsPatch}
use Rattle.tr_paint.proofs.TraceLemmas.{after-append}

-- a deed gives a point its colour in the new picture: it knows nothing of the point, or makes its colour of what the old picture has
abbrev pub Gives : Kind → Size → Deed → (Point → ℕ) → Point → ℕ → Type 0
Gives kind size Keep old q new = old q ≡ new
Gives kind size Lose old q new = Unit {0}
Gives kind size (From r) old q new = has_point (whole_of size) r ≡ true → old r ≡ new
Gives kind size (Value x) old q new = x ≡ new
Gives kind size (Change op) old q new = eff kind op (old q) ≡ new

-- what is known at first shows the old picture
shown : (base : Base) (old : Point → ℕ) (q : Point) → Shows old base → IfSome (cond (base.visible q) (base.known q) None) (λ x. x ≡ old q)
shown base old q shows = by_sight (base.visible q) refl
  where
    by_sight : (b : Bool) → base.visible q ≡ b → IfSome (cond b (base.known q) None) (λ x. x ≡ old q)
    by_sight true seen = shows q seen
    by_sight false unseen = tt

done-gives : (look : Look) (size : Size) (base : Base) (d : Deed) (old : Point → ℕ) (q : Point) (new : ℕ) → LiesIn size base → Shows old base →
    Gives look.kind size d old q new → IfSome (after_deed look.kind d (λ r. trace look base [] r) q) (λ x. x ≡ new)
done-gives look size base Keep old q new within shows gives = along (trace look base [] q) (shown base old q shows)
  where
    along : (o : Option ℕ) → IfSome o (λ x. x ≡ old q) → IfSome o (λ x. x ≡ new)
    along None h = tt
    along (Some x) h = h ∙ gives
done-gives look size base Lose old q new within shows gives = tt
done-gives look size base (From r) old q new within shows gives = by_sight (base.visible r) refl
  where
    along : (o : Option ℕ) → IfSome o (λ x. x ≡ old r) → old r ≡ new → IfSome o (λ x. x ≡ new)
    along None h same = tt
    along (Some x) h same = h ∙ same

    by_sight : (b : Bool) → base.visible r ≡ b → IfSome (cond b (base.known r) None) (λ x. x ≡ new)
    by_sight true seen = along (base.known r) (shows r seen) (gives (within r seen))
    by_sight false unseen = tt
done-gives look size base (Value x) old q new within shows gives = gives
done-gives look size base (Change op) old q new within shows gives = along (trace look base [] q) (shown base old q shows)
  where
    along : (o : Option ℕ) → IfSome o (λ x. x ≡ old q) → IfSome (option_map (eff look.kind op) o) (λ x. x ≡ new)
    along None h = tt
    along (Some x) h = ap (λ p. eff look.kind op p) h ∙ gives

-- no command is a patch where the two pictures agree in the window
pub no_patch : (look : Look) (size : Size) (old new : Point → ℕ) →
    ((q : Point) → has_point (whole_of size) q ≡ true → old q ≡ new q) → IsPatch look size [] old new
no_patch look size old new same base within shows q seen =
    let known = rw seen at (shown base old q shows) in rw seen (along (base.known q) known)
  where
    along : (o : Option ℕ) → IfSome o (λ x. x ≡ old q) → IfSome o (λ x. x ≡ new q)
    along None h = tt
    along (Some x) h = h ∙ same q (within q seen)

-- one command is a patch where its deed gives each point of the window its colour
pub one_patch : (look : Look) (size : Size) (c : Paint) (old new : Point → ℕ) →
    ((q : Point) → has_point (whole_of size) q ≡ true → Gives look.kind size (deed look c q) old q (new q)) → IsPatch look size (c ∷ []) old new
one_patch look size c old new gives base within shows q seen =
    rw seen (done-gives look size base (deed look c q) old q (new q) within shows (gives q (within q seen)))

-- two patches in a row
pub two_patches : (look : Look) (size : Size) (xs ys : List Paint) (old mid new : Point → ℕ) →
    IsPatch look size xs old mid → IsPatch look size ys mid new → IsPatch look size (xs ++ ys) old new
two_patches look size xs ys old mid new first second base within shows q seen =
    rw (after-append look base xs ys q)
    (second (left_by look base xs) within (λ r seen'. first base within shows r seen') q seen)

-- the same for a command that is left out where its area is empty
pub kept_patch : (look : Look) (size : Size) (c : Paint) (old new : Point → ℕ) →
    ((q : Point) → has_point (whole_of size) q ≡ true → Gives look.kind size (deed look c q) old q (new q)) → IsPatch look size (kept c) old new
kept_patch look size c old new gives = by_test (has_area c) refl
  where
    nowhere : (q : Point) → has_area c ≡ false → has_point (area c) q ≡ false
    nowhere q flat = rw (between-empty (area c).west (area c).east q.h flat) refl

    kept_as : Deed → Bool → Deed
    kept_as d b = cond b d Keep

    same : has_area c ≡ false → (q : Point) → has_point (whole_of size) q ≡ true → old q ≡ new q
    same flat q within =
        let P : Bool → Type 0 = λ b. Gives look.kind size (cond b (deed_within look c q) Keep) old q (new q) in
        subst P (nowhere q flat) (gives q within)

    by_test : (b : Bool) → has_area c ≡ b → IsPatch look size (cond b (c ∷ []) []) old new
    by_test true some = one_patch look size c old new gives
    by_test false flat = no_patch look size old new (same flat)
