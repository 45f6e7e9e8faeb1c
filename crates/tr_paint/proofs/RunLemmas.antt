-- The law of patches by running: commands lead from one picture to another where running them over the whole first picture gives the second.
-- Nothing else is asked of a patch: no base, no pictures in between, and no word on areas that are empty.
use Rattle.std.proofs.Common.{◌≡◌, ℕ, true, List, [], ◌∷◌, ◌++◌, Option, Some, None, refl, ap, ◌∙◌}
use Rattle.std.specs.Prelude.{IfSome}
use Rattle.tr_base.specs.declared.Point.{Point}
use Rattle.tr_base.specs.declared.Size.{Size}
use Rattle.tr_base.specs.declared.Kind.{Kind}
use Rattle.tr_base.specs.Ops.{eff}
use Rattle.tr_base.specs.Rects.{has_point, whole_of}
use Rattle.tr_paint.specs.declared.paints.Paint.{Paint}
use Rattle.tr_paint.specs.Traces.{Look, Deed, Keep, Lose, From, Value, Change, deed, after}
use Rattle.tr_paint.specs.Batches.{kept, batch_of}
use Rattle.tr_paint.specs.Patches.{IsPatch}
use Rattle.tr_paint.proofs.PatchLemmas.{Gives, no_patch, kept_patch, two_patches}
use Rattle.tr_paint.proofs.PaintingLemmas.{Makes}

-- the colour that a deed leaves at a point where all colours are known; one that loses a colour may leave any, and leaves this one
abbrev pub left : Kind → Deed → (Point → ℕ) → Point → ℕ
left kind Keep picture q = picture q
left kind Lose picture q = picture q
left kind (From r) picture q = picture r
left kind (Value x) picture q = x
left kind (Change op) picture q = eff kind op (picture q)

-- the picture that a command leaves
abbrev pub run_one : Look → Paint → (Point → ℕ) → Point → ℕ
run_one look c picture q = left look.kind (deed look c q) picture q

-- the picture that commands leave, in their order
abbrev pub run : Look → List Paint → (Point → ℕ) → Point → ℕ
run look [] picture q = picture q
run look (c ∷ cs) picture q = run look cs (λ r. run_one look c picture r) q

left-gives : (kind : Kind) (size : Size) (d : Deed) (old : Point → ℕ) (q : Point) → Gives kind size d old q (left kind d old q)
left-gives kind size Keep old q = refl
left-gives kind size Lose old q = tt
left-gives kind size (From r) old q = λ within. refl
left-gives kind size (Value x) old q = refl
left-gives kind size (Change op) old q = refl

run_patch : (look : Look) (size : Size) (cs : List Paint) (old : Point → ℕ) → IsPatch look size (batch_of cs) old (λ q. run look cs old q)
run_patch look size [] old = no_patch look size old old (λ q here. refl)
run_patch look size (c ∷ cs) old =
    let mid : Point → ℕ = λ r. run_one look c old r in
    two_patches look size (kept c) (batch_of cs) old mid (λ q. run look cs mid q)
    (kept_patch look size c old mid (λ q here. left-gives look.kind size (deed look c q) old q))
    (run_patch look size cs mid)

-- commands are a patch where running them over the old picture gives the new one at each point of the window
pub patch_by_run : (look : Look) (size : Size) (cs : List Paint) (old new : Point → ℕ) →
    ((q : Point) → has_point (whole_of size) q ≡ true → run look cs old q ≡ new q) → IsPatch look size (batch_of cs) old new
patch_by_run look size cs old new same base within shows q seen =
    along (after look base (batch_of cs) q) (run_patch look size cs old base within shows q seen)
  where
    along : (o : Option ℕ) → IfSome o (λ x. x ≡ run look cs old q) → IfSome o (λ x. x ≡ new q)
    along None h = tt
    along (Some x) h = h ∙ same q (within q seen)

-- commands in a row: the later ones run over what the earlier ones leave
pub run-append : (look : Look) (xs ys : List Paint) (picture : Point → ℕ) (q : Point) →
    run look (xs ++ ys) picture q ≡ run look ys (λ r. run look xs picture r) q
run-append look [] ys picture q = refl
run-append look (c ∷ xs) ys picture q = run-append look xs ys (λ r. run_one look c picture r) q

-- a deed that makes one colour of another leaves it where the one was
pub makes-left : (kind : Kind) (d : Deed) (picture : Point → ℕ) (q : Point) (old new : ℕ) → picture q ≡ old → Makes kind d old new → left kind d picture q ≡ new
makes-left kind Keep picture q old new is makes = is ∙ makes
makes-left kind Lose picture q old new is makes = absurd makes
makes-left kind (From r) picture q old new is makes = absurd makes
makes-left kind (Value x) picture q old new is makes = makes
makes-left kind (Change op) picture q old new is makes = ap (λ n. eff kind op n) is ∙ makes
