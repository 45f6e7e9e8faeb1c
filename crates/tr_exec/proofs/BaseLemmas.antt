-- What is known of a window's points: bases that agree on the visible ones trace alike.
use Rattle.std.proofs.Common.{◌≡◌, ℕ, Bool, true, false, cond, not, ◌&&◌, List, [], ◌∷◌, Option, Some, None, refl, ap, ◌∙◌}
use mathlib.Core.List.{reverse}
use Rattle.std.specs.Option.{option_map}
use Rattle.tr_base.specs.declared.Point.{Point}
use Rattle.tr_base.specs.declared.Kind.{Kind}
use Rattle.tr_base.specs.Ops.{eff}
use Rattle.tr_base.specs.Rects.{Edges, before_shift}
use Rattle.tr_region.specs.Points.{holds}
use Rattle.tr_screen.specs.Pictures.{Picture, pixel_of}
use Rattle.tr_paint.specs.declared.paints.Paint.{Paint}
use Rattle.tr_paint.specs.Traces.{Base, Deed, Keep, Lose, From, Value, Change, Look, deed, after_deed, trace}
use Rattle.tr_exec.specs.Executions.{base_of, colour_after, known_base, screen_point}

done_alike : (kind : Kind) (d : Deed) (f g : Point → Option ℕ) → ((q : Point) → f q ≡ g q) → (q : Point) → after_deed kind d f q ≡ after_deed kind d g q
done_alike kind Keep f g same q = same q
done_alike kind Lose f g same q = refl
done_alike kind (From r) f g same q = same r
done_alike kind (Value x) f g same q = refl
done_alike kind (Change op) f g same q = ap (λ (o : Option ℕ). option_map (eff kind op) o) (same q)

pub trace_alike : (look : Look) (a b : Base) → ((q : Point) → a.visible q ≡ b.visible q) → ((q : Point) → b.visible q ≡ true → a.known q ≡ b.known q) →
    (cs : List Paint) (q : Point) → trace look a cs q ≡ trace look b cs q
trace_alike look a b seen same [] q = ap (λ v. cond v (a.known q) None) (seen q) ∙ by_test (b.visible q) (same q)
  where
    by_test : (v : Bool) → (v ≡ true → a.known q ≡ b.known q) → cond v (a.known q) None ≡ cond v (b.known q) None
    by_test true h = h refl
    by_test false h = refl
trace_alike look a b seen same (c ∷ cs) q =
    ap (λ v. cond v (after_deed look.kind (deed look c q) (trace look a cs) q) None) (seen q)
    ∙ ap (λ (o : Option ℕ). cond (b.visible q) o None)
    (done_alike look.kind (deed look c q) (trace look a cs) (trace look b cs) (λ r. trace_alike look a b seen same cs r) q)

-- the bad visible points, or the good ones, tell the same
pub colour_known : (look : Look) (origin : Point) (visible good bad : List Edges) (screen : Picture) →
    ((p : Point) → holds bad p ≡ (holds visible p && not (holds good p))) → (batch : List Paint) (p : Point) →
    colour_after look (base_of origin visible bad screen) batch origin p ≡ colour_after look (known_base origin visible good screen) batch origin p
colour_known look origin visible good bad screen is batch p =
    trace_alike look (base_of origin visible bad screen) (known_base origin visible good screen) (λ q. refl)
    (λ q seen. by_tests (holds visible (screen_point origin q)) (holds good (screen_point origin q)) (pixel_of screen (screen_point origin q))
    (holds bad (screen_point origin q))
    (is (screen_point origin q)) seen) (reverse batch) (before_shift p origin)
  where
    by_tests : (v g : Bool) (x : ℕ) (b : Bool) → b ≡ (v && not g) → v ≡ true → cond b None (Some x) ≡ cond g (Some x) None
    by_tests true true x b e seen = ap (λ y. cond y None (Some x)) e
    by_tests true false x b e seen = ap (λ y. cond y None (Some x)) e
    by_tests false g x b e seen = cc

-- the points that are known afterwards
pub known_after : (visible none bad : Bool) → (visible && not (cond visible none bad)) ≡ (visible && not none)
known_after true none bad = refl
known_after false none bad = refl
