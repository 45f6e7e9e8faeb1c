-- Commands that lose nothing: what is known of a point before them is known after them, or something else is.
use Rattle.std.proofs.Common.{◌≡◌, ℕ, Bool, true, false, cond, List, [], ◌∷◌, ◌++◌, Option, Some, None, option_map, refl, sym, ap, subst, append_assoc, ◌∙◌}
use Rattle.std.specs.Prelude.{⊤, is_none, All}
use Rattle.std.proofs.lemmas.List.{append-nil}
use Rattle.std.proofs.lemmas.List.Elements.{All-nil, All-cons, All-head, All-tail}
use Rattle.std.proofs.lemmas.Bool.{or_parts}
use Rattle.tr_base.specs.declared.Point.{Point}
use Rattle.tr_base.specs.declared.Op.{Op}
use Rattle.tr_base.specs.declared.Kind.{Kind}
use Rattle.tr_base.specs.Ops.{eff}
use Rattle.tr_base.specs.Rects.{Edges, before_shift, has_point, whole_of}
use Rattle.tr_paint.specs.declared.Paint.{Paint}
use Rattle.tr_paint.specs.declared.Paint.TheVariants.{Tint, Texture, Pixels, Text, Scroll, Spoil}
use Rattle.tr_paint.specs.declared.Scrolls.{Scrolls}
use Rattle.tr_paint.specs.declared.Scrolls.TheVariants.{Absent, Alike, Various}
use Rattle.tr_paint.specs.Paints.{area, is_opaque, op_at}
use Rattle.tr_paint.specs.Sums.{IsOneOf, AreScrolls, is_spoil, has_spoil}
use Rattle.tr_paint.specs.Traces.{Look, Base, Keep, Value, Change, deed, deed_within, after_deed, after}
use Rattle.tr_paint.proofs.TraceLemmas.{after-last}
use Rattle.tr_windows.specs.declared.exposures.Exposure.{Exposure}
use Rattle.tr_windows.specs.Losses.{BringsOwn, Spares}
use Rattle.tr_windows.specs.Promises.{IsKnownWhole, LosesNothingOf}

-- an operation on a known colour gives one
changed : (kind : Kind) (op : Op) (o : Option ℕ) → is_none o ≡ false → is_none (option_map (eff kind op) o) ≡ false
changed kind op None known = known
changed kind op (Some x) known = refl

module _ (e : Exposure) (look : Look) (cs : List Paint) (keeps : LosesNothingOf e look cs) where
  module _ (base : Base) (whole : e.is_whole ≡ true → IsKnownWhole e.size base) (q : Point) (seen : base.visible q ≡ true)
      (known : is_none (base.known q) ≡ false) where
    -- the colours before the last command
    abbrev before : Point → Option ℕ
    before r = after look base cs r

    -- a pixel is given, or what is there is changed
    given : (c : Paint) (opaque : Bool) →
        is_none (after_deed look.kind (cond opaque (Value (eff look.kind (op_at look.font c q) 0)) (Change (op_at look.font c q))) before q) ≡ false
    given c true = refl
    given c false = changed look.kind (op_at look.font c q) (before q) (keeps base whole q seen known)

    -- where the window is whole and known, a point of it is brought in
    brought : (clip : _) (delta : Point) → Spares e (Scroll clip delta) → has_point clip q ≡ true → is_none (before (before_shift q delta)) ≡ false
    brought clip delta spares has =
        let all : IsKnownWhole e.size base = whole spares.0 in
        let r : Point = before_shift q delta in
        let within : has_point (whole_of e.size) r ≡ true = spares.1 q has (sym (all.visible q) ∙ seen) in
        keeps base whole r (all.visible r ∙ within) (all.known r within)

    -- within its area
    inside : (c : Paint) → Spares e c → has_point (area c) q ≡ true → is_none (after_deed look.kind (deed_within look c q) before q) ≡ false
    inside (Tint clip op) spares has = given (Tint clip op) (is_opaque (Tint clip op))
    inside (Texture ops clip tile delta) spares has = given (Texture ops clip tile delta) (is_opaque (Texture ops clip tile delta))
    inside (Pixels clip src delta) spares has = given (Pixels clip src delta) (is_opaque (Pixels clip src delta))
    inside (Text ops clip at text) spares has = given (Text ops clip at text) (is_opaque (Text ops clip at text))
    inside (Scroll clip delta) spares has = brought clip delta spares has
    inside (Spoil clip) spares has = absurd spares

    -- one command
    one : (c : Paint) → Spares e c → is_none (after_deed look.kind (deed look c q) before q) ≡ false
    one c spares = by_area (has_point (area c) q) refl
      where
        by_area : (b : Bool) → has_point (area c) q ≡ b → is_none (after_deed look.kind (cond b (deed_within look c q) Keep) before q) ≡ false
        by_area true has = inside c spares has
        by_area false out = keeps base whole q seen known

  -- one more command that spares what is known
  pub loses-more : (c : Paint) → Spares e c → LosesNothingOf e look (cs ++ c ∷ [])
  loses-more c spares base whole q seen known =
      ap is_none (after-last look base cs c q ∙ ap (λ b. cond b (after_deed look.kind (deed look c q) (λ r. after look base cs r) q) None) seen)
      ∙ one base whole q seen known c spares

-- no command loses nothing
pub loses-none : (e : Exposure) (look : Look) → LosesNothingOf e look []
loses-none e look base whole q seen known = rw seen known

-- commands that each spare what is known lose nothing, behind others that lose nothing
pub loses-all : (e : Exposure) (look : Look) (cs ds : List Paint) → LosesNothingOf e look cs → All (Spares e) ds → LosesNothingOf e look (cs ++ ds)
loses-all e look cs [] keeps spares = subst (λ (xs : List Paint). LosesNothingOf e look xs) (sym (append-nil cs)) keeps
loses-all e look cs (d ∷ ds) keeps spares =
    subst (λ (xs : List Paint). LosesNothingOf e look xs) (append_assoc cs (d ∷ []) ds)
    (loses-all e look (cs ++ d ∷ []) ds (loses-more e look cs keeps d (All-head (Spares e) d ds spares)) (All-tail (Spares e) d ds spares))

-- the scrolls of a batch, where they are alike, spare what is known of a window; where they differ, nothing is said
abbrev pub AreSparing : Exposure → Scrolls → Type 0
AreSparing e Absent = ⊤
AreSparing e (Alike clip delta) = (e.is_whole ≡ true) × BringsOwn e.size clip delta
AreSparing e Various = ⊥

-- a command that is no spoil spares what is known, where the scrolls do
spares-one : (e : Exposure) (s : Scrolls) (c : Paint) → AreSparing e s → is_spoil c ≡ false → IsOneOf s c → Spares e c
spares-one e s (Tint clip op) sparing clean is = tt
spares-one e s (Texture ops clip tile delta) sparing clean is = tt
spares-one e s (Pixels clip src delta) sparing clean is = tt
spares-one e s (Text ops clip at text) sparing clean is = tt
spares-one e Absent (Scroll clip delta) sparing clean is = absurd is
spares-one e (Alike c d) (Scroll clip delta) sparing clean is = (
  sparing.0,
  subst (λ (p : Point). BringsOwn e.size clip p) (sym is.1) (subst (λ (r : Edges). BringsOwn e.size r d) (sym is.0) sparing.1),
)
spares-one e Various (Scroll clip delta) sparing clean is = absurd sparing
spares-one e s (Spoil clip) sparing clean is = cc

-- the same for all commands of a batch
spares-all : (e : Exposure) (s : Scrolls) (cs : List Paint) → AreSparing e s → has_spoil cs ≡ false → AreScrolls s cs → All (Spares e) cs
spares-all e s [] sparing none are = All-nil (Spares e)
spares-all e s (c ∷ cs) sparing none are =
    let both = or_parts (is_spoil c) (has_spoil cs) none in
    All-cons (Spares e) c cs (spares-one e s c sparing both.0 (All-head (IsOneOf s) c cs are))
    (spares-all e s cs sparing both.1 (All-tail (IsOneOf s) c cs are))

-- a batch without a spoil, whose scrolls spare what is known, loses nothing
pub loses-alike : (e : Exposure) (s : Scrolls) (cs : List Paint) → AreSparing e s → has_spoil cs ≡ false → AreScrolls s cs →
    (look : Look) → LosesNothingOf e look cs
loses-alike e s cs sparing none are look = loses-all e look [] cs (loses-none e look) (spares-all e s cs sparing none are)
