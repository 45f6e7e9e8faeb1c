-- One command more: what the screen shows after it.
use Rattle.std.proofs.Common.{◌≡◌, ℕ, Bool, true, false, ◌&&◌, ◌||◌, cond, List, [], ◌∷◌, ◌++◌, Option, Some, None, refl, sym, ap, subst, ◌∙◌}
use Rattle.std.specs.Prelude.{unwrap_or}
use Rattle.std.specs.Option.{option_map}
use Rattle.std.proofs.lemmas.List.Folds.{list_any-append}
use Rattle.tr_base.specs.declared.Point.{Point}
use Rattle.tr_base.specs.declared.Size.{Size}
use Rattle.tr_base.specs.declared.Kind.{Kind}
use Rattle.tr_base.specs.declared.Op.{Op}
use Rattle.tr_base.specs.declared.Op.TheVariants.{Bg, Fg, Transparent, Set, Exchange}
use Rattle.tr_base.specs.declared.Pair.{Pair}
use Rattle.tr_base.specs.Ops.{eff, opaque}
use Rattle.tr_base.specs.Rects.{Edges, before_shift, has_point}
use Rattle.tr_screen.specs.Pictures.{Picture, pixel_of}
use Rattle.tr_screen.specs.Runs.{Repaints, IsOn}
use Rattle.tr_region.specs.Points.{holds}
use Rattle.tr_paint.specs.declared.Paint.{Paint}
use Rattle.tr_paint.specs.declared.Paint.TheVariants.{Tint, Texture, Pixels, Text, Scroll, Spoil}
use Rattle.tr_paint.specs.Paints.{area, op_at, chosen, both_opaque}
use Rattle.tr_paint.specs.Batches.{touches}
use Rattle.tr_paint.specs.Traces.{Look, after, Keep, Value, Change, deed, deed_within, after_deed}
use Rattle.tr_paint.proofs.TraceLemmas.{after-last, trace-unseen}
use Rattle.tr_exec.specs.Executions.{screen_point, base_of, RegionLiesOn}
use Rattle.tr_exec.specs.Painted.{in_sight, IsPainted, ShowsBatch}
use Rattle.tr_exec.proofs.PlacedLemmas.{placed-before, source-before}

some_is : (a b : ℕ) → Some a ≡ Some b → a ≡ b
some_is a b e = ap (λ (o : Option ℕ). unwrap_or o 0) e

-- what an opaque operation leaves doesn't depend on what was there
eff-opaque : (kind : Kind) (op : Op) (old : ℕ) → opaque op ≡ true → eff kind op old ≡ eff kind op 0
eff-opaque kind Bg old h = refl
eff-opaque kind Fg old h = refl
eff-opaque kind Transparent old h = cc
eff-opaque kind (Set n) old h = refl
eff-opaque kind (Exchange a b) old h = cc

opaque-chosen : (ops : Pair) (bit : Bool) → both_opaque ops ≡ true → opaque (chosen ops bit) ≡ true
opaque-chosen ops bit h = by_tests (opaque ops.zero) (opaque ops.one) refl refl h bit
  where
    by_tests : (z o : Bool) → opaque ops.zero ≡ z → opaque ops.one ≡ o → z && o ≡ true → (bit : Bool) → opaque (cond bit ops.one ops.zero) ≡ true
    by_tests true true is_z is_o k true = is_o
    by_tests true true is_z is_o k false = is_z
    by_tests true false is_z is_o k bit = cc
    by_tests false o is_z is_o k bit = cc

-- a painting deed makes of a colour what its operation makes of the pixel
painted-done : (kind : Kind) (b : Bool) (op : Op) (known : Point → Option ℕ) (q : Point) (old x : ℕ) → (b ≡ true → opaque op ≡ true) →
    ((y : ℕ) → known q ≡ Some y → old ≡ y) → after_deed kind (cond b (Value (eff kind op 0)) (Change op)) known q ≡ Some x → eff kind op old ≡ x
painted-done kind true op known q old x told shows e = eff-opaque kind op old (told refl) ∙ some_is _ x e
painted-done kind false op known q old x told shows e = by_known (known q) refl e
  where
    by_known : (o : Option ℕ) → known q ≡ o → option_map (eff kind op) o ≡ Some x → eff kind op old ≡ x
    by_known None is h = cc
    by_known (Some y) is h = ap (λ n. eff kind op n) (shows y is) ∙ some_is _ x h

-- repainted points, and those that aren't
repainted : {test : Point → Bool} {f : Point → ℕ} {old new : Picture} →
    Repaints test f old new → (p : Point) → IsOn old.size p → test p ≡ true →
    pixel_of new p ≡ f p
repainted {test} {f} {old} r p on pass = r.points p on ∙ ap (λ b. cond b (f p) (pixel_of old p)) pass

left_alone : {test : Point → Bool} {f : Point → ℕ} {old new : Picture} →
    Repaints test f old new → (p : Point) → IsOn old.size p → test p ≡ false →
    pixel_of new p ≡ pixel_of old p
left_alone {test} {f} {old} r p on fails = r.points p on ∙ ap (λ b. cond b (f p) (pixel_of old p)) fails

and_false : (a b : Bool) → b ≡ false → a && b ≡ false
and_false true b h = h
and_false false b h = refl

not_both : (a b : Bool) → a ≡ false → a && b ≡ false
not_both true b h = cc
not_both false b h = refl

-- a point outside the command's area, or that isn't visible, keeps its pixel
untouched : (look : Look) (c : Paint) (origin : Point) (visible : List Edges) (old new : Picture) (p : Point) → IsPainted look c origin visible old new →
    IsOn old.size p → in_sight c origin visible p ≡ false → pixel_of new p ≡ pixel_of old p
untouched look (Tint clip op) origin visible old new p r on fails = left_alone r p on fails
untouched look (Texture ops clip tile delta) origin visible old new p r on fails = left_alone r p on fails
untouched look (Pixels clip src delta) origin visible old new p r on fails = left_alone r p on fails
untouched look (Text ops clip at text) origin visible old new p r on fails = left_alone r p on fails
untouched look (Scroll clip delta) origin visible old new p r on fails = left_alone r p on (not_both _ _ fails)
untouched look (Spoil clip) origin visible old new p r on fails = ap (λ (s : Picture). pixel_of s p) r

same_size : (look : Look) (c : Paint) (origin : Point) (visible : List Edges) (old new : Picture) → IsPainted look c origin visible old new →
    (new.size ≡ old.size) × (new.kind ≡ old.kind)
same_size look (Tint clip op) origin visible old new r = (r.size, r.kind)
same_size look (Texture ops clip tile delta) origin visible old new r = (r.size, r.kind)
same_size look (Pixels clip src delta) origin visible old new r = (r.size, r.kind)
same_size look (Text ops clip at text) origin visible old new r = (r.size, r.kind)
same_size look (Scroll clip delta) origin visible old new r = (r.size, r.kind)
same_size look (Spoil clip) origin visible old new r = (ap (λ (s : Picture). s.size) r, ap (λ (s : Picture). s.kind) r)

-- a point that no command touches lies in the area of none
touches_more : (batch : List Paint) (c : Paint) (q : Point) → touches (batch ++ c ∷ []) q ≡ false → (touches batch q ≡ false) × (has_point (area c) q ≡ false)
touches_more batch c q none = neither _ _ (sym (list_any-append (λ d. has_point (area d) q) batch (c ∷ [])) ∙ none)
  where
    neither : (a b : Bool) → a || (b || false) ≡ false → (a ≡ false) × (b ≡ false)
    neither true b h = cc
    neither false true h = cc
    neither false false h = (refl, refl)

module _ (look : Look) (origin : Point) (visible bad : List Edges) (first : Picture) (on : RegionLiesOn first.size visible) where
  -- at first each visible point whose colour is known has it
  pub shown_none : ShowsBatch look (base_of origin visible bad first) [] origin visible first first
  shown_none = record { size = refl; kind = refl; shown = shown; untouched = λ p seen none. refl; others = λ p there hidden. refl }
    where
      shown : (p : Point) (x : ℕ) → holds visible p ≡ true →
          after look (base_of origin visible bad first) [] (before_shift p origin) ≡ Some x →
          pixel_of first p ≡ x
      shown p x seen is = by_tests (holds visible (screen_point origin (before_shift p origin))) (holds bad (screen_point origin (before_shift p origin))) is
        where
          by_tests : (v b : Bool) → cond v (cond b None (Some (pixel_of first (screen_point origin (before_shift p origin))))) None ≡ Some x →
              pixel_of first p ≡ x
          by_tests true true h = cc
          by_tests true false h = ap (λ r. pixel_of first r) (sym (placed-before origin p)) ∙ some_is _ x h
          by_tests false b h = cc

  -- one command more
  pub shown_more : (batch : List Paint) (c : Paint) (mid new : Picture) → ShowsBatch look (base_of origin visible bad first) batch origin visible first mid →
      IsPainted look c origin visible mid new → ShowsBatch look (base_of origin visible bad first) (batch ++ c ∷ []) origin visible first new
  shown_more batch c mid new so_far painted = record {
    size = (same_size look c origin visible mid new painted).0 ∙ so_far.size;
    kind = (same_size look c origin visible mid new painted).1 ∙ so_far.kind;
    shown = shown;
    untouched = λ p seen none.
        let neither = touches_more batch c (before_shift p origin) none in
        untouched look c origin visible mid new p painted (there_too p (on p seen)) (and_false _ _ neither.1) ∙ so_far.untouched p seen neither.0;
    others = λ p there hidden. untouched look c origin visible mid new p painted (there_too p there) (not_both _ _ hidden) ∙ so_far.others p there hidden;
  }
    where
      known : Point → Option ℕ
      known r = after look (base_of origin visible bad first) batch r

      there_too : (p : Point) → IsOn first.size p → IsOn mid.size p
      there_too p there = let P : Size → Type 0 = λ s. IsOn s p in subst P (sym so_far.size) there

      -- a known point of the window is visible, and the screen has its colour
      source : (p : Point) (x : ℕ) →
          after look (base_of origin visible bad first) batch (before_shift p origin) ≡ Some x →
          (holds visible p ≡ true) × (pixel_of mid p ≡ x)
      source p x is = by_sight (holds visible p) refl
        where
          by_sight : (b : Bool) → holds visible p ≡ b → (holds visible p ≡ true) × (pixel_of mid p ≡ x)
          by_sight true seen = (seen, so_far.shown p x seen is)
          by_sight false hidden =
              let none = trace-unseen look (base_of origin visible bad first) _ (before_shift p origin)
              (ap (λ r. holds visible r) (placed-before origin p) ∙ hidden) in
              absurd (some_none (sym is ∙ none))
            where
              some_none : Some x ≡ None → ⊥
              some_none h = cc

      within : (p : Point) (x : ℕ) → IsOn mid.size p → holds visible p ≡ true → has_point (area c) (before_shift p origin) ≡ true →
          after_deed look.kind (deed_within look c (before_shift p origin)) (λ r. after look (base_of origin visible bad first) batch r)
          (before_shift p origin) ≡ Some x → pixel_of new p ≡ x
      within p x there seen inside e = by_command c painted inside e
        where
          sight : (d : Paint) → has_point (area d) (before_shift p origin) ≡ true → in_sight d origin visible p ≡ true
          sight d h = rw (seen, h) refl

          told : (y : ℕ) → after look (base_of origin visible bad first) batch (before_shift p origin) ≡ Some y → pixel_of mid p ≡ y
          told y is = so_far.shown p y seen is

          moved : (delta : Point) → after look (base_of origin visible bad first) batch (before_shift (before_shift p origin) delta) ≡ Some x →
              (holds visible (before_shift p delta) ≡ true) × (pixel_of mid (before_shift p delta) ≡ x)
          moved delta is =
              source (before_shift p delta) x
              (ap (λ r. after look (base_of origin visible bad first) batch r) (sym (source-before origin p delta)) ∙ is)

          by_command : (d : Paint) → IsPainted look d origin visible mid new → has_point (area d) (before_shift p origin) ≡ true →
              after_deed look.kind (deed_within look d (before_shift p origin)) (λ r. after look (base_of origin visible bad first) batch r)
              (before_shift p origin) ≡ Some x → pixel_of new p ≡ x
          by_command (Tint clip op) r h e =
              repainted r p there (sight (Tint clip op) h)
              ∙ painted-done look.kind (opaque op) op (λ r. after look (base_of origin visible bad first) batch r)
              (before_shift p origin) (pixel_of mid p) x (λ o. o) told e
          by_command (Texture ops clip tile delta) r h e =
              let d = Texture ops clip tile delta in
              repainted r p there (sight d h)
              ∙ painted-done look.kind (both_opaque ops) (op_at look.font d (before_shift p origin))
              (λ r. after look (base_of origin visible bad first) batch r) (before_shift p origin) (pixel_of mid p) x
              (opaque-chosen ops _) told e
          by_command (Pixels clip src delta) r h e = repainted r p there (sight (Pixels clip src delta) h) ∙ some_is _ x e
          by_command (Text ops clip at text) r h e =
              let d = Text ops clip at text in
              repainted r p there (sight d h)
              ∙ painted-done look.kind (both_opaque ops) (op_at look.font d (before_shift p origin))
              (λ r. after look (base_of origin visible bad first) batch r) (before_shift p origin) (pixel_of mid p) x
              (opaque-chosen ops _) told e
          by_command (Scroll clip delta) r h e =
              let from = moved delta e in
              repainted r p there (rw (seen, h, from.0) refl) ∙ from.1
          by_command (Spoil clip) r h e = cc

      shown : (p : Point) (x : ℕ) → holds visible p ≡ true →
          after look (base_of origin visible bad first) (batch ++ c ∷ []) (before_shift p origin) ≡ Some x →
          pixel_of new p ≡ x
      shown p x seen is =
          let sight : holds visible (screen_point origin (before_shift p origin)) ≡ true = ap (λ r. holds visible r) (placed-before origin p) ∙ seen in
          let last = after-last look (base_of origin visible bad first) batch c (before_shift p origin) in
          let colour : Point → Option ℕ = λ r. after look (base_of origin visible bad first) batch r in
          let done_is = ap (λ b. cond b (after_deed look.kind (deed look c (before_shift p origin)) colour (before_shift p origin)) None) sight in
          by_area (has_point (area c) (before_shift p origin)) refl (sym done_is ∙ sym last ∙ is)
        where
          by_area : (b : Bool) → has_point (area c) (before_shift p origin) ≡ b →
              after_deed look.kind (cond b (deed_within look c (before_shift p origin)) Keep)
              (λ r. after look (base_of origin visible bad first) batch r) (before_shift p origin) ≡ Some x →
              pixel_of new p ≡ x
          by_area true inside e = within p x (there_too p (on p seen)) seen inside e
          by_area false outside e =
              untouched look c origin visible mid new p painted (there_too p (on p seen)) (and_false _ _ outside) ∙ so_far.shown p x seen e
