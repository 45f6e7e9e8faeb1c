-- What a writer keeps and sends.
use Rattle.std.proofs.Common.{◌≡◌, ℕ, ◌+◌, ◌<◌, pos, true, List, [], ◌∷◌, ◌++◌, length, get_or, Some, None, refl, sym, ap, subst, ◌∙◌, arith, length-append}
use Rattle.std.proofs.lemmas.List.{ext_get_or}
use Rattle.tr_base.specs.declared.points.Point.{Point}
use Rattle.tr_base.specs.declared.sizes.Size.{Size}
use Rattle.tr_base.specs.declared.ops.Kind.{Kind}
use Rattle.tr_base.specs.Rects.{has_point, whole_of}
use Rattle.tr_base.proofs.KindLemmas.{same_kind_itself}
use Rattle.tr_base.proofs.PlaceLemmas.{whole_has}
use Rattle.tr_screen.specs.Pictures.{Picture, IsPicture, pixel_of, row_of}
use Rattle.tr_screen.specs.Resizing.{kept_pixel}
use Rattle.tr_screen.specs.Runs.{IsOn}
use Rattle.tr_mirror.specs.Records.{front_fault}
use Rattle.tr_mirror.specs.Readings.{screens_shown, last_of}
use Rattle.tr_mirror.specs.Updates.{Awaits, ShowsMore, HasSent, WriterView}
use Rattle.tr_mirror.proofs.PixelLemmas.{same_picture}
use Rattle.tr_mirror.proofs.ShownLemmas.{last_of-push}

-- ---- the screen that is kept

-- a screen that is made again in its own size and kind is the same
pub made_again : (old new : Picture) (size : Size) (kind : Kind) → IsPicture old → IsPicture new → size ≡ old.size → kind ≡ old.kind → new.size ≡ size →
    new.kind ≡ kind → ((p : Point) → IsOn size p → pixel_of new p ≡ kept_pixel old kind p) → new ≡ old
made_again old new size kind was is old_size old_kind new_size new_kind points =
    same_picture new old (new_size ∙ old_size) (new_kind ∙ old_kind) (is.high ∙ high ∙ sym was.high) (λ v above. row v (omega (arith, is.high, high)))
  where
    wide : new.size.wide ≡ old.size.wide
    wide = ap (λ (s : Size). s.wide) (new_size ∙ old_size)

    high : new.size.high ≡ old.size.high
    high = ap (λ (s : Size). s.high) (new_size ∙ old_size)

    pixel : (h v : ℕ) → h < old.size.wide → v < old.size.high → get_or (row_of new v) h 0 ≡ get_or (row_of old v) h 0
    pixel h v left above =
        let p : Point = record { h = pos h; v = pos v } in
        let on : has_point (whole_of old.size) p ≡ true = whole_has old.size h v left above in
        let on_size : has_point (whole_of size) p ≡ true = subst (λ (s : Size). has_point (whole_of s) p ≡ true) (sym old_size) on in
        points p on_size ∙ ap (λ (k : Kind). kept_pixel old k p) old_kind ∙ rw (same_kind_itself old.kind, on) refl

    row : (v : ℕ) → v < old.size.high → row_of new v ≡ row_of old v
    row v above =
        let new_long : length (row_of new v) ≡ new.size.wide = is.wide v [] (omega (arith, is.high, high)) in
        let old_long : length (row_of old v) ≡ old.size.wide = was.wide v [] (omega (arith, was.high)) in
        ext_get_or 0 (row_of new v) (row_of old v) (new_long ∙ wide ∙ sym old_long) (λ h within. pixel h v (omega (arith, new_long, wide)) above)

-- ---- what was sent

-- a writer that begins has sent the stream of no screen
pub HasSent-none : HasSent (record { last = None; cuts = 0 }) [] []
unfolding front_fault
HasSent-none = record { is_stream = refl; shows = refl; cuts = refl; last = refl }

-- one group more
pub HasSent-more : (w v : WriterView) (stream added : List ℕ) (screens : List Picture) (now : Picture) → v.last ≡ Some now → v.cuts ≡ w.cuts + 1 →
    HasSent w stream screens → (Awaits stream (w.cuts + 1) w.last → ShowsMore stream added now) →
    HasSent v (stream ++ added) (screens ++ now ∷ [])
HasSent-more w v stream added screens now last cuts has shows =
    let more : ShowsMore stream added now = shows (record {
      is_stream = has.is_stream;
      cuts = ap (λ (l : List Picture). length l + 1) has.shows ∙ ap (λ (n : ℕ). n + 1) (sym has.cuts);
      shows = has_last;
    }) in
    record {
      is_stream = more.is_stream;
      shows = more.shows ∙ ap (λ (l : List Picture). l ++ now ∷ []) has.shows;
      cuts = omega (arith, cuts, has.cuts, length-append screens (now ∷ []));
      last = last ∙ sym (last_of-push screens now);
    }
  where
    has_last : last_of (screens_shown stream) ≡ w.last
    has_last = ap (λ (l : List Picture). last_of l) has.shows ∙ sym has.last
