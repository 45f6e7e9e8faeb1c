-- Where no point is bad and no command waits, the screen is the picture that the contents give, painted from nothing.
use Rattle.std.proofs.Common.{◌≡◌, ℕ, pos, ◌<◌, true, false, List, [], ◌⊎◌, inl, inr, get_or, sym, ap, ◌∙◌, arith}
use Rattle.std.proofs.lemmas.List.FromFn.{fill_by_all}
use Rattle.tr_base.specs.declared.Point.{Point}
use Rattle.tr_base.specs.declared.Size.{Size}
use Rattle.tr_base.specs.declared.Kind.{Kind}
use Rattle.tr_base.specs.declared.LeafId.{LeafId}
use Rattle.tr_base.specs.Rects.{has_point, whole_of}
use Rattle.tr_base.proofs.RectLemmas.{false-true}
use Rattle.tr_base.proofs.PlaceLemmas.{whole_has}
use Rattle.tr_screen.specs.Pictures.{Picture, IsPicture, picture_by, pixel_of, row_by}
use Rattle.tr_paint.specs.Batches.{touches}
use Rattle.tr_client.specs.declared.clients.Client.{Ghosts}
use Rattle.tr_forest.specs.Forests.{IsForest}
use Rattle.tr_spot.specs.Leaves.{in_leaf}
use Rattle.tr_surface.specs.Surfaces.{is_on}
use Rattle.tr_machine.specs.States.{State, leaf_batch}
use Rattle.tr_machine.specs.Pictures.{render, shown, want}
use Rattle.tr_machine.specs.Promises.{Agrees, Fits, IsAwaited}
use Rattle.tr_machine.proofs.LagLemmas.{good_shows}

-- a picture is made by its pixels
pub picture_is : (picture : Picture) (pixel : Point → ℕ) → IsPicture picture →
    ((p : Point) → has_point (whole_of picture.size) p ≡ true → pixel_of picture p ≡ pixel p) → picture ≡ picture_by picture.size picture.kind pixel
picture_is picture pixel is same =
    ap (λ (rows : List (List ℕ)). record { size = picture.size; kind = picture.kind; rows = rows })
    (fill_by_all (row_by picture.size.wide pixel) picture.rows picture.size.high [] is.high each_row)
  where
    each_row : (v : ℕ) → v < picture.size.high → get_or picture.rows v [] ≡ row_by picture.size.wide pixel v
    each_row v down =
        fill_by_all (λ h. pixel (record { h = pos h; v = pos v })) (get_or picture.rows v []) picture.size.wide 0
        (is.wide v [] (omega (arith, is.high, down)))
        (λ h across. same (record { h = pos h; v = pos v }) (whole_has picture.size h v across down))

module _ {C M : Type 0} (client : Ghosts C M) where
  -- no point of the screen is bad, and no command waits
  pub record IsIdle (m : State C M) : Type 0 where
    pub good : (p : Point) → is_on m.tree p ≡ true → m.bad p ≡ false
    pub batches : (leaf : LeafId) → leaf_batch client m leaf ≡ []

  -- each point of the screen then has the colour that it is to have
  pub idle_pixel : (m : State C M) (screen : Picture) → IsForest m.tree.nodes → Fits client m → IsIdle m → Agrees client m screen → (p : Point) →
      is_on m.tree p ≡ true → pixel_of screen p ≡ want client m p
  idle_pixel m screen forest fits idle agrees p on =
      agrees.good p on (idle.good p on) ∙ by_case (good_shows client m forest fits p (idle.good p on))
    where
      by_case : (shown client m p ≡ want client m p) ⊎ IsAwaited client m p → shown client m p ≡ want client m p
      by_case (inl same) = same
      by_case (inr awaited) =
          absurd (false-true (sym (ap (λ batch. touches batch (in_leaf m.tree awaited.leaf p)) (idle.batches awaited.leaf)) ∙ awaited.touched))

  -- the screen is the picture that is painted from nothing
  pub idle_screen : (m : State C M) (screen : Picture) → IsForest m.tree.nodes → Fits client m → IsIdle m → Agrees client m screen → IsPicture screen →
      screen ≡ render client m
  idle_screen m screen forest fits idle agrees is =
      picture_is screen (want client m) is
      (λ p on. idle_pixel m screen forest fits idle agrees p (ap (λ (size : Size). has_point (whole_of size) p) (sym agrees.size) ∙ on))
      ∙ ap (λ (size : Size). picture_by size screen.kind (want client m)) agrees.size
      ∙ ap (λ (kind : Kind). picture_by m.tree.size kind (want client m)) agrees.kind
