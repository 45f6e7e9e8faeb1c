-- How a window's batch leads from the content that it shows to its present one, as more is made of it.
use Rattle.std.proofs.Common.{◌≡◌, ℕ, Bool, true, false, cond, List, [], ◌∷◌, ◌++◌, Some, refl, sym, ap, subst, ◌∙◌, append_assoc}
use Rattle.std.specs.List.{fold}
use Rattle.std.proofs.lemmas.List.{append-nil}
use Rattle.std.proofs.lemmas.Grind.{fold-append}
use Rattle.tr_base.specs.declared.Point.{Point}
use Rattle.tr_base.specs.declared.Size.{Size}
use Rattle.tr_base.specs.Rects.{Edges, has_point, meet_of, whole_of}
use Rattle.tr_paint.specs.declared.paints.Paint.{Paint}
use Rattle.tr_paint.specs.declared.paints.Paint.TheVariants.{Spoil}
use Rattle.tr_paint.specs.Paints.{area}
use Rattle.tr_paint.specs.Traces.{Look, Keep, Lose, Base}
use Rattle.tr_paint.specs.Batches.{kept}
use Rattle.tr_paint.specs.Patches.{IsPatch}
use Rattle.tr_paint.proofs.PatchLemmas.{Gives, kept_patch, no_patch, two_patches}
use Rattle.tr_client.specs.declared.clients.Client.{Ghosts}
use Rattle.tr_machine.specs.Windows.{Change, Command, Mark, Window, batch, content, changed_content, fresh, paints_from, paints_of, updated, with_change}

-- no command leads from a picture to itself
pub empty_patch : (look : Look) (size : Size) (picture : Point → ℕ) → IsPatch look size [] picture picture
empty_patch look size picture = no_patch look size picture picture (λ q within. refl)

-- where no command leads from one picture to another, both are the same in the window
pub same_pictures : (look : Look) (size : Size) (old new : Point → ℕ) → IsPatch look size [] old new →
    (q : Point) → has_point (whole_of size) q ≡ true → old q ≡ new q
same_pictures look size old new patch q within =
    let whole : Base = record { visible = λ r. has_point (whole_of size) r; known = λ r. Some (old r) } in
    rw within at (patch whole (λ r inside. inside) (λ r inside. refl) q within)

-- nor does a mark change what the points that stay known show
pub mark_patch : (look : Look) (size : Size) (clip : Edges) (picture : Point → ℕ) → IsPatch look size (kept (Spoil clip)) picture picture
mark_patch look size clip picture = kept_patch look size (Spoil clip) picture picture (λ q within. by_area q (has_point (area (Spoil clip)) q))
  where
    by_area : (q : Point) (b : Bool) → Gives look.kind size (cond b Lose Keep) picture q (picture q)
    by_area q true = tt
    by_area q false = refl

module _ {C M : Type 0} (client : Ghosts C M) where
  -- the content after one change more
  pub content-more : (w : Window C M) (change : Change M) → content client (with_change change w) ≡ changed_content client (content client w) change
  content-more w change = fold-append (changed_content client) w.shown w.made (change ∷ [])

  -- the paint commands of changes in a row and of one more
  paints-more : (look : Look) (size : Size) (x : C) (changes : List (Change M)) (change : Change M) →
      paints_from client look size x (changes ++ change ∷ [])
      ≡ paints_from client look size x changes ++ paints_of client look size (fold (changed_content client) x changes) change
  paints-more look size x [] change = append-nil (paints_of client look size x change)
  paints-more look size x (c ∷ changes) change =
      let next : C = changed_content client x c in
      let last : List Paint = paints_of client look size (fold (changed_content client) next changes) change in
      ap (λ (ps : List Paint). paints_of client look size x c ++ ps) (paints-more look size next changes change)
      ∙ sym (append_assoc (paints_of client look size x c) (paints_from client look size next changes) last)

  -- the batch after one change more
  pub batch-more : (look : Look) (size : Size) (w : Window C M) (change : Change M) →
      batch client look size (with_change change w) ≡ batch client look size w ++ paints_of client look size (content client w) change
  batch-more look size w change = paints-more look size w.shown w.made change

  -- the window's batch leads from the shown picture to the present one, for this look and size
  abbrev pub IsLed : Look → Size → Window C M → Type 0
  IsLed look size w = IsPatch look size (batch client look size w) (client.pic look size w.shown) (client.pic look size (content client w))

  -- that of a window of which nothing was made
  pub led_fresh : (look : Look) (size : Size) (x : C) → IsLed look size (fresh x)
  led_fresh look size x = empty_patch look size (client.pic look size x)

  -- that of a window that was painted
  pub led_updated : (look : Look) (size : Size) (w : Window C M) → IsLed look size (updated client w)
  led_updated look size w = led_fresh look size (content client w)

  -- one change more, whose paint commands lead from the present picture to the next one
  pub led_more : (look : Look) (size : Size) (w : Window C M) (change : Change M) → IsLed look size w →
      IsPatch look size (paints_of client look size (content client w) change)
      (client.pic look size (content client w)) (client.pic look size (changed_content client (content client w) change)) →
      IsLed look size (with_change change w)
  led_more look size w change led more =
      let now : C = content client w in
      let P : List Paint → C → Type 0 = λ ps x. IsPatch look size ps (client.pic look size w.shown) (client.pic look size x) in
      let both : P (batch client look size w ++ paints_of client look size now change) (changed_content client now change) =
      two_patches look size (batch client look size w) (paints_of client look size now change) (client.pic look size w.shown)
      (client.pic look size now) (client.pic look size (changed_content client now change)) led more in
      let by_content : P (batch client look size w ++ paints_of client look size now change) (content client (with_change change w)) =
      subst (λ (x : C). P (batch client look size w ++ paints_of client look size now change) x) (sym (content-more w change)) both in
      subst (λ (ps : List Paint). P ps (content client (with_change change w))) (sym (batch-more look size w change)) by_content

  -- one command more, whose patch leads from the present picture to the next one
  pub led_command : (look : Look) (size : Size) (w : Window C M) (cmd : M) → IsLed look size w →
      IsPatch look size (client.patch look size (content client w) cmd)
      (client.pic look size (content client w)) (client.pic look size (client.next (content client w) cmd)) →
      IsLed look size (with_change (Command cmd) w)
  led_command look size w cmd led patch = led_more look size w (Command cmd) led patch

  -- one mark more
  pub led_mark : (look : Look) (size : Size) (w : Window C M) (clip : Edges) → IsLed look size w → IsLed look size (with_change (Mark clip) w)
  led_mark look size w clip led =
      led_more look size w (Mark clip) led (mark_patch look size (meet_of clip (whole_of size)) (client.pic look size (content client w)))
