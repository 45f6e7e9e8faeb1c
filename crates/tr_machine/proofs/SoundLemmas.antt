-- What each step keeps of a state: it is sound, and so it fits.
use Rattle.std.proofs.Common.{◌≡◌, ℕ, Bool, true, false, not, ◌&&◌, cond, List, Option, Some, None, length, inl, inr, refl, sym, subst, ◌∙◌}
use Rattle.std.specs.Prelude.{IfSome, is_none, ⊤}
use Rattle.std.specs.Option.{option_map}
use Rattle.std.specs.List.{slice_get}
use Rattle.std.proofs.lemmas.Option.{none-some, same_Some}
use Rattle.std.proofs.lemmas.Bool.{cases_eq, not-false}
use Rattle.tr_base.specs.declared.Point.{Point}
use Rattle.tr_base.specs.declared.Size.{Size}
use Rattle.tr_base.specs.declared.Kind.{Kind}
use Rattle.tr_base.specs.declared.LeafId.{LeafId}
use Rattle.tr_base.specs.declared.Event.{Event}
use Rattle.tr_base.specs.Rects.{Edges}
use Rattle.tr_base.specs.Ops.{same_kind}
use Rattle.tr_base.proofs.KindLemmas.{kinds_equal}
use Rattle.tr_paint.specs.Traces.{look_of, after}
use Rattle.tr_paint.specs.Patches.{IsPatch}
use Rattle.tr_exec.specs.Executions.{colour_after}
use Rattle.tr_client.specs.declared.clients.Client.{Ghosts}
use Rattle.tr_forest.specs.declared.Edit.{Edit}
use Rattle.tr_forest.specs.declared.NodeFault.{NodeFault}
use Rattle.tr_forest.specs.Nodes.{leaf_count}
use Rattle.tr_forest.specs.Forests.{IsForest}
use Rattle.tr_forest.specs.Edits.{IsEdit, refusal}
use Rattle.tr_forest.proofs.Editing.{follows_edited}
use Rattle.tr_tree.specs.Trees.{Seen, edited_tree}
use Rattle.tr_spot.specs.Spots.{spot}
use Rattle.tr_spot.specs.Leaves.{leaf_corner, leaf_size, same_size}
use Rattle.tr_spot.proofs.WayLemmas.{and_left, and_right}
use Rattle.tr_surface.specs.Surfaces.{is_on, is_frame}
use Rattle.tr_surface.specs.TreeSteps.{good_after}
use Rattle.tr_surface.proofs.ShownLemmas.{in_leaf_on}
use Rattle.tr_desk.specs.declared.desks.DeskFault.{DeskFault}
use Rattle.tr_desk.specs.Faults.{time_fault, mouse_fault, own_fault, disown_fault}
use Rattle.tr_mail.specs.Mails.{Mails, Sending}
use Rattle.tr_mail.specs.Deliveries.{is_reshaped}
use Rattle.tr_mail.specs.Deliveries as mail
use Rattle.tr_journal.specs.declared.items.Item.{Item}
use Rattle.tr_journal.specs.declared.steps.Step.{Step}
use Rattle.tr_journal.specs.declared.steps.Step.TheVariants as steps
use Rattle.tr_journal.specs.Openings.{tree_of, contents_of}
use Rattle.tr_journal.specs.Steps.{IsStep}
use Rattle.tr_machine.specs.Windows.{Window, Command, Mark, content, fresh, updated, with_change}
use Rattle.tr_machine.specs.States.{State, base, batch_in, leaf_batch, content_of, look, start, window_of, with_window}
use Rattle.tr_machine.specs.Paintings.{acted, marked, flushed, repainted, framed, is_visible}
use Rattle.tr_machine.specs.Edits.{altered, refitted, window_facts}
use Rattle.tr_machine.specs.Machines.{edit_step, obeyed, asked_of, taken, delivered_or_refused}
use Rattle.tr_machine.specs.Pictures.{content_colour}
use Rattle.tr_machine.specs.Replays.{next}
use Rattle.tr_machine.specs.Promises.{Fits, IsSound, Leads}
use Rattle.tr_machine.proofs.ListLemmas.{fresh-length, fresh_window, refitted_from-length, refitted_window, with_window-length, window_here, window_there}
use Rattle.tr_machine.proofs.BaseLemmas.{base-lies, base-nothing, base-shows}
use Rattle.tr_machine.proofs.LeadLemmas.{IsLed, led_command, led_fresh, led_mark, led_updated}
use Rattle.tr_machine.proofs.AlterLemmas.{sizes_equal}

-- ---- small facts

-- what is something made of an element is made of one
mapped : {A B : Type 0} (f : A → B) (o : Option A) (y : B) → option_map f o ≡ Some y → (x : A) × (o ≡ Some x) × (f x ≡ y)
mapped f None y h = absurd (none-some y h)
mapped f (Some x) y h = (x, refl, same_Some (f x) y h)

module _ {C M : Type 0} (client : Ghosts C M) where
  -- ---- soundness

  -- the state at the start is sound, where there is a content for each leaf
  pub sound_start : (items : List (Item C)) → length (contents_of items) ≡ leaf_count (tree_of items).nodes → IsSound client (start items)
  sound_start items count = record {
    windows = fresh-length C M (contents_of items) ∙ count;
    leads = λ leaf w is. led leaf w (mapped fresh (slice_get (contents_of items) leaf.0) w (sym (fresh_window C M (contents_of items) leaf.0) ∙ is));
    bad = λ p h. h;
  }
    where
      first : State C M
      first = start items

      led : (leaf : LeafId) (w : Window C M) → (x : C) × (slice_get (contents_of items) leaf.0 ≡ Some x) × (fresh x ≡ w) → Leads client first leaf w
      led leaf w from =
          subst (λ (v : Window C M). Leads client first leaf v) from.2
          (led_fresh client (look first) (leaf_size (tree_of items) leaf) from.0)

  -- a change of a leaf's window, after which its batch leads as before
  pub sound_changed : (m : State C M) (leaf : LeafId) (change : Window C M → Window C M) → IsSound client m →
      ((w : Window C M) → window_of m leaf ≡ Some w → Leads client m leaf (change w)) → IsSound client (with_window leaf change m)
  sound_changed m leaf change sound led = record {
    windows = with_window-length leaf change m ∙ sound.windows;
    leads = λ other w is. elim (cases_eq leaf.0 other.0) [
      | inl same ↦ here other w same (mapped change (window_of m other) w (sym (window_here leaf other change m same) ∙ is))
      | inr apart ↦ sound.leads other w (sym (window_there leaf other change m apart) ∙ is)
    ];
    bad = sound.bad;
  }
    where
      here : (other : LeafId) (w : Window C M) → leaf.0 ≡ other.0 →
          (v : Window C M) × (window_of m other ≡ Some v) × (change v ≡ w) → Leads client m other w
      here other w same from =
          let P : ℕ → Type 0 = λ i. (v : Window C M) → slice_get m.windows i ≡ Some v → Leads client m (record { 0 = i }) (change v) in
          let at : P other.0 = subst P same led in
          subst (λ (v : Window C M). Leads client m other v) from.2 (at from.0 from.1)

  -- a command, whose patch leads from the leaf's present picture to the next one
  pub sound_acted : (m : State C M) (leaf : LeafId) (cmd : M) → IsSound client m →
      ((w : Window C M) → window_of m leaf ≡ Some w →
      IsPatch (look m) (leaf_size m.tree leaf) (client.patch (look m) (leaf_size m.tree leaf) (content client w) cmd)
      (client.pic (look m) (leaf_size m.tree leaf) (content client w))
      (client.pic (look m) (leaf_size m.tree leaf) (client.next (content client w) cmd))) →
      IsSound client (acted leaf cmd m)
  sound_acted m leaf cmd sound patch =
      sound_changed m leaf (with_change (Command cmd)) sound
      (λ w is. led_command client (look m) (leaf_size m.tree leaf) w cmd (sound.leads leaf w is) (patch w is))

  -- a mark
  pub sound_marked : (m : State C M) (leaf : LeafId) (clip : Edges) → IsSound client m → IsSound client (marked leaf clip m)
  sound_marked m leaf clip sound =
      sound_changed m leaf (with_change (Mark clip)) sound
      (λ w is. led_mark client (look m) (leaf_size m.tree leaf) w clip (sound.leads leaf w is))

  -- other bad points on the screen
  pub sound_bad : (m : State C M) (bad : Point → Bool) → IsSound client m → ((p : Point) → bad p ≡ true → is_on m.tree p ≡ true) →
      IsSound client (record m { bad = bad })
  sound_bad m bad sound on = record { windows = sound.windows; leads = sound.leads; bad = on }

  -- other mail
  pub sound_mail : (m : State C M) (mail : Mails) → IsSound client m → IsSound client (record m { mail = mail })
  sound_mail m mail sound = record { windows = sound.windows; leads = sound.leads; bad = sound.bad }

  -- a flush
  pub sound_flushed : (m : State C M) (leaf : LeafId) → IsSound client m → IsSound client (flushed client leaf m)
  sound_flushed m leaf sound =
      sound_bad (with_window leaf (updated client) m) (flushed client leaf m).bad
      (sound_changed m leaf (updated client) sound (λ w is. led_updated client (look m) (leaf_size m.tree leaf) w))
      (λ p h. by_sight p (is_visible m leaf p) refl h)
    where
      by_sight : (p : Point) (b : Bool) → is_visible m leaf p ≡ b →
          cond b (is_none (colour_after (look m) (base client m leaf) (leaf_batch client m leaf) (leaf_corner m.tree leaf) p)) (m.bad p) ≡ true →
          is_on m.tree p ≡ true
      by_sight p true seen h = in_leaf_on m.tree leaf p seen
      by_sight p false unseen h = sound.bad p h

  -- a repaint
  pub sound_repainted : (m : State C M) (leaf : LeafId) → IsSound client m → IsSound client (repainted client leaf m)
  sound_repainted m leaf sound =
      let flush : IsSound client (flushed client leaf m) = sound_flushed m leaf sound in
      sound_bad (flushed client leaf m) (repainted client leaf m).bad flush
      (λ p h. flush.bad p (and_left ((flushed client leaf m).bad p) (not (is_visible m leaf p)) h))

  -- the frames
  pub sound_framed : (m : State C M) → IsSound client m → IsSound client (framed m)
  sound_framed m sound =
      sound_bad m (framed m).bad sound (λ p h. sound.bad p (and_left (m.bad p) (not (is_frame (spot m.tree p))) h))

  -- an edit of the tree that leaves as many leaves
  pub sound_altered : (m : State C M) (edit : Edit) → IsSound client m →
      leaf_count (edited_tree m.tree edit).nodes ≡ leaf_count m.tree.nodes → IsSound client (altered client edit m)
  sound_altered m edit sound count = record {
    windows = refitted_from-length client 0 m.tree is m.windows ∙ sound.windows ∙ sym count;
    leads = λ leaf w at.
        refits leaf w
        (mapped (refitted client m.tree is leaf) (window_of m leaf) w (sym (refitted_window client m.tree is m.windows leaf) ∙ at));
    bad = λ p h. and_left (is_on is p) (not (good_after (window_facts client m) m.tree is edit m.bad p)) h;
  }
    where
      is : Seen
      is = edited_tree m.tree edit

      LedBy : Kind → Size → Window C M → Type 0
      LedBy kind size w = IsLed client (look_of kind m.font) size w

      shaped : (leaf : LeafId) (v : Window C M) → window_of m leaf ≡ Some v → (b : Bool) → is_reshaped m.tree is leaf ≡ b →
          LedBy is.kind (leaf_size is leaf) (cond b (updated client v) v)
      shaped leaf v at true reshaped = led_updated client (look_of is.kind m.font) (leaf_size is leaf) v
      shaped leaf v at false stays =
          let size_stays : Bool = same_size (leaf_size m.tree leaf) (leaf_size is leaf) in
          let kind_stays : Bool = same_kind m.tree.kind is.kind in
          let both : size_stays && kind_stays ≡ true = not-false (size_stays && kind_stays) stays in
          let size : leaf_size m.tree leaf ≡ leaf_size is leaf = sizes_equal _ _ (and_left size_stays kind_stays both) in
          let kind : m.tree.kind ≡ is.kind = kinds_equal _ _ (and_right size_stays kind_stays both) in
          subst (λ (k : Kind). LedBy k (leaf_size is leaf) v) kind
          (subst (λ (s : Size). LedBy m.tree.kind s v) size (sound.leads leaf v at))

      refits : (leaf : LeafId) (w : Window C M) → (v : Window C M) × (window_of m leaf ≡ Some v) × (refitted client m.tree is leaf v ≡ w) →
          LedBy is.kind (leaf_size is leaf) w
      refits leaf w from =
          subst (λ (u : Window C M). LedBy is.kind (leaf_size is leaf) u) from.2
          (shaped leaf from.0 from.1 (is_reshaped m.tree is leaf) refl)

  -- ---- a sound state fits

  -- the present content's colours are known after the batch, or nothing is
  pub fits : (m : State C M) → IsForest m.tree.nodes → IsSound client m → Fits client m
  fits m forest sound = record { each = λ leaf q seen. by_window leaf q seen (window_of m leaf) refl }
    where
      by_window : (leaf : LeafId) (q : Point) → (base client m leaf).visible q ≡ true → (o : Option (Window C M)) → window_of m leaf ≡ o →
          IfSome (after (look m) (base client m leaf) (batch_in client m leaf o) q)
          (λ x. x ≡ content_colour client m (leaf_size m.tree leaf) q (option_map (content client) o))
      by_window leaf q seen None none = rw (seen, base-nothing client m leaf none q) tt
      by_window leaf q seen (Some w) is =
          sound.leads leaf w is (base client m leaf) (base-lies client m leaf forest) (base-shows client m leaf w is) q seen

  -- ---- each step

  -- the patch of a command leads from the leaf's present picture to the next one
  abbrev pub IsObeyed : State C M → LeafId → M → Type 0
  IsObeyed m leaf cmd = (w : Window C M) → window_of m leaf ≡ Some w →
      IsPatch (look m) (leaf_size m.tree leaf) (client.patch (look m) (leaf_size m.tree leaf) (content client w) cmd)
      (client.pic (look m) (leaf_size m.tree leaf) (content client w))
      (client.pic (look m) (leaf_size m.tree leaf) (client.next (content client w) cmd))

  -- what a step asks of the client's patches: of a command's, and of the one that an event asks for
  abbrev pub IsObedient : State C M → Step M → Type 0
  IsObedient m (steps.Act leaf cmd) = IsObeyed m leaf cmd
  IsObedient m (steps.Take leaf) =
      (event : Event) (cmd : M) → asked_of client (content_of client m leaf) event ≡ Some cmd → IsObeyed m leaf cmd
  IsObedient m step = ⊤

  -- a step that the desk refuses, or not
  sound_unless : (o : Option DeskFault) (m : State C M) (s : Sending) → IsSound client m → IsSound client (delivered_or_refused o m s).state
  sound_unless None m s sound = sound_mail m s.mail sound
  sound_unless (Some fault) m s sound = sound

  -- an event that is taken, if there is one
  sound_taken : (m : State C M) (leaf : LeafId) (o : Option Event) → IsSound client m → IsObedient m (steps.Take leaf) →
      IsSound client (taken client leaf o m).state
  sound_taken m leaf None sound obeys = sound
  sound_taken m leaf (Some event) sound obeys = by_command (asked_of client (content_of client m leaf) event) refl
    where
      after_mail : State C M
      after_mail = record m { mail = mail.front_taken leaf m.mail }

      by_command : (o : Option M) → asked_of client (content_of client m leaf) event ≡ o → IsSound client (obeyed client leaf o after_mail)
      by_command None none = sound_mail m (mail.front_taken leaf m.mail) sound
      by_command (Some cmd) asked = sound_acted after_mail leaf cmd (sound_mail m (mail.front_taken leaf m.mail) sound) (obeys event cmd asked)

  -- an edit that the tree refuses, or not
  sound_edited : (m : State C M) (edit : Edit) → IsForest m.tree.nodes → IsEdit m.tree.nodes edit → IsSound client m →
      (o : Option NodeFault) → refusal m.tree.nodes edit ≡ o → IsSound client (edit_step client o edit m).state
  sound_edited m edit forest fits sound None allowed = sound_altered m edit sound (follows_edited m.tree.nodes edit forest fits allowed).values.leaf_count
  sound_edited m edit forest fits sound (Some fault) refused = sound

  -- a sound state is sound after a step
  pub sound_next : (m : State C M) (step : Step M) → IsForest m.tree.nodes → IsStep m.tree.nodes step → IsSound client m → IsObedient m step →
      IsSound client (next client m step)
  sound_next m (steps.Act leaf cmd) forest fits sound obeys = sound_acted m leaf cmd sound obeys
  sound_next m (steps.Mark leaf clip) forest fits sound obeys = sound_marked m leaf clip sound
  sound_next m (steps.Take leaf) forest fits sound obeys = sound_taken m leaf (mail.front_of m.mail leaf) sound obeys
  sound_next m (steps.SetCage leaf cage) forest fits sound obeys = sound_mail m (mail.caged m.tree leaf cage m.mail).mail sound
  sound_next m (steps.Own leaf selection time) forest fits sound obeys =
      sound_unless (own_fault m.mail.desk leaf time) m (mail.owned leaf selection m.mail) sound
  sound_next m (steps.Disown leaf selection) forest fits sound obeys =
      sound_unless (disown_fault m.mail.desk leaf selection) m (mail.disowned selection m.mail) sound
  sound_next m (steps.Read leaf selection) forest fits sound obeys = sound
  sound_next m (steps.Mouse time button down) forest fits sound obeys =
      sound_unless (mouse_fault m.mail.desk time button down) m (mail.moused m.tree time button down m.mail) sound
  sound_next m (steps.Motion time at) forest fits sound obeys = sound_unless (time_fault m.mail.desk time) m (mail.cursor_moved m.tree time at m.mail) sound
  sound_next m (steps.Key time code) forest fits sound obeys = sound_unless (time_fault m.mail.desk time) m (mail.keyed time code m.mail) sound
  sound_next m (steps.Alter edit) forest fits sound obeys = sound_edited m edit forest fits sound (refusal m.tree.nodes edit) refl
  sound_next m (steps.Flush leaf) forest fits sound obeys = sound_flushed m leaf sound
  sound_next m (steps.Repaint leaf) forest fits sound obeys = sound_repainted m leaf sound
  sound_next m steps.PaintFrame forest fits sound obeys = sound_framed m sound
  sound_next m steps.Sync forest fits sound obeys = sound
  sound_next m (steps.Report query) forest fits sound obeys = sound
