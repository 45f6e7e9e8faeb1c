-- What holds of all windows: at the start, after a change of one, and at a place.
use Rattle.std.proofs.Common.{◌≡◌, ℕ, ◌+◌, ◌<◌, ◌≤◌, List, [], ◌∷◌, ◌++◌, Option, Some, None, map, take, length, get_or, refl, sym, ap, subst, ◌∙◌}
use Rattle.std.specs.Prelude.{slice_get, All}
use Rattle.std.specs.Option.{option_map}
use Rattle.std.proofs.lemmas.List.{length-map, map-append, take_more}
use Rattle.std.proofs.lemmas.Option.{slice_get-map, slice_get_within, slice_get_read, get_or_from_slice_get}
use Rattle.tr_base.specs.declared.LeafId.{LeafId}
use Rattle.tr_client.specs.declared.clients.Client.{Ghosts}
use Rattle.tr_machine.specs.States.{changed_at}
use Rattle.tr_windows.specs.Presents.{Present, with_empty_batch, content_at, waiting_batch, batch_at}
use Rattle.tr_windows.specs.Promises.{AreWindows}
use Rattle.tr_windows.proofs.ChangeLemmas.{changed-all, changed-length}

-- a change of one window that leaves it a content
pub held_changed : {C M : Type 0} (client : Ghosts C M) (f : Present C → Present C) (ws : List (Present C)) (i : ℕ) → AreWindows client ws →
    ((w : Present C) → slice_get ws i ≡ Some w → client.valid (f w).content) → AreWindows client (changed_at i f ws)
held_changed client f ws i held new = record {
  few = rw (changed-length f ws i) held.few;
  contents = changed-all (λ w. client.valid w.content) f ws i held.contents new;
}

-- windows of contents
pub held_idle : {C M : Type 0} (client : Ghosts C M) (xs : List C) → length xs ≤ 32 → All client.valid xs → AreWindows client (map with_empty_batch xs)
held_idle {C} {M} client xs few valid = record {
  few = rw (length-map xs with_empty_batch) few;
  contents = λ n w h. by_place n w (slice_get xs n) refl (sym (slice_get-map with_empty_batch xs n) ∙ h);
}
  where
    by_place : (n : ℕ) (w : Present C) (o : Option C) → slice_get xs n ≡ o → option_map with_empty_batch o ≡ Some w → client.valid w.content
    by_place n w None e h = cc
    by_place n w (Some x) e h =
        let is : x ≡ w.content = cc in
        subst client.valid (get_or_from_slice_get xs n x x e ∙ is) (valid n x (slice_get_within xs n x e))

-- the content and the batch of the window at a place
pub record IsAt {C : Type 0} (ws : List (Present C)) (leaf : LeafId) (w : Present C) : Type 0 where
  pub is : slice_get ws leaf.0 ≡ Some w
  pub content : content_at ws leaf ≡ Some w.content
  pub batch : batch_at ws leaf ≡ w.batch

-- what an index gives
pub is_at : {C : Type 0} (ws : List (Present C)) (leaf : LeafId) (w : Present C) → leaf.0 < length ws → w ≡ get_or ws leaf.0 w → IsAt ws leaf w
is_at ws leaf w low at =
    let is : slice_get ws leaf.0 ≡ Some w = slice_get_read ws (length ws) leaf.0 w refl low at in
    record { is = is; content = ap (λ o. option_map (λ v. v.content) o) is; batch = ap waiting_batch is }

-- what was read is the window at the place
pub read_is : {A : Type 0} (ws : List A) (i n : ℕ) (v w : A) → v ≡ get_or ws i v → i ≡ n → slice_get ws n ≡ Some w → v ≡ w
read_is ws i n v w is at some = is ∙ ap (λ k. get_or ws k v) at ∙ get_or_from_slice_get ws n w v some

-- one content more
pub idle_more : {C : Type 0} (xs : List C) (n : ℕ) (x : C) → slice_get xs n ≡ Some x →
    map with_empty_batch (take (n + 1) xs) ≡ map with_empty_batch (take n xs) ++ with_empty_batch x ∷ []
idle_more xs n x is =
    ap (λ ys. map with_empty_batch ys) (take_more xs n x (slice_get_within xs n x is) ∙ ap (λ y. take n xs ++ y ∷ []) (get_or_from_slice_get xs n x x is))
    ∙ map-append with_empty_batch (take n xs) (x ∷ [])
