-- All that the text of a difference names has a name, where a script's nodes and leaves have.
use Rattle.std.proofs.Common.{◌≡◌, ℕ, zero, suc, ◌-◌, Bool, true, false, List, [], ◌∷◌, length, map, take, drop, sym, ◌∙◌, subst, arith}
use Rattle.std.specs.Prelude.{All, Option, IfSome, if◌then◌else◌, slice_get}
use Rattle.std.proofs.lemmas.List.Elements.{All-nil, All-cons, All-head, All-tail, All-map, All-take, All-drop, All-weaker}
use Rattle.tr_client.specs.declared.clients.Client.{Ghosts}
use Rattle.tr_forest.specs.Nodes.{Nodes, leaf_count}
use Rattle.tr_journal.specs.declared.items.Item.{Item}
use Rattle.tr_journal.specs.declared.steps.Actor.{Actor}
use Rattle.tr_journal.specs.declared.steps.Actor.TheVariants.{Leaf, Desk, Painter, Player}
use Rattle.tr_journal.specs.declared.steps.Step.{Step}
use Rattle.tr_journal.specs.declared.entries.Entry.{Entry}
use Rattle.tr_journal.specs.declared.differences.Apart.{Apart}
use Rattle.tr_journal.specs.declared.differences.Apart.TheVariants as apart
use Rattle.tr_journal.specs.Actors.{entries_of, made_in, is_by, steps_by, steps_of}
use Rattle.tr_journal.specs.Differences.{IsFirstApart, account_of}
use Rattle.tr_journal.specs.Journals.{JournalLine}
use Rattle.tr_journal.specs.Lists.{HasList, list_of}
use Rattle.tr_journal.specs.Names.{Names}
use Rattle.tr_journal.specs.Openings.{tree_of}
use Rattle.tr_machine.specs.Replays.{IsLegal, IsLegalFrom, next}
use Rattle.tr_machine.specs.States.{State, start}
use Rattle.tr_dump.specs.Names.{IsNamedActor, IsNamedApart, IsNamedEntry, IsNamedStep}
use Rattle.tr_run.specs.Views.{AreNamed}
use Rattle.tr_run.proofs.LineLemmas.{named_actor, named_levels, named_step}
use Rattle.tr_server.specs.Differing.{DiffersView}

-- the element at a place, if there is one
get_all : {A : Type 0} (P : A → Type 0) (xs : List A) (k : ℕ) (x : Option A) → All P xs → slice_get xs k ≡ x → IfSome x P
get_all {A} P xs k x all is = subst (λ (o : Option A). IfSome o P) is (found xs k all)
  where
    found : (xs : List A) (k : ℕ) → All P xs → IfSome (slice_get xs k) P
    found [] k all = tt
    found (x ∷ xs) zero all = All-head P x xs all
    found (x ∷ xs) (suc k) all = found xs k (All-tail P x xs all)

module _ {M : Type 0} (names : Names) where
  -- the steps of one actor, where those of all name what has a name
  pub steps_named : (actor : Actor) (made : List (Actor × Step M)) → All (λ (m : Actor × Step M). IsNamedStep names m.1) made →
      All (IsNamedStep names) (steps_of actor made)
  steps_named actor [] all = All-nil (IsNamedStep names)
  steps_named actor (x ∷ xs) all =
      by_actor (is_by actor x.0) (steps_named actor xs (All-tail (λ (m : Actor × Step M). IsNamedStep names m.1) x xs all))
    where
      by_actor : (b : Bool) → All (IsNamedStep names) (steps_of actor xs) →
          All (IsNamedStep names) (if b then x.1 ∷ steps_of actor xs else steps_of actor xs)
      by_actor true later =
          All-cons (IsNamedStep names) x.1 (steps_of actor xs) (All-head (λ (m : Actor × Step M). IsNamedStep names m.1) x xs all) later
      by_actor false later = later

  -- those that an actor made among some entries
  entries_steps : (actor : Actor) (entries : List (Entry M)) → All (IsNamedEntry names) entries → All (IsNamedStep names) (steps_by actor entries)
  entries_steps actor entries all =
      let P : Actor × Step M → Type 0 = λ m. IsNamedStep names m.1 in
      steps_named actor (map made_in entries)
      (All-map P made_in entries (All-weaker (IsNamedEntry names) (λ (e : Entry M). IsNamedStep names e.step) (λ e is. is.step) entries all))

module _ {C M : Type 0} (client : Ghosts C M) (names : Names) where
  -- the entries of a legal journal
  legal_named : (t : Nodes) (m : State C M) (lines : List (JournalLine M)) → AreNamed names t → IsLegalFrom client t m lines →
      All (IsNamedEntry names) (entries_of lines)
  legal_named t m [] named legal = All-nil (IsNamedEntry names)
  legal_named t m (line ∷ lines) named legal =
      let is = legal.0 in
      let e : Entry M = line.entry in
      All-cons (IsNamedEntry names) e (entries_of lines)
      (record {
        actor = named_actor names t e.actor e.step named is.allowed.own.may is.allowed.own.values;
        levels = named_levels names t e.level named is.allowed.levels;
        step = named_step names t e.step named is.allowed.own.values;
      })
      (legal_named t (next client m e.step) lines named legal.1)

  -- an actor that has a list is one of a leaf that has a name, or no leaf's
  listed_named : (t : Nodes) (count : ℕ) (actor : Actor) → AreNamed names t → count ≡ leaf_count t → HasList count actor → IsNamedActor names actor
  listed_named t count (Leaf leaf) named same has = record { within = omega (arith, named.leaves, same, has) }
  listed_named t count Desk named same has = tt
  listed_named t count Painter named same has = tt
  listed_named t count Player named same has = tt

  -- What is known of all that a session compared: the journals are legal, and the lists have steps of a script.
  pub record AreCompared (items : List (Item C)) (d : DiffersView C M) : Type 0 where
    pub tree : AreNamed names (tree_of items).nodes
    pub opening : d.opening ≡ items
    pub kept : IsLegal client d.opening d.kept
    pub found : IsLegal client d.stage.opening d.stage.journal
    pub count : length d.lists.leaves ≡ leaf_count (tree_of items).nodes
    pub steps : (actor : Actor) → HasList (length d.lists.leaves) actor → All (IsNamedStep names) (list_of d.lists actor)

  module _ (items : List (Item C)) (d : DiffersView C M) (are : AreCompared items d) where
    kept_entries : All (IsNamedEntry names) (entries_of d.kept)
    kept_entries =
        legal_named (tree_of items).nodes (start items) d.kept are.tree (subst (λ (i : List (Item C)). IsLegal client i d.kept) are.opening are.kept)

    found_entries : d.opening ≡ d.stage.opening → All (IsNamedEntry names) (entries_of d.stage.journal)
    found_entries same =
        legal_named (tree_of items).nodes (start items) d.stage.journal are.tree
        (subst (λ (i : List (Item C)). IsLegal client i d.stage.journal) (sym same ∙ are.opening) are.found)

    -- the first difference among them names what has a name
    pub difference_named : (place : ℕ) (what : Apart M) →
        IsFirstApart (account_of d.opening d.kept) d.lists (account_of d.stage.opening d.stage.journal) place what → IsNamedApart names what
    difference_named place apart.Opening first = tt
    difference_named place (apart.Kept x y) first = (
      get_all (IsNamedEntry names) (entries_of d.kept) (place - 1) x kept_entries first.1.made,
      get_all (IsNamedEntry names) (take (length (entries_of d.kept)) (entries_of d.stage.journal)) (place - 1) y
          (All-take (IsNamedEntry names) (length (entries_of d.kept)) (entries_of d.stage.journal) (found_entries first.0)) first.1.found,
    )
    difference_named place (apart.Own actor x y) first =
        let behind : List (Entry M) = drop (length (entries_of d.kept)) (entries_of d.stage.journal) in
        let all : All (IsNamedEntry names) behind =
        All-drop (IsNamedEntry names) (length (entries_of d.kept)) (entries_of d.stage.journal) (found_entries first.0.opening) in (
          listed_named (tree_of items).nodes (length d.lists.leaves) actor are.tree are.count first.0.listed,
          get_all (IsNamedStep names) (list_of d.lists actor) (place - 1) x (are.steps actor first.0.listed) first.1.made,
          get_all (IsNamedStep names) (steps_by actor behind) (place - 1) y (entries_steps names actor behind all) first.1.found,
        )
