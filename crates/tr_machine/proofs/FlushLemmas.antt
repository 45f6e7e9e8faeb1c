-- A batch is executed in a leaf's window: where the screen agreed before, it agrees after it. A flush is one.
use Rattle.std.proofs.Common.{◌≡◌, ℕ, Bool, true, false, cond, List, Option, Some, None, refl, sym, ap, subst, ◌∙◌}
use Rattle.std.specs.Prelude.{is_none, IfSome}
use Rattle.std.specs.Option.{option_map}
use Rattle.tr_base.specs.declared.Point.{Point}
use Rattle.tr_base.specs.declared.LeafId.{LeafId}
use Rattle.tr_base.specs.declared.Spot.{Spot}
use Rattle.tr_base.specs.declared.Spot.TheVariants as spots
use Rattle.tr_base.proofs.RectLemmas.{false-true}
use Rattle.tr_screen.specs.Pictures.{pixel_of}
use Rattle.tr_paint.specs.declared.Paint.{Paint}
use Rattle.tr_paint.specs.Traces.{after}
use Rattle.tr_exec.specs.Executions.{colour_after}
use Rattle.tr_client.specs.declared.clients.Client.{Ghosts}
use Rattle.tr_forest.specs.Forests.{IsForest}
use Rattle.tr_tree.specs.Trees.{Seen}
use Rattle.tr_spot.specs.Spots.{spot, is_in_leaf}
use Rattle.tr_spot.specs.Leaves.{leaf_corner, leaf_size, in_leaf}
use Rattle.tr_spot.proofs.WayLemmas.{equal_numbers, equal_test}
use Rattle.tr_spot.proofs.SpotLemmas.{leaf_by_number}
use Rattle.tr_surface.specs.Surfaces.{Shown, IsShown, is_on, leaf_base, is_bad}
use Rattle.tr_surface.proofs.ShownLemmas.{IsExecuted}
use Rattle.tr_machine.specs.Windows.{Window, content, updated}
use Rattle.tr_machine.specs.States.{State, base, leaf_batch, content_of, look, window_of, with_window}
use Rattle.tr_machine.specs.Paintings.{flushed, is_visible}
use Rattle.tr_machine.specs.Pictures.{content_colour, shown, shown_of}
use Rattle.tr_machine.specs.Promises.{Fits}
use Rattle.tr_machine.proofs.ListLemmas.{window_here, window_there}
use Rattle.tr_machine.proofs.ShownLemmas.{IsShowing, after-base, bad_state, base_sees, colour_in_leaf, colour_same, on_tree}

-- what isn't nothing is something
pub some_of : (o : Option ℕ) → is_none o ≡ false → (x : ℕ) × (o ≡ Some x)
some_of None h = absurd (false-true (sym h))
some_of (Some x) h = (x, refl)

-- a spot that is in one leaf, and not in another, tells the two apart
pub apart : (leaf other : LeafId) (s : Spot) → is_in_leaf leaf s ≡ false → is_in_leaf other s ≡ true → leaf.0 ≡ other.0 → ⊥
apart leaf other (spots.Leaf l q size kind) out here same =
    false-true (sym out ∙ equal_test l.0 leaf.0 (equal_numbers l.0 other.0 here ∙ sym same))
apart leaf other (spots.Frame n tint kind) out here same = false-true here
apart leaf other spots.Off out here same = false-true here

-- a spot is part of one leaf
pub one_leaf : (a b : LeafId) (s : Spot) → is_in_leaf a s ≡ true → is_in_leaf b s ≡ true → a ≡ b
one_leaf a b (spots.Leaf own q size kind) first second =
    leaf_by_number a b (sym (equal_numbers own.0 a.0 first) ∙ equal_numbers own.0 b.0 second)
one_leaf a b (spots.Frame k tint kind) first second = absurd (false-true first)
one_leaf a b spots.Off first second = absurd (false-true first)

-- an execution by another name of its font and of its batch
pub by_state : {font own : List (List ℕ)} {batch waiting : List Paint} (s n : Shown) (leaf : LeafId) → font ≡ own → batch ≡ waiting →
    IsExecuted s n font leaf batch → IsExecuted s n own leaf waiting
by_state {font} {own} {batch} {waiting} s n leaf font_is batch_is executed =
    let P : List Paint → Type 0 = λ cs. IsExecuted s n own leaf cs in
    let Q : List (List ℕ) → Type 0 = λ glyphs. IsExecuted s n glyphs leaf batch in
    subst P batch_is (subst Q font_is executed)

module _ {C M : Type 0} (client : Ghosts C M) where
  -- the state once a leaf's window shows its content, and these points are bad
  abbrev pub brought : LeafId → (Point → Bool) → State C M → State C M
  brought leaf bad m = record (with_window leaf (updated client) m) { bad = bad }

  -- the state's forest, by that of a surface that shows it
  pub forest_of : (m : State C M) (s : Shown) → IsShown s → IsShowing client m s → IsForest m.tree.nodes
  forest_of m s was is = subst (λ (t : Seen). IsForest t.nodes) is.tree was.forest

  -- A batch is executed in the window of a leaf, as the contract has it. After it each visible point is unknown, or has its colour in the
  -- present content's picture. The bad points then are the unknown ones of these, and of the other points those that were bad.
  pub record IsBringing (m : State C M) (s n : Shown) (leaf : LeafId) (bad : Point → Bool) : Type 0 where
    pub was : IsShown s
    pub is : IsShown n
    pub tree : n.tree ≡ s.tree
    pub showing : IsShowing client m s
    pub window : Window C M
    pub at : window_of m leaf ≡ Some window
    pub batch : List Paint
    pub executed : IsExecuted s n m.font leaf batch
    pub brings : (q : Point) → (base client m leaf).visible q ≡ true →
        IfSome (after (look m) (base client m leaf) batch q) (λ x. x ≡ content_colour client m (leaf_size m.tree leaf) q (content_of client m leaf))
    pub inside : (p : Point) → is_visible m leaf p ≡ true → bad p ≡ is_none (after (look m) (base client m leaf) batch (in_leaf m.tree leaf p))
    pub outside : (p : Point) → is_visible m leaf p ≡ false → bad p ≡ m.bad p

  -- the leaf shows its present content
  pub now_shown : (m : State C M) (leaf : LeafId) (bad : Point → Bool) → shown_of (brought leaf bad m) leaf ≡ content_of client m leaf
  now_shown m leaf bad =
      ap (λ (o : Option (Window C M)). option_map (λ w. w.shown) o) (window_here leaf leaf (updated client) m refl)
      ∙ by_window (window_of m leaf)
    where
      by_window : (o : Option (Window C M)) → option_map (λ w. w.shown) (option_map (updated client) o) ≡ option_map (content client) o
      by_window None = refl
      by_window (Some w) = refl

  module _ (m : State C M) (s n : Shown) (leaf : LeafId) (bad : Point → Bool) (b : IsBringing m s n leaf bad) where
    -- the tree after the batch is the state's
    same_tree : n.tree ≡ m.tree
    same_tree = b.tree ∙ b.showing.tree

    -- its nodes are a forest
    forest : IsForest m.tree.nodes
    forest = forest_of m s b.was b.showing

    -- the clauses of the execution, by the state's tree
    done : IsExecuted (on_tree client m s) n m.font leaf b.batch
    done =
        let P : Seen → Type 0 = λ t. IsExecuted (record { tree = t; screen = s.screen; good = s.good }) n m.font leaf b.batch in
        subst P b.showing.tree b.executed

    -- what the batch makes of a point, by the pixels and by the shown content
    made : (p : Point) →
        colour_after (look m) (leaf_base (on_tree client m s) leaf) b.batch (leaf_corner m.tree leaf) p
        ≡ after (look m) (base client m leaf) b.batch (in_leaf m.tree leaf p)
    made p = after-base client m s leaf b.window forest b.showing b.at b.batch (in_leaf m.tree leaf p)

    -- the bad points are the state's
    brought_bad : (p : Point) → is_bad n p ≡ bad p
    brought_bad p = by_sight (is_visible m leaf p) refl
      where
        by_sight : (c : Bool) → is_visible m leaf p ≡ c → is_bad n p ≡ bad p
        by_sight true seen = done.unknown p seen ∙ ap is_none (made p) ∙ sym (b.inside p seen)
        by_sight false hidden = done.others p hidden ∙ bad_state client m s b.showing p ∙ sym (b.outside p hidden)

    -- a good visible point has the colour of the present content
    inside_good : (p : Point) → is_visible m leaf p ≡ true → bad p ≡ false → pixel_of n.screen p ≡ shown client (brought leaf bad m) p
    inside_good p seen good =
        let q : Point = in_leaf m.tree leaf p in
        let known : (x : ℕ) × (after (look m) (base client m leaf) b.batch q ≡ Some x) =
        some_of (after (look m) (base client m leaf) b.batch q) (sym (b.inside p seen) ∙ good) in
        let P : Option ℕ → Type 0 = λ o. IfSome o (λ x. x ≡ content_colour client m (leaf_size m.tree leaf) q (content_of client m leaf)) in
        let right : known.0 ≡ content_colour client m (leaf_size m.tree leaf) q (content_of client m leaf) =
        subst P known.1 (b.brings q (base_sees client m leaf p seen)) in
        done.known p known.0 seen (made p ∙ known.1) ∙ right
        ∙ sym (colour_in_leaf client (shown_of (brought leaf bad m)) (brought leaf bad m) leaf p forest seen
        ∙ ap (λ (o : Option C). content_colour client m (leaf_size m.tree leaf) q o) (now_shown m leaf bad))

    -- a good point of another leaf, or of a frame, has its pixel still
    outside_good : (p : Point) → is_on m.tree p ≡ true → is_visible m leaf p ≡ false → bad p ≡ false →
        pixel_of n.screen p ≡ shown client (brought leaf bad m) p
    outside_good p on hidden good =
        done.pixels p on hidden ∙ b.showing.agrees.good p on (sym (b.outside p hidden) ∙ good)
        ∙ sym (colour_same client (shown_of m) (shown_of (brought leaf bad m)) m (brought leaf bad m) (spot m.tree p) refl stays)
      where
        stays : (other : LeafId) → is_in_leaf other (spot m.tree p) ≡ true → shown_of (brought leaf bad m) other ≡ shown_of m other
        stays other here =
            ap (λ (o : Option (Window C M)). option_map (λ w. w.shown) o)
            (window_there leaf other (updated client) m (apart leaf other (spot m.tree p) hidden here))

    -- where the screen agreed before the batch, it agrees after it
    pub brought_shows : IsShowing client (brought leaf bad m) n
    brought_shows = record {
      tree = same_tree;
      bad = brought_bad;
      agrees = record {
        size = b.is.size ∙ ap (λ (t : Seen). t.size) same_tree;
        kind = b.is.kind ∙ ap (λ (t : Seen). t.kind) same_tree;
        good = λ p on good. by_sight p on good (is_visible m leaf p) refl;
      };
    }
      where
        by_sight : (p : Point) → is_on m.tree p ≡ true → bad p ≡ false → (c : Bool) → is_visible m leaf p ≡ c →
            pixel_of n.screen p ≡ shown client (brought leaf bad m) p
        by_sight p on good true seen = inside_good p seen good
        by_sight p on good false hidden = outside_good p on hidden good

  -- a surface before and after the batch of a leaf is executed, as the contract has it
  pub record IsFlush (m : State C M) (s n : Shown) (leaf : LeafId) : Type 0 where
    pub was : IsShown s
    pub is : IsShown n
    pub tree : n.tree ≡ s.tree
    pub showing : IsShowing client m s
    pub fits : Fits client m
    pub window : Window C M
    pub at : window_of m leaf ≡ Some window
    pub font : List (List ℕ)
    pub font_is : font ≡ m.font
    pub batch : List Paint
    pub batch_is : batch ≡ leaf_batch client m leaf
    pub executed : IsExecuted s n font leaf batch

  -- after a flush the surface shows the machine's next state
  pub flush_shows : (m : State C M) (s n : Shown) (leaf : LeafId) → IsFlush m s n leaf → IsShowing client (flushed client leaf m) n
  flush_shows m s n leaf f =
      let found : Point → Bool = λ p. is_none (after (look m) (base client m leaf) (leaf_batch client m leaf) (in_leaf m.tree leaf p)) in
      brought_shows m s n leaf (flushed client leaf m).bad
      (record {
        was = f.was;
        is = f.is;
        tree = f.tree;
        showing = f.showing;
        window = f.window;
        at = f.at;
        batch = leaf_batch client m leaf;
        executed = by_state s n leaf f.font_is f.batch_is f.executed;
        brings = f.fits.each leaf;
        inside = λ p seen. ap (λ b. cond b (found p) (m.bad p)) seen;
        outside = λ p hidden. ap (λ b. cond b (found p) (m.bad p)) hidden;
      })
