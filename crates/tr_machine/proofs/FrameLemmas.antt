-- The frames are painted: where the screen agreed before, it agrees after it.
use Rattle.std.proofs.Common.{◌≡◌, Bool, true, false, not, ◌&&◌, refl, sym, ap, subst, ◌∙◌}
use Rattle.tr_base.specs.declared.Point.{Point}
use Rattle.tr_base.proofs.RectLemmas.{false-true}
use Rattle.tr_screen.specs.Pictures.{pixel_of}
use Rattle.tr_client.specs.declared.clients.Client.{Ghosts}
use Rattle.tr_tree.specs.Trees.{Seen}
use Rattle.tr_spot.specs.Spots.{spot}
use Rattle.tr_surface.specs.Surfaces.{Shown, IsShown, is_frame, is_on}
use Rattle.tr_surface.proofs.FrameLemmas.{AreRepaired}
use Rattle.tr_machine.specs.States.{State}
use Rattle.tr_machine.specs.Paintings.{framed}
use Rattle.tr_machine.specs.Pictures.{shown, shown_of}
use Rattle.tr_machine.proofs.ShownLemmas.{IsShowing, bad_state, colour_on_frame, on_tree}

module _ {C M : Type 0} (client : Ghosts C M) where
  -- a surface before and after its frames are painted, as the contract has it
  pub record IsFraming (m : State C M) (s n : Shown) : Type 0 where
    pub is : IsShown n
    pub tree : n.tree ≡ s.tree
    pub showing : IsShowing client m s
    pub repaired : AreRepaired s n

  module _ (m : State C M) (s n : Shown) (f : IsFraming m s n) where
    -- the tree is the state's
    same_tree : n.tree ≡ m.tree
    same_tree = f.tree ∙ f.showing.tree

    -- the clauses of the painting, by the state's tree
    done : AreRepaired (on_tree client m s) n
    done =
        let P : Seen → Type 0 = λ t. AreRepaired (record { tree = t; screen = s.screen; good = s.good }) n in
        subst P f.showing.tree f.repaired

    -- a point that was bad has its frame's colour, another one its pixel still
    good : (p : Point) → is_on m.tree p ≡ true → (m.bad p && not (is_frame (spot m.tree p))) ≡ false → pixel_of n.screen p ≡ shown client m p
    good p on h = by_tests (m.bad p) (is_frame (spot m.tree p)) refl refl h
      where
        by_tests : (b c : Bool) → m.bad p ≡ b → is_frame (spot m.tree p) ≡ c → (b && not c) ≡ false → pixel_of n.screen p ≡ shown client m p
        by_tests true true bad frame k =
            done.painted p (bad_state client m s f.showing p ∙ bad) frame ∙ sym (colour_on_frame client (shown_of m) m (spot m.tree p) frame)
        by_tests true false bad frame k = absurd (false-true (sym k))
        by_tests false c fine frame k =
            done.others p on (ap (λ b. b && is_frame (spot m.tree p)) (bad_state client m s f.showing p ∙ fine)) ∙ f.showing.agrees.good p on fine

    -- once the frames are painted the surface shows the machine's next state
    pub frame_shows : IsShowing client (framed m) n
    frame_shows = record {
      tree = same_tree;
      bad = λ p. done.bad_is p ∙ ap (λ b. b && not (is_frame (spot m.tree p))) (bad_state client m s f.showing p);
      agrees = record {
        size = f.is.size ∙ ap (λ (t : Seen). t.size) same_tree;
        kind = f.is.kind ∙ ap (λ (t : Seen). t.kind) same_tree;
        good = good;
      };
    }
