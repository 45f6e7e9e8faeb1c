-- The model of a stage, and the properties of its parts.
use Rattle.std.specs.Prelude.{◌≡◌, ℕ, Bool, true, false, not, ◌&&◌, ◌==◌, List, [], ◌∷◌, length}
use Rattle.tr_base.specs.declared.Point.{Point}
use Rattle.tr_base.specs.declared.LeafId.{LeafId}
use Rattle.tr_base.specs.declared.Spot.{Spot}
use Rattle.tr_region.specs.Points.{holds}
use Rattle.tr_screen.specs.Pictures.{Picture, pixel_of}
use Rattle.tr_client.specs.declared.clients.Client.{Ghosts}
use Rattle.tr_forest.specs.Nodes.{Nodes, leaf_count}
use Rattle.tr_tree.specs.Trees.{Seen}
use Rattle.tr_spot.specs.Spots.{spot, is_in_leaf}
use Rattle.tr_surface.specs.Surfaces.{Shown, is_on, is_frame, is_bad}
use Rattle.tr_mail.specs.Mails.{Mails}
use Rattle.tr_levels.specs.declared.Level.{Level}
use Rattle.tr_levels.specs.declared.Level.TheVariants.{Mu}
use Rattle.tr_journal.specs.declared.items.Item.{Item}
use Rattle.tr_journal.specs.declared.answers.Answer.{Answer}
use Rattle.tr_journal.specs.declared.answers.Answer.TheVariants as answers
use Rattle.tr_journal.specs.declared.steps.Actor.{Actor}
use Rattle.tr_journal.specs.declared.steps.Actor.TheVariants.{Painter}
use Rattle.tr_journal.specs.declared.steps.Step.{Step}
use Rattle.tr_journal.specs.declared.steps.Step.TheVariants as steps
use Rattle.tr_journal.specs.Journals.{JournalLine}
use Rattle.tr_journal.specs.Openings.{tree_of, font_of}
use Rattle.tr_journal.specs.Steps.{IsFor}
use Rattle.tr_machine.specs.States.{State}
use Rattle.tr_machine.specs.Paintings.{is_visible}
use Rattle.tr_machine.specs.Replays.{IsLegal, line_of_step, replay}
use Rattle.tr_machine.specs.Promises.{Agrees, IsSound}
use Rattle.tr_windows.specs.Presents.{Present, presents}

-- the model of a stage: the opening at its start, the lines of its journal, the pixels of its screen, and the number of further
-- entries that have reserved room
pub record StageView (C M : Type 0) : Type 0 where
  pub opening : List (Item C)
  pub journal : List (JournalLine M)
  pub screen : Picture
  pub spare : ℕ

-- the parts of a stage: the screen of its tree of windows, the windows, and the input devices with the inbox of each leaf
pub record Parts (C : Type 0) : Type 0 where
  pub surface : Shown
  pub windows : List (Present C)
  pub mail : Mails

-- a state has the font of an opening, and as many nodes, leaves and inboxes as the opening's tree has nodes and leaves
pub record IsOf {C M : Type 0} (opening : List (Item C)) (m : State C M) : Type 0 where
  pub font : m.font ≡ font_of opening
  pub nodes : length m.tree.nodes.entries ≡ length (tree_of opening).nodes.entries
  pub leaves : leaf_count m.tree.nodes ≡ leaf_count (tree_of opening).nodes
  pub inboxes : length m.mail.inboxes ≡ leaf_count (tree_of opening).nodes

-- a step that room may be reserved for: one of the input devices, or a change of a cage, since these take no other memory
abbrev pub is_reservable : {M : Type 0} → Step M → Bool
is_reservable (steps.SetCage leaf cage) = true
is_reservable (steps.Mouse time button down) = true
is_reservable (steps.Motion time at) = true
is_reservable (steps.Key time code) = true
is_reservable step = false

-- a step that changes nothing but the journal
abbrev pub is_note : {M : Type 0} → Step M → Bool
is_note steps.Sync = true
is_note (steps.Report query) = true
is_note step = false

-- a step that may change the screen: a flush, a repaint, the frames, and an edit of the tree that was done
abbrev pub paints : {M : Type 0} → Step M → Answer → Bool
paints (steps.Flush leaf) answer = true
paints (steps.Repaint leaf) answer = true
paints steps.PaintFrame answer = true
paints (steps.Alter edit) answers.Done = true
paints step answer = false

-- the spots that a step may paint: for a flush and a repaint its leaf's, for PaintFrame the frames', for an edit of the tree all
abbrev pub may_paint : {M : Type 0} → Step M → Spot → Bool
may_paint (steps.Flush leaf) spot = is_in_leaf leaf spot
may_paint (steps.Repaint leaf) spot = is_in_leaf leaf spot
may_paint steps.PaintFrame spot = is_frame spot
may_paint (steps.Alter edit) spot = true
may_paint step spot = false

-- from one screen of a tree to the next, each point keeps its pixel unless the step may paint there
abbrev pub KeepsOthers : {M : Type 0} → Seen → Step M → Picture → Picture → Type 0
KeepsOthers t step old new =
    (p : Point) → is_on t p ≡ true → may_paint step (spot t p) ≡ false → pixel_of new p ≡ pixel_of old p

-- a step that the painter may make under the tree's lock
abbrev pub IsPainters : {M : Type 0} → Nodes → Step M → Type 0
IsPainters t step = IsFor t Painter (Mu ∷ []) step

-- the point is a visible point of the leaf, and good
abbrev pub is_good_in : {C M : Type 0} → State C M → LeafId → Point → Bool
is_good_in m leaf p = is_visible m leaf p && not (m.bad p)

-- two pictures have different pixels at a point
abbrev pub is_different : Picture → Picture → Point → Bool
is_different a b p = not (pixel_of a p == pixel_of b p)

module _ {C M : Type 0} (client : Ghosts C M) where
  -- the parts are those of a state of the machine, and the screen agrees with it
  pub record RepresentsState (m : State C M) (parts : Parts C) : Type 0 where
    pub tree : parts.surface.tree ≡ m.tree
    pub bad : (p : Point) → is_bad parts.surface p ≡ m.bad p
    pub windows : parts.windows ≡ presents client m
    pub mail : parts.mail ≡ m.mail
    pub sound : IsSound client m
    pub agrees : Agrees client m parts.surface.screen

  -- the parts are those of the replay of the journal over the opening, and the machine makes each line of the journal
  pub record IsStage (opening : List (Item C)) (lines : List (JournalLine M)) (parts : Parts C) : Type 0 where
    pub kept : RepresentsState (replay client opening lines) parts
    pub like : IsOf opening (replay client opening lines)
    pub legal : IsLegal client opening lines

  -- the state of a stage: the replay of its journal over its opening
  abbrev pub state : StageView C M → State C M
  state s = replay client s.opening s.journal

  -- the line that a step adds to a stage's journal
  abbrev pub line : StageView C M → Actor → List Level → Step M → JournalLine M
  line s actor level step = line_of_step client (state s) actor level step
