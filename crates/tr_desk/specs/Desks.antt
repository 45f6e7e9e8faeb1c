-- The input devices, and the owners of selections.
use Rattle.std.specs.Prelude.{ℕ, pos, neg_ℤ, ◌-◌, ◌==◌, Bool, true, false, if◌then◌else◌, List, Option, Some, None, IfSome, get_or, set, replicate, length, ◌≡◌, ◌<◌}
use Rattle.std.specs.List.{list_any}
use Rattle.tr_base.specs.declared.Point.{Point}
use Rattle.tr_base.specs.declared.LeafId.{LeafId}
use Rattle.tr_base.specs.declared.Spot.{Spot}
use Rattle.tr_base.specs.declared.Spot.TheVariants as spots
use Rattle.tr_base.specs.declared.Click.{Click}
use Rattle.tr_base.specs.declared.Click.TheVariants.{FirstDown, OtherDown, OtherUp, LastUp}
use Rattle.tr_base.specs.declared.Selection.{Selection}
use Rattle.tr_base.specs.declared.Selection.TheVariants.{Key, Source, Target}
use Rattle.tr_cage.specs.declared.Cage.TheVariants.{Everywhere}
use Rattle.tr_desk.specs.declared.desks.LeafState.{LeafState}

-- the model of a desk: the cursor, the time of the last event, whether each of the five buttons is held, the leaf that gets the mouse
-- events, the owner of each selection, and the state of each leaf
pub record Devices : Type 0 where
  pub cursor : Point
  pub time : ℕ
  pub held : List Bool
  pub focus : Option LeafId
  pub key : Option LeafId
  pub source : Option LeafId
  pub target : Option LeafId
  pub leaves : List LeafState

-- a leaf that no mouse or key event has reached, and that needn't be told the cursor's place
abbrev pub untold : LeafState
untold = record { cage = Everywhere; last = 0 }

-- the first state: the cursor lies off the screen, no button is held, and no selection has an owner
abbrev pub idle : ℕ → Devices
idle count = record {
  cursor = record { h = neg_ℤ (pos 1); v = neg_ℤ (pos 1) };
  time = 0;
  held = replicate 5 false;
  focus = None;
  key = None;
  source = None;
  target = None;
  leaves = replicate count untold;
}

-- the button is held; buttons count from 1
abbrev pub is_held : Devices → ℕ → Bool
is_held d button = get_or d.held (button - 1) false

-- some button is held
abbrev pub is_any_held : List Bool → Bool
is_any_held held = list_any (λ h. h) held

-- the buttons after one of them went down or up
abbrev pub held_after : List Bool → ℕ → Bool → List Bool
held_after held button down = set held (button - 1) down

-- the kind of a button event: the button goes down or up; if down, some button was held before it; if up, some button is held after it
abbrev pub click_of : Bool → Bool → Bool → Click
click_of true before after = if before then OtherDown else FirstDown
click_of false before after = if after then OtherUp else LastUp

-- the kind of the event of a button that goes down or up
abbrev pub click : Devices → ℕ → Bool → Click
click d button down = click_of down (is_any_held d.held) (is_any_held (held_after d.held button down))

-- the leaf that owns a point; a frame and a place off the screen have no leaf
abbrev pub leaf_at : Spot → Option LeafId
leaf_at (spots.Leaf leaf at size kind) = Some leaf
leaf_at spot = None

-- the leaf that gets the event: at the first button the leaf at the spot, and until the last one goes up that same leaf
abbrev pub receiver : Click → Spot → Option LeafId → Option LeafId
receiver FirstDown spot focus = leaf_at spot
receiver click spot focus = focus

-- the mouse focus after an event: the leaf at the spot for the first button, none after the last one, and else as before
abbrev pub focus_after : Click → Spot → Option LeafId → Option LeafId
focus_after LastUp spot focus = None
focus_after click spot focus = receiver click spot focus

-- the desk after a button went down or up at a spot
abbrev pub after_mouse : Devices → ℕ → ℕ → Bool → Spot → Devices
after_mouse d time button down spot = record d {
  time = time;
  held = held_after d.held button down;
  focus = focus_after (click d button down) spot d.focus;
}

-- the owner of a selection
abbrev pub selection_owner : Devices → Selection → Option LeafId
selection_owner d Key = d.key
selection_owner d Source = d.source
selection_owner d Target = d.target

-- the desk with another owner of a selection, or with none
abbrev pub owned_by : Option LeafId → Selection → Devices → Devices
owned_by leaf Key d = record d { key = leaf }
owned_by leaf Source d = record d { source = leaf }
owned_by leaf Target d = record d { target = leaf }

-- the previous owner, if that is another leaf
abbrev pub other_than : LeafId → Option LeafId → Option LeafId
other_than leaf None = None
other_than leaf (Some old) = if old.0 == leaf.0 then None else Some old

-- an optional leaf is none, or a leaf of the desk
abbrev pub IsKnown : ℕ → Option LeafId → Type 0
IsKnown count leaf = IfSome leaf (λ l. l.0 < count)

-- there are five buttons, and the mouse focus and each owner of a selection are leaves of the desk
pub record IsDesk (d : Devices) : Type 0 where
  pub buttons : length d.held ≡ 5
  pub focus : IsKnown (length d.leaves) d.focus
  pub key : IsKnown (length d.leaves) d.key
  pub source : IsKnown (length d.leaves) d.source
  pub target : IsKnown (length d.leaves) d.target

-- the state of a leaf
abbrev pub state_of : Devices → LeafId → LeafState
state_of d leaf = get_or d.leaves leaf.0 untold

-- the desk with another state of a leaf
abbrev pub with_state : LeafId → LeafState → Devices → Devices
with_state leaf s d = record d { leaves = set d.leaves leaf.0 s }
