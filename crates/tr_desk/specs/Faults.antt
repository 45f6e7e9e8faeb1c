-- The reasons for a refusal by a desk.
use Rattle.std.specs.Prelude.{ℕ, Bool, false, not, ◌&&◌, ◌==◌, nat_le, nat_lt, if◌then◌else◌, Option, Some, None}
use Rattle.tr_base.specs.declared.LeafId.{LeafId}
use Rattle.tr_base.specs.declared.Selection.{Selection}
use Rattle.tr_desk.specs.declared.desks.DeskFault.{DeskFault}
use Rattle.tr_desk.specs.declared.desks.DeskFault.TheVariants.{Earlier, Held, NotHeld, NotCurrent, NotOwner}
use Rattle.tr_desk.specs.Desks.{Devices, is_held, selection_owner, state_of}

-- an event may not be older than the one before it
abbrev pub time_fault : Devices → ℕ → Option DeskFault
time_fault d time = if nat_lt time d.time then Some (Earlier d.time) else None

-- a button that goes down must not be held before, and one that goes up must be
abbrev pub button_fault : Bool → Bool → Option DeskFault
button_fault down held = if down && held then Some Held else if not down && not held then Some NotHeld else None

-- the first fault of two
abbrev pub first_of_two : Option DeskFault → Option DeskFault → Option DeskFault
first_of_two None second = second
first_of_two (Some fault) second = Some fault

-- the reason why a button can't go down or up at a time
abbrev pub mouse_fault : Devices → ℕ → ℕ → Bool → Option DeskFault
mouse_fault d time button down = first_of_two (time_fault d time) (button_fault down (is_held d button))

-- a leaf may own a selection at a time, from 1 on, that is both the desk's and that of the last mouse or key event that reached it
abbrev pub own_fault : Devices → LeafId → ℕ → Option DeskFault
own_fault d leaf time =
    if nat_le 1 time && (time == d.time) && (time == (state_of d leaf).last) then None
    else Some (NotCurrent d.time (state_of d leaf).last)

-- the owner is this leaf
abbrev pub is_owned_by : LeafId → Option LeafId → Bool
is_owned_by leaf None = false
is_owned_by leaf (Some other) = other.0 == leaf.0

-- only the owner of a selection gives it up
abbrev pub disown_fault : Devices → LeafId → Selection → Option DeskFault
disown_fault d leaf selection = if is_owned_by leaf (selection_owner d selection) then None else Some NotOwner
