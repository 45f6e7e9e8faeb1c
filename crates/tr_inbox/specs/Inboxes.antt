-- The waiting events of a window.
use Rattle.std.specs.Prelude.{ℕ, List}
use Rattle.tr_base.specs.declared.events.Event.{Event}

-- the model of an inbox: the events that wait, the oldest first, and the number that were dropped
pub record InboxView : Type 0 where
  pub events : List Event
  pub dropped : ℕ
