-- Private contracts alone cite this file.
-- A text after a call that failed for want of memory.
use Rattle.std.specs.Prelude.{◌≡◌, ℕ, List, take, length}

-- the new text begins with the old one
pub record Begins (new old : List ℕ) : Type 0 where
  pub front : take (length old) new ≡ old
