-- The laws of every script so far.
use Rattle.std.specs.Prelude.{◌≡◌, ℕ, true, List, [], None, All, is_some, length}
use Rattle.tr_forest.specs.Nodes.{leaf_count}
use Rattle.tr_grammar.specs.declared.Place.{Place}
use Rattle.tr_grammar.specs.declared.Place.TheVariants as places
use Rattle.tr_grammar.specs.Names.{number_of}
use Rattle.tr_grammar.specs.States.{SoFar, empty_part, nothing_yet}
use Rattle.tr_grammar.specs.Faults.{nodes_so_far}
use Rattle.tr_grammar.specs.Scripts.{IsPlayablePart}

-- only the version is known
abbrev pub IsBare : SoFar → Type 0
IsBare c = c ≡ record nothing_yet { version = c.version; place = c.place }

-- no line of a part was read
pub record HasNoPart (c : SoFar) : Type 0 where
  pub ended : c.ended ≡ []
  pub part : c.part ≡ empty_part

-- there is a root, and all parts can be played
pub record HasParts (c : SoFar) : Type 0 where
  pub root : is_some (nodes_so_far c).root ≡ true
  pub ended : All (IsPlayablePart (nodes_so_far c)) c.ended
  pub part : IsPlayablePart (nodes_so_far c) c.part

-- the lines that were read before a line in this place
abbrev pub HasRead : Place → SoFar → Type 0
HasRead places.Start c = IsBare c
HasRead places.Head c = IsBare c
HasRead places.Opening c = HasNoPart c
HasRead p c = HasParts c

-- each node and each leaf has a name, a leaf that of its node, and the lines read are those that may come before the next line
pub record IsSoFar (c : SoFar) : Type 0 where
  pub nodes : length c.names.nodes ≡ length (nodes_so_far c).entries
  pub leaves : length c.names.leaves ≡ leaf_count (nodes_so_far c)
  pub shared : (w : List ℕ) → number_of c.names.nodes w ≡ None → number_of c.names.leaves w ≡ None
  pub read : HasRead c.place c
