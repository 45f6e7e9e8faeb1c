-- Private contracts alone cite this file.
-- The stored parts of a reader.
use Rattle.std.specs.Prelude.{◌≡◌, List, [], Option, Some, None}
use Rattle.tr_journal.specs.declared.Item.{Item}
use Rattle.tr_widget.specs.declared.Widget.{Widget}
use Rattle.tr_journal.specs.Names.{Names}
use Rattle.tr_grammar.specs.Names.{no_names}
use Rattle.tr_grammar.specs.States.{SoFar}
use Rattle.tr_grammar.specs.Faults.{reports_so_far}
use Rattle.tr_reader.specs.declared.readers.Declared.{Declared}
use Rattle.tr_reader.specs.declared.readers.Reader.TheInside.{Inside}
use Rattle.tr_reader.specs.Laws.{IsSoFar}

-- the items of the opening; none if there is no opening yet
abbrev pub items_in : Option Declared → List (Item Widget)
items_in None = []
items_in (Some d) = d.opening

-- the names of its nodes and leaves
abbrev pub names_in : Option Declared → Names
names_in None = no_names
names_in (Some d) = record { nodes = d.nodes; leaves = d.leaves }

-- the script so far
abbrev pub so_far : Inside → SoFar
so_far r = record {
  version = r.version;
  place = r.place;
  names = names_in r.declared;
  items = items_in r.declared;
  glyphs = r.glyphs.items;
  ended = r.ended.items;
  part = record { reports = r.reports.items; steps = r.steps };
}

-- the script so far meets its laws, and the reports are counted
pub record HoldsTogether (r : Inside) : Type 0 where
  pub law : IsSoFar (so_far r)
  pub reports : r.report_count ≡ reports_so_far (so_far r)
