-- The meaning of the lines so far: the script up to the next line.
use Rattle.std.specs.Prelude.{ℕ, List, []}
use Rattle.tr_journal.specs.declared.Item.{Item}
use Rattle.tr_widget.specs.declared.Widget.{Widget}
use Rattle.tr_widget.specs.declared.WidgetCmd.{WidgetCmd}
use Rattle.tr_grammar.specs.declared.places.Place.{Place}
use Rattle.tr_grammar.specs.declared.places.Place.TheVariants.{Start}
use Rattle.tr_journal.specs.Names.{Names}
use Rattle.tr_journal.specs.Parts.{Part}
use Rattle.tr_grammar.specs.Names.{no_names}

-- the script so far: its version (0 before the version line), the place of its next line, the names, the items of the opening,
-- the glyphs that were set, the parts that a sync has ended, and the current part
pub record SoFar : Type 0 where
  pub version : ℕ
  pub place : Place
  pub names : Names
  pub items : List (Item Widget)
  pub glyphs : List ℕ
  pub ended : List (Part WidgetCmd)
  pub part : Part WidgetCmd

-- a part without a line
abbrev pub empty_part : Part WidgetCmd
empty_part = record { reports = []; steps = [] }

-- before the first line
abbrev pub nothing_yet : SoFar
nothing_yet = record {
  version = 0;
  place = Start;
  names = no_names;
  items = [];
  glyphs = [];
  ended = [];
  part = empty_part;
}
