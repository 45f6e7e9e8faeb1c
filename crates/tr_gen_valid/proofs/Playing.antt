-- The drawn script behind its opening, as far as its rounds are played.
use Rattle.std.proofs.Common.{◌≡◌, ℕ, ◌*◌, ◌≤◌, pos, true, false, List, [], ◌∷◌, ◌++◌, length}
use Rattle.std.specs.Prelude.{codes, replicate}
use Rattle.tr_base.specs.declared.Kind.TheVariants as pixels
use Rattle.tr_base.specs.Shapes.{Lengths}
use Rattle.tr_forest.specs.declared.NodeKind.TheVariants as nodes
use Rattle.tr_journal.specs.declared.Actor.{Actor}
use Rattle.tr_journal.specs.declared.Item.{Item}
use Rattle.tr_journal.specs.declared.Item.TheVariants as items
use Rattle.tr_journal.specs.declared.Step.{Step}
use Rattle.tr_widget.specs.declared.Widget.{Widget}
use Rattle.tr_widget.specs.declared.Widget.TheVariants as widgets
use Rattle.tr_widget.specs.declared.WidgetCmd.{WidgetCmd}
use Rattle.tr_grammar.specs.declared.places.Place.{Place}
use Rattle.tr_grammar.specs.declared.places.Place.TheVariants as places
use Rattle.tr_journal.specs.Names.{Names}
use Rattle.tr_journal.specs.Parts.{Part}
use Rattle.tr_grammar.specs.States.{SoFar, empty_part}
use Rattle.tr_grammar.specs.Faults.{step_line, allows, has_ended, reports_so_far}

-- ---- what the opening says

-- the names of the nodes and of the leaves, in the order of their lines
abbrev pub names : Names
names = record {
  nodes = codes "z" ∷ codes "b" ∷ codes "t" ∷ codes "k" ∷ codes "m" ∷ codes "s" ∷ [];
  leaves = codes "t" ∷ codes "k" ∷ codes "m" ∷ codes "s" ∷ [];
}

abbrev lengths : ℕ → ℕ → ℕ → Lengths
lengths lo pref hi = record { lo = lo; pref = pref; hi = hi }

abbrev leaf : Lengths → Lengths → Widget → Item Widget
leaf across down content = items.Leaf (record { across = across; down = down }) content

abbrev put : ℕ → ℕ → ℕ → ℕ → Item Widget
put child parent h v = items.Put (record { 0 = child }) (record { 0 = parent }) (record { h = pos h; v = pos v })

abbrev opening_items : List (Item Widget)
opening_items =
    items.Screen (record { wide = 256; high = 192 }) pixels.Map8
    ∷ items.Glyph 65 (24 ∷ 60 ∷ 102 ∷ 102 ∷ 126 ∷ 102 ∷ 102 ∷ 0 ∷ [])
    ∷ items.Glyph 66 (124 ∷ 102 ∷ 102 ∷ 124 ∷ 102 ∷ 102 ∷ 124 ∷ 0 ∷ [])
    ∷ items.Node nodes.Z 3
    ∷ items.Node (nodes.Border 2) 9
    ∷ leaf (lengths 80 160 200) (lengths 40 80 160) (widgets.Lines [])
    ∷ leaf (lengths 10 64 128) (lengths 10 64 128) (widgets.Canvas [])
    ∷ leaf (lengths 8 64 256) (lengths 8 48 255) (widgets.Meter (replicate 8 0))
    ∷ leaf (lengths 1 40 80) (lengths 1 40 80) (widgets.Solid (record { tint = 5 }))
    ∷ put 5 0 10 100
    ∷ put 4 0 180 10
    ∷ put 3 0 100 60
    ∷ put 2 1 0 0
    ∷ put 1 0 20 20
    ∷ items.Root (record { 0 = 0 })
    ∷ []

-- ---- what changes while rounds are played

-- where the next line stands, the parts that a sync has ended, and the one that goes on
pub record Playing : Type 0 where
  pub place : Place
  pub ended : List (Part WidgetCmd)
  pub part : Part WidgetCmd

-- the whole script so far
abbrev pub state : Playing → SoFar
state x = record {
  version = 1;
  place = x.place;
  names = names;
  items = opening_items;
  glyphs = 65 ∷ 66 ∷ [];
  ended = x.ended;
  part = x.part;
}

-- no round was played
abbrev pub at_begin : Playing
at_begin = record { place = places.Gap; ended = []; part = empty_part }

-- a step more
abbrev pub stepped : Playing → Actor × Step WidgetCmd → Playing
stepped x made = record {
  place = places.Steps;
  ended = x.ended;
  part = record { reports = x.part.reports; steps = x.part.steps ++ made ∷ [] };
}

-- all windows were waited for
abbrev pub synced : Playing → Playing
synced x = record { place = places.Gap; ended = x.ended ++ x.part ∷ []; part = empty_part }

-- a step may come next, no report was made, and there was at most one sync for each hundred of the rounds
pub record IsPlaying (rounds : ℕ) (x : Playing) : Type 0 where
  pub placed : allows x.place step_line ≡ true
  pub early : has_ended x.place ≡ false
  pub syncs : 100 * length x.ended ≤ rounds
  pub reports : reports_so_far (state x) ≡ 0
