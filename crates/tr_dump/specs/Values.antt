-- The texts of values: kinds of pixels, clicks, selections, rectangles, events.
use Rattle.std.specs.Prelude.{ℕ, Bool, true, false, List, [], ◌∷◌, ◌++◌, codes, decimal}
use Rattle.std.specs.Fmt.{signed_decimal}
use Rattle.std.specs.List.{join_by}
use Rattle.tr_base.specs.declared.points.Point.{Point}
use Rattle.tr_base.specs.declared.sizes.Size.{Size}
use Rattle.tr_base.specs.declared.ops.Kind.{Kind}
use Rattle.tr_base.specs.declared.ops.Kind.TheVariants.{Mono, Map4, Map8}
use Rattle.tr_base.specs.declared.events.Click.{Click}
use Rattle.tr_base.specs.declared.events.Click.TheVariants.{FirstDown, OtherDown, OtherUp, LastUp}
use Rattle.tr_base.specs.declared.events.Selection.{Selection}
use Rattle.tr_base.specs.declared.events.Selection.TheVariants as selections
use Rattle.tr_base.specs.declared.events.Event.{Event}
use Rattle.tr_base.specs.declared.events.Event.TheVariants as events
use Rattle.tr_base.specs.Rects.{Edges}
use Rattle.tr_base.specs.Shapes.{Lengths}

-- words with one space between any two of them
abbrev pub spaced : List (List ℕ) → List ℕ
spaced words = join_by (λ word. word) (codes " ") words

-- a line: its words, and a line feed
abbrev pub line_text : List (List ℕ) → List ℕ
line_text words = spaced words ++ codes "\n"

-- the word for a kind of pixels
abbrev pub kind_word : Kind → List ℕ
kind_word Mono = codes "mono"
kind_word Map4 = codes "map4"
kind_word Map8 = codes "map8"

-- the word for a click
abbrev pub click_word : Click → List ℕ
click_word FirstDown = codes "firstdown"
click_word OtherDown = codes "otherdown"
click_word OtherUp = codes "otherup"
click_word LastUp = codes "lastup"

-- the word for a selection
abbrev pub selection_word : Selection → List ℕ
selection_word selections.Key = codes "key"
selection_word selections.Source = codes "source"
selection_word selections.Target = codes "target"

-- the word for a cursor that is here or gone
abbrev pub presence_word : Bool → List ℕ
presence_word true = codes "gone"
presence_word false = codes "here"

-- the words of a point: across, then down
abbrev pub point_words : Point → List (List ℕ)
point_words p = signed_decimal p.h ∷ signed_decimal p.v ∷ []

-- the words of a size: across, then down
abbrev pub size_words : Size → List (List ℕ)
size_words size = decimal size.wide ∷ decimal size.high ∷ []

-- the words of a rectangle: its west, east, north and south edges
abbrev pub rect_words : Edges → List (List ℕ)
rect_words e = signed_decimal e.west ∷ signed_decimal e.east ∷ signed_decimal e.north ∷ signed_decimal e.south ∷ []

-- the words of a shape: the least, the preferred and the greatest length
abbrev pub shape_words : Lengths → List (List ℕ)
shape_words l = decimal l.lo ∷ decimal l.pref ∷ decimal l.hi ∷ []

-- the text of an event
abbrev pub event_text : Event → List ℕ
event_text (events.Mouse time click button at) =
    spaced (codes "mouse" ∷ decimal time ∷ click_word click ∷ decimal button ∷ point_words at)
event_text (events.Position time at gone) = spaced (codes "position" ∷ decimal time ∷ point_words at ++ presence_word gone ∷ [])
event_text (events.Key time code) = spaced (codes "key" ∷ decimal time ∷ decimal code ∷ [])
event_text (events.Lost selection) = spaced (codes "lost" ∷ selection_word selection ∷ [])
event_text (events.Reshape size kind) = spaced (codes "reshape" ∷ size_words size ++ kind_word kind ∷ [])
