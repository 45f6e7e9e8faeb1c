-- The grammar: for each form of a line its fixed words, its values with their ranges, and its names.
use Rattle.std.specs.Prelude.{ℕ, ◌==◌, Bool, true, false, ◌&&◌, if◌then◌else◌, List, [], ◌∷◌, ◌++◌, Option, slice_index, bytes_eq, codes}
use Rattle.std.specs.List.{find}
use Rattle.tr_grammar.specs.Words.{is_one_of}

-- an element of a line
pub data Field : Type 0 where
  word : List ℕ → Field  -- this word
  one_of : List (List ℕ) → Field  -- one of these words
  pixels : Field  -- a kind of pixels that the version has
  at_leaf : Field  -- @ and the name of a leaf
  new_name : Field  -- a name that is declared here
  a_node : Field  -- the name of a node or leaf
  a_leaf : Field  -- the name of a leaf
  number : ℕ → ℕ → Field  -- a number from the one to the other
  signed : ℕ → ℕ → Field  -- a number from minus the one to the other
  shape : Field  -- three numbers to 4096 that don't fall
  glyph : Field  -- two hex digits, 20 to 7e
  rows : Field  -- sixteen hex digits
  text : Field  -- the rest of the line, of at most 80 bytes

-- the forms of a line: a form with a widget's name declares a leaf with that widget; the last ones are commands
pub data Form : Type 0 where
  Version : Form
  Screen : Form
  Glyph : Form
  Split : Form
  Page : Form
  Border : Form
  Rigid : Form
  Translate : Form
  Pack : Form
  Solid : Form
  Board : Form
  Label : Form
  Lines : Form
  Canvas : Form
  Meter : Form
  Editor : Form
  Put : Form
  PutAt : Form
  Root : Form
  Begin : Form
  Mouse : Form
  Motion : Form
  Key : Form
  Attach : Form
  AttachAt : Form
  Detach : Form
  Tint : Form
  Widen : Form
  Offset : Form
  Fix : Form
  Move : Form
  Lift : Form
  Show : Form
  Turn : Form
  Reshape : Form
  Resize : Form
  Rescreen : Form
  Mark : Form
  Flush : Form
  Force : Form
  Take : Form
  Enclose : Form
  Free : Form
  Own : Form
  Disown : Form
  Read : Form
  Sync : Form
  Dump : Form
  Peek : Form
  Journal : Form
  Where : Form
  Inbox : Form
  End : Form
  SetTint : Form
  SetTile : Form
  SetShift : Form
  SetText : Form
  AddLine : Form
  Clear : Form
  AddRect : Form
  AddSwap : Form
  AddExchange : Form
  Undo : Form
  SetBar : Form
  InsertText : Form
  EraseByte : Form
  SplitLine : Form
  GoTo : Form
  CopyText : Form
  PasteClip : Form

-- ---- fields of several lines

-- a byte
abbrev pub byte : Field
byte = number 0 255

-- a length of a window
abbrev pub extent : Field
extent = number 0 4096

-- a side of the screen
abbrev pub side : Field
side = number 1 1024

-- a coordinate of a child of a Z, or the distance of a Translate along one axis
abbrev pub offset : Field
offset = signed 2048 2048

-- a coordinate of a tile's corner
abbrev pub shift : Field
shift = signed 4096 4096

-- an edge of a rectangle
abbrev pub edge : Field
edge = signed 8192 8192

-- a coordinate of the cursor
abbrev pub cursor_coordinate : Field
cursor_coordinate = signed 8192 8191

-- a row of an editor's text
abbrev pub text_row : Field
text_row = number 0 199

-- a column of an editor's text
abbrev pub text_column : Field
text_column = number 0 80

-- a time of an input device
abbrev pub time : Field
time = number 1 4294967295

-- ---- lists of fixed words; a line has one word of a list

-- the selections; one window at a time owns each
abbrev pub selection_words : List (List ℕ)
selection_words = codes "key" ∷ codes "source" ∷ codes "target" ∷ []

-- the splits that have only a tint
abbrev pub split_words : List (List ℕ)
split_words = codes "h" ∷ codes "v" ∷ codes "z" ∷ codes "t" ∷ []

-- the direction of a Pack's rows
abbrev pub way_words : List (List ℕ)
way_words = codes "across" ∷ codes "down" ∷ []

-- the kinds of a button event: the button goes down or up
abbrev pub button_words : List (List ℕ)
button_words = codes "down" ∷ codes "up" ∷ []

-- the cursors that a cage holds
abbrev pub cage_words : List (List ℕ)
cage_words = codes "here" ∷ codes "gone" ∷ codes "both" ∷ []

-- ---- the table

abbrev pub fields : Form → List Field
fields Version = word (codes "trestle") ∷ number 1 2 ∷ []
fields Screen = word (codes "screen") ∷ side ∷ side ∷ pixels ∷ []
fields Glyph = word (codes "glyph") ∷ glyph ∷ rows ∷ []
fields Split = word (codes "node") ∷ new_name ∷ one_of split_words ∷ byte ∷ []
fields Page = word (codes "node") ∷ new_name ∷ word (codes "page") ∷ byte ∷ number 1 16 ∷ []
fields Border = word (codes "node") ∷ new_name ∷ word (codes "border") ∷ byte ∷ byte ∷ []
fields Rigid = word (codes "node") ∷ new_name ∷ word (codes "rigid") ∷ byte ∷ extent ∷ extent ∷ []
fields Translate = word (codes "node") ∷ new_name ∷ word (codes "translate") ∷ byte ∷ offset ∷ offset ∷ []
fields Pack = word (codes "node") ∷ new_name ∷ word (codes "pack") ∷ byte ∷ one_of way_words ∷ number 0 64 ∷ []
fields Solid = word (codes "leaf") ∷ new_name ∷ shape ∷ shape ∷ word (codes "solid") ∷ byte ∷ []
fields Board = word (codes "leaf") ∷ new_name ∷ shape ∷ shape ∷ word (codes "board") ∷ rows ∷ shift ∷ shift ∷ []
fields Label = word (codes "leaf") ∷ new_name ∷ shape ∷ shape ∷ word (codes "label") ∷ text ∷ []
fields Lines = word (codes "leaf") ∷ new_name ∷ shape ∷ shape ∷ word (codes "lines") ∷ []
fields Canvas = word (codes "leaf") ∷ new_name ∷ shape ∷ shape ∷ word (codes "canvas") ∷ []
fields Meter = word (codes "leaf") ∷ new_name ∷ shape ∷ shape ∷ word (codes "meter") ∷ number 1 32 ∷ []
fields Editor = word (codes "leaf") ∷ new_name ∷ shape ∷ shape ∷ word (codes "edit") ∷ []
fields Put = word (codes "put") ∷ a_node ∷ a_node ∷ []
fields PutAt = word (codes "put") ∷ a_node ∷ a_node ∷ offset ∷ offset ∷ []
fields Root = word (codes "root") ∷ a_node ∷ []
fields Begin = word (codes "begin") ∷ []
fields Mouse = word (codes "mouse") ∷ time ∷ one_of button_words ∷ number 1 5 ∷ []
fields Motion = word (codes "motion") ∷ time ∷ cursor_coordinate ∷ cursor_coordinate ∷ []
fields Key = word (codes "key") ∷ time ∷ byte ∷ []
fields Attach = word (codes "attach") ∷ a_node ∷ a_node ∷ []
fields AttachAt = word (codes "attach") ∷ a_node ∷ a_node ∷ offset ∷ offset ∷ []
fields Detach = word (codes "detach") ∷ a_node ∷ []
fields Tint = word (codes "tint") ∷ a_node ∷ byte ∷ []
fields Widen = word (codes "border") ∷ a_node ∷ byte ∷ []
fields Offset = word (codes "offset") ∷ a_node ∷ offset ∷ offset ∷ []
fields Fix = word (codes "fix") ∷ a_node ∷ extent ∷ extent ∷ []
fields Move = word (codes "move") ∷ a_node ∷ offset ∷ offset ∷ []
fields Lift = word (codes "lift") ∷ a_node ∷ []
fields Show = word (codes "show") ∷ a_node ∷ a_node ∷ []
fields Turn = word (codes "turn") ∷ a_node ∷ byte ∷ []
fields Reshape = word (codes "shapes") ∷ a_node ∷ shape ∷ shape ∷ []
fields Resize = word (codes "resize") ∷ side ∷ side ∷ []
fields Rescreen = word (codes "rescreen") ∷ pixels ∷ []
fields Mark = at_leaf ∷ word (codes "mark") ∷ edge ∷ edge ∷ edge ∷ edge ∷ []
fields Flush = at_leaf ∷ word (codes "flush") ∷ []
fields Force = at_leaf ∷ word (codes "force") ∷ []
fields Take = at_leaf ∷ word (codes "take") ∷ []
fields Enclose = at_leaf ∷ word (codes "cage") ∷ edge ∷ edge ∷ edge ∷ edge ∷ one_of cage_words ∷ []
fields Free = at_leaf ∷ word (codes "free") ∷ []
fields Own = at_leaf ∷ word (codes "own") ∷ one_of selection_words ∷ time ∷ []
fields Disown = at_leaf ∷ word (codes "disown") ∷ one_of selection_words ∷ []
fields Read = at_leaf ∷ word (codes "read") ∷ one_of selection_words ∷ []
fields Sync = word (codes "sync") ∷ []
fields Dump = word (codes "dump") ∷ []
fields Peek = word (codes "peek") ∷ []
fields Journal = word (codes "journal") ∷ []
fields Where = word (codes "where") ∷ cursor_coordinate ∷ cursor_coordinate ∷ []
fields Inbox = word (codes "inbox") ∷ a_leaf ∷ []
fields End = word (codes "end") ∷ []
fields SetTint = at_leaf ∷ word (codes "tint") ∷ byte ∷ []
fields SetTile = at_leaf ∷ word (codes "tile") ∷ rows ∷ []
fields SetShift = at_leaf ∷ word (codes "shift") ∷ shift ∷ shift ∷ []
fields SetText = at_leaf ∷ word (codes "text") ∷ text ∷ []
fields AddLine = at_leaf ∷ word (codes "line") ∷ text ∷ []
fields Clear = at_leaf ∷ word (codes "clear") ∷ []
fields AddRect = at_leaf ∷ word (codes "rect") ∷ edge ∷ edge ∷ edge ∷ edge ∷ byte ∷ []
fields AddSwap = at_leaf ∷ word (codes "swap") ∷ edge ∷ edge ∷ edge ∷ edge ∷ []
fields AddExchange = at_leaf ∷ word (codes "exchange") ∷ edge ∷ edge ∷ edge ∷ edge ∷ byte ∷ byte ∷ []
fields Undo = at_leaf ∷ word (codes "undo") ∷ []
fields SetBar = at_leaf ∷ word (codes "bar") ∷ number 0 31 ∷ byte ∷ []
fields InsertText = at_leaf ∷ word (codes "insert") ∷ text ∷ []
fields EraseByte = at_leaf ∷ word (codes "erase") ∷ []
fields SplitLine = at_leaf ∷ word (codes "split") ∷ []
fields GoTo = at_leaf ∷ word (codes "goto") ∷ text_row ∷ text_column ∷ []
fields CopyText = at_leaf ∷ word (codes "copy") ∷ text_column ∷ text_column ∷ []
fields PasteClip = at_leaf ∷ word (codes "paste") ∷ []

-- ---- the lines and kinds of a version

-- the version is 2
abbrev pub is_second : ℕ → Bool
is_second version = version == 2

-- the kinds of pixels of a version; before the version line they are those of version 1
abbrev pub pixel_words : ℕ → List (List ℕ)
pixel_words version =
    if is_second version then codes "mono" ∷ codes "map4" ∷ codes "map8" ∷ [] else codes "mono" ∷ codes "map8" ∷ []

-- the version has lines of this form
abbrev pub is_known : ℕ → Form → Bool
is_known version Pack = is_second version
is_known version AddExchange = is_second version
is_known version Editor = is_second version
is_known version InsertText = is_second version
is_known version EraseByte = is_second version
is_known version SplitLine = is_second version
is_known version GoTo = is_second version
is_known version CopyText = is_second version
is_known version PasteClip = is_second version
is_known version f = true

-- ---- the form of a line

-- the forms of lines that declare a node other than a leaf
abbrev pub node_forms : List Form
node_forms = Split ∷ Page ∷ Border ∷ Rigid ∷ Translate ∷ Pack ∷ []

-- the forms of lines that declare a leaf
abbrev pub leaf_forms : List Form
leaf_forms = Solid ∷ Board ∷ Label ∷ Lines ∷ Canvas ∷ Meter ∷ Editor ∷ []

-- the forms of lines of a leaf's actor
abbrev pub act_forms : List Form
act_forms =
    Mark ∷ Flush ∷ Force ∷ Take ∷ Enclose ∷ Free ∷ Own ∷ Disown ∷ Read ∷ SetTint ∷ SetTile ∷ SetShift ∷ SetText ∷ AddLine ∷ Clear
    ∷ AddRect ∷ AddSwap ∷ AddExchange ∷ Undo ∷ SetBar ∷ InsertText ∷ EraseByte ∷ SplitLine ∷ GoTo ∷ CopyText ∷ PasteClip ∷ []

-- all forms
abbrev pub forms : List Form
forms =
    node_forms ++ leaf_forms ++ act_forms
    ++ (Version ∷ Screen ∷ Glyph ∷ Put ∷ PutAt ∷ Root ∷ Begin ∷ Mouse ∷ Motion ∷ Key ∷ Attach ∷ AttachAt ∷ Detach ∷ Tint ∷ Widen
    ∷ Offset ∷ Fix ∷ Move ∷ Lift ∷ Show ∷ Turn ∷ Reshape ∷ Resize ∷ Rescreen ∷ Sync ∷ Dump ∷ Peek ∷ Journal ∷ Where ∷ Inbox ∷ End ∷ [])

module _ (version : ℕ) where
  -- a word may take the place of a field; only fixed words, kinds of pixels and the @ of a leaf are tested
  abbrev pub may_stand : Field → List ℕ → Bool
  may_stand (word t) w = bytes_eq w t
  may_stand (one_of ts) w = is_one_of ts w
  may_stand pixels w = is_one_of (pixel_words version) w
  may_stand at_leaf w = slice_index w 0 == 64
  may_stand f w = true

  -- the number of words is the number that the fields take, and the fixed words are in their places
  abbrev pub has_form : List Field → List (List ℕ) → Bool
  has_form [] [] = true
  has_form [] (w ∷ ws) = false
  has_form (text ∷ fs) ws = true
  has_form (shape ∷ fs) (lo ∷ pref ∷ hi ∷ ws) = has_form fs ws
  has_form (shape ∷ fs) ws = false
  has_form (f ∷ fs) [] = false
  has_form (f ∷ fs) (w ∷ ws) = may_stand f w && has_form fs ws

  -- the first of these forms that fits the words
  abbrev pub among : List Form → List (List ℕ) → Option Form
  among fs ws = find (λ f. is_known version f && has_form (fields f) ws) fs

  -- the form of a line of these words
  abbrev pub form_of : List (List ℕ) → Option Form
  form_of ws = among forms ws

-- each field with its words
abbrev pub field_words : List Field → List (List ℕ) → List (Field × List (List ℕ))
field_words [] ws = []
field_words (text ∷ fs) ws = (text, ws) ∷ []
field_words (shape ∷ fs) (lo ∷ pref ∷ hi ∷ ws) = (shape, lo ∷ pref ∷ hi ∷ []) ∷ field_words fs ws
field_words (shape ∷ fs) ws = []
field_words (f ∷ fs) [] = []
field_words (f ∷ fs) (w ∷ ws) = (f, w ∷ []) ∷ field_words fs ws
