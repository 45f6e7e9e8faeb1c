-- The script of a number.
use Rattle.std.specs.Prelude.{ℕ, zero, suc, ◌%◌, ◌==◌, if◌then◌else◌, List, [], ◌∷◌, ◌++◌, flat_map, codes}
use Rattle.tr_gen.specs.Draws.{Drawing, ◌>>=◌, give}
use Rattle.tr_gen.specs.Lines.{round_line}

-- the opening, which is the same for every number
unfoldable pub opening_lines : List (List ℕ)
opening_lines =
    codes "trestle 1"
    ∷ codes "screen 256 192 map8"
    ∷ codes "glyph 41 183c66667e666600"
    ∷ codes "glyph 42 7c66667c66667c00"
    ∷ codes "node z z 3"
    ∷ codes "node b border 9 2"
    ∷ codes "leaf t 80 160 200 40 80 160 lines"
    ∷ codes "leaf k 10 64 128 10 64 128 canvas"
    ∷ codes "leaf m 8 64 256 8 48 255 meter 8"
    ∷ codes "leaf s 1 40 80 1 40 80 solid 5"
    ∷ codes "put s z 10 100"
    ∷ codes "put m z 180 10"
    ∷ codes "put k z 100 60"
    ∷ codes "put t b"
    ∷ codes "put b z 20 20"
    ∷ codes "root z"
    ∷ codes "begin"
    ∷ []

-- after every hundredth round the player waits for all windows
abbrev pub sync_after : ℕ → List (List ℕ)
sync_after round = if round % 100 == 0 then codes "sync" ∷ [] else []

-- the lines of a round, counted from 1
abbrev pub round_lines : ℕ → Drawing (List (List ℕ))
round_lines round = do
  line ← round_line
  give (line ∷ sync_after round)

-- the lines of the first n rounds
unfoldable pub rounds_lines : ℕ → Drawing (List (List ℕ))
rounds_lines zero = give []
rounds_lines (suc n) = do
  before ← rounds_lines n
  lines ← round_lines (suc n)
  give (before ++ lines)

-- the opening, 2,000 rounds, a dump and the end; the number is the state before the first draw
abbrev pub script_lines : ℕ → List (List ℕ)
script_lines number = opening_lines ++ (rounds_lines 2000 number).value ++ codes "dump" ∷ codes "end" ∷ []

-- lines as a text: a line feed ends each of them
abbrev pub text_of_lines : List (List ℕ) → List ℕ
text_of_lines lines = flat_map (λ line. line ++ codes "\n") lines

-- the text of the script of a number
abbrev pub script_of_number : ℕ → List ℕ
script_of_number number = text_of_lines (script_lines number)
