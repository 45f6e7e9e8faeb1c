-- Private contracts alone cite this file.
-- The saved lines of the script so far.
use Rattle.std.specs.Prelude.{◌≡◌, ℕ, ◌-◌, Bool, true, List, [], ◌∷◌, ◌++◌, vec_len, vec_capacity, codes, if◌then◌else◌}
use Rattle.std.specs.List.{list_all}
use Rattle.tr_grammar.specs.Texts.{is_plain, lines_of}
use Rattle.tr_gen.specs.Scripts.{text_of_lines}
use Rattle.tr_session.specs.Lines.{sync_lines}
use Rattle.tr_session.specs.declared.saving.Saved.TheInside.{Inside}

-- the lines, and the room for more bytes
pub record Saved : Type 0 where
  pub lines : List (List ℕ)
  pub room : ℕ

-- the model of the saved lines
abbrev pub saved_view : Inside → Saved
saved_view s = record { lines = lines_of s.text.items; room = vec_capacity s.text - vec_len s.text }

-- the text is that of its lines
pub record IsSaved (s : Inside) : Type 0 where
  pub text : text_of_lines (lines_of s.text.items) ≡ s.text.items
  pub plain : list_all is_plain (lines_of s.text.items) ≡ true

-- the lines after those so far in a whole script
abbrev pub ending : Bool → Bool → List (List ℕ)
ending behind_step ended = if ended then [] else sync_lines behind_step ++ codes "end" ∷ []
