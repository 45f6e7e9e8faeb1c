-- Private contracts alone cite this file.
-- Chunks: lines of a part that are read separately from the lines before them.
use Rattle.std.specs.Prelude.{◌≡◌, ℕ, ◌+◌, ◌*◌, ◌<◌, ◌≤◌, ⊤, Bool, true, false, Option, Some, None, List, [], ◌∷◌, All, ◌++◌, length, drop, slice_index_or}
use Rattle.std.specs.Fork.{slice_chunk}
use Rattle.tr_journal.specs.declared.Actor.{Actor}
use Rattle.tr_journal.specs.declared.Step.{Step}
use Rattle.tr_widget.specs.declared.WidgetCmd.{WidgetCmd}
use Rattle.tr_grammar.specs.States.{SoFar}
use Rattle.tr_grammar.specs.Faults.{nodes_so_far}
use Rattle.tr_grammar.specs.Texts.{lines_of}
use Rattle.tr_grammar.specs.Scripts.{first_bad_line, after_all_lines, IsPlayable}
use Rattle.tr_reader.specs.Adding.{with_steps}

-- steps that lines make, each with its actor
abbrev pub Made : Type 0
Made = List (Actor × Step WidgetCmd)

-- After c and any more steps, these lines, starting with line n, have no fault and add these steps, which can be played; so
-- the first fault is that of the later lines.
pub record MakeSteps (c : SoFar) (n : ℕ) (lines : List (List ℕ)) (made : Made) : Type 0 where
  pub fault : (before : Made) (later : List (List ℕ)) →
      first_bad_line (with_steps c before) n (lines ++ later) ≡ first_bad_line (with_steps c (before ++ made)) (n + length lines) later
  pub script : (before : Made) → after_all_lines (with_steps c before) lines ≡ with_steps c (before ++ made)
  pub playable : All (IsPlayable (nodes_so_far c)) made

-- the steps that a chunk's lines make; `None` if the chunk wasn't read, for any reason
abbrev pub IsChunk : SoFar → ℕ → List (List ℕ) → Option Made → Type 0
IsChunk c n lines None = ⊤
IsChunk c n lines (Some made) = MakeSteps c n lines made

-- the results for line n and the lines after it, cut into chunks of `size` lines; the last chunk may be shorter
pub record AreChunks (c : SoFar) (n size : ℕ) (lines : List (List ℕ)) (chunks : List (Option Made)) : Type 0 where
  pub all : length lines ≤ length chunks * size
  pub last : length chunks * size < length lines + size
  pub each : (k : ℕ) (d : Option Made) → k < length chunks →
      IsChunk c (n + k * size) (slice_chunk lines size k) (slice_index_or chunks k d)

-- the lines from the first of these marks on
abbrev pub lines_from : List (List ℕ) → List (List ℕ)
lines_from [] = []
lines_from (bytes ∷ later) = lines_of bytes

-- each mark has the bytes from a line on: the first of these `count` lines, and each 250th after it
pub record AreMarks (count : ℕ) (marks : List (List ℕ)) : Type 0 where
  pub within : count ≤ length (lines_from marks)
  pub all : count ≤ length marks * 250
  pub last : length marks * 250 < count + 250
  pub each : (k : ℕ) → k < length marks → lines_of (slice_index_or marks k []) ≡ drop (k * 250) (lines_from marks)

-- the bytes behind the first `count` lines
pub record IsBehind (bytes : List ℕ) (count : ℕ) (behind : List ℕ) : Type 0 where
  pub lines : lines_of behind ≡ drop count (lines_of bytes)
  pub shorter : count + length behind ≤ length bytes

-- the lines, starting with line n, are taken, and the script so far has their steps
pub record TakesLines (c : SoFar) (n : ℕ) (lines : List (List ℕ)) (new : SoFar) : Type 0 where
  pub made : Made
  pub make : MakeSteps c n lines made
  pub script : new ≡ with_steps c made

-- the lines are taken, or none is
abbrev pub TakesAllOrNone : SoFar → ℕ → List (List ℕ) → SoFar → Bool → Type 0
TakesAllOrNone c n lines new true = TakesLines c n lines new
TakesAllOrNone c n lines new false = new ≡ c
