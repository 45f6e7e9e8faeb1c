-- Private contracts alone cite this file.
-- The showing of bytes up to a cut.
use Rattle.std.specs.Prelude.{◌≡◌, ⊤, ℕ, ◌<◌, List, ◌++◌, length, Some, None}
use Rattle.std.specs.List.{flat_map}
use Rattle.tr_dump.specs.Reports.{dump_text}
use Rattle.tr_screen.specs.Pictures.{Picture}
use Rattle.tr_mirror.specs.Readings.{Reading, reading_of, screens_shown}
use Rattle.tr_show.specs.declared.errors.ShowRefused.{ShowRefused}
use Rattle.tr_show.specs.declared.errors.ShowRefused.TheVariants as refused

-- after a stream a front of the bytes was read and shown: its dumps are added to the text
pub record IsPass (stream : List ℕ) (m : Reading) (bytes rest before text : List ℕ) : Type 0 where
  pub front : List ℕ
  pub parts : front ++ rest ≡ bytes
  pub some : 0 < length front
  pub came : m ≡ reading_of (stream ++ front)
  pub more : List Picture
  pub shows : screens_shown (stream ++ front) ≡ screens_shown stream ++ more
  pub written : text ≡ before ++ flat_map dump_text more

-- the reading has this fault
abbrev pub IsLate : Reading → ShowRefused → Type 0
IsLate m refused.NoMemory = ⊤
IsLate m (refused.Fault fault) = m.fault ≡ Some fault
