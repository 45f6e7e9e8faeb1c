-- Private contracts alone cite this file.
-- The drawing of the commands that wait in a window: a sketch of the content after them.
use Rattle.std.specs.Prelude.{◌≡◌}
use Rattle.tr_client.specs.declared.clients.Client.{Ghosts}
use Rattle.tr_client.specs.Runs.{content_after}
use Rattle.tr_book.specs.Books.{PreparedView}
use Rattle.tr_sketch.specs.Sketches.{SketchView}

-- the sketch shows the content after the commands, for the same font, size and kind
pub record IsDrawnOf {C M : Type 0} (client : Ghosts C M) (p : PreparedView C M) (s : SketchView C) : Type 0 where
  pub content : s.content ≡ content_after client p.from p.commands
  pub font : s.font ≡ p.font
  pub size : s.size ≡ p.size
  pub kind : s.kind ≡ p.kind
