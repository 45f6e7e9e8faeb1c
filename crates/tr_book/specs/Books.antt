-- The model of a window's waiting commands.
use Rattle.std.specs.Prelude.{ℕ, List}
use Rattle.tr_base.specs.declared.Size.{Size}
use Rattle.tr_base.specs.declared.Kind.{Kind}
use Rattle.tr_base.specs.declared.commands.Command.{Ghosts as CommandGhosts}
use Rattle.tr_client.specs.declared.clients.Client.{Ghosts}
use Rattle.tr_client.specs.declared.Prepared.{Prepared}
use Rattle.tr_levels.specs.declared.levels.Level.{Level}

-- commands over a content, for a font, a size and a kind; the content that they leave and their
-- patches follow from these
pub record PreparedView (C M : Type 0) : Type 0 where
  pub from : C
  pub font : List (List ℕ)
  pub size : Size
  pub kind : Kind
  pub commands : List M

-- the model of a Prepared in a book
abbrev pub view_of : {C M : Type 0} {client : Ghosts C M} {command : CommandGhosts M} →
    Prepared C M client command → PreparedView C M
view_of p = record {
  from = p.from;
  font = p.font;
  size = p.size;
  kind = p.kind;
  commands = p.commands.items;
}

-- the waiting commands of a window, the levels that the caller of each held, and the number of commands
-- that were handed over
pub record BookView (C M : Type 0) : Type 0 where
  pub prepared : PreparedView C M
  pub levels : List (List Level)
  pub handed : ℕ
