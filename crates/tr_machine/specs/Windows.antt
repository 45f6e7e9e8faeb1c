-- A window: the content that its pixels show, and the changes since.
use Rattle.std.specs.Prelude.{List, [], ◌∷◌, ◌++◌, fold}
use Rattle.tr_base.specs.declared.Size.{Size}
use Rattle.tr_base.specs.Rects.{Edges, meet_of, whole_of}
use Rattle.tr_paint.specs.declared.Paint.{Paint}
use Rattle.tr_paint.specs.declared.Paint.TheVariants.{Spoil}
use Rattle.tr_paint.specs.Batches.{kept}
use Rattle.tr_paint.specs.Traces.{Look}
use Rattle.tr_client.specs.declared.clients.Client.{Ghosts}

-- a change of a window: a command of its client, or a mark, which says that a part of it must be painted again
pub data Change (M : Type 0) : Type 0 where
  Command : M → Change M
  Mark : Edges → Change M

-- a window: the content that its good pixels show, and the changes since, in order
pub record Window (C M : Type 0) : Type 0 where
  pub shown : C
  pub made : List (Change M)

-- a window without changes
abbrev pub fresh : {C M : Type 0} → C → Window C M
fresh content = record { shown = content; made = [] }

-- a window with one more change
abbrev pub with_change : {C M : Type 0} → Change M → Window C M → Window C M
with_change change w = record w { made = w.made ++ change ∷ [] }

module _ {C M : Type 0} (client : Ghosts C M) where
  -- the content after a change: a mark doesn't change it
  abbrev pub changed_content : C → Change M → C
  changed_content content (Command cmd) = client.next content cmd
  changed_content content (Mark clip) = content

  -- the window's present content
  abbrev pub content : Window C M → C
  content w = fold changed_content w.shown w.made

  -- the paint commands of a change of a content, in a window of this size: the command's patch, or the mark, cut by the window
  abbrev pub paints_of : Look → Size → C → Change M → List Paint
  paints_of look size content (Command cmd) = client.patch look size content cmd
  paints_of look size content (Mark clip) = kept (Spoil (meet_of clip (whole_of size)))

  -- the paint commands of changes in a row, each from the content before it
  abbrev pub paints_from : Look → Size → C → List (Change M) → List Paint
  paints_from look size content [] = []
  paints_from look size content (change ∷ changes) =
      paints_of look size content change ++ paints_from look size (changed_content content change) changes

  -- the window's batch: the paint commands that wait
  abbrev pub batch : Look → Size → Window C M → List Paint
  batch look size w = paints_from look size w.shown w.made

  -- the window after an update: it shows its content, without changes since
  abbrev pub updated : Window C M → Window C M
  updated w = fresh (content w)
