-- The effect of several commands on a content, from its client's definition of one command.
use Rattle.std.specs.Prelude.{List, [], ◌∷◌, ◌++◌}
use Rattle.tr_base.specs.declared.Size.{Size}
use Rattle.tr_paint.specs.declared.paints.Paint.{Paint}
use Rattle.tr_paint.specs.Traces.{Look}
use Rattle.tr_client.specs.declared.clients.Client.{Ghosts}

-- the content after the commands, in their order
abbrev pub content_after : {C M : Type 0} → Ghosts C M → C → List M → C
content_after client content [] = content
content_after client content (cmd ∷ cmds) = content_after client (client.next content cmd) cmds

-- the patches of the commands, each from the content before it
abbrev pub patches_of : {C M : Type 0} → Ghosts C M → Look → Size → C → List M → List Paint
patches_of client look size content [] = []
patches_of client look size content (cmd ∷ cmds) =
    client.patch look size content cmd ++ patches_of client look size (client.next content cmd) cmds
