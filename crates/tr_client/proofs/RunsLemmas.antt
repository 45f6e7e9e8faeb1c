-- One command more in a row of commands.
use Rattle.std.proofs.Common.{◌≡◌, List, [], ◌∷◌, ◌++◌, refl, ap, sym, ◌∙◌, append_assoc}
use Rattle.std.proofs.lemmas.List.{append-nil}
use Rattle.tr_base.specs.declared.Size.{Size}
use Rattle.tr_paint.specs.Traces.{Look}
use Rattle.tr_client.specs.declared.clients.Client.{Ghosts}
use Rattle.tr_client.specs.Runs.{content_after, patches_of}

pub content_more : {C M : Type 0} (client : Ghosts C M) (x : C) (cmds : List M) (cmd : M) →
    content_after client x (cmds ++ cmd ∷ []) ≡ client.next (content_after client x cmds) cmd
content_more client x [] cmd = refl
content_more client x (c ∷ cmds) cmd = content_more client (client.next x c) cmds cmd

pub patches_more : {C M : Type 0} (client : Ghosts C M) (look : Look) (size : Size) (x : C) (cmds : List M) (cmd : M) →
    patches_of client look size x (cmds ++ cmd ∷ []) ≡ patches_of client look size x cmds ++ client.patch look size (content_after client x cmds) cmd
patches_more client look size x [] cmd = append-nil (client.patch look size x cmd)
patches_more client look size x (c ∷ cmds) cmd =
    ap (λ ps. client.patch look size x c ++ ps) (patches_more client look size (client.next x c) cmds cmd)
    ∙ sym (append_assoc (client.patch look size x c) (patches_of client look size (client.next x c) cmds)
    (client.patch look size (content_after client (client.next x c) cmds) cmd))
