-- The result of a script's parts that many actors play.
use Rattle.std.specs.Prelude.{◌≡◌, ℕ, List, [], codes}
use Rattle.tr_client.specs.declared.clients.Client.{Ghosts}
use Rattle.tr_journal.specs.declared.items.Item.{Item}
use Rattle.tr_journal.specs.Journals.{JournalLine}
use Rattle.tr_journal.specs.Names.{Names}
use Rattle.tr_journal.specs.Parts.{Part}
use Rattle.tr_machine.specs.States.{start}
use Rattle.tr_machine.specs.Replays.{IsLegal}
use Rattle.tr_interleaves.specs.Interleaves.{Interleaves}
use Rattle.tr_stage.specs.Stages.{StageView}
use Rattle.tr_run.specs.declared.modes.Mode.TheVariants.{Serial}
use Rattle.tr_run.specs.Texts.{texts_from}

module _ {C M : Type 0} (client : Ghosts C M) where
  -- A stage has played the parts of a script in some order of all actors' steps: it has the script's opening, and its journal is one of the
  -- machine that interleaves the parts.
  pub record HasInterleaved (items : List (Item C)) (parts : List (Part M)) (stage : StageView C M) : Type 0 where
    pub opening : stage.opening ≡ items
    pub legal : IsLegal client stage.opening stage.journal
    pub journal : Interleaves client items parts stage.journal

  -- the texts of the reports of a journal
  abbrev pub journal_texts : (M → List ℕ) → Names → List (Item C) → List (JournalLine M) → List ℕ
  journal_texts words names items lines = texts_from client words names Serial [] (start items) lines

-- the last line of the text, if threads played
abbrev pub played_threads : List ℕ
played_threads = codes "played threads\n"
