-- What was handed over, of a stage and a window that go by other names.
use Rattle.std.proofs.Common.{◌≡◌, [], ◌∷◌, ◌++◌, sym}
use Rattle.tr_base.specs.declared.LeafId.{LeafId}
use Rattle.tr_book.specs.Books.{BookView}
use Rattle.tr_client.specs.declared.clients.Client.{Ghosts}
use Rattle.tr_levels.specs.Levels.{HaveLevels}
use Rattle.tr_journal.specs.declared.answers.Reply.{Reply}
use Rattle.tr_journal.specs.declared.steps.Actor.TheVariants.{Leaf}
use Rattle.tr_journal.specs.declared.steps.Step.{Step}
use Rattle.tr_stage.specs.Stages.{StageView, line}
use Rattle.tr_server.specs.Handing.{HandedAndStepped, HandedOver, with_acts}
use Rattle.tr_server.specs.Passes.{both_locks}

module _ {C M : Type 0} (client : Ghosts C M) (leaf here : LeafId) (old seen new : StageView C M) (book : BookView C M)
    (leaf_is : here ≡ leaf) (old_is : seen ≡ old) (have_levels : HaveLevels book.prepared.commands book.levels) where
  pub handed_over : new.journal ≡ (with_acts client seen here book.prepared.commands book.levels).journal → HandedOver client leaf old new
  handed_over is = record {
    commands = book.prepared.commands;
    levels = book.levels;
    have_levels = have_levels;
    journal = rw (sym leaf_is, sym old_is) is;
  }

  pub handed_and_stepped : (step : Step M) (reply : Reply) →
      (new.journal ≡ (with_acts client seen here book.prepared.commands book.levels).journal
      ++ line client (with_acts client seen here book.prepared.commands book.levels) (Leaf here) (both_locks here) step ∷ []) →
      reply ≡ (line client (with_acts client seen here book.prepared.commands book.levels) (Leaf here) (both_locks here) step).entry.reply →
      HandedAndStepped client leaf step reply old new
  handed_and_stepped step reply is replied = record {
    commands = book.prepared.commands;
    levels = book.levels;
    have_levels = have_levels;
    journal = rw (sym leaf_is, sym old_is) is;
    replied = rw (sym leaf_is, sym old_is) replied;
  }
