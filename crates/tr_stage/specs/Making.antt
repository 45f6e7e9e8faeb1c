-- The effect of a step on a stage.
use Rattle.std.specs.Prelude.{◌≡◌, List, [], ◌∷◌, ◌++◌, length, Result, Ok, Err, OnOk, OnErr, IfOk}
use Rattle.std.specs.Result.{result_and}
use Rattle.tr_base.specs.declared.errors.NoMemory.{NoMemory}
use Rattle.tr_client.specs.declared.clients.Client.{Ghosts}
use Rattle.tr_inbox.specs.declared.Delivery.{Delivery}
use Rattle.tr_desk.specs.declared.desks.DeskFault.{DeskFault}
use Rattle.tr_levels.specs.declared.Level.{Level}
use Rattle.tr_journal.specs.declared.answers.Answer.{Answer}
use Rattle.tr_journal.specs.declared.answers.Answer.TheVariants.{Desk, Done}
use Rattle.tr_journal.specs.declared.answers.Reply.{Reply}
use Rattle.tr_journal.specs.declared.steps.Actor.{Actor}
use Rattle.tr_journal.specs.declared.steps.Step.{Step}
use Rattle.tr_journal.specs.Journals.{JournalLine}
use Rattle.tr_stage.specs.Stages.{StageView, line}

-- for contracts of the crate's own functions: the line of a step with this answer and these deliveries
abbrev pub line_with : {M : Type 0} → Actor → List Level → Step M → Answer → List Delivery → JournalLine M
line_with actor held step answer sent = record {
  entry = record { actor = actor; level = held; step = step; reply = record { answer = answer; sent = length sent } };
  sent = sent;
}

-- for them too: the line of a step that the desk did, with its deliveries, or refused
abbrev pub line_told : {M : Type 0} → Actor → List Level → Step M → Result Unit DeskFault → List Delivery → JournalLine M
line_told actor held step (Ok done) sent = line_with actor held step Done sent
line_told actor held step (Err fault) sent = line_with actor held step (Desk fault) []

-- an actor makes a step: the journal gets the machine's line of it, and the answer is the line's reply; for want of memory the
-- journal and the screen don't change
pub record Makes {C M : Type 0} (client : Ghosts C M) (old new : StageView C M) (actor : Actor) (held : List Level) (step : Step M)
    (answered : Result Reply NoMemory) : Type 0 where
  pub opening : new.opening ≡ old.opening
  pub ok : OnOk answered (new.journal ≡ old.journal ++ line client old actor held step ∷ [])
  pub reply : IfOk answered (λ r. r ≡ (line client old actor held step).entry.reply)
  pub err_journal : OnErr answered (new.journal ≡ old.journal)
  pub err_screen : OnErr answered (new.screen ≡ old.screen)

-- the same of a call that doesn't return the reply
abbrev pub MakesWithoutReply : {C M : Type 0} → Ghosts C M → StageView C M → StageView C M → Actor → List Level → Step M →
    Result Unit NoMemory → Type 0
MakesWithoutReply client old new actor held step done =
    Makes client old new actor held step (result_and done (Ok (line client old actor held step).entry.reply))
