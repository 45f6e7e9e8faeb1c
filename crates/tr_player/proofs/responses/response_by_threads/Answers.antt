use Rattle.std.proofs.Common.{◌≡◌, refl}
use Rattle.std.specs.Prelude.{None, Some}
use Rattle.tr_serial.specs.Outputs.{gen_text, drawn}
use Rattle.tr_arguments.specs.declared.Command.TheVariants.{Gen}
use Rattle.tr_arguments.specs.Commands.{command_of, texts_of}
use Rattle.tr_player.specs.Answers.{played, source_change, usage}
use Rattle.tr_player.proofs.ResponseLemmas.{due_for_none, due_for_number}
use Rattle.tr_player.proofs.responses.response_by_threads.Goals as goal

pub returns-in_ok-summary-in-Some-Gen-clause-due : goal.returns-in_ok-summary-in-Some-Gen-clause-due
returns-in_ok-summary-in-Some-Gen-clause-due g c =
    let number = c.in-Some-Gen.number in
    let made = c.in_ok-summary-in-Some-Gen.ensures in
    let found : command_of (texts_of c.args.words.now) ≡ Some (Gen number) =
    cc (c.in_ok-command_of.ensures, c.in-Some-Gen.is, c.in-Some-Gen.field-0-is) in
    let from = source_change g.S.Source c.args.source.now c.args.source.now in (
      played (drawn number) (gen_text number),
      (made.text, record { opening = made.opening; journal = made.journal }),
      due_for_number number (command_of (texts_of c.args.words.now)) from found (record { left = refl; faults = refl }),
    )

pub returns-in-None-clause-due : goal.returns-in-None-clause-due
returns-in-None-clause-due g c =
    let found : command_of (texts_of c.args.words.now) ≡ None = cc (c.in_ok-command_of.ensures, c.in-None.is) in
    let from = source_change g.S.Source c.args.source.now c.args.source.now in
    (usage, tt, due_for_none (command_of (texts_of c.args.words.now)) from found (record { left = refl; faults = refl }))
