use Rattle.std.proofs.Common.{◌≡◌, ◌++◌}
use Rattle.std.specs.Prelude.{codes}
use Rattle.std.specs.List.{flat_map}
use Rattle.std.proofs.lemmas.Result.{on_ok_weaker}
use Rattle.tr_journal.specs.Journals.{JournalLine}
use Rattle.tr_journal.specs.Names.{names_of}
use Rattle.tr_dump.specs.Steps.{answer_text}
use Rattle.tr_dump.specs.Reports.{outcome_text, sent_line}
use Rattle.tr_dump.proofs.JournalLemmas.{appended_twice, holds_at}
use Rattle.tr_dump.proofs.NameLemmas.{sent_named}
use Rattle.tr_dump.proofs.journals.append_outcome.Goals as goal

pub append_sent_lines-requires : goal.append_sent_lines-requires
append_sent_lines-requires g c =
    sent_named (names_of g.N.NameOf c.args.names.now) c.args.journal.now.lines c.args.k c.sent.result.now c.requires.named c.sent.ensures

pub returns-clause-ok : goal.returns-clause-ok
returns-clause-ok g c =
    let names = names_of g.N.NameOf c.args.names.now in
    let old = c.args.out.now.items in
    let new = c.append_sent_lines.new.out.items in
    let answer = answer_text c.get.result.now.reply.answer in
    let sent = flat_map (sent_line names) c.sent.result.now in
    let both = c.append_answer.new.out.items in
    let first = appended_twice c.push.new.self.items both old answer (codes "\n") c.in_ok-append_answer.ensures.ok c.in_ok-push.ensures.items in
    let P : JournalLine _ → Type 0 = λ line. new ≡ old ++ outcome_text names line in
    on_ok_weaker c.append_sent_lines.result
    (λ last. holds_at P c.args.journal.now.lines c.args.k c.get.result.now c.sent.result.now c.get.ensures c.sent.ensures
    (appended_twice new c.push.new.self.items old (answer ++ codes "\n") sent first last))
    c.append_sent_lines.ensures.ok
