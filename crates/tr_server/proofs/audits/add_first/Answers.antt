use Rattle.std.proofs.Common.{◌∙◌, Some, ap, sym}
use Rattle.tr_journal.specs.Journals.{JournalLine}
use Rattle.tr_server.proofs.BeginLemmas.{counted_at, first_more, line_at}
use Rattle.tr_server.proofs.audits.add_first.Goals as goal

pub push-requires : goal.push-requires
push-requires g c =
    let lines = c.args.journal.now.lines in
    let line : JournalLine _ = record { entry = c.in_ok-copy.field-0; sent = c.sent.result.now } in
    let at = line_at lines c.loop-k.k line
    (c.get.ensures ∙ ap (λ e. Some e) (sym c.in_ok-copy.ensures)) c.sent.ensures in
    record { counted = (counted_at lines c.loop-k.k line at c.invariant.ensures).count }

pub loop-k-preserved : goal.loop-k-preserved
loop-k-preserved g c =
    let lines = c.args.journal.now.lines in
    let line : JournalLine _ = record { entry = c.in_ok-copy.field-0; sent = c.sent.result.now } in
    let at = line_at lines c.loop-k.k line
    (c.get.ensures ∙ ap (λ e. Some e) (sym c.in_ok-copy.ensures)) c.sent.ensures in
    first_more lines c.loop-k.part.lines c.push.new.self.lines c.loop-k.k line at c.loop-k.invariant c.in_ok-push.ensures.ok
