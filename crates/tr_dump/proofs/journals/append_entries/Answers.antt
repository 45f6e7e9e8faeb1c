use Rattle.std.proofs.Common.{◌≡◌, ◌+◌, ◌≤◌, [], ◌∷◌, ◌++◌, length, take, ap, ◌∙◌, append_assoc, sym, arith, rules}
use Rattle.std.specs.Prelude.{codes, decimal}
use Rattle.std.specs.List.{enumerate_from, flat_map}
use Rattle.std.proofs.lemmas.List.{take_all}
use Rattle.std.proofs.lemmas.List.FromFn.{length-enumerate_from}
use Rattle.tr_journal.specs.Names.{names_of}
use Rattle.tr_dump.specs.Values.{spaced}
use Rattle.tr_dump.specs.Steps.{entry_text}
use Rattle.tr_dump.specs.Reports.{delivery_text, journal_line}
use Rattle.tr_dump.proofs.BeginsLemmas.{begins_before}
use Rattle.tr_dump.proofs.NameLemmas.{entry_named, sent_named}
use Rattle.tr_dump.proofs.JournalLemmas.{taken_more, line_at, appended_more, appended_twice}
use Rattle.tr_dump.proofs.journals.append_entries.Goals as goal

pub append_numbered-requires-clause-named : goal.append_numbered-requires-clause-named
append_numbered-requires-clause-named g c κs _ =
    entry_named (names_of g.N.NameOf c.args.names.now) c.args.journal.now.lines c.loop-k.k c.get.result.now c.requires c.get.ensures

pub append_sent-requires : goal.append_sent-requires
append_sent-requires g c =
    sent_named (names_of g.N.NameOf c.args.names.now) c.args.journal.now.lines c.loop-k.k c.sent.result.now c.requires c.sent.ensures

pub returns-in_err-append_sent-clause-err : goal.returns-in_err-append_sent-clause-err
returns-in_err-append_sent-clause-err g c =
    let names = names_of g.N.NameOf c.args.names.now in
    let words = g.M.Command.words in
    let so_far = flat_map (journal_line words names) (take c.loop-k.k (enumerate_from 1 c.args.journal.now.lines)) in
    let numbered = spaced (decimal (c.loop-k.k + 1) ∷ entry_text words names c.get.result.now ∷ []) in
    let front =
    begins_before c.append_sent.new.out.items c.append_numbered.new.out.items c.loop-k.out.items numbered
    c.in_err-append_sent.ensures.err c.in_ok-append_numbered.ensures.ok in
    let begins =
    begins_before c.append_sent.new.out.items c.loop-k.out.items c.args.out.now.items so_far front c.loop-k.invariant in
    search rules

pub loop-k-preserved : goal.loop-k-preserved
loop-k-preserved g c =
    let names = names_of g.N.NameOf c.args.names.now in
    let words = g.M.Command.words in
    let lines = c.args.journal.now.lines in
    let numbered = spaced (decimal (c.loop-k.k + 1) ∷ entry_text words names c.get.result.now ∷ []) in
    let sent = flat_map (delivery_text names) c.sent.result.now in
    let text = numbered ++ sent ++ codes "\n" in
    let twice =
    appended_twice c.append_sent.new.out.items c.append_numbered.new.out.items c.loop-k.out.items numbered (sent ++ codes "\n")
    c.in_ok-append_numbered.ensures.ok c.in_ok-append_sent.ensures.ok in
    let line = twice ∙ ap (λ t. c.loop-k.out.items ++ t) (sym (append_assoc numbered sent (codes "\n"))) in
    let number : 1 + c.loop-k.k ≡ c.loop-k.k + 1 = omega arith in
    let there = line_at 1 lines c.loop-k.k (c.loop-k.k + 1) c.get.result.now c.sent.result.now number c.get.ensures c.sent.ensures in
    let more =
    taken_more (journal_line words names) (enumerate_from 1 lines) c.loop-k.k
    (c.loop-k.k + 1, record { entry = c.get.result.now; sent = c.sent.result.now }) there in
    appended_more c.append_sent.new.out.items c.loop-k.out.items c.args.out.now.items
    (flat_map (journal_line words names) (take c.loop-k.k (enumerate_from 1 lines))) text
    (flat_map (journal_line words names) (take (c.loop-k.k + 1) (enumerate_from 1 lines)))
    c.loop-k.invariant line more

pub returns-clause-ok : goal.returns-clause-ok
returns-clause-ok g c =
    let lines = c.args.journal.now.lines in
    let f = journal_line g.M.Command.words (names_of g.N.NameOf c.args.names.now) in
    let short : length (enumerate_from 1 lines) ≤ c.loop-k.k =
    omega (arith, length-enumerate_from 1 lines, c.loop-k-test.false, c.len-k-end.ensures.count) in
    c.loop-k.invariant ∙ ap (λ ls. c.args.out.now.items ++ flat_map f ls) (take_all c.loop-k.k (enumerate_from 1 lines) short)
