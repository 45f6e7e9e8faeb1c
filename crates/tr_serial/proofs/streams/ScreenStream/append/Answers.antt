use Rattle.std.proofs.Common.{◌≡◌, ℕ, ◌<◌, List, sym, ap, subst, ◌∙◌, OnOk, OnErr}
use Rattle.tr_mirror.specs.Updates.{WriterView}
use Rattle.tr_output.proofs.SendingLemmas.{on_err_both}
use Rattle.tr_serial.specs.Streams.{IsAppended, StreamView}
use Rattle.tr_serial.proofs.StreamLemmas.{appended}
use Rattle.tr_serial.proofs.streams.ScreenStream.append.Goals as goal

pub append-requires-clause-room : goal.append-requires-clause-room
append-requires-clause-room c = subst (λ (v : StreamView). v.writer.cuts < 64) (sym c.self.view_is) c.requires.few

pub returns-clause-ok : goal.returns-clause-ok
returns-clause-ok c =
    let i = c.self.inside in
    let old : StreamView = record { writer = i.writer; bytes = i.bytes.items } in
    let new : StreamView = record { writer = c.append.new.self; bytes = c.append.new.out.items } in
    let wrote = c.append.ensures in
    subst (λ (v : StreamView). OnOk c.append.result (IsAppended v new c.args.now.now)) c.self.view_is
    (appended c.append.result old new c.args.now.now wrote.group wrote.next wrote.sent)

pub returns-clause-err : goal.returns-clause-err
returns-clause-err c =
    let i = c.self.inside in
    let new : StreamView = record { writer = c.append.new.self; bytes = c.append.new.out.items } in
    let same : c.append.new.self ≡ i.writer → c.append.new.out.items ≡ i.bytes.items → new ≡ record { writer = i.writer; bytes = i.bytes.items } =
    λ writer bytes. ap (λ (w : WriterView). record { writer = w; bytes = c.append.new.out.items }) writer
    ∙ ap (λ (b : List ℕ). record { writer = i.writer; bytes = b }) bytes in
    subst (λ (v : StreamView). OnErr c.append.result (new ≡ v)) c.self.view_is
    (on_err_both c.append.result same c.append.ensures.err c.append.ensures.err_out)
