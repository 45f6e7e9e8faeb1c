use Rattle.std.proofs.Common.{◌≡◌, ◌+◌, ◌++◌, Option, Some, sym, ap, subst, ◌∙◌}
use Rattle.std.specs.Option.{option_copied}
use Rattle.tr_screen.specs.Pictures.{Picture}
use Rattle.tr_mirror.specs.Records.{spelled}
use Rattle.tr_mirror.specs.Streams.{group_of}
use Rattle.tr_mirror.specs.Updates.{Awaits, WriterView}
use Rattle.tr_mirror.proofs.WriterLemmas.{HasSent-more}
use Rattle.tr_mirror.proofs.writers.Writer.append.Goals as goal

pub returns-clause-group : goal.returns-clause-group
returns-clause-group c =
    let i = c.self.inside in
    let same : option_copied c.as_ref.result ≡ i.last = c.as_ref.ensures.value in
    subst (λ (v : WriterView). c.update.new.out.items ≡ c.args.out.now.items ++ spelled (group_of v.last c.args.now.now (v.cuts + 1))) c.self.view_is
    (c.in_ok-update.ensures.group ∙ ap (λ (o : Option Picture). c.args.out.now.items ++ spelled (group_of o c.args.now.now (i.cuts + 1))) same)

pub returns-clause-next : goal.returns-clause-next
returns-clause-next c =
    let i = c.self.inside in
    let kept : WriterView → WriterView = λ v. record { last = Some c.args.now.now; cuts = v.cuts + 1 } in
    let now : Picture → WriterView = λ p. record { last = Some p; cuts = i.cuts + 1 } in
    ap now c.in_ok-copy.ensures ∙ ap kept c.self.view_is

pub returns-clause-sent : goal.returns-clause-sent
returns-clause-sent c stream added screens has is =
    let i = c.self.inside in
    let next : WriterView = record { last = Some c.in_ok-copy.copy; cuts = i.cuts + 1 } in
    let same : option_copied c.as_ref.result ≡ i.last = c.as_ref.ensures.value in
    HasSent-more c.args.self.now next stream added screens c.args.now.now (ap (λ (p : Picture). Some p) c.in_ok-copy.ensures)
    (ap (λ (v : WriterView). v.cuts + 1) c.self.view_is) has
    (λ awaits. c.in_ok-update.ensures.shows stream added
    (subst (λ (o : Option Picture). Awaits stream (i.cuts + 1) o) (sym same)
    (subst (λ (v : WriterView). Awaits stream (v.cuts + 1) v.last) (sym c.self.view_is) awaits)) is)
