use Rattle.std.proofs.Common.{◌≡◌, true, false, sym, ap, subst, ◌∙◌}
use Rattle.tr_mirror.specs.declared.changes.Change.{Change}
use Rattle.tr_mirror.specs.Records.{records_of, standing_of}
use Rattle.tr_mirror.specs.Readings.{Reading, reading_of}
use Rattle.tr_mirror.specs.Changes.{Covers}
use Rattle.tr_mirror.proofs.RecordsOfLemmas.{records_of-all}
use Rattle.tr_mirror.proofs.ChangeLemmas.{covers_cut, covers_part}
use Rattle.tr_mirror.proofs.mirrors.Mirror.changed.Goals as goal

pub returns-clause-covers_cut : goal.returns-clause-covers_cut
returns-clause-covers_cut c stream screens before now bytes is rest shown =
    let same : c.changed.result ≡ (reading_of stream).changed = c.changed.ensures ∙ ap (λ (m : Reading). m.changed) (c.self.view_is ∙ is) in
    let between : (standing_of stream).within ≡ false = ap (λ (m : Reading). m.standing.within) (sym is) ∙ rest in
    subst (λ (x : Change). Covers x before now) (sym same)
    (covers_cut (records_of stream) before now (records_of-all stream bytes).begins.sound screens between shown)

pub returns-clause-covers_part : goal.returns-clause-covers_part
returns-clause-covers_part c stream before now bytes is within last end =
    let same : c.changed.result ≡ (reading_of stream).changed = c.changed.ensures ∙ ap (λ (m : Reading). m.changed) (c.self.view_is ∙ is) in
    let inside : (standing_of stream).within ≡ true = ap (λ (m : Reading). m.standing.within) (sym is) ∙ within in
    subst (λ (x : Change). Covers x before now) (sym same)
    (covers_part (records_of stream) before now (records_of-all stream bytes).begins.sound inside last (ap (λ (m : Reading). m.standing.screen) (sym is) ∙ end))
