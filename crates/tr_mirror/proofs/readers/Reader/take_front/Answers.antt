use Rattle.std.proofs.Common.{sym, ap, subst, ◌∙◌}
use Rattle.tr_mirror.specs.Automata.{IsReading, after_bytes, record_taken}
use Rattle.tr_mirror.specs.Pieces.{TakesFront, IsFaultless}
use Rattle.tr_mirror.proofs.PieceLemmas.{read-faultless, TakesFront-faultless, IsReading-faultless}
use Rattle.tr_mirror.proofs.readers.Reader.take_front.Goals as goal

pub returns-in-Some-clause-read : goal.returns-in-Some-clause-read
returns-in-Some-clause-read c =
    let m = c.args.self.now in
    let front = c.split_at.result.0.now in
    let rest = c.split_at.result.1.now in
    let fine : IsFaultless m.standing front = subst (λ l. IsFaultless m.standing l) (sym c.split_at.ensures.front) c.in-Some.ensures.fine in
    ap (λ r. after_bytes r rest) c.take_whole.ensures ∙ read-faultless m front c.requires.free c.in-Some.ensures.begun fine rest
    ∙ ap (λ l. after_bytes m l) (sym c.split_at.ensures.by_index.0)

pub returns-in-Some-clause-front : goal.returns-in-Some-clause-front
returns-in-Some-clause-front c =
    let m = c.args.self.now in
    let front = c.split_at.result.0.now in
    let rest = c.split_at.result.1.now in
    let fine : IsFaultless m.standing front = subst (λ l. IsFaultless m.standing l) (sym c.split_at.ensures.front) c.in-Some.ensures.fine in
    subst (λ r. TakesFront m r c.args.piece.now rest) (sym c.take_whole.ensures)
    (subst (λ l. TakesFront m (record_taken m front) l rest) (sym c.split_at.ensures.by_index.0)
    (TakesFront-faultless m front c.requires.free c.in-Some.ensures.begun fine rest))

pub returns-in-Some-clause-reading : goal.returns-in-Some-clause-reading
returns-in-Some-clause-reading c =
    let m = c.args.self.now in
    let front = c.split_at.result.0.now in
    let fine : IsFaultless m.standing front = subst (λ l. IsFaultless m.standing l) (sym c.split_at.ensures.front) c.in-Some.ensures.fine in
    subst IsReading (sym c.take_whole.ensures) (IsReading-faultless m front c.requires.free c.in-Some.ensures.begun fine c.requires.reading)
