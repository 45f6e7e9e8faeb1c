use Rattle.std.proofs.Common.{is_some, sym, ap, ◌∙◌, arith}
use Rattle.tr_mirror.proofs.ReadingLemmas.{bound_of}
use Rattle.tr_mirror.proofs.PieceLemmas.{HasRead-more, all_is, read_is, shows_is}
use Rattle.tr_mirror.proofs.mirrors.Mirror.feed_to_cut.Goals as goal
use Rattle.tr_mirror.proofs.mirrors.Mirror.feed_to_cut.Goals.{in-None, in-Some}

pub loop-self-preserved : goal.loop-self-preserved
loop-self-preserved c =
    let i = c.loop-self.invariant in
    let t = c.take_front-rest.ensures in
    let on = c.goes_on.ensures.0 c.if-goes_on.true in
    record {
      reading = t.reading;
      read = HasRead-more c.args.self.now c.loop-self.self-inside.reader c.take_front-rest.new.self c.args.piece.now c.loop-self.rest.now
          c.take_front-rest.result.now (on.1 ∙ i.cuts) i.read t.front;
      begins = omega (arith, t.shorter, i.begins);
      cuts = i.cuts;
    }

pub returns-clause-stream : goal.returns-clause-stream
returns-clause-stream c stream is = elim c.match-fault.branch [
  | in-None w ↦
      rw w.result-is (read_is c.args.self.now c.loop-self.self-inside.reader c.args.piece.now c.loop-self.rest.now c.loop-self.invariant.read stream is)
  | in-Some w ↦ rw w.result-is tt
]

pub returns-clause-bound : goal.returns-clause-bound
returns-clause-bound c = bound_of c.loop-self.self-inside.reader c.loop-self.invariant.reading

pub returns-clause-shows : goal.returns-clause-shows
returns-clause-shows c stream is = elim c.match-fault.branch [
  | in-None w ↦
      rw w.result-is (shows_is c.args.self.now c.loop-self.self-inside.reader c.args.piece.now c.loop-self.rest.now c.loop-self.invariant.read stream is)
  | in-Some w ↦ rw w.result-is tt
]

pub returns-clause-at_cut : goal.returns-clause-at_cut
returns-clause-at_cut c =
    let ends = c.loop-self.invariant.read.ends in
    elim c.match-fault.branch [
      | in-None w ↦ rw w.result-is (λ more. (ends.between more, ends.screen more))
      | in-Some w ↦ rw w.result-is tt
    ]

pub returns-clause-err : goal.returns-clause-err
returns-clause-err c = elim c.match-fault.branch [
  | in-None w ↦ rw w.result-is tt
  | in-Some w ↦
      rw w.result-is (all_is c.args.self.now c.loop-self.self-inside.reader c.args.piece.now c.loop-self.rest.now c.loop-self.invariant.read
      (ap (λ o. is_some o) (sym c.fault.ensures ∙ w.in-Some.is)))
]

pub returns-clause-none_lost : goal.returns-clause-none_lost
returns-clause-none_lost c = elim c.match-fault.branch [
  | in-None w ↦ rw w.result-is tt
  | in-Some w ↦ rw w.result-is (c.loop-self.invariant.read.ends.fault (ap (λ o. is_some o) (sym c.fault.ensures ∙ w.in-Some.is)))
]
