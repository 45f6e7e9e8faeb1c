use Rattle.std.proofs.Common.{◌≡◌, length, arith, rules}
use Rattle.std.proofs.lemmas.Grind.{common_steps}
use Rattle.tr_chunks.proofs.ChunkLemmas.{none_read, next_read, count_read, rest_read}
use Rattle.tr_chunks.proofs.chunks.read_chunk.Goals as goal
use Rattle.tr_chunks.proofs.chunks.read_chunk.Goals.{else-loop-index-test, then-loop-index-test+else-not-is_empty}

pub loop-index-init : goal.loop-index-init
loop-index-init c = record {
  reading = rw (c.reserve.ensures, c.new-steps.ensures) (none_read c.args.reader.now c.args.first c.args.bytes.now);
  most = omega arith;
}

pub loop-index-preserved : goal.loop-index-preserved
loop-index-preserved c = record {
  reading = next_read c.args.reader.now c.args.first c.args.bytes.now c.loop-index.rest.now c.first_line.result.1.now c.first_line.result.0.now
      c.loop-index.index c.loop-index.steps c.take_step.new.steps c.loop-index.invariant.reading c.first_line.ensures.lines
      (c.in-Ok-true.ensures.taken (search rules));
  most = omega (arith, c.loop-index-test.true);
}

pub returns : goal.returns
returns c =
    let reading = c.loop-index.invariant.reading in
    elim c.loop-index-test.branch [
      | else-loop-index-test w ↦
          count_read c.args.reader.now c.args.first c.args.bytes.now c.loop-index.rest.now c.loop-index.index c.args.count c.loop-index.steps
          reading (omega (arith, c.loop-index.invariant.most, w.loop-index-test.false))
      | then-loop-index-test+else-not-is_empty w ↦
          let none : length c.loop-index.rest.now ≡ 0 = first_of (search rules, grind (arith, common_steps)) in
          rest_read c.args.reader.now c.args.first c.args.bytes.now c.loop-index.rest.now c.loop-index.index c.args.count c.loop-index.steps
          reading c.loop-index.invariant.most none
    ]
