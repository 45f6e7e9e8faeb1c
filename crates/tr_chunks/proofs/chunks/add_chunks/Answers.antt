use Rattle.std.proofs.Common.{refl, arith}
use Rattle.std.proofs.lemmas.List.{nil_from_length}
use Rattle.tr_chunks.proofs.ChunkLemmas.{none_added, still_at_steps, next_playable, chunk_added, all_added}
use Rattle.tr_chunks.proofs.chunks.add_chunks.Goals as goal

pub loop-chunk-init : goal.loop-chunk-init
loop-chunk-init c =
    none_added c.args.reader.now c.args.reader.now c.args.chunks.items c.into_iter-chunk-iterator.result.rest.items refl c.requires.place
    c.requires.playable c.into_iter-chunk-iterator.ensures.into_iter_gives.0

pub add_steps-requires-clause-place : goal.add_steps-requires-clause-place
add_steps-requires-clause-place c =
    still_at_steps c.args.reader.now c.loop-chunk.reader c.args.chunks.items c.loop-chunk.yielded c.loop-chunk.chunk-iterator.rest.items
    c.loop-chunk.invariant

pub add_steps-requires-clause-playable : goal.add_steps-requires-clause-playable
add_steps-requires-clause-playable c =
    next_playable c.args.reader.now c.loop-chunk.reader c.args.chunks.items c.loop-chunk.yielded c.loop-chunk.chunk-iterator.rest.items
    c.loop-chunk.invariant c.in-Some.chunk c.next.new.self.rest.items c.in-Some.ensures.steps.0

pub loop-chunk-preserved : goal.loop-chunk-preserved
loop-chunk-preserved c =
    chunk_added c.args.reader.now c.loop-chunk.reader c.args.chunks.items c.loop-chunk.yielded c.loop-chunk.chunk-iterator.rest.items
    c.loop-chunk.invariant c.in-Some.chunk c.next.new.self.rest.items c.add_steps.new.self c.in-Some.ensures.steps.0 c.in_ok-add_steps.ensures.ok

pub returns : goal.returns
returns c =
    all_added c.args.reader.now c.loop-chunk.reader c.args.chunks.items c.loop-chunk.yielded c.loop-chunk.chunk-iterator.rest.items
    c.loop-chunk.invariant
    (nil_from_length c.loop-chunk.chunk-iterator.rest.items (omega (arith, c.loop-chunk.chunk-iterator.rest.ok, c.in-None.ensures.steps.0)))
