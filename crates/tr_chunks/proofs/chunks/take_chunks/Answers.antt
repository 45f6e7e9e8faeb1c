use Rattle.std.proofs.Common.{sym, take, ◌*◌, arith}
use Rattle.tr_base.specs.Lists.{joined}
use Rattle.tr_words.specs.Answers.{texts}
use Rattle.tr_chunks.specs.Chunks.{lines_from}
use Rattle.tr_chunks.proofs.ChunkLemmas.{all_made, all_playable}
use Rattle.tr_chunks.proofs.chunks.take_chunks.Goals as goal

pub returns-then-is_err : goal.returns-then-is_err
returns-then-is_err g c = c.reserve_steps.ensures

pub add_chunks-requires-clause-playable : goal.add_chunks-requires-clause-playable
add_chunks-requires-clause-playable g c =
    rw c.reserve_steps.ensures
    (all_playable c.args.reader.now c.args.first (c.args.size * 250) (take c.args.count (lines_from (texts c.args.marks.now))) c.in-Some.read.items
    c.in-Some-all_some.chunks.items c.in-Some.ensures c.in-Some-all_some.ensures)

pub returns : goal.returns
returns g c =
    let chunks = c.in-Some-all_some.chunks.items in
    record {
      made = joined chunks;
      make = all_made c.args.reader.now c.args.first (c.args.size * 250) (take c.args.count (lines_from (texts c.args.marks.now))) c.in-Some.read.items
          chunks c.in-Some.ensures c.in-Some-all_some.ensures (omega (arith, c.requires.size));
      script = rw (sym c.reserve_steps.ensures) c.in_ok-add_chunks.ensures;
    }
