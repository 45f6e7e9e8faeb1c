use Rattle.std.proofs.Common.{rules}
use Rattle.tr_exec.proofs.GlyphLemmas.{AreColumns, one_put}
use Rattle.tr_exec.proofs.strokes.put_eight.Goals as goal

pub loop-v-preserved : goal.loop-v-preserved
loop-v-preserved c =
    let columns : AreColumns c.args.glyphs.now c.exchanged-rows.result = record { long = search rules; each = c.exchanged-rows.ensures } in
    let more = one_put c.args.glyphs.now c.args.bits.now c.loop-v.bits c.exchanged-rows.result c.args.at c.loop-v.v c.loop-v.invariant.1 c.requires.room
    c.loop-v-test.true c.loop-v.invariant.0 columns in
    (search rules, rw (c.put_row.ensures) more)
