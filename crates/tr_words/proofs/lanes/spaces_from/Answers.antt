use Rattle.std.proofs.Common.{eqb, w8, arith}
use Rattle.std.specs.Simd.Lanes.{chunk}
use Rattle.std.proofs.lemmas.Simd.{bitmask_splat, length-chunk}
use Rattle.tr_words.proofs.lanes.spaces_from.Goals as goal

pub returns : goal.returns
returns c =
    let here = chunk c.args.at 16 c.args.text.now in
    bitmask_splat w8 eqb here 16 32 (length-chunk c.args.at 16 c.args.text.now c.requires) (omega arith)
