use Rattle.std.proofs.Common.{◌++◌, arith}
use Rattle.std.proofs.lemmas.List.{length-append}
use Rattle.std.proofs.lemmas.Simd.{pick_l_whole}
use Rattle.tr_kernel.proofs.letters.side_by_side.Goals as goal

pub returns : goal.returns
returns c =
    let a = c.args in pick_l_whole 0 (a.near ++ a.far) 16 (omega (arith, length-append a.near a.far, c.requires.near, c.requires.far))
