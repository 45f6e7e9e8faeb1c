use Rattle.std.proofs.Common.{map, ◌∙◌, sym, arith}
use Rattle.std.proofs.lemmas.List.{length-map, get_or-map}
use Rattle.std.proofs.lemmas.Grind.{same_number_lists}
use Rattle.tr_base.specs.Ops.{exchanged}
use Rattle.tr_kernel.proofs.rows.exchange_row.Goals as goal

pub returns-clause-whole : goal.returns-clause-whole
returns-clause-whole c =
    let f = exchanged c.args.x c.args.y in
    let old = c.args.row.now in
    let new = c.exchange_pixels.new.row in
    same_number_lists new (map f old) (omega (arith, length-map old f)) (λ k lt. c.exchange_pixels.ensures k (omega arith)
    ∙ sym (get_or-map f old k 0 0 (omega arith)))
