use Rattle.std.proofs.Common.{◌+◌, length, ap, sym, ◌∙◌, rules}
use Rattle.std.specs.Prelude.{slice_index}
use Rattle.tr_surface.proofs.PutLemmas.{part_is, place_later, run_west}
use Rattle.tr_surface.proofs.puts.RasterBrush.paint.Goals as goal

pub returns : goal.returns
returns c = λ k lt.
    let brush = c.args.self.now in
    let run = c.args.run in
    part_is brush.pixels.now c.copy_row.new.to c.start_within-from.result (length c.args.pixels.now) k (search rules) lt
    ∙ ap (λ i. slice_index brush.pixels.now (i + k)) c.start_within-from.ensures.value
    ∙ ap (λ i. slice_index brush.pixels.now i) (sym (place_later brush.area run k (run_west brush.area run c.requires.some c.requires.within)))
