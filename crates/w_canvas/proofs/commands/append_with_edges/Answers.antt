use Rattle.std.proofs.Common.{◌≡◌, ◌++◌, ap, ◌∙◌}
use Rattle.std.specs.Prelude.{codes}
use Rattle.std.specs.Fmt.{signed_decimal}
use Rattle.w_canvas.specs.Canvases.{edge_words}
use Rattle.w_canvas.proofs.WordLemmas.{edge-text, edges-joined, appended-twice}
use Rattle.w_canvas.proofs.commands.append_with_edges.Goals as goal

pub returns-in-Ok-clause-ok : goal.returns-in-Ok-clause-ok
returns-in-Ok-clause-ok c =
    let area = c.args.area.now in
    let old = c.args.out.now.items in
    let word = c.args.word.now in
    let is = c.rect-rect.ensures.value in
    let west : c.as_bytes.result.now ≡ signed_decimal area.west =
    edge-text _ _ _ _ c.west.ensures.reach (c.west.ensures.value ∙ ap (λ e. e.west) is) c.format-west.ensures.text c.as_bytes.ensures.value in
    let east : c.as_bytes-2.result.now ≡ signed_decimal area.east =
    edge-text _ _ _ _ c.east.ensures.reach (c.east.ensures.value ∙ ap (λ e. e.east) is) c.format-east.ensures.text c.as_bytes-2.ensures.value in
    let north : c.as_bytes-3.result.now ≡ signed_decimal area.north =
    edge-text _ _ _ _ c.north.ensures.reach (c.north.ensures.value ∙ ap (λ e. e.north) is) c.format-north.ensures.text c.as_bytes-3.ensures.value in
    let south : c.as_bytes-4.result.now ≡ signed_decimal area.south =
    edge-text _ _ _ _ c.south.ensures.reach (c.south.ensures.value ∙ ap (λ e. e.south) is) c.format-south.ensures.text c.as_bytes-4.ensures.value in
    let joined = edges-joined word (codes " ") (signed_decimal area.west) (signed_decimal area.east) (signed_decimal area.north) (signed_decimal area.south) in
    let once : c.append_all.new.out.items ≡ old ++ (word ++ edge_words area) =
    rw (west, east, north, south) at c.in_ok-append_all.ensures.ok ∙ ap (λ t. old ++ t) joined in
    appended-twice old _ _ _ _ once c.in-Ok.ensures.ok
