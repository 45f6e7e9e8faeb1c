use Rattle.std.proofs.Common.{◌+◌, ◌-◌, ◌∙◌, take, drop, sym, ap, rules}
use Rattle.tr_base.specs.Rects.{has_point, whole_of}
use Rattle.tr_base.specs.declared.Size.{Size}
use Rattle.tr_region.specs.Areas.{area_of}
use Rattle.tr_region.proofs.PlaceLemmas.{IsRectAt, rect_held, total_area-rect}
use Rattle.tr_surface.proofs.PutLemmas.{put_more}
use Rattle.tr_surface.proofs.puts.put_pixels.Goals as goal

pub put_rect-requires-clause-on : goal.put_rect-requires-clause-on
put_rect-requires-clause-on c = λ p h.
    let here : IsRectAt c.rects-rects.result.now c.loop-rect.rect-index c.rect-item.result = search rules in
    ap (λ (size : Size). has_point (whole_of size) p) c.loop-rect.invariant.paints.size
    ∙ c.requires.on p (rw c.rects-rects.ensures.value at (rect_held c.rects-rects.result.now c.loop-rect.rect-index c.rect-item.result here p h))

pub put_rect-requires-clause-part : goal.put_rect-requires-clause-part
put_rect-requires-clause-part c = λ p h.
    let here : IsRectAt c.rects-rects.result.now c.loop-rect.rect-index c.rect-item.result = search rules in
    rw c.rects-rects.ensures.value at (rect_held c.rects-rects.result.now c.loop-rect.rect-index c.rect-item.result here p h)

pub loop-rect-preserved : goal.loop-rect-preserved
loop-rect-preserved c =
    let rects = c.rects-rects.result.now in
    let k = c.loop-rect.rect-index in
    let r = c.rect-item.result in
    let from = c.loop-rect.from in
    let so_far = c.loop-rect.invariant in
    let here : IsRectAt rects k r = search rules in
    record {
      from = ap (λ n. from + n) c.area-count.ensures ∙ ap (λ n. n + area_of r) so_far.from ∙ sym (total_area-rect rects k r here);
      paints = put_more rects k r c.args.pixels.now _ from c.args.screen.now c.loop-rect.screen c.put_rect.new.screen here so_far.from
          (ap (λ n. take (from + n - from) (drop from c.args.pixels.now)) c.area-count.ensures) so_far.paints c.put_rect.ensures;
    }
