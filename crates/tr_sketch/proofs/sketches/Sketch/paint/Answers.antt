use Rattle.std.proofs.Common.{List, ℕ, sym, ap, ◌∙◌}
use Rattle.std.proofs.lemmas.Bool.{and_parts}
use Rattle.tr_base.specs.Rects.{Edges, has_point, whole_of}
use Rattle.tr_base.proofs.RectLemmas.{has_point-meet_of}
use Rattle.tr_paint.specs.Traces.{look_of}
use Rattle.tr_sketch.proofs.sketches.Sketch.paint.Goals as goal

pub painted-requires-clause-within : goal.painted-requires-clause-within
painted-requires-clause-within g c κs within = λ q h.
    let whole = whole_of c.args.size in
    let clip = c.args.clip.now in
    (and_parts (has_point whole q) (has_point clip q)
    (sym (has_point-meet_of whole clip q) ∙ sym (ap (λ (e : Edges). has_point e q) c.part_of_window-part.ensures.edges) ∙ h)).0

pub invariant_of-result : goal.invariant_of-result
invariant_of-result g c =
    let whole = whole_of c.args.size in
    let clip = c.args.clip.now in
    let kind = c.args.env.now.kind in
    record {
      near = c.part_of_window-part.ensures.near;
      within = λ q h. (and_parts (has_point whole q) (has_point clip q)
          (sym (has_point-meet_of whole clip q) ∙ sym (ap (λ (e : Edges). has_point e q) c.part_of_window-part.ensures.edges) ∙ h)).0;
      many = c.in-Ok-painted.ensures.many;
      colours = λ q has.
          c.in-Ok-painted.ensures.colours q has
          ∙ ap (λ (f : List (List ℕ)). g.C.Client.pic (look_of kind f) c.args.size c.args.content q) (sym c.in-Ok.ensures);
    }
