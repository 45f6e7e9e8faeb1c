use Rattle.std.proofs.Common.{◌≡◌, Some, length, sym, ap, subst, ◌∙◌}
use Rattle.tr_book.specs.Books.{BookView, PreparedView}
use Rattle.tr_stage.specs.Stages.{StageView, state}
use Rattle.tr_server.specs.Drawings.{IsDrawnOf}
use Rattle.tr_server.proofs.DrawLemmas.{IsDrawnAt, sketch_stands}
use Rattle.tr_server.proofs.locked.Locked.hand_over_drawn.Goals as goal

pub hand_over_all-requires-clause-spare_font : goal.hand_over_all-requires-clause-spare_font
hand_over_all-requires-clause-spare_font g c κs within =
    let sketch = c.in-Some.field-0.sketch in
    let drawn : IsDrawnOf g.C.Client c.basket.inside.book.prepared sketch = rw (sym c.take.ensures.value ∙ c.in-Some.is) at c.basket.invariant.2 in
    c.in-Some.field-0.font ∙ drawn.font ∙ c.basket.invariant.3

pub returns-then-fits-clause-sketch : goal.returns-then-fits-clause-sketch
returns-then-fits-clause-sketch g c =
    let book = c.basket.inside.book in
    let sketch = c.in-Some.field-0.sketch in
    let drawn : IsDrawnOf g.C.Client book.prepared sketch = rw (sym c.take.ensures.value ∙ c.in-Some.is) at c.basket.invariant.2 in
    let counts = subst (λ (b : BookView _ _). length b.levels ≡ length b.prepared.commands) (sym c.basket.view_is) c.waiting.ensures.invariant.counts in
    sketch_stands g.C.Client c.args.self.now c.hand_over_all.new.self c.args.leaf book.prepared book.levels sketch counts
    c.hand_over_all.ensures.opening c.in_ok-hand_over_all.ensures.ok
    (subst (λ (s : StageView _ _). IsDrawnAt g.C.Client s c.args.leaf book.prepared sketch) c.self.view_is (record {
      drawn = drawn;
      from = c.fits.ensures.from c.if-fits.true ∙ ap (λ (p : PreparedView _ _). Some p.from) c.prepared.ensures;
      font = c.basket.invariant.3 ∙ sym c.invariant.ensures.font
          ∙ ap (λ (s : StageView _ _). (state g.C.Client s).font) (sym c.self.view_is);
      size = sym (ap (λ (p : PreparedView _ _). p.size) c.prepared.ensures) ∙ c.fits.ensures.size c.if-fits.true;
      kind = sym (ap (λ (p : PreparedView _ _). p.kind) c.prepared.ensures) ∙ c.fits.ensures.kind c.if-fits.true;
    }))
