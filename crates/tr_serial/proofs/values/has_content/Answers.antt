use Rattle.std.proofs.Common.{sym, subst, ◌∙◌}
use Rattle.std.proofs.lemmas.Option.{same_Some}
use Rattle.tr_client.specs.Laws.{IsWindowSize}
use Rattle.tr_serial.proofs.values.has_content.Goals as goal

pub returns : goal.returns
returns g c = record {
  content = λ x is.
      subst g.C.Client.valid (same_Some c.content-content.result.now x (sym c.content-content.ensures.content ∙ is))
      c.content-content.ensures.valid;
  window = subst (λ s. IsWindowSize s) c.leaf_size-size.ensures.value c.leaf_size-size.ensures.window;
}
