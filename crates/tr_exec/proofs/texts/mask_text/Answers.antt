use Rattle.tr_exec.proofs.texts.mask_text.Goals as goal

pub returns : goal.returns
returns c = rw (c.of.ensures, c.of-2.ensures.font, c.of-2.ensures.text) at c.paint_within.ensures
