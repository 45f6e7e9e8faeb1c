use Rattle.std.proofs.Common.{◌∙◌, ap}
use lib.Lanes.{put_chunk}
use Rattle.tr_exec.proofs.GlyphLemmas.{halves_put}
use Rattle.tr_exec.proofs.strokes.joined.Goals as goal

pub returns : goal.returns
returns c =
    c.put_half-2.ensures ∙ ap (λ l. put_chunk 32 l c.args.b) c.put_half.ensures ∙ halves_put c.args.a c.args.b c.requires.a c.requires.b
