use Rattle.std.proofs.Common.{[]}
use Rattle.tr_base.specs.declared.Kind.TheVariants.{Mono}
use Rattle.tr_paint.specs.Traces.{look_of}
use Rattle.tr_windows.proofs.keepers.WindowsKeeper.keeps.Goals as goal

-- the law says it of each look, and here one serves
pub returns-clause-first : goal.returns-clause-first
returns-clause-first g c = λ q h.
    let kept = g.met.C.Client.keeping (look_of Mono []) c.args.from c.args.to c.window.inside.content c.keeps.ensures.valid c.requires.from c.requires.to in
    kept.first q (rw c.keeps.ensures.keeps at h)

pub returns-clause-second : goal.returns-clause-second
returns-clause-second g c = λ q h.
    let kept = g.met.C.Client.keeping (look_of Mono []) c.args.from c.args.to c.window.inside.content c.keeps.ensures.valid c.requires.from c.requires.to in
    kept.second q (rw c.keeps.ensures.keeps at h)
