use Rattle.std.proofs.Common.{List, take}
use Rattle.tr_base.specs.Rects.{Edges}
use Rattle.tr_paint.specs.Traces.{look_of}
use Rattle.tr_exec.specs.Executions.{base_of}
use Rattle.tr_exec.specs.Painted.{ShowsBatch}
use Rattle.tr_exec.proofs.sites.Site.paint_all.Given as goal

-- the screen shows what the commands so far make of it
abbrev pub invariant-loop-i : goal.invariant-loop-i
invariant-loop-i l = (bad : List Edges) → ShowsBatch (look_of l.env.kind l.env.font.now) (base_of l.self.origin l.self.visible.now bad l.fn.screen)
    (take l.i l.batch) l.self.origin l.self.visible.now l.fn.screen l.screen
