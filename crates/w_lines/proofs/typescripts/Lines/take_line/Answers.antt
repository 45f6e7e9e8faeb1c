use Rattle.std.proofs.Common.{drop}
use Rattle.w_lines.specs.declared.commands.LinesCmd.TheVariants.{Line}
use Rattle.w_lines.specs.LinesLaws.{lines_contents}
use Rattle.w_lines.proofs.BlockLemmas.{grown}
use Rattle.w_lines.proofs.typescripts.Lines.take_line.Goals as goal

pub invariant_of-self-2 : goal.invariant_of-self-2
invariant_of-self-2 c =
    let xs = c.self.inside.block.items in
    let line = c.args.line.now in
    let at = c.self.inside.stale in
    let more = grown xs c.push.new.self.items line at c.self.invariant.within (rw c.in_ok-copy.ensures at c.in_ok-push.ensures.items) in
    record {
      within = c.without_stale-self-inside.ensures.within;
      few = c.without_stale-self-inside.ensures.few;
      lines = rw (c.without_stale-self-inside.ensures.lines, more)
          (lines_contents (drop at xs) (Line line) c.self.invariant.lines c.invariant.ensures);
    }
