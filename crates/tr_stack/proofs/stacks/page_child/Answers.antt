use Rattle.std.proofs.Common.{◌%◌, ap, subst, sym, ◌∙◌}
use Rattle.std.proofs.lemmas.Nat.{mod_below}
use Rattle.tr_base.specs.Rects.{Edges}
use Rattle.tr_base.specs.Layouts.{IsPartOf}
use Rattle.tr_stack.specs.Stacks.{page_strip}
use Rattle.tr_stack.proofs.StackLemmas.{strip_part, strip_empty}
use Rattle.tr_stack.proofs.stacks.page_child.Goals as goal

pub returns-then-k-count-clause-part : goal.returns-then-k-count-clause-part
returns-then-k-count-clause-part c =
    subst (λ (r : Edges). IsPartOf r c.args.rect) (sym (rw c.from-count.ensures at c.strip.ensures))
    (strip_part c.args.rect c.args.per (c.args.k % c.args.per) c.strip_size-size.ensures.invariant (mod_below c.args.k c.args.per c.requires.per))

pub returns-then-k-count-clause-empty : goal.returns-then-k-count-clause-empty
returns-then-k-count-clause-empty c h =
    rw c.from-count.ensures at c.strip.ensures ∙ ap (λ (r : Edges). page_strip r c.args.per (c.args.k % c.args.per)) h
    ∙ strip_empty c.args.per (c.args.k % c.args.per) (mod_below c.args.k c.args.per c.requires.per)
