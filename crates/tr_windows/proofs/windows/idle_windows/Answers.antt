use Rattle.std.proofs.Common.{◌≡◌, ◌≤◌, map, length, ap, sym, ◌∙◌, arith}
use Rattle.std.proofs.lemmas.List.{take_all}
use Rattle.tr_forest.specs.Nodes.{leaf_count}
use Rattle.tr_tree.specs.Trees.{Seen}
use Rattle.tr_journal.specs.Openings.{contents_of, tree_of}
use Rattle.tr_windows.specs.Presents.{with_empty_batch}
use Rattle.tr_windows.proofs.HeldLemmas.{held_idle, idle_more}
use Rattle.tr_windows.proofs.windows.idle_windows.Goals as goal

pub loop-n-preserved : goal.loop-n-preserved
loop-n-preserved g c =
    let more = idle_more (contents_of c.args.opening.now) c.loop-n.n c.content.result.now c.content.ensures.content in
    rw (c.in-Ok-push.ensures.items, c.new.ensures, c.in-Ok.ensures.copy, c.loop-n.invariant) (sym more)

pub returns-clause-invariant : goal.returns-clause-invariant
returns-clause-invariant g c =
    let contents = contents_of c.args.opening.now in
    let opened = c.tree-tree.ensures.invariant in
    let same : leaf_count c.tree-tree.result.now.nodes ≡ leaf_count (tree_of c.args.opening.now).nodes =
    ap (λ (t : Seen). leaf_count t.nodes) c.tree-tree.ensures.value in
    let leaves : length contents ≡ leaf_count (tree_of c.args.opening.now).nodes = opened.leaves in
    let most : leaf_count c.tree-tree.result.now.nodes ≤ 32 = c.invariant.ensures.forest.leaf_numbers in
    let few : length contents ≤ 32 = omega arith in
    let ended : length contents ≤ c.loop-n.n = omega (arith, c.leaves-n-end.ensures) in
    rw (c.loop-n.invariant ∙ ap (λ xs. map with_empty_batch xs) (take_all c.loop-n.n contents ended)) (held_idle g.C.Client contents few opened.contents)
