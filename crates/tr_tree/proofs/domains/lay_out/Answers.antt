use Rattle.std.proofs.Common.{◌-◌, subst, sym, ◌∙◌, arith}
use Rattle.std.proofs.Math.ListN.{length-set}
use Rattle.tr_base.specs.Layouts.{IsDomain}
use Rattle.tr_forest.specs.Nodes.{IsNode}
use Rattle.tr_forest.specs.Families.{depth}
use Rattle.tr_tree.specs.Places.{domain}
use Rattle.tr_tree.specs.Laying.{laid, IsAt}
use Rattle.tr_tree.proofs.LayoutLemmas.{any_kind}
use Rattle.tr_tree.proofs.FitLemmas.{at_empty, at_is_domain, at_more}
use Rattle.tr_tree.proofs.LayLemmas.{laid_none, laid_all, root_stands}
use Rattle.tr_tree.proofs.domains.lay_out.Goals as goal

pub lay-requires-clause-own : goal.lay-requires-clause-own
lay-requires-clause-own c =
    let is = sym c.root.ensures ∙ c.in-Some.is in
    let root_is : IsNode c.args.plan.now.forest.now c.in-Some.root = c.count.ensures.invariant.root c.in-Some.root is in
    rw c.from.ensures
    (root_stands (laid c.args.plan.now.forest.now c.args.plan.now.size) c.count.ensures.invariant c.requires.plan.screen c.in-Some.root
    c.clear.new.domains.items c.whole.result is (omega (arith, root_is.within, c.clear.ensures.count, c.requires.count)) c.whole.ensures.edges)

pub returns-in-Some-clause-domains : goal.returns-in-Some-clause-domains
returns-in-Some-clause-domains c = λ kind n.
    let s = laid c.args.plan.now.forest.now c.args.plan.now.size in
    let is = sym c.root.ensures ∙ c.in-Some.is in
    let root_is : IsNode c.args.plan.now.forest.now c.in-Some.root = c.count.ensures.invariant.root c.in-Some.root is in
    let all = laid_all s c.count.ensures.invariant c.in-Some.root c.clear.new.domains.items c.lay.new.domains.items c.whole.result is c.clear.ensures.empty
    (rw c.from.ensures at c.lay.ensures.lays) n in
    all.right ∙ any_kind c.args.plan.now.forest.now c.args.plan.now.size kind n

pub returns-in-Some-clause-small : goal.returns-in-Some-clause-small
returns-in-Some-clause-small c = λ n.
    let s = laid c.args.plan.now.forest.now c.args.plan.now.size in
    let is = sym c.root.ensures ∙ c.in-Some.is in
    let all = laid_all s c.count.ensures.invariant c.in-Some.root c.clear.new.domains.items c.lay.new.domains.items c.whole.result is c.clear.ensures.empty
    (rw c.from.ensures at c.lay.ensures.lays) n in
    subst IsDomain (sym all.right)
    (at_is_domain (domain s n) (at_more (depth s.nodes n - 1) 15 (domain s n) (omega (arith, c.count.ensures.invariant.depths n)) all.at))

pub returns-in-Some-clause-at : goal.returns-in-Some-clause-at
returns-in-Some-clause-at c = λ n.
    let s = laid c.args.plan.now.forest.now c.args.plan.now.size in
    let is = sym c.root.ensures ∙ c.in-Some.is in
    let all = laid_all s c.count.ensures.invariant c.in-Some.root c.clear.new.domains.items c.lay.new.domains.items c.whole.result is c.clear.ensures.empty
    (rw c.from.ensures at c.lay.ensures.lays) n in
    subst (IsAt (depth s.nodes n - 1)) (sym all.right) all.at

pub returns-in_default-clause-at : goal.returns-in_default-clause-at
returns-in_default-clause-at c = λ n.
    let deep = depth c.args.plan.now.forest.now n - 1 in
    subst (IsAt deep) (sym (c.clear.ensures.empty n)) (at_empty deep)

pub returns-in_default-clause-domains : goal.returns-in_default-clause-domains
returns-in_default-clause-domains c = λ kind n.
    let all = laid_none (laid c.args.plan.now.forest.now c.args.plan.now.size) c.count.ensures.invariant c.clear.new.domains.items
    (sym c.root.ensures ∙ c.in_default.is) c.clear.ensures.empty n in
    all.right ∙ any_kind c.args.plan.now.forest.now c.args.plan.now.size kind n

pub clear-requires : goal.clear-requires
clear-requires c = c.count.ensures.count ∙ sym c.requires.count

pub lay-requires-clause-node : goal.lay-requires-clause-node
lay-requires-clause-node c = c.count.ensures.invariant.root c.in-Some.root (sym c.root.ensures ∙ c.in-Some.is)

pub lay-requires-clause-count : goal.lay-requires-clause-count
lay-requires-clause-count c =
    length-set c.clear.new.domains.items c.from.result c.whole.result ∙ c.clear.ensures.count ∙ c.requires.count

pub returns-in-Some-clause-count : goal.returns-in-Some-clause-count
returns-in-Some-clause-count c = c.lay.ensures.count
