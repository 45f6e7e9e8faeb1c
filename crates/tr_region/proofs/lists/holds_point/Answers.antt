use Rattle.std.proofs.Common.{rules, of_calls, sym, ap, ◌∙◌}
use Rattle.std.proofs.lemmas.Bool.{le-ltb}
use Rattle.std.proofs.lemmas.Fn.{always_returns_same}
use Rattle.tr_base.specs.Rects.{Edges, has_point}
use Rattle.tr_region.specs.Order.{lies_before}
use Rattle.tr_region.proofs.OrderLemmas.{AreInOrder-canonical, before_earlier, holds_at, holds_past}
use Rattle.tr_region.proofs.lists.holds_point.Goals as goal

pub returns-then-at-rects : goal.returns-then-at-rects
returns-then-at-rects c =
    let rects = c.args.rects.now in
    let ordered = AreInOrder-canonical rects c.requires in
    let parted = c.partition_point-at.ensures.partitioned (λ r. lies_before r c.args.p)
    (always_returns_same _ _ _ (λ a r f k. search (rules, of_calls))) (before_earlier rects c.args.p ordered) in
    c.has.ensures ∙ ap (λ (r : Edges). has_point r c.args.p) c.index-rects-at.is
    ∙ sym (holds_at rects c.partition_point-at.result c.index-rects-at.result c.args.p ordered parted c.if-at-rects.true)

pub returns-else-at-rects : goal.returns-else-at-rects
returns-else-at-rects c =
    let rects = c.args.rects.now in
    let ordered = AreInOrder-canonical rects c.requires in
    let parted = c.partition_point-at.ensures.partitioned (λ r. lies_before r c.args.p)
    (always_returns_same _ _ _ (λ a r f k. search (rules, of_calls))) (before_earlier rects c.args.p ordered) in
    le-ltb _ _ c.if-at-rects.false ∙ sym (holds_past rects c.partition_point-at.result c.args.p parted.0 c.if-at-rects.false)
