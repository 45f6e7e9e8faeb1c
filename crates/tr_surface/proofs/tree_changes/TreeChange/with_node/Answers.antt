use Rattle.std.proofs.Common.{◌≡◌, true, false, ◌&&◌, ◌||◌, List, sym, ap, ◌∙◌, arith}
use Rattle.std.proofs.lemmas.Result.{IfOk-weaker}
use Rattle.tr_base.specs.Rects.{Edges}
use Rattle.tr_base.proofs.BoolLemmas.{or_false}
use Rattle.tr_region.specs.Points.{holds}
use Rattle.tr_forest.specs.Families.{is_under}
use Rattle.tr_spot.specs.Spots.{region_of}
use Rattle.tr_spot.proofs.GainLemmas.{read_region}
use Rattle.tr_surface.specs.Survivors.{in_moved}
use Rattle.tr_surface.proofs.TreeChangeLemmas.{moved_more}
use Rattle.tr_surface.proofs.tree_changes.TreeChange.with_node.Goals as goal

pub returns-then-is_under : goal.returns-then-is_under
returns-then-is_under c = IfOk-weaker c.union-more.result _ _ (λ r h p.
    let t = c.args.self.now.is.now.nodes in
    let child = c.args.child in
    let n = c.args.n in
    let before = in_moved n.0 t child c.args.good.now p in
    let under : is_under t child n ≡ true = sym c.is_under.ensures ∙ c.if-is_under.true in
    h p
    ∙ ap (λ b. b || holds c.index-good-from.result p) (c.requires.points p)
    ∙ ap (λ (r : List Edges). before || holds r p)
    (read_region c.args.good.now n c.from.result c.index-good-from.result c.index-good-from.is c.from.ensures
    (omega (arith, c.requires.count, c.requires.node.within)))
    ∙ sym (ap (λ b. before || (b && holds (region_of c.args.good.now n) p)) under)
    ∙ sym (moved_more n t child c.args.good.now p)) c.union-more.ensures.points

pub returns-else-is_under : goal.returns-else-is_under
returns-else-is_under c = λ p.
    let t = c.args.self.now.is.now.nodes in
    let child = c.args.child in
    let n = c.args.n in
    let before = in_moved n.0 t child c.args.good.now p in
    let under : is_under t child n ≡ false = sym c.is_under.ensures ∙ c.if-is_under.false in
    c.requires.points p
    ∙ sym (moved_more n t child c.args.good.now p ∙ ap (λ b. before || (b && holds (region_of c.args.good.now n) p)) under ∙ or_false before)
