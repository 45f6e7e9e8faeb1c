use Rattle.std.proofs.Common.{length, sym, ap, subst, ◌∙◌}
use Rattle.tr_forest.specs.Nodes.{leaf_count}
use Rattle.tr_journal.specs.Openings.{tree_of}
use Rattle.tr_journal.specs.Names.{names_of}
use Rattle.tr_run.proofs.SpotLemmas.{IsWithin, spot_named, spot_within}
use Rattle.tr_run.proofs.reports.append_place.Goals as goal

pub place_line-requires : goal.place_line-requires
place_line-requires g c =
    let t = c.tree.result.now in
    spot_named (names_of g.N.NameOf c.args.names.now) (tree_of c.args.stage.now.opening).nodes t.nodes c.spot_at-spot.result c.requires
    (ap (λ u. length u.nodes.entries) c.tree.ensures.value ∙ c.tree.ensures.like.nodes)
    (ap (λ u. leaf_count u.nodes) c.tree.ensures.value ∙ c.tree.ensures.like.leaves)
    (subst (λ s. IsWithin t.nodes s) (sym c.spot_at-spot.ensures.spot) (spot_within t c.tree.ensures.forest c.args.at))
