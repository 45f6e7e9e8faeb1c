use Rattle.std.proofs.Common.{◌≡◌, false, List, [], sym, ap, subst, ◌∙◌}
use Rattle.tr_base.specs.declared.Kind.{Kind}
use Rattle.tr_base.specs.Rects.{Edges}
use Rattle.tr_base.specs.Ops.{same_kind}
use Rattle.tr_tree.specs.Trees.{Seen}
use Rattle.tr_spot.specs.Spots.{region_of}
use Rattle.tr_surface.specs.Surfaces.{Shown, is_bad}
use Rattle.tr_surface.proofs.KnownLemmas.{none_good, none_left}
use Rattle.tr_surface.proofs.surfaces.Surface.is_lost.Goals as goal

pub returns-then-is_other-clause-lost : goal.returns-then-is_other-clause-lost
returns-then-is_other-clause-lost c = λ yes k moved p.
    let s = c.args.self.now in
    let is = c.args.is.now in
    let at : c.self.inside.tree ≡ s.tree = ap (λ (w : Shown). w.tree) c.self.view_is in
    let other : same_kind s.tree.kind is.kind ≡ false =
    ap (λ (x : Kind). same_kind x is.kind) (sym (c.kind.ensures ∙ ap (λ (u : Seen). u.kind) at))
    ∙ ap (λ (x : Kind). same_kind c.kind.result x) (sym c.kind-2.ensures) ∙ c.is_other.ensures.other c.if-is_other.true in
    none_good k s.tree is moved (is_bad s) c.requires other p

pub returns-clause-lost : goal.returns-clause-lost
returns-clause-lost c = λ yes k moved p.
    let s = c.args.self.now in
    let good : c.deref.result.now ≡ s.good = c.deref.ensures.value ∙ ap (λ (w : Shown). w.good) c.self.view_is in
    none_left k s c.args.is.now moved
    (λ n. subst (λ (g : List (List Edges)). region_of g n ≡ []) good (c.are_empty.ensures yes n)) p

pub returns-clause-kind : goal.returns-clause-kind
returns-clause-kind c = λ no.
    let at : c.self.inside.tree ≡ c.args.self.now.tree = ap (λ (w : Shown). w.tree) c.self.view_is in
    sym c.kind-2.ensures ∙ c.is_other.ensures.same c.if-is_other.false ∙ c.kind.ensures ∙ ap (λ (u : Seen). u.kind) at
