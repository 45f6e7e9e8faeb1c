use Rattle.std.proofs.Common.{◌≡◌, true, subst, sym, rules}
use Rattle.tr_grammar.specs.States.{SoFar}
use Rattle.tr_grammar.specs.Faults.{has_ended}
use Rattle.tr_grammar.specs.Scripts.{Script, whole, IsPlayableScript}
use Rattle.tr_reader.specs.Laws.{IsSoFar}
use Rattle.tr_reader.proofs.Keeping.{whole_is, finished}
use Rattle.tr_reader.proofs.readers.Reader.finish.Goals as goal

pub returns : goal.returns
returns c =
    let ended : has_ended c.args.self.place ≡ true = search rules in
    let all = whole_is c.self.inside c.args.self c.in-Some.field-0 c.self.view_is c.in-Some.is in
    let law = subst (λ (s : SoFar). IsSoFar s) c.self.view_is c.self.invariant.law in
    let named : c.in-Ok-Ok.names ≡ record { nodes = c.in-Some.field-0.nodes; leaves = c.in-Some.field-0.leaves } = search rules in
    let made : ◌≡◌ {A = Script}
    record { opening = c.in-Some.field-0.opening; names = c.in-Ok-Ok.names; parts = c.push.new.items.items } (whole c.args.self) =
    rw (named, c.in-Ok-Ok.ensures.ok, c.into_vec.ensures) all in
    (ended, made, subst (λ (s : Script). IsPlayableScript s) (sym made) (finished c.args.self law ended))
