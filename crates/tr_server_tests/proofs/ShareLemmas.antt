-- What was painted of a share.
use Rattle.std.proofs.Common.{◌≡◌, List, [], ◌∷◌, ◌++◌, drop, get_or, length, map, sym, ap, subst, arith}
use Rattle.tr_base.specs.declared.LeafId.{LeafId}
use Rattle.tr_client.specs.declared.clients.Client.{Ghosts}
use Rattle.tr_machine.specs.SharedRepaints.{IsPaintedOf}
use Rattle.tr_stage.specs.declared.sharing.Painted.{Painted}
use Rattle.tr_stage.specs.Stages.{StageView, state}
use Rattle.tr_server.specs.Shares.{IsPaintedShare, ShareView, share_of}

-- the last share of some leaves is one of their stage
last_of : {C M : Type 0} (s : StageView C M) (leaves : List LeafId) (rest : List (ShareView C M)) (x : ShareView C M) →
    map (share_of s) leaves ≡ rest ++ x ∷ [] → s ≡ x.stage
last_of s [] [] x is = absurd (omega (arith, ap length is))
last_of s [] (y ∷ rest) x is = absurd (omega (arith, ap length is))
last_of {C} {M} s (l ∷ leaves) [] x is = ap (λ (shares : List (ShareView C M)). (get_or shares 0 x).stage) is
last_of s (l ∷ leaves) (y ∷ rest) x is = last_of s leaves rest x (ap (drop 1) is)

-- what was painted of it are the leaf's bad points in that stage
pub painted_last : {C M : Type 0} (client : Ghosts C M) (s : StageView C M) (leaves : List LeafId) (rest : List (ShareView C M))
    (x : ShareView C M) (painted : Painted) → map (share_of s) leaves ≡ rest ++ x ∷ [] → IsPaintedShare client x painted →
    IsPaintedOf client (state client s) painted.leaf painted.part painted.pixels.items
painted_last {C} {M} client s leaves rest x painted is are =
    let here = subst (λ (t : StageView C M). IsPaintedOf client (state client t) x.leaf painted.part painted.pixels.items)
    (sym (last_of s leaves rest x is)) are.points in
    subst (λ (l : LeafId). IsPaintedOf client (state client s) l painted.part painted.pixels.items) (sym are.leaf) here
