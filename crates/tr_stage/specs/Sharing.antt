-- A list of leaves' bad points that were painted apart from the screen.
use Rattle.std.specs.Prelude.{◌≡◌, ⊤, List, [], ◌∷◌}
use Rattle.tr_base.specs.declared.LeafId.{LeafId}
use Rattle.tr_client.specs.declared.clients.Client.{Ghosts}
use Rattle.tr_machine.specs.States.{State}
use Rattle.tr_machine.specs.SharedRepaints.{IsPaintedOf}
use Rattle.tr_stage.specs.declared.sharing.Painted.{Painted}

-- the painted parts are the bad points of these leaves, in the order of the leaves
abbrev pub ArePainted : {C M : Type 0} → Ghosts C M → State C M → List LeafId → List Painted → Type 0
ArePainted client m [] [] = ⊤
ArePainted client m (leaf ∷ leaves) (x ∷ xs) =
    (x.leaf ≡ leaf) × IsPaintedOf client m leaf x.part x.pixels.items × ArePainted client m leaves xs
ArePainted client m leaves xs = ⊥
