-- A level is among those that are held just where the test says so.
use Rattle.std.proofs.Common.{rules, arith, ◌≡◌, Bool, List, Decides, refl, IsTrue, ◌↔◌}
use Rattle.std.specs.Prelude.{Contains}
use Rattle.std.specs.List.{list_any}
use Rattle.std.proofs.lemmas.Bool.Decides.{same_from_decides, Decides-by_or, Decides-eqb, Decides-like}
use Rattle.std.proofs.lemmas.List.Elements.{Decides-contains}
use Rattle.tr_levels.specs.declared.Level.{Level}
use Rattle.tr_levels.specs.declared.Level.TheVariants.{Mu, Share, Win}
use Rattle.tr_journal.specs.Steps.{is_level, is_level_held}

-- the test of two levels says whether they are the same
Decides-level : (a b : Level) → Decides (is_level a b) (b ≡ a)
Decides-level Mu Mu = search rules
Decides-level Mu (Share b) = search rules
Decides-level Mu (Win b) = search rules
Decides-level (Share a) Mu = search rules
Decides-level (Share a) (Share b) = Decides-like _ (λ e. grind (arith, e)) (λ e. grind (arith, e)) (Decides-eqb a.0 b.0)
Decides-level (Share a) (Win b) = search rules
Decides-level (Win a) Mu = search rules
Decides-level (Win a) (Share b) = search rules
Decides-level (Win a) (Win b) = Decides-like _ (λ e. grind (arith, e)) (λ e. grind (arith, e)) (Decides-eqb a.0 b.0)

-- an answer that is true just where a level is held is that of the test
pub is_held-from : (answer : Bool) (held : List Level) (level : Level) → (IsTrue answer ↔ Contains held level) → answer ≡ is_level_held held level
is_held-from answer held level h = same_from_decides answer (is_level_held held level) h
    (Decides-contains held level _ (Decides-by_or (is_level level) (λ l. l ≡ level) (list_any (is_level level)) (Decides-level level) refl (λ _ _. refl) held))
