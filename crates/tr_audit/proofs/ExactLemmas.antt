-- A difference comes only where not all matches, and at most one is the first.
use Rattle.std.proofs.Common.{ℕ}
use Rattle.tr_journal.specs.declared.differences.Difference.{Difference}
use Rattle.tr_journal.specs.declared.differences.Apart.{Apart}
use Rattle.tr_journal.specs.declared.differences.Apart.TheVariants.{Opening, Kept, Own}
use Rattle.tr_journal.specs.Lists.{ListsView, list_of}
use Rattle.tr_journal.specs.Differences.{Account, IsFirstDiffering, IsFirstApart, Matches, kept_found, steps_found}
use Rattle.tr_audit.proofs.PlaceLemmas.{differ_unlike}

module _ {C M : Type 0} (kept : Account C M) (lists : ListsView M) (found : Account C M) where
  no_match : (place : ℕ) (what : Apart M) → IsFirstApart kept lists found place what → Matches kept lists found → ⊥
  no_match place Opening first same = differ_unlike kept.opening found.opening place first same.opening
  no_match place (Kept x y) first same = differ_unlike kept.entries (kept_found kept lists found) place first.1.first same.entries
  no_match place (Own actor x y) first same =
      differ_unlike (list_of lists actor) (steps_found kept lists found actor) place first.1.first (same.steps actor first.0.listed)

  -- where something differs, not all matches
  pub first_apart : (d : Difference M) → IsFirstDiffering kept lists found d → Matches kept lists found → ⊥
  first_apart d first same = no_match d.place d.what first same

  abbrev told : ℕ → Apart M → Difference M
  told place what = record { place = place; what = what }
