-- The lines of differences, computed. The leaf is called `a`, and a command is the colour of a tint.
use Rattle.std.proofs.Common.{◌≡◌, ℕ, List, [], ◌∷◌, ◌++◌, Some, None, lit<, refl}
use Rattle.std.specs.Prelude.{codes, decimal}
use Rattle.std.proofs.lemmas.Fmt.{decimal_digit}
use Rattle.tr_base.specs.declared.ids.LeafId.{LeafId}
use Rattle.tr_levels.specs.declared.levels.Level.TheVariants.{Mu, Win}
use Rattle.tr_journal.specs.declared.answers.Answer.TheVariants.{Done}
use Rattle.tr_journal.specs.declared.entries.Entry.{Entry}
use Rattle.tr_journal.specs.declared.steps.Actor.TheVariants as actors
use Rattle.tr_journal.specs.declared.steps.Step.TheVariants.{Act, Sync}
use Rattle.tr_journal.specs.declared.differences.Apart.{Apart}
use Rattle.tr_journal.specs.declared.differences.Apart.TheVariants.{Opening, Kept, Own}
use Rattle.tr_journal.specs.Names.{Names}
use Rattle.tr_dump.specs.Differs.{differs_text}

abbrev names : Names
names = record { nodes = []; leaves = codes "a" ∷ [] }

abbrev leaf : LeafId
leaf = record { 0 = 0 }

abbrev words : ℕ → List ℕ
words n = codes "tint " ++ decimal n

abbrev line : ℕ → Apart ℕ → List ℕ
line place what = differs_text words names (record { place = place; what = what })

abbrev entry : Entry ℕ
entry = record { actor = actors.Leaf leaf; level = Mu ∷ Win leaf ∷ []; step = Act leaf 8; reply = record { answer = Done; sent = 0 } }

own : line 1 (Own (actors.Leaf leaf) (Some (Act leaf 8)) (Some (Act leaf 7))) ≡ codes "differs leaf:a 1: tint 8 / tint 7\n"
own = rw (decimal_digit 1 (lit< tt), decimal_digit 8 (lit< tt), decimal_digit 7 (lit< tt)) refl

own_more : line 3 (Own actors.Player None (Some Sync)) ≡ codes "differs player 3: - / sync\n"
own_more = rw (decimal_digit 3 (lit< tt)) refl

kept : line 2 (Kept (Some entry) None) ≡ codes "differs kept 2: leaf:a mu,win:a tint 8 = ok / -\n"
kept = rw (decimal_digit 2 (lit< tt), decimal_digit 8 (lit< tt)) refl

opening : line 2 Opening ≡ codes "differs opening 2: - / -\n"
opening = rw (decimal_digit 2 (lit< tt)) refl
