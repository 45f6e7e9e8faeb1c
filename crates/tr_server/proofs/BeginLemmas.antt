-- The entries with which a session began are the first of its journal, and what an audit of the later ones finds.
use Rattle.std.proofs.Common.{◌≡◌, ℕ, ◌+◌, ◌≤◌, List, [], ◌∷◌, ◌++◌, Option, Some, None, length, map, take, drop, sym, ap, subst, ◌∙◌, arith}
use Rattle.std.specs.Prelude.{All, IfNone, IfOk, IfSome, Result, slice_get}
use Rattle.std.specs.Option.{option_map}
use Rattle.std.proofs.lemmas.List.{length-map, length-take-le, take-append-le, take-map, take_more}
use Rattle.std.proofs.lemmas.List.Elements.{All-get_or}
use Rattle.std.proofs.lemmas.Result.{IfOk-weaker}
use Rattle.std.proofs.lemmas.Option.{get_or_from_slice_get, slice_get-map, slice_get_within}
use Rattle.tr_journal.specs.declared.items.Item.{Item}
use Rattle.tr_journal.specs.declared.differences.Difference.{Difference}
use Rattle.tr_journal.specs.declared.differences.Apart.{Apart}
use Rattle.tr_journal.specs.declared.differences.Apart.TheVariants.{Opening, Kept, Own}
use Rattle.tr_journal.specs.Actors.{entries_of}
use Rattle.tr_journal.specs.Differences.{IsFirstApart, IsFirstDiffering, Matches, account_of}
use Rattle.tr_journal.specs.Journals.{IsCounted, JournalLine}
use Rattle.tr_journal.specs.Lists.{ListsView}
use Rattle.tr_audit.specs.Audits.{HaveSameSteps, IsOwnApart, IsOwnDifference}

-- a longer journal begins with the same entries
pub kept_more : {A : Type 0} (n total : ℕ) (old new more kept : List A) → n + total ≡ length old → new ≡ old ++ more → take n old ≡ kept →
    take n new ≡ kept
kept_more n total old new more kept count is begun =
    ap (λ xs. take n xs) is ∙ (take-append-le n old more (omega arith) ∙ begun)

module _ {C M : Type 0} (o p : List (Item C)) (n : ℕ) (lines : List (JournalLine M)) (lists : ListsView M) (low : n ≤ length lines) where
  -- the first entries, by their number
  first_count : length (entries_of (take n lines)) ≡ n
  first_count = simp length-map (length-take-le n lines low)

  first_taken : (k : ℕ) → k ≡ n → entries_of (take n lines) ≡ take k (entries_of lines)
  first_taken k is =
      subst (λ (j : ℕ). entries_of (take n lines) ≡ take j (entries_of lines)) (sym is)
      (sym (take-map (λ (line : JournalLine M). line.entry) n lines))

  -- nothing differs
  matches_begun : o ≡ p → HaveSameSteps lists (drop n (entries_of lines)) → Matches (account_of o (take n lines)) lists (account_of p lines)
  matches_begun e steps = record {
    opening = e;
    entries = first_taken _ first_count;
    steps = subst (λ (k : ℕ). HaveSameSteps lists (drop k (entries_of lines))) (sym first_count) steps;
  }

  own_apart : (place : ℕ) (what : Apart M) → o ≡ p → IsOwnApart lists (drop n (entries_of lines)) place what →
      IsFirstApart (account_of o (take n lines)) lists (account_of p lines) place what
  own_apart place Opening e apart = absurd apart
  own_apart place (Kept x y) e apart = absurd apart
  own_apart place (Own actor x y) e apart =
      let all = subst (λ (k : ℕ). IsOwnApart lists (drop k (entries_of lines)) place (Own actor x y)) (sym first_count) apart in (
        record {
          listed = all.0.listed;
          opening = e;
          entries = first_taken _ first_count;
          steps = all.0.earlier;
        },
        all.1,
      )

  -- the first difference is a step of an actor
  own_first : o ≡ p → (d : Difference M) → IsOwnDifference lists (drop n (entries_of lines)) d →
      IsFirstDiffering (account_of o (take n lines)) lists (account_of p lines) d
  own_first e d apart = own_apart d.place d.what e apart

-- what holds of an audit's result, whether it found a difference or not
if_none : {A : Type 0} (d : Option A) (P Q : Type 0) → (P → Q) → IfNone d P → IfNone d Q
if_none None P Q f h = f h
if_none (Some x) P Q f h = tt

if_some : {A : Type 0} (d : Option A) (P Q : A → Type 0) → ((x : A) → P x → Q x) → IfSome d P → IfSome d Q
if_some None P Q f h = tt
if_some (Some x) P Q f h = f x h

-- The openings are the same, and the steps after the first entries were compared.
module _ {C M E : Type 0} (o p : List (Item C)) (n : ℕ) (lines : List (JournalLine M)) (lists : ListsView M) (low : n ≤ length lines) (same : o ≡ p)
    (found : Result (Option (Difference M)) E) where
  pub all_match : IfOk found (λ d. IfNone d (HaveSameSteps lists (drop n (entries_of lines)))) →
      IfOk found (λ d. IfNone d (Matches (account_of o (take n lines)) lists (account_of p lines)))
  all_match h = IfOk-weaker found _ _ (λ d. if_none d _ _ (matches_begun o p n lines lists low same)) h

  pub first_apart : IfOk found (λ d. IfSome d (IsOwnDifference lists (drop n (entries_of lines)))) →
      IfOk found (λ d. IfSome d (IsFirstDiffering (account_of o (take n lines)) lists (account_of p lines)))
  first_apart h = IfOk-weaker found _ _ (λ d. if_some d _ _ (own_first o p n lines lists low same)) h

-- ---- entries that are copied

line_of : {M : Type 0} (o : Option (JournalLine M)) (line : JournalLine M) → option_map (λ (l : JournalLine M). l.entry) o ≡ Some line.entry →
    option_map (λ (l : JournalLine M). l.sent) o ≡ Some line.sent → o ≡ Some line
line_of None line p q = cc
line_of (Some x) line p q =
    let a : x.entry ≡ line.entry = cc in
    let b : x.sent ≡ line.sent = cc in
    λ i. Some (record { entry = a i; sent = b i })

-- the line of an entry and its deliveries
pub line_at : {M : Type 0} (lines : List (JournalLine M)) (k : ℕ) (line : JournalLine M) →
    slice_get (map (λ l. l.entry) lines) k ≡ Some line.entry → slice_get (map (λ l. l.sent) lines) k ≡ Some line.sent → slice_get lines k ≡ Some line
line_at {M} lines k line entry sent =
    line_of (slice_get lines k) line
    (sym (slice_get-map (λ (l : JournalLine M). l.entry) lines k) ∙ entry)
    (sym (slice_get-map (λ (l : JournalLine M). l.sent) lines k) ∙ sent)

pub counted_at : {M : Type 0} (lines : List (JournalLine M)) (k : ℕ) (line : JournalLine M) → slice_get lines k ≡ Some line → All IsCounted lines →
    IsCounted line
counted_at lines k line at all =
    subst IsCounted (get_or_from_slice_get lines k line line at) (All-get_or IsCounted lines k line (slice_get_within lines k line at) all)

-- one line more
pub first_more : {A : Type 0} (xs part more : List A) (k : ℕ) (x : A) → slice_get xs k ≡ Some x → part ≡ take k xs → more ≡ part ++ x ∷ [] →
    more ≡ take (k + 1) xs
first_more xs part more k x at so_far is =
    let next : take (k + 1) xs ≡ take k xs ++ x ∷ [] =
    take_more xs k x (slice_get_within xs k x at) ∙ ap (λ y. take k xs ++ y ∷ []) (get_or_from_slice_get xs k x x at) in
    is ∙ ap (λ p. p ++ x ∷ []) so_far ∙ sym next
