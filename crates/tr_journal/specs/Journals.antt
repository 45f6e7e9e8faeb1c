-- The lines of a journal: entries in their order, each with the deliveries of its step.
use Rattle.std.specs.Prelude.{◌≡◌, ℕ, ◌+◌, ◌/◌, ◌<◌, min, List, [], ◌∷◌, length, take, drop, get_or, map, sum_by}
use Rattle.tr_inbox.specs.declared.deliveries.Delivery.{Delivery}
use Rattle.tr_journal.specs.declared.entries.Entry.{Entry}

-- an entry, with the deliveries of its step
pub record JournalLine (M : Type 0) : Type 0 where
  pub entry : Entry M
  pub sent : List Delivery

-- the model of a journal: its lines; the number of further lines, with at most 32 deliveries each, for which it has room; and the
-- number of further lines without deliveries for which it has room
pub record JournalView (M : Type 0) : Type 0 where
  pub lines : List (JournalLine M)
  pub spare : ℕ
  pub silent_spare : ℕ

-- the lines of entries without deliveries
abbrev pub silent : {M : Type 0} → List (Entry M) → List (JournalLine M)
silent entries = map (λ e. record { entry = e; sent = [] }) entries

-- an entry has the right number of deliveries
pub record IsCounted {M : Type 0} (line : JournalLine M) : Type 0 where
  pub count : line.entry.reply.sent ≡ length line.sent

-- the number of deliveries of all entries
abbrev pub total : {M : Type 0} → List (Entry M) → ℕ
total entries = sum_by (λ e. e.reply.sent) entries

-- the lines of entries whose deliveries are in one list: each entry takes the number of deliveries that it states
abbrev pub journal_lines : {M : Type 0} → List (Entry M) → List Delivery → List (JournalLine M)
journal_lines [] sent = []
journal_lines (entry ∷ entries) sent =
    record { entry = entry; sent = take entry.reply.sent sent } ∷ journal_lines entries (drop entry.reply.sent sent)

-- the deliveries of each entry end at the total of the entries so far, and there are no others
pub record AreKept {M : Type 0} (entries : List (Entry M)) (ends : List ℕ) (sent : List Delivery) : Type 0 where
  pub count : length ends ≡ length entries
  pub each : (k : ℕ) → k < length entries → get_or ends k 0 ≡ total (take (k + 1) entries)
  pub all : length sent ≡ total entries

-- the number of further entries for which three vectors have room; the third needs 32 items for each entry
abbrev pub spare_of : ℕ → ℕ → ℕ → ℕ
spare_of entries ends sent = min (min entries ends) (sent / 32)
