-- What stands at a place of a list, and the texts up to there.
use Rattle.std.proofs.Common.{◌≡◌, ◌+◌, ◌<◌, ℕ, zero, suc, List, [], ◌∷◌, ◌++◌, Some, take, map, get_or, length}
use Rattle.std.proofs.Common.{ap, sym, refl, ◌∙◌, add-one, append-nil, append_assoc, arith}
use Rattle.std.specs.Prelude.{IsSomeAnd, slice_get}
use Rattle.std.specs.List.{enumerate_from, flat_map}
use Rattle.std.proofs.Math.Seq.{take-suc}
use Rattle.std.proofs.lemmas.Grind.{flat_map-append}
use Rattle.std.proofs.lemmas.Option.{slice_get_within, get_or_from_slice_get}
use Rattle.tr_inbox.specs.declared.deliveries.Delivery.{Delivery}
use Rattle.tr_journal.specs.declared.entries.Entry.{Entry}
use Rattle.tr_journal.specs.Journals.{JournalLine}

-- the text of one element more
pub taken_more : {X : Type 0} (f : X → List ℕ) (xs : List X) (k : ℕ) (x : X) → slice_get xs k ≡ Some x
    → flat_map f (take (k + 1) xs) ≡ flat_map f (take k xs) ++ f x
taken_more f xs k x is =
    let within : k < length xs = slice_get_within xs k x is in
    ap (λ n. flat_map f (take n xs)) (add-one k)
    ∙ ap (flat_map f) (take-suc xs k x within)
    ∙ flat_map-append f (take k xs) (get_or xs k x ∷ [])
    ∙ ap (λ y. flat_map f (take k xs) ++ (f y ++ [])) (get_or_from_slice_get xs k x x is)
    ∙ ap (λ t. flat_map f (take k xs) ++ t) (append-nil (f x))

-- the numbered line at a place, by its entry and by what that sent
pub line_at : {M : Type 0} (n : ℕ) (lines : List (JournalLine M)) (k number : ℕ) (entry : Entry M) (sent : List Delivery)
    → n + k ≡ number → slice_get (map (λ line. line.entry) lines) k ≡ Some entry
    → slice_get (map (λ line. line.sent) lines) k ≡ Some sent
    → slice_get (enumerate_from n lines) k ≡ Some (number, record { entry = entry; sent = sent })
line_at n [] k number entry sent is first second = cc
line_at n (line ∷ lines) zero number entry sent is first second =
    let e : line.entry ≡ entry = cc in
    let s : line.sent ≡ sent = cc in
    let same : n ≡ number = omega arith in
    rw (← e, ← s, same) refl
line_at n (line ∷ lines) (suc k) number entry sent is first second =
    line_at (n + 1) lines k number entry sent (omega arith) first second

-- the line at a place, by its entry and by its deliveries
whole_line_at : {M : Type 0} (lines : List (JournalLine M)) (k : ℕ) (entry : Entry M) (sent : List Delivery)
    → slice_get (map (λ line. line.entry) lines) k ≡ Some entry → slice_get (map (λ line. line.sent) lines) k ≡ Some sent
    → slice_get lines k ≡ Some (record { entry = entry; sent = sent })
whole_line_at [] k entry sent first second = cc
whole_line_at (line ∷ lines) zero entry sent first second =
    let e : line.entry ≡ entry = cc in
    let s : line.sent ≡ sent = cc in
    rw (← e, ← s) refl
whole_line_at (line ∷ lines) (suc k) entry sent first second = whole_line_at lines k entry sent first second

-- what holds of that line holds of the one at the place
pub holds_at : {M : Type 0} (P : JournalLine M → Type 0) (lines : List (JournalLine M)) (k : ℕ) (entry : Entry M) (sent : List Delivery)
    → slice_get (map (λ line. line.entry) lines) k ≡ Some entry → slice_get (map (λ line. line.sent) lines) k ≡ Some sent
    → P (record { entry = entry; sent = sent }) → IsSomeAnd (slice_get lines k) P
holds_at P lines k entry sent first second holds = rw (whole_line_at lines k entry sent first second) holds

-- what is appended to a text that holds all so far
pub appended_more : (new mid old front text all : List ℕ) → mid ≡ old ++ front → new ≡ mid ++ text → all ≡ front ++ text → new ≡ old ++ all
appended_more new mid old front text all so_far more is =
    more ∙ ap (λ l. l ++ text) so_far ∙ append_assoc old front text ∙ ap (λ l. old ++ l) (sym is)

-- what is appended to a text in two steps
pub appended_twice : (new mid old first second : List ℕ) → mid ≡ old ++ first → new ≡ mid ++ second → new ≡ old ++ (first ++ second)
appended_twice new mid old first second once twice = twice ∙ ap (λ l. l ++ second) once ∙ append_assoc old first second
