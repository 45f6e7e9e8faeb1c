-- The lines of a journal, from its entries and all deliveries in a row.
use Rattle.std.proofs.Common.{arith, ◌≡◌, ℕ, zero, suc, ◌+◌, ◌-◌, Bool, true, false, nat_lt, ◌<◌, ◌≤◌, List, [], ◌∷◌, ◌++◌, length, take, drop, get_or, refl, ap, sym, ◌∙◌, length-append}
use Rattle.std.specs.Prelude.{map, slice_get, Some, All}
use Rattle.std.specs.List.{slice_range, AllByRecursion}
use Rattle.std.proofs.lemmas.Bool.Decides.{nat_tests}
use Rattle.std.proofs.lemmas.List.{length-drop, length-take-le, take-append-le, drop-append-le, take_all, take-take, drop-drop, get_or_append_left, get_or_push, nil_from_length, length_push}
use Rattle.std.proofs.lemmas.List.Elements.{All-from_recursion}
use Rattle.std.proofs.lemmas.List.Sums.{sum_by-cons, sum_by_push, sum_by-take-le}
use Rattle.tr_inbox.specs.declared.deliveries.Delivery.{Delivery}
use Rattle.tr_journal.specs.declared.entries.Entry.{Entry}
use Rattle.tr_journal.specs.Journals.{JournalLine, IsCounted, AreKept, total, journal_lines}

-- the first entry has its deliveries, and the others have the rest
rest_of : {M : Type 0} (x : Entry M) (es : List (Entry M)) (sent : List Delivery) → length sent ≡ total (x ∷ es) →
    (x.reply.sent ≤ length sent) × (length (drop x.reply.sent sent) ≡ total es)
rest_of {M} x es sent all =
    let whole = all ∙ sum_by-cons (λ (e : Entry M). e.reply.sent) x es in
    (omega arith, omega (arith, length-drop x.reply.sent sent))

-- one entry more, with its deliveries, is one line more
pub lines_of-push : {M : Type 0} (es : List (Entry M)) (sent : List Delivery) (line : JournalLine M) → length sent ≡ total es → IsCounted line →
    journal_lines (es ++ line.entry ∷ []) (sent ++ line.sent) ≡ journal_lines es sent ++ line ∷ []
lines_of-push [] sent line all counted =
    let count = counted.count in
    rw (nil_from_length sent all) (ap (λ ds. record { entry = line.entry; sent = ds } ∷ []) (take_all line.entry.reply.sent line.sent (omega arith)))
lines_of-push (x ∷ es) sent line all counted =
    let rest = rest_of x es sent all in
    rw (take-append-le x.reply.sent sent line.sent rest.0, drop-append-le x.reply.sent sent line.sent rest.0)
    (ap (λ ls. record { entry = x; sent = take x.reply.sent sent } ∷ ls) (lines_of-push es (drop x.reply.sent sent) line rest.1 counted))

-- there is a line for each entry
pub length-lines_of : {M : Type 0} (es : List (Entry M)) (sent : List Delivery) → length (journal_lines es sent) ≡ length es
length-lines_of [] sent = refl
length-lines_of (x ∷ es) sent = ap suc (length-lines_of es (drop x.reply.sent sent))

-- the entries of the lines are the entries
pub entries-lines_of : {M : Type 0} (es : List (Entry M)) (sent : List Delivery) → map (λ line. line.entry) (journal_lines es sent) ≡ es
entries-lines_of [] sent = refl
entries-lines_of (x ∷ es) sent = ap (λ xs. x ∷ xs) (entries-lines_of es (drop x.reply.sent sent))

-- a part of what is left of a list is a part of the list
shifted_range : (sent : List Delivery) (n a b : ℕ) → slice_range (drop n sent) a b ≡ slice_range sent (n + a) (n + b)
shifted_range sent n a b =
    let same : b - a ≡ n + b - (n + a) = omega arith in
    rw (drop-drop a n sent, same)

-- what an entry sent lies between the totals of the entries before it and of those up to it
pub sent-lines_of : {M : Type 0} (es : List (Entry M)) (sent : List Delivery) (k : ℕ) → k < length es →
    slice_get (map (λ line. line.sent) (journal_lines es sent)) k ≡ Some (slice_range sent (total (take k es)) (total (take (k + 1) es)))
sent-lines_of [] sent k lt = absurd (omega (arith, lt))
sent-lines_of {M} (x ∷ es) sent zero lt =
    let one : x.reply.sent ≡ total (x ∷ []) - 0 = omega (arith, sum_by-cons (λ (e : Entry M). e.reply.sent) x []) in
    ap (λ n. Some (take n sent)) one
sent-lines_of {M} (x ∷ es) sent (suc k) lt =
    let before : total (x ∷ take k es) ≡ x.reply.sent + total (take k es) = sum_by-cons (λ (e : Entry M). e.reply.sent) x (take k es) in
    let one_more : suc k + 1 ≡ suc (k + 1) = omega arith in
    let after : total (take (suc k + 1) (x ∷ es)) ≡ x.reply.sent + total (take (k + 1) es) =
    ap (λ n. total (take n (x ∷ es))) one_more ∙ sum_by-cons (λ (e : Entry M). e.reply.sent) x (take (k + 1) es) in
    sent-lines_of es (drop x.reply.sent sent) k (omega arith)
    ∙ ap (λ ds. Some ds) (shifted_range sent x.reply.sent (total (take k es)) (total (take (k + 1) es)))
    ∙ ap (λ n. Some (slice_range sent n (x.reply.sent + total (take (k + 1) es)))) (sym before)
    ∙ ap (λ n. Some (slice_range sent (total (x ∷ take k es)) n)) (sym after)

-- each line has as many deliveries as its entry says
pub counted-lines_of : {M : Type 0} (es : List (Entry M)) (sent : List Delivery) → length sent ≡ total es → All IsCounted (journal_lines es sent)
counted-lines_of es sent all = All-from_recursion IsCounted (journal_lines es sent) (each es sent all)
  where
    each : {M : Type 0} (es : List (Entry M)) (sent : List Delivery) → length sent ≡ total es → AllByRecursion IsCounted (journal_lines es sent)
    each [] sent all = tt
    each (x ∷ es) sent all =
        let rest = rest_of x es sent all in
        (record { count = sym (length-take-le x.reply.sent sent rest.0) }, each es (drop x.reply.sent sent) rest.1)

-- one entry more keeps where the deliveries end
pub kept-push : {M : Type 0} (es : List (Entry M)) (ends : List ℕ) (sent : List Delivery) (line : JournalLine M) → AreKept es ends sent → IsCounted line →
    AreKept (es ++ line.entry ∷ []) (ends ++ (length sent + length line.sent) ∷ []) (sent ++ line.sent)
kept-push {M} es ends sent line kept counted = record {
  count = omega (arith, length_push ends (length sent + length line.sent), length_push es line.entry, kept.count);
  each = λ k lt. each k lt (nat_lt k (length es)) refl;
  all = length-append sent line.sent ∙ whole;
}
  where
    whole : length sent + length line.sent ≡ total (es ++ line.entry ∷ [])
    whole = omega (arith, sum_by_push (λ (e : Entry M). e.reply.sent) es line.entry, kept.all, counted.count)

    each : (k : ℕ) → k < length (es ++ line.entry ∷ []) → (t : Bool) → nat_lt k (length es) ≡ t →
        get_or (ends ++ (length sent + length line.sent) ∷ []) k 0 ≡ total (take (k + 1) (es ++ line.entry ∷ []))
    each k lt true is =
        let old : k < length es = grind (arith, nat_tests) in
        rw (
          get_or_append_left ends ((length sent + length line.sent) ∷ []) 0 k (omega (arith, kept.count)),
          take-append-le (k + 1) es (line.entry ∷ []) (omega arith),
        )
        (kept.each k old)
    each k lt false is =
        let last : length es ≤ k = grind (arith, nat_tests) in
        let more : length (es ++ line.entry ∷ []) ≡ length es + 1 = length_push es line.entry in
        let at : length ends ≡ k = omega (arith, kept.count) in
        rw (get_or_push ends (length sent + length line.sent) 0 k at, take_all (k + 1) (es ++ line.entry ∷ []) (omega arith)) whole

-- where the deliveries of an entry begin
pub start-kept : {M : Type 0} (es : List (Entry M)) (ends : List ℕ) (sent : List Delivery) (k : ℕ) → AreKept es ends sent → k < length es →
    get_or (0 ∷ ends) k 0 ≡ total (take k es)
start-kept es ends sent zero kept lt = refl
start-kept es ends sent (suc k) kept lt =
    let next : k + 1 ≡ suc k = omega arith in
    kept.each k (omega arith) ∙ ap (λ n. total (take n es)) next

-- the deliveries of an entry lie within the row of all
pub within-kept : {M : Type 0} (es : List (Entry M)) (ends : List ℕ) (sent : List Delivery) (k : ℕ) → AreKept es ends sent → k < length es →
    (get_or (0 ∷ ends) k 0 ≤ get_or ends k 0) × (get_or ends k 0 ≤ length sent)
within-kept {M} es ends sent k kept lt =
    let start = start-kept es ends sent k kept lt in
    let end = kept.each k lt in
    let first : total (take k (take (k + 1) es)) ≤ total (take (k + 1) es) = sum_by-take-le (λ (e : Entry M). e.reply.sent) (take (k + 1) es) k in
    let some : total (take (k + 1) es) ≤ total es = sum_by-take-le (λ (e : Entry M). e.reply.sent) es (k + 1) in
    let part : total (take k (take (k + 1) es)) ≡ total (take k es) = ap total (take-take k (k + 1) es (omega arith)) in
    let all = kept.all in
    (omega arith, omega arith)

-- what lies between where an entry's deliveries begin and end is what the entry sent
pub sent-kept : {M : Type 0} (es : List (Entry M)) (ends : List ℕ) (sent : List Delivery) (k : ℕ) → AreKept es ends sent → k < length es →
    slice_get (map (λ line. line.sent) (journal_lines es sent)) k ≡ Some (slice_range sent (get_or (0 ∷ ends) k 0) (get_or ends k 0))
sent-kept es ends sent k kept lt = rw (start-kept es ends sent k kept lt, kept.each k lt) (sent-lines_of es sent k lt)
