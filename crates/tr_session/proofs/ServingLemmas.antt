-- The turns of a session, one after another.
use Rattle.std.proofs.Common.{◌≡◌, ℕ, ◌-◌, ◌≤◌, true, false, List, [], ◌∷◌, ◌++◌, None, Some, append-nil, append_assoc, get_or, length, length-append, ne_eqb, take, refl, sym, ap, subst, ◌∙◌, arith}
use Rattle.std.specs.Prelude.{◌==◌, All, Bool, Contains, IsSomeAnd, Option}
use Rattle.std.specs.Io.KnownBytes.{prepend_known}
use Rattle.std.proofs.lemmas.List.Elements.{All-append, All-head, All-push, All-tail, Contains-get_or}
use Rattle.std.proofs.lemmas.List.{take-take}
use Rattle.std.proofs.lemmas.List.Splits.{length-slice_split, slice_split_at, slice_split_none}
use Rattle.std.proofs.Math.Seq.{take-append_seam}
use Rattle.tr_io.specs.Streams.{Fell, Grew}
use Rattle.tr_gen.specs.Scripts.{text_of_lines}
use Rattle.tr_session.specs.Answers.{Answer, AreAnswered, ComesAfterLine, IsNextSession, ends}
use Rattle.tr_session.specs.Arrivals.{ArrivalsView, HasLine, IsWithoutLine, first_bytes, pieces_of, whole_lines}
use Rattle.tr_session.specs.Calls.{HasQuit, SinkBytes, SourceBytes}
use Rattle.tr_session.specs.Sessions.{SessionView, no_session}
use Rattle.tr_session.specs.Turns.{AnswersOne, ReadsOnce, Serving}
use Rattle.tr_session.proofs.ArrivalLemmas.{front_of_front}
use Rattle.tr_session.proofs.FrontLemmas.{answered_by_front}
use Rattle.tr_session.proofs.GatheringLemmas.{Waits, all_written, none_waits, one_added}
use Rattle.tr_session.proofs.PlayingLemmas.{last_is}
use Rattle.tr_session.proofs.SavingLemmas.{text_more}

-- ---- answers

-- one more line was answered
pub one_answered : (s t u : SessionView) (lines : List (List ℕ)) (answers : List Answer) (line : List ℕ) (answer : Answer) →
    AreAnswered s lines answers t → IsNextSession t line answer u → AreAnswered s (lines ++ line ∷ []) (answers ++ answer ∷ []) u
one_answered s t u [] [] line answer same is = (u, subst (λ (v : SessionView). IsNextSession v line answer u) same is, refl)
one_answered s t u (x ∷ xs) (y ∷ ys) line answer are is = (are.0, are.1, one_answered are.0 t u xs ys line answer are.2 is)
one_answered s t u [] (y ∷ ys) line answer are is = absurd are
one_answered s t u (x ∷ xs) [] line answer are is = absurd are

-- ---- bytes

-- bytes that came twice
pub fell_twice : (x y z : Option (List ℕ)) (one two : List ℕ) → Fell x y one → Fell y z two → Fell x z (one ++ two)
fell_twice x y z one two first last = first ∙ ap (λ (left : Option (List ℕ)). prepend_known one left) last ∙ both z
  where
    both : (left : Option (List ℕ)) → prepend_known one (prepend_known two left) ≡ prepend_known (one ++ two) left
    both None = refl
    both (Some rest) = ap Some (sym (append_assoc one two rest))

-- bytes without a line feed
abbrev pub IsUnbroken : List ℕ → Type 0
IsUnbroken bytes = All (λ b. (b == 10) ≡ false) bytes

pub unbroken_all : (bytes : List ℕ) → (Contains bytes 10 → ⊥) → IsUnbroken bytes
unbroken_all bytes none k d within =
    ne_eqb (get_or bytes k d) 10 (λ same. none (subst (λ (b : ℕ). Contains bytes b) same (Contains-get_or bytes k d within)))

-- ---- the bytes so far

-- the bytes that came: the lines that were answered, the part of the next line, and the bytes after it
pub record HasCome (bytes : List ℕ) (lines : List (List ℕ)) (part : List ℕ) (a : ArrivalsView) : Type 0 where
  pub are : bytes ≡ text_of_lines lines ++ (part ++ a.rest)
  pub whole : All IsUnbroken lines
  pub unbroken : IsUnbroken part
  pub begun : a.begun ≡ first_bytes part

-- a line became whole
pub line_came : (bytes : List ℕ) (lines : List (List ℕ)) (part : List ℕ) (a w : ArrivalsView) → HasCome bytes lines part a → (h : HasLine a w) →
    HasCome bytes (lines ++ (part ++ h.more) ∷ []) [] (record w { begun = [] })
line_came bytes lines part a w came h =
    let line = part ++ h.more in
    let text = text_of_lines lines in
    record {
      are = came.are
          ∙ ap (λ (rest : List ℕ). text ++ (part ++ rest)) h.rest
          ∙ ap (λ (tail : List ℕ). text ++ tail) (sym (append_assoc part h.more (10 ∷ w.rest)) ∙ sym (append_assoc line (10 ∷ []) w.rest))
          ∙ sym (append_assoc text (line ++ 10 ∷ []) w.rest)
          ∙ ap (λ (front : List ℕ). front ++ w.rest) (sym (text_more lines line));
      whole = All-push IsUnbroken lines line came.whole
          (All-append (λ b. (b == 10) ≡ false) part h.more came.unbroken (unbroken_all h.more h.unbroken));
      unbroken = λ k d within. absurd (omega (arith, within));
      begun = refl;
    }

-- its front was answered
pub line_begun : (bytes : List ℕ) (lines : List (List ℕ)) (part : List ℕ) (a w : ArrivalsView) → HasCome bytes lines part a → (h : HasLine a w) →
    w.begun ≡ first_bytes (part ++ h.more)
line_begun bytes lines part a w came h = h.begun ∙ ap (λ (front : List ℕ). first_bytes (front ++ h.more)) came.begun ∙ front_of_front part h.more

-- no line became whole: all bytes were looked at
pub none_came : (bytes : List ℕ) (lines : List (List ℕ)) (part : List ℕ) (a w : ArrivalsView) → HasCome bytes lines part a → IsWithoutLine a w →
    HasCome bytes lines (part ++ a.rest) w
none_came bytes lines part a w came h = record {
  are = came.are
      ∙ ap (λ (tail : List ℕ). text_of_lines lines ++ tail) (sym (append-nil (part ++ a.rest)))
      ∙ ap (λ (rest : List ℕ). text_of_lines lines ++ ((part ++ a.rest) ++ rest)) (sym h.rest);
  whole = came.whole;
  unbroken = All-append (λ b. (b == 10) ≡ false) part a.rest came.unbroken (unbroken_all a.rest h.unbroken);
  begun = h.begun ∙ ap (λ (front : List ℕ). first_bytes (front ++ a.rest)) came.begun ∙ front_of_front part a.rest;
}

-- more bytes came
pub more_came : (bytes : List ℕ) (lines : List (List ℕ)) (part : List ℕ) (w b : ArrivalsView) → HasCome bytes lines part w → w.rest ≡ [] →
    b.begun ≡ w.begun → HasCome (bytes ++ b.rest) lines part b
more_came bytes lines part w b came none same = record {
  are = ap (λ (front : List ℕ). front ++ b.rest)
      (came.are ∙ ap (λ (rest : List ℕ). text_of_lines lines ++ (part ++ rest)) none ∙ ap (λ (tail : List ℕ). text_of_lines lines ++ tail) (append-nil part))
      ∙ append_assoc (text_of_lines lines) part b.rest;
  whole = came.whole;
  unbroken = came.unbroken;
  begun = same ∙ came.begun;
}

-- ---- whole lines

-- the pieces of lines, and of what comes after them
pieces_of_lines : (lines : List (List ℕ)) (tail : List ℕ) → All IsUnbroken lines → pieces_of (text_of_lines lines ++ tail) ≡ lines ++ pieces_of tail
pieces_of_lines [] tail whole = refl
pieces_of_lines (line ∷ lines) tail whole =
    ap pieces_of (append_assoc (line ++ 10 ∷ []) (text_of_lines lines) tail ∙ append_assoc line (10 ∷ []) (text_of_lines lines ++ tail))
    ∙ slice_split_at (λ (b : ℕ). b == 10) line 10 (text_of_lines lines ++ tail) (All-head IsUnbroken line lines whole) refl
    ∙ ap (λ (pieces : List (List ℕ)). line ∷ pieces) (pieces_of_lines lines tail (All-tail IsUnbroken line lines whole))

pieces_of_text : (lines : List (List ℕ)) (part : List ℕ) → All IsUnbroken lines → IsUnbroken part →
    pieces_of (text_of_lines lines ++ part) ≡ lines ++ part ∷ []
pieces_of_text lines part whole unbroken =
    pieces_of_lines lines part whole
    ∙ ap (λ (pieces : List (List ℕ)). lines ++ pieces) (slice_split_none (λ (b : ℕ). b == 10) part unbroken)

-- the lines that were answered are the first whole ones
pub first_whole : (bytes : List ℕ) (lines : List (List ℕ)) (part : List ℕ) (a : ArrivalsView) → HasCome bytes lines part a →
    take (length lines) (whole_lines bytes) ≡ lines
first_whole bytes lines part a came =
    let tail = part ++ a.rest in
    let pieces : pieces_of bytes ≡ lines ++ pieces_of tail = ap pieces_of came.are ∙ pieces_of_lines lines tail came.whole in
    let few : length lines ≤ length (pieces_of bytes) - 1 =
    omega (arith, ap length pieces, length-append lines (pieces_of tail), length-slice_split (λ (b : ℕ). b == 10) tail) in
    take-take (length lines) (length (pieces_of bytes) - 1) (pieces_of bytes) few
    ∙ ap (take (length lines)) pieces
    ∙ take-append_seam lines (pieces_of tail)

pub take_before_last : (xs : List (List ℕ)) (x : List ℕ) → take (length (xs ++ x ∷ []) - 1) (xs ++ x ∷ []) ≡ xs
take_before_last xs x =
    let last : length (xs ++ x ∷ []) - 1 ≡ length xs = omega (arith, length-append xs (x ∷ [])) in
    ap (λ n. take n (xs ++ x ∷ [])) last ∙ take-append_seam xs (x ∷ [])

-- where all bytes were looked at, the lines that were answered are all whole ones
pub all_whole : (bytes : List ℕ) (lines : List (List ℕ)) (part : List ℕ) (a : ArrivalsView) → HasCome bytes lines part a → a.rest ≡ [] →
    whole_lines bytes ≡ lines
all_whole bytes lines part a came none =
    let text : bytes ≡ text_of_lines lines ++ part =
    came.are ∙ ap (λ (rest : List ℕ). text_of_lines lines ++ (part ++ rest)) none ∙ ap (λ (tail : List ℕ). text_of_lines lines ++ tail) (append-nil part) in
    ap whole_lines text
    ∙ ap (λ (pieces : List (List ℕ)). take (length pieces - 1) pieces) (pieces_of_text lines part came.whole came.unbroken)
    ∙ take_before_last lines part

-- ---- turns

-- the session after some turns: the bytes that came, the lines that were answered, and the answers, some of which wait
pub record IsServed (from : SourceBytes) (to : SinkBytes) (s : SessionView) (a : ArrivalsView) (waiting : List ℕ) : Type 0 where
  pub bytes : List ℕ
  pub came : Fell from.left from.left_new bytes
  pub lines : List (List ℕ)
  pub part : List ℕ
  pub has : HasCome bytes lines part a
  pub answers : List Answer
  pub answered : AreAnswered no_session lines answers s
  pub waits : Waits to answers waiting

-- what comes after the front of a line comes after the line
pub next_by_front : (s t : SessionView) (line begun : List ℕ) (answer : Answer) → begun ≡ first_bytes line → IsNextSession s begun answer t →
    IsNextSession s line answer t
next_by_front s t line begun answer is next = (
  answered_by_front s line answer t (subst (λ (front : List ℕ). ComesAfterLine s front answer t) is next.0),
  next.1,
)

-- before the first turn
unfoldable pub none_served : (left written : Option (List ℕ)) (a : ArrivalsView) (waiting : List ℕ) → a.begun ≡ [] → a.rest ≡ [] → waiting ≡ [] →
    IsServed (record { left = left; left_new = left }) (record { written = written; written_new = written }) no_session a waiting
none_served left written a waiting begun rest none = record {
  bytes = [];
  came = sym (fell_none left);
  lines = [];
  part = [];
  has = record { are = sym rest; whole = λ k d within. absurd (omega (arith, within)); unbroken = λ k d within. absurd (omega (arith, within)); begun = begun };
  answers = [];
  answered = refl;
  waits = none_waits written waiting none;
}
  where
    fell_none : (left : Option (List ℕ)) → prepend_known [] left ≡ left
    fell_none None = refl
    fell_none (Some rest) = refl

-- after what waited was written
unfoldable pub written_served : (from : SourceBytes) (to : SinkBytes) (s : SessionView) (a : ArrivalsView) (waiting : List ℕ) (after : Option (List ℕ)) →
    IsServed from to s a waiting → Grew to.written_new after waiting → IsServed from (record { written = to.written; written_new = after }) s a []
written_served from to s a waiting after served grew = record {
  bytes = served.bytes;
  came = served.came;
  lines = served.lines;
  part = served.part;
  has = served.has;
  answers = served.answers;
  answered = served.answered;
  waits = all_written to served.answers waiting served.waits after grew;
}

-- after a turn that answers a line
unfoldable pub one_served : (from : SourceBytes) (to next : SinkBytes) (a b : Serving) (goes : Bool) → IsServed from to a.session a.arrivals a.waiting →
    next.written ≡ to.written_new → AnswersOne a goes next b →
    IsServed from (record { written = to.written; written_new = next.written_new }) b.session b.arrivals b.waiting
one_served from to next a b goes served joins one =
    let line = served.part ++ one.line.more in
    let begun = line_begun served.bytes served.lines served.part a.arrivals one.whole served.has one.line in
    let answered : IsNextSession a.session line one.answer b.session = next_by_front a.session b.session line one.whole.begun one.answer begun one.answered in
    record {
      bytes = served.bytes;
      came = served.came;
      lines = served.lines ++ line ∷ [];
      part = [];
      has = subst (λ (v : ArrivalsView). HasCome served.bytes (served.lines ++ line ∷ []) [] v) (sym one.rest)
          (line_came served.bytes served.lines served.part a.arrivals one.whole served.has one.line);
      answers = served.answers ++ one.answer ∷ [];
      answered = one_answered no_session a.session b.session served.lines served.answers line one.answer served.answered answered;
      waits = one_added to served.answers a.waiting served.waits next one.answer b.waiting joins one.adds;
    }

-- after a turn that reads
unfoldable pub read_served : (from next_from : SourceBytes) (to next : SinkBytes) (a b : Serving) (goes : Bool) →
    IsServed from to a.session a.arrivals a.waiting → next_from.left ≡ from.left_new → next.written ≡ to.written_new → ReadsOnce a next_from goes next b →
    IsServed (record { left = from.left; left_new = next_from.left_new }) (record { written = to.written; written_new = next.written_new })
    b.session b.arrivals b.waiting
read_served from next_from to next a b goes served joins_from joins reads =
    let looked = none_came served.bytes served.lines served.part a.arrivals reads.looked served.has reads.unbroken in
    let came : Fell from.left_new next_from.left_new b.arrivals.rest =
    subst (λ (before : Option (List ℕ)). Fell before next_from.left_new b.arrivals.rest) joins_from reads.came in
    let grew : Grew to.written_new next.written_new a.waiting =
    subst (λ (before : Option (List ℕ)). Grew before next.written_new a.waiting) joins reads.wrote in
    record {
      bytes = served.bytes ++ b.arrivals.rest;
      came = fell_twice from.left from.left_new next_from.left_new served.bytes b.arrivals.rest served.came came;
      lines = served.lines;
      part = served.part ++ a.arrivals.rest;
      has = more_came served.bytes served.lines (served.part ++ a.arrivals.rest) reads.looked b.arrivals looked reads.unbroken.rest reads.begun;
      answers = served.answers;
      answered = subst (λ (s : SessionView). AreAnswered no_session served.lines served.answers s) (sym reads.session) served.answered;
      waits = subst (λ (now : List ℕ). Waits (record { written = to.written; written_new = next.written_new }) served.answers now) (sym reads.none)
          (all_written to served.answers a.waiting served.waits next.written_new grew);
    }

-- a session that ends with a line has answered it last
pub quit_served : (lines : List (List ℕ)) (line : List ℕ) → ends line ≡ true → HasQuit (lines ++ line ∷ [])
quit_served lines line quits =
    let P : Option (List ℕ) → Type 0 = λ found. IsSomeAnd found (λ l. ends l ≡ true) in
    subst P (sym (last_is lines line)) quits
