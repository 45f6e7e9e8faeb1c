-- Lines that make steps, one behind another, and chunk behind chunk.
use Rattle.std.proofs.Common.{◌≡◌, ℕ, ◌+◌, ◌-◌, ◌*◌, ◌/◌, ◌%◌, ◌<◌, ◌≤◌, ◌⊎◌, zero, suc, min, true, Option, Some, List, map, All, [], ◌∷◌, ◌++◌, length, get_or, take, drop, refl, sym, ap, subst, ◌∙◌, arith, ⊎_elim, div-add-mod', mod-lt, eq-zero-or-pos, add-mul, one-mul, mul_assoc, mul-le-mul_right, zero-mul, add-zero, suc-mul, drop-drop, drop-cons, length-drop, append_assoc, append-nil, length-append, ap₂, length-take-le, take-suc, take-add, take_all, take-append-drop, take-take, length-take}
use Rattle.std.proofs.Math.Seq.{get_or-append_seam}
use Rattle.std.proofs.lemmas.List.Elements.{All-nil, All-append, All-from_get_or, All-head, All-rest, All-same}
use Rattle.std.proofs.lemmas.List.{length-map, get_or_append_left, drop-take}
use Rattle.std.specs.Borrow.{Bor}
use Rattle.std.specs.Fork.{slice_chunk}
use Rattle.tr_base.specs.Lists.{joined}
use Rattle.tr_grammar.specs.States.{SoFar}
use Rattle.tr_grammar.specs.Faults.{nodes_so_far}
use Rattle.tr_grammar.specs.Texts.{lines_of}
use Rattle.tr_grammar.specs.Scripts.{Refusal, after_line, first_bad_line, after_all_lines, IsPlayable}
use Rattle.tr_grammar.proofs.ScriptLemmas.{after_all_lines-append}
use Rattle.tr_words.specs.Answers.{texts}
use Rattle.tr_reader.specs.Adding.{is_at_steps, with_steps}
use Rattle.tr_script.specs.Apart.{TakesStep}
use Rattle.tr_script.proofs.LineLemmas.{IsReadTo}
use Rattle.tr_chunks.specs.Chunks.{Made, AreChunks, AreMarks, IsBehind, IsChunk, MakeSteps, TakesLines, lines_from}

-- so many chunks have all lines, and begin within them
spans : (count long size : ℕ) → 0 < size → count ≡ long / size + min 1 (long % size) → (long ≤ count * size) × (count * size < long + size)
spans count long size some is =
    let q = long / size in
    let r = long % size in
    let whole : q * size + r ≡ long = div-add-mod' long size in
    let below : r < size = mod-lt long some in
    ⊎_elim
    (λ none. let e : count ≡ q = omega arith in let w = ap (λ n. n * size) e in (omega arith, omega arith))
    (λ rest.
    let e : count ≡ q + 1 = omega arith in
    let w = ap (λ n. n * size) e ∙ add-mul q 1 size in
    let o = one-mul size in
    (omega arith, omega arith))
    (eq-zero-or-pos r)

-- a chunk ends before the next begins
below : (k count size : ℕ) → k < count → k * size + size ≤ count * size
below k count size lt = let m = mul-le-mul_right size lt in let s = suc-mul k size in omega arith

-- the texts of a chunk of references
texts_take : (n : ℕ) (ps : List (Bor (List ℕ))) → texts (take n ps) ≡ take n (texts ps)
texts_take zero ps = refl
texts_take (suc n) [] = refl
texts_take (suc n) (p ∷ ps) = ap (λ (ts : List (List ℕ)). p.now ∷ ts) (texts_take n ps)

texts_drop : (n : ℕ) (ps : List (Bor (List ℕ))) → texts (drop n ps) ≡ drop n (texts ps)
texts_drop zero ps = refl
texts_drop (suc n) [] = refl
texts_drop (suc n) (p ∷ ps) = texts_drop n ps

pub texts_chunk : (from n : ℕ) (ps : List (Bor (List ℕ))) → texts (take n (drop from ps)) ≡ take n (drop from (texts ps))
texts_chunk from n ps = texts_take n (drop from ps) ∙ ap (λ (ts : List (List ℕ)). take n ts) (texts_drop from ps)

-- they are as many as the references
pub many_texts : (ps : List (Bor (List ℕ))) → length (texts ps) ≡ length ps
many_texts ps = length-map ps (λ (p : Bor (List ℕ)). p.now)

-- the texts of some references and of one more
pub texts_more : (ps : List (Bor (List ℕ))) (p : Bor (List ℕ)) → texts (ps ++ p ∷ []) ≡ texts ps ++ p.now ∷ []
texts_more [] p = refl
texts_more (q ∷ ps) p = ap (λ (ts : List (List ℕ)). q.now ∷ ts) (texts_more ps p)

-- no step more
with_nothing : (c : SoFar) → with_steps c [] ≡ c
with_nothing c = rw (append-nil c.part.steps) refl

-- no line makes no step
pub none_made : (c : SoFar) (n : ℕ) → MakeSteps c n [] []
none_made c n = record {
  fault = λ before later. rw (append-nil before, add-zero n) refl;
  script = λ before. rw (append-nil before) refl;
  playable = All-nil (IsPlayable (nodes_so_far c));
}

module _ (c : SoFar) where
  -- the first fault of lines behind these steps
  fault_from : Made → ℕ → List (List ℕ) → Option Refusal
  fault_from before n lines = first_bad_line (with_steps c before) n lines

  -- a line more
  pub line_made : (n k : ℕ) (lines : List (List ℕ)) (line : List ℕ) (old new : Made) →
      MakeSteps c n lines old → k ≡ n + length lines → TakesStep c k line old new → MakeSteps c n (lines ++ line ∷ []) new
  unfolding fault_from
  line_made n k lines line old new made at step =
      let end : k + 1 ≡ n + length (lines ++ line ∷ []) = omega (arith, length-append lines (line ∷ []), at) in
      record {
        fault = λ before later.
            let one : fault_from (before ++ old) k (line ∷ later) ≡ fault_from (before ++ new) (k + 1) later =
            rw (step.fault before, step.script before) refl in
            ap (fault_from before n) (append_assoc lines (line ∷ []) later) ∙ made.fault before (line ∷ later)
            ∙ ap (λ m. fault_from (before ++ old) m (line ∷ later)) (sym at) ∙ one ∙ ap (λ m. fault_from (before ++ new) m later) end;
        script = λ before.
            after_all_lines-append (with_steps c before) lines (line ∷ []) ∙ ap (λ (s : SoFar). after_line s line) (made.script before) ∙ step.script before;
        playable = step.playable made.playable;
      }

  -- and lines behind lines
  pub both_made : (n k : ℕ) (lines more : List (List ℕ)) (made then : Made) →
      MakeSteps c n lines made → k ≡ n + length lines → MakeSteps c k more then → MakeSteps c n (lines ++ more) (made ++ then)
  unfolding fault_from
  both_made n k lines more made then a at b =
      let end : k + length more ≡ n + length (lines ++ more) = omega (arith, length-append lines more, at) in
      record {
        fault = λ before later.
            ap (fault_from before n) (append_assoc lines more later) ∙ a.fault before (more ++ later)
            ∙ ap (λ m. fault_from (before ++ made) m (more ++ later)) (sym at) ∙ b.fault (before ++ made) later
            ∙ ap₂ (λ s m. fault_from s m later) (append_assoc before made then) end;
        script = λ before.
            after_all_lines-append (with_steps c before) lines more ∙ ap (λ (s : SoFar). after_all_lines s more) (a.script before)
            ∙ b.script (before ++ made) ∙ ap (λ (xs : Made). with_steps c xs) (append_assoc before made then);
        playable = All-append (IsPlayable (nodes_so_far c)) made then a.playable b.playable;
      }

-- lists, and one more of them
joined_more : {A : Type 0} (lists : List (List A)) (xs : List A) → joined (lists ++ xs ∷ []) ≡ joined lists ++ xs
joined_more [] xs = append-nil xs
joined_more (list ∷ lists) xs = ap (λ rest. list ++ rest) (joined_more lists xs) ∙ sym (append_assoc list (joined lists) xs)

-- chunks of this length, each of which makes the steps of its place
module _ (c : SoFar) (n size : ℕ) (lines : List (List ℕ)) (chunks : List Made)
    (each : (k : ℕ) → k < length chunks → MakeSteps c (n + k * size) (slice_chunk lines size k) (get_or chunks k [])) where
  so_far : 0 < size → length chunks * size < length lines + size → (k : ℕ) → k ≤ length chunks →
      MakeSteps c n (take (k * size) lines) (joined (take k chunks))
  so_far some end zero le = rw (zero-mul size) (none_made c n)
  so_far some end (suc k) le =
      let inside : k * size ≤ length lines = omega (arith, below k (length chunks) size (omega arith)) in
      let before = so_far some end k (omega arith) in
      let at : n + k * size ≡ n + length (take (k * size) lines) = ap (λ m. n + m) (sym (length-take-le (k * size) lines inside)) in
      rw (suc-mul k size, take-add (k * size) size lines, take-suc chunks k [] (omega arith), joined_more (take k chunks) (get_or chunks k []))
      (both_made c n (n + k * size) (take (k * size) lines) (slice_chunk lines size k) (joined (take k chunks)) (get_or chunks k []) before at
      (each k (omega arith)))

  -- make all their steps
  pub chunks_made : 0 < size → length lines ≤ length chunks * size → length chunks * size < length lines + size → MakeSteps c n lines (joined chunks)
  chunks_made some ends last =
      let all = so_far some last (length chunks) (omega arith) in
      subst (λ (ls : List Made). MakeSteps c n lines (joined ls)) (take_all (length chunks) chunks (omega arith))
      (subst (λ (ts : List (List ℕ)). MakeSteps c n ts (joined (take (length chunks) chunks))) (take_all (length chunks * size) lines ends) all)

-- what was read, where each chunk was
some_at : {A : Type 0} (xs : List A) (k : ℕ) (d : A) → get_or (map (λ (x : A). Some x) xs) k (Some d) ≡ Some (get_or xs k d)
some_at [] k d = refl
some_at (x ∷ xs) zero d = refl
some_at (x ∷ xs) (suc k) d = some_at xs k d

-- where each chunk was read, all lines make the chunks' steps
module _ (c : SoFar) (n size : ℕ) (lines : List (List ℕ)) (read : List (Option Made)) (chunks : List Made)
    (are : AreChunks c n size lines read) (same : map (λ (x : Made). Some x) chunks ≡ read) where
  as_many : length chunks ≡ length read
  as_many = sym (length-map chunks (λ (x : Made). Some x)) ∙ ap (λ (xs : List (Option Made)). length xs) same

  each_chunk : (k : ℕ) → k < length chunks → MakeSteps c (n + k * size) (slice_chunk lines size k) (get_or chunks k [])
  each_chunk k lt =
      subst (λ (o : Option Made). IsChunk c (n + k * size) (slice_chunk lines size k) o)
      (ap (λ (xs : List (Option Made)). get_or xs k (Some [])) (sym same) ∙ some_at chunks k [])
      (are.each k (Some []) (omega (arith, as_many)))

  pub all_made : 0 < size → MakeSteps c n lines (joined chunks)
  all_made some = chunks_made c n size lines chunks each_chunk some (rw as_many are.all) (rw as_many are.last)

  pub all_playable : All (λ (steps : Made). All (IsPlayable (nodes_so_far c)) steps) chunks
  all_playable =
      All-from_get_or (λ (steps : Made). All (IsPlayable (nodes_so_far c)) steps) chunks [] (λ k lt. (each_chunk k lt).playable)

-- of these chunks, behind the script so far, some are added, and the rest are left
pub record IsAdding (first now : SoFar) (all done rest : List Made) : Type 0 where
  pub added : now ≡ with_steps first (joined done)
  pub place : is_at_steps first.place ≡ true
  pub playable : All (λ (steps : Made). All (IsPlayable (nodes_so_far first)) steps) rest
  pub whole : done ++ rest ≡ all

module _ (first now : SoFar) (all done rest : List Made) (adding : IsAdding first now all done rest) where
  pub still_at_steps : is_at_steps now.place ≡ true
  still_at_steps = rw adding.added adding.place

  pub next_playable : (chunk : Made) (later : List Made) → rest ≡ chunk ∷ later →
      All (IsPlayable (nodes_so_far now)) chunk
  next_playable chunk later is =
      let P : Made → Type 0 = λ steps. All (IsPlayable (nodes_so_far first)) steps in
      rw adding.added (All-head P chunk later (All-same P (chunk ∷ later) rest (sym is) adding.playable))

  -- a chunk more is added
  pub chunk_added : (chunk : Made) (later : List Made) (new : SoFar) → rest ≡ chunk ∷ later →
      new ≡ with_steps now chunk → IsAdding first new all (done ++ chunk ∷ []) later
  chunk_added chunk later new is added =
      let P : Made → Type 0 = λ steps. All (IsPlayable (nodes_so_far first)) steps in
      record {
        added = added ∙ ap (λ (s : SoFar). with_steps s chunk) adding.added
            ∙ rw (joined_more done chunk, append_assoc first.part.steps (joined done) chunk) refl;
        place = adding.place;
        playable = All-rest P chunk later rest is adding.playable;
        whole = append_assoc done (chunk ∷ []) later ∙ ap (λ (xs : List Made). done ++ xs) (sym is) ∙ adding.whole;
      }

  -- all are added
  pub all_added : rest ≡ [] → now ≡ with_steps first (joined all)
  all_added none =
      let same : done ≡ all = sym (append-nil done) ∙ ap (λ (xs : List Made). done ++ xs) (sym none) ∙ adding.whole in
      adding.added ∙ ap (λ (xs : List Made). with_steps first (joined xs)) same

pub none_added : (first now : SoFar) (all rest : List Made) → now ≡ first → is_at_steps first.place ≡ true →
    All (λ (steps : Made). All (IsPlayable (nodes_so_far first)) steps) all → rest ≡ all → IsAdding first now all [] rest
none_added first now all rest same place playable is = record {
  added = same ∙ sym (with_nothing first);
  place = place;
  playable = rw is playable;
  whole = is;
}

-- ---- the lines of one chunk

-- the first i lines are read, and make these steps; the rest has the others
pub record IsReading (c : SoFar) (n : ℕ) (bytes rest : List ℕ) (i : ℕ) (made : Made) : Type 0 where
  pub make : MakeSteps c n (take i (lines_of bytes)) made
  pub left : lines_of rest ≡ drop i (lines_of bytes)

pub none_read : (c : SoFar) (n : ℕ) (bytes : List ℕ) → IsReading c n bytes bytes 0 []
none_read c n bytes = record { make = none_made c n; left = refl }

-- lines whose first one is known are some
inside : (all : List (List ℕ)) (i : ℕ) (line : List ℕ) (later : List (List ℕ)) → drop i all ≡ line ∷ later → i < length all
inside all i line later at =
    let long : length (drop i all) ≡ length (line ∷ later) = ap (λ (ts : List (List ℕ)). length ts) at in
    omega (arith, length-drop i all, long)

-- a line more is read
pub next_read : (c : SoFar) (n : ℕ) (bytes rest behind line : List ℕ) (i : ℕ) (old new : Made) → IsReading c n bytes rest i old →
    lines_of rest ≡ line ∷ lines_of behind → TakesStep c (n + i) line old new → IsReading c n bytes behind (i + 1) new
next_read c n bytes rest behind line i old new reading is step =
    let all = lines_of bytes in
    let at : drop i all ≡ line ∷ lines_of behind = sym reading.left ∙ is in
    let within = inside all i line (lines_of behind) at in
    let one : take (i + 1) all ≡ take i all ++ line ∷ [] = take-add i 1 all ∙ ap (λ (ts : List (List ℕ)). take i all ++ take 1 ts) at in
    let long : n + i ≡ n + length (take i all) = ap (λ (m : ℕ). n + m) (sym (length-take-le i all (omega (arith, within)))) in
    record {
      make = rw one (line_made c n (n + i) (take i all) line old new reading.make long step);
      left = sym (sym (drop-drop 1 i all) ∙ ap (λ (ts : List (List ℕ)). drop 1 ts) at);
    }

-- no bytes have no lines
no_lines : (rest : List ℕ) → length rest ≡ 0 → lines_of rest ≡ []
unfolding lines_of
no_lines [] none = refl
no_lines (b ∷ rest) none = absurd (omega (arith, none))

-- all of the first `count` lines are read
pub count_read : (c : SoFar) (n : ℕ) (bytes rest : List ℕ) (i count : ℕ) (made : Made) → IsReading c n bytes rest i made → i ≡ count →
    MakeSteps c n (take count (lines_of bytes)) made
count_read c n bytes rest i count made reading is = rw (sym is) reading.make

-- and where no byte is left
pub rest_read : (c : SoFar) (n : ℕ) (bytes rest : List ℕ) (i count : ℕ) (made : Made) → IsReading c n bytes rest i made → i ≤ count → length rest ≡ 0 →
    MakeSteps c n (take count (lines_of bytes)) made
rest_read c n bytes rest i count made reading le none =
    let all = lines_of bytes in
    let left : drop i all ≡ [] = sym reading.left ∙ no_lines rest none in
    let long : length (drop i all) ≡ length {A = List ℕ} [] = ap (λ (ts : List (List ℕ)). length ts) left in
    let short : length all ≤ i = omega (arith, length-drop i all, long) in
    let same : take i all ≡ take count all = take_all i all short ∙ sym (take_all count all (omega (arith, short, le))) in
    rw (sym same) reading.make

-- ---- the lines at marks

-- the lines from the first of some references on
pub first_lines : (ps : List (Bor (List ℕ))) (d : Bor (List ℕ)) → 1 ≤ length ps → lines_from (texts ps) ≡ lines_of (get_or ps 0 d).now
first_lines [] d some = absurd (omega (arith, some))
first_lines (p ∷ ps) d some = refl

-- and from the mark of this number on
lines_at : (ts : List (List ℕ)) (k n : ℕ) → k < length ts → 0 < n → lines_from (take n (drop k ts)) ≡ lines_of (get_or ts k [])
lines_at ts k zero lt some = absurd (omega (arith, some))
lines_at ts k (suc n) lt some = rw (drop-cons ts k [] lt) refl

-- some of some lines
take_less : {A : Type 0} (m n p : ℕ) (xs : List A) → p ≡ min m n → take m (take n xs) ≡ take p xs
take_less m n p xs is =
    ⊎_elim
    (λ le. let e : p ≡ m = omega (arith, is, le) in take-take m n xs le ∙ ap (λ (k : ℕ). take k xs) (sym e))
    (λ ge.
    let e : p ≡ n = omega (arith, is, ge) in
    let short : length (take n xs) ≤ m = omega (arith, length-take n xs, ge) in
    take_all m (take n xs) short ∙ ap (λ (k : ℕ). take k xs) (sym e))
    (le-or-ge m n)
  where
    le-or-ge : (m n : ℕ) → (m ≤ n) ⊎ (n ≤ m)
    le-or-ge m n = grind arith

-- chunks of so many marks
module _ (count size : ℕ) (marks : List (Bor (List ℕ))) (are : AreMarks count (texts marks)) where
  all : List (List ℕ)
  all = lines_from (texts marks)

  as_many_marks : length (texts marks) ≡ length marks
  as_many_marks = many_texts marks

  -- where the marks of a chunk begin there are its lines
  pub chunk_lines : (k : ℕ) → 0 < size → k * size < length marks →
      take (min (length (take size (drop (k * size) marks)) * 250) (count - k * size * 250))
      (lines_from (texts (take size (drop (k * size) marks))))
      ≡ slice_chunk (take count (lines_from (texts marks))) (size * 250) k
  unfolding all
  chunk_lines k some lt =
      let at = k * size in
      let from = at * 250 in
      let long = length (take size (drop at marks)) in
      let among : at < length (texts marks) = omega (arith, lt, as_many_marks) in
      let same : lines_from (texts (take size (drop at marks))) ≡ drop from all =
      ap lines_from (texts_chunk at size marks) ∙ lines_at (texts marks) at size among some ∙ are.each at among in
      let before : from + (count - from) ≡ count = omega (arith, among, are.last) in
      let behind : drop from (take count all) ≡ take (count - from) (drop from all) =
      ap (λ (m : ℕ). drop from (take m all)) (sym before) ∙ drop-take from (count - from) all in
      let fewer : min (long * 250) (count - from) ≡ min (size * 250) (count - from) =
      omega (arith, length-take size (drop at marks), length-drop at marks, are.all, as_many_marks) in
      let cut : take (size * 250) (take (count - from) (drop from all)) ≡ take (min (long * 250) (count - from)) (drop from all) =
      take_less (size * 250) (count - from) (min (long * 250) (count - from)) (drop from all) fewer in
      let place : from ≡ k * (size * 250) = mul_assoc k size 250 in
      ap (λ (ts : List (List ℕ)). take (min (long * 250) (count - from)) ts) same ∙ sym cut
      ∙ ap (λ (ts : List (List ℕ)). take (size * 250) ts) (sym behind) ∙ ap (λ (m : ℕ). take (size * 250) (drop m (take count all))) place

  pub chunks_all : (chunks : ℕ) → 0 < size → chunks ≡ length marks / size + min 1 (length marks % size) →
      length (take count (lines_from (texts marks))) ≤ chunks * (size * 250)
  chunks_all chunks some is =
      let ends = spans chunks (length marks) size some is in
      let long : length (take count (lines_from (texts marks))) ≡ count = length-take-le count (lines_from (texts marks)) are.within in
      let place : chunks * size * 250 ≡ chunks * (size * 250) = mul_assoc chunks size 250 in
      omega (arith, ends.0, are.all, as_many_marks, long, place)

  pub chunks_last : (chunks : ℕ) → 0 < size → chunks ≡ length marks / size + min 1 (length marks % size) →
      chunks * (size * 250) < length (take count (lines_from (texts marks))) + size * 250
  chunks_last chunks some is =
      let ends = spans chunks (length marks) size some is in
      let long : length (take count (lines_from (texts marks))) ≡ count = length-take-le count (lines_from (texts marks)) are.within in
      let place : chunks * size * 250 ≡ chunks * (size * 250) = mul_assoc chunks size 250 in
      omega (arith, ends.1, are.last, as_many_marks, long, place)

-- ---- marks

pub none_behind : (bytes : List ℕ) → IsBehind bytes 0 bytes
none_behind bytes = record { lines = refl; shorter = omega arith }

-- lines behind lines
pub more_behind : (bytes : List ℕ) (count : ℕ) (behind : List ℕ) (more : ℕ) (next : List ℕ) → IsBehind bytes count behind → IsBehind behind more next →
    IsBehind bytes (count + more) next
more_behind bytes count behind more next one other = record {
  lines = other.lines ∙ ap (λ (ts : List (List ℕ)). drop more ts) one.lines ∙ drop-drop more count (lines_of bytes);
  shorter = omega (arith, one.shorter, other.shorter);
}

-- a line more
pub one_behind : (bytes : List ℕ) (count : ℕ) (behind line next : List ℕ) → IsBehind bytes count behind → lines_of behind ≡ line ∷ lines_of next →
    length next < length behind → IsBehind bytes (count + 1) next × (count + 1 ≤ length (lines_of bytes))
one_behind bytes count behind line next so_far is shorter =
    let one : IsBehind behind 1 next = record {
      lines = sym (ap (λ (ts : List (List ℕ)). drop 1 ts) is);
      shorter = omega (arith, shorter);
    } in
    let within = inside (lines_of bytes) count line (lines_of next) (sym so_far.lines ∙ is) in
    (more_behind bytes count behind 1 next so_far one, omega (arith, within))

-- the marks of the first `count` lines of these bytes
pub record AreMarksOf (bytes : List ℕ) (count : ℕ) (marks : List (List ℕ)) : Type 0 where
  pub within : count ≤ length (lines_of bytes)
  pub all : count ≤ length marks * 250
  pub last : length marks * 250 < count + 250
  pub each : (k : ℕ) → k < length marks → lines_of (get_or marks k []) ≡ drop (k * 250) (lines_of bytes)

pub no_marks : (bytes : List ℕ) → AreMarksOf bytes 0 []
no_marks bytes = record {
  within = omega arith;
  all = omega arith;
  last = omega arith;
  each = λ k lt. absurd (omega (arith, lt));
}

-- lines behind one mark more
pub mark_more : (bytes : List ℕ) (count more : ℕ) (behind : List ℕ) (marks : List (List ℕ)) → AreMarksOf bytes count marks →
    IsBehind bytes count behind → count ≡ length marks * 250 → 0 < more → more ≤ 250 → more ≤ length (lines_of behind) →
    AreMarksOf bytes (count + more) (marks ++ behind ∷ [])
mark_more bytes count more behind marks are reached full some most within =
    let long : length (marks ++ behind ∷ []) ≡ length marks + 1 = length-append marks (behind ∷ []) in
    let left : length (lines_of behind) ≡ length (drop count (lines_of bytes)) = ap (λ (ts : List (List ℕ)). length ts) reached.lines in
    record {
      within = omega (arith, within, left, length-drop count (lines_of bytes), are.within);
      all = omega (arith, full, long, most);
      last = omega (arith, full, long, some);
      each = λ k lt.
          ⊎_elim
          (λ before. rw (get_or_append_left marks (behind ∷ []) [] k before) (are.each k before))
          (λ last.
          let here : count ≡ k * 250 = full ∙ ap (λ (n : ℕ). n * 250) (sym last) in
          ap (λ (n : ℕ). lines_of (get_or (marks ++ behind ∷ []) n [])) last ∙ ap lines_of (get_or-append_seam marks behind [] [])
          ∙ reached.lines ∙ ap (λ (n : ℕ). drop n (lines_of bytes)) here)
          (below_or_last k (length marks) (omega (arith, long, lt)));
    }
  where
    below_or_last : (k n : ℕ) → k < n + 1 → (k < n) ⊎ (k ≡ n)
    below_or_last k n lt = grind arith

-- their first mark has all of the lines
pub marks_are : (bytes : List ℕ) (count : ℕ) (marks : List (List ℕ)) → AreMarksOf bytes count marks → AreMarks count marks
marks_are bytes count [] are =
    let none : count ≡ 0 = omega (arith, are.all) in
    record {
      within = omega (arith, none);
      all = are.all;
      last = are.last;
      each = λ k lt. absurd (omega (arith, lt));
    }
marks_are bytes count (mark ∷ marks) are =
    let same : lines_of mark ≡ lines_of bytes = are.each 0 (omega arith) in
    record {
      within = rw same are.within;
      all = are.all;
      last = are.last;
      each = λ k lt. rw same (are.each k lt);
    }

pub lines_are : (bytes : List ℕ) (count : ℕ) (marks : List (List ℕ)) → AreMarksOf bytes count marks →
    take count (lines_from marks) ≡ take count (lines_of bytes)
lines_are bytes count [] are =
    let none : count ≡ 0 = omega (arith, are.all) in
    rw none refl
lines_are bytes count (mark ∷ marks) are = ap (λ (ts : List (List ℕ)). take count ts) (are.each 0 (omega arith))

-- ---- the lines that are read so far

-- so many lines more are read
pub lines_read : (bytes rest behind : List ℕ) (number count : ℕ) (lines : List (List ℕ)) (c new : SoFar) → IsReadTo bytes rest number c →
    IsBehind rest count behind → count ≤ length (lines_of rest) → lines ≡ take count (lines_of rest) → TakesLines c number lines new →
    IsReadTo bytes behind (number + count) new
lines_read bytes rest behind number count lines c new read is within same taken =
    let cut : lines_of rest ≡ lines ++ lines_of behind =
    sym (take-append-drop count (lines_of rest)) ∙ ap₂ (λ (xs ys : List (List ℕ)). xs ++ ys) (sym same) (sym is.lines) in
    let long : length lines ≡ count =
    ap (λ (ts : List (List ℕ)). length ts) same ∙ length-take-le count (lines_of rest) within in
    let none : c ≡ with_steps c [] = sym (with_nothing c) in
    rw taken.script record {
      fault = read.fault ∙ ap₂ (λ (s : SoFar) (ts : List (List ℕ)). first_bad_line s number ts) none cut ∙ taken.make.fault [] (lines_of behind)
          ∙ ap (λ (n : ℕ). first_bad_line (with_steps c taken.made) (number + n) (lines_of behind)) long;
      script = read.script ∙ ap₂ (λ (s : SoFar) (ts : List (List ℕ)). after_all_lines s ts) none cut
          ∙ after_all_lines-append (with_steps c []) lines (lines_of behind)
          ∙ ap (λ (s : SoFar). after_all_lines s (lines_of behind)) (taken.make.script []);
      few = omega (arith, read.few, is.shorter);
    }
