-- The answers that were written, and those that wait.
use Rattle.std.proofs.Common.{◌≡◌, inl, inr, ℕ, List, [], ◌∷◌, ◌++◌, None, Some, append-nil, append_assoc, refl, sym, ap, subst, ◌∙◌}
use Rattle.std.specs.Prelude.{Option}
use Rattle.std.specs.List.{flat_map}
use Rattle.std.proofs.lemmas.Grind.{flat_map-append}
use Rattle.tr_io.specs.Streams.{Grew, GrewByPrefix}
use Rattle.tr_output.proofs.SendingLemmas.{grew_on, prefix_later}
use Rattle.tr_session.specs.Answers.{Answer, answer_bytes}
use Rattle.tr_session.specs.Calls.{SinkBytes}
use Rattle.tr_session.specs.Turns.{AddsOrWrites}

-- the bytes of these answers
abbrev pub bytes_of : List Answer → List ℕ
bytes_of answers = flat_map answer_bytes answers

-- of these answers the first were written, and these bytes are those of the others
pub record Waits (to : SinkBytes) (answers : List Answer) (waiting : List ℕ) : Type 0 where
  pub done : List Answer
  pub others : List Answer
  pub are : answers ≡ done ++ others
  pub wrote : Grew to.written to.written_new (bytes_of done)
  pub wait : waiting ≡ bytes_of others

-- the bytes of one more answer
pub one_more : (answers : List Answer) (answer : Answer) → bytes_of answers ++ answer_bytes answer ≡ bytes_of (answers ++ answer ∷ [])
one_more answers answer =
    ap (λ (last : List ℕ). bytes_of answers ++ last) (sym (append-nil (answer_bytes answer)))
    ∙ sym (flat_map-append answer_bytes answers (answer ∷ []))

-- before the first answer
pub none_waits : (written : Option (List ℕ)) (waiting : List ℕ) → waiting ≡ [] →
    Waits (record { written = written; written_new = written }) [] waiting
none_waits written waiting none = record { done = []; others = []; are = refl; wrote = grew_none written; wait = none }
  where
    grew_none : (known : Option (List ℕ)) → Grew known known []
    grew_none None = refl
    grew_none (Some bytes) = ap Some (sym (append-nil bytes))

module _ (to : SinkBytes) (answers : List Answer) (waiting : List ℕ) (waits : Waits to answers waiting) where
  -- the bytes of all answers
  all_bytes : bytes_of waits.done ++ waiting ≡ bytes_of answers
  all_bytes =
      ap (λ (tail : List ℕ). bytes_of waits.done ++ tail) waits.wait
      ∙ sym (flat_map-append answer_bytes waits.done waits.others)
      ∙ ap bytes_of (sym waits.are)

  -- what waited was written
  pub all_written : (after : Option (List ℕ)) → Grew to.written_new after waiting →
      Waits (record { written = to.written; written_new = after }) answers []
  all_written after grew = record {
    done = answers;
    others = [];
    are = sym (append-nil answers);
    wrote = subst (λ (text : List ℕ). Grew to.written after text) all_bytes
        (grew_on to.written to.written_new after (bytes_of waits.done) waiting waits.wrote grew);
    wait = refl;
  }

  -- one more answer waits, or it was written with those that waited
  pub one_added : (next : SinkBytes) (answer : Answer) (now : List ℕ) → next.written ≡ to.written_new →
      AddsOrWrites waiting (answer_bytes answer) next now →
      Waits (record { written = to.written; written_new = next.written_new }) (answers ++ answer ∷ []) now
  one_added next answer now joins (inl stays) = record {
    done = waits.done;
    others = waits.others ++ answer ∷ [];
    are = ap (λ (front : List Answer). front ++ answer ∷ []) waits.are ∙ append_assoc waits.done waits.others (answer ∷ []);
    wrote = subst (λ (after : Option (List ℕ)). Grew to.written after (bytes_of waits.done)) (sym (stays.1 ∙ joins)) waits.wrote;
    wait = stays.0 ∙ ap (λ (front : List ℕ). front ++ answer_bytes answer) waits.wait ∙ one_more waits.others answer;
  }
  one_added next answer now joins (inr sent) =
      let text = answer_bytes answer in
      let grew : Grew to.written_new next.written_new (waiting ++ text) =
      subst (λ (before : Option (List ℕ)). Grew before next.written_new (waiting ++ text)) joins sent.1 in
      record {
        done = answers ++ answer ∷ [];
        others = [];
        are = sym (append-nil (answers ++ answer ∷ []));
        wrote = subst (λ (bytes : List ℕ). Grew to.written next.written_new bytes)
            (sym (append_assoc (bytes_of waits.done) waiting text) ∙ ap (λ (front : List ℕ). front ++ text) all_bytes ∙ one_more answers answer)
            (grew_on to.written to.written_new next.written_new (bytes_of waits.done) (waiting ++ text) waits.wrote grew);
        wait = sent.0;
      }

  -- some of the first bytes of what waited were written
  pub front_written : (after : Option (List ℕ)) → GrewByPrefix to.written_new after waiting → GrewByPrefix to.written after (bytes_of answers)
  front_written after grew =
      subst (λ (text : List ℕ). GrewByPrefix to.written after text) all_bytes
      (prefix_later to.written to.written_new after (bytes_of waits.done) waiting waits.wrote grew)

  -- or of what waited and of one more answer
  pub part_written : (after : Option (List ℕ)) (answer : Answer) → GrewByPrefix to.written_new after (waiting ++ answer_bytes answer) →
      GrewByPrefix to.written after (bytes_of (answers ++ answer ∷ []))
  part_written after answer grew =
      let text = answer_bytes answer in
      subst (λ (bytes : List ℕ). GrewByPrefix to.written after bytes)
      (sym (append_assoc (bytes_of waits.done) waiting text) ∙ ap (λ (front : List ℕ). front ++ text) all_bytes ∙ one_more answers answer)
      (prefix_later to.written to.written_new after (bytes_of waits.done) (waiting ++ text) waits.wrote grew)

-- where nothing waits, all answers were written
pub none_left : (to : SinkBytes) (answers : List Answer) → Waits to answers [] → Grew to.written to.written_new (bytes_of answers)
none_left to answers waits =
    subst (λ (text : List ℕ). Grew to.written to.written_new text)
    (sym (append-nil (bytes_of waits.done)) ∙ all_bytes to answers [] waits) waits.wrote
