-- What a sink takes in parts, and by way of a buffer.
use Rattle.std.proofs.Common.{◌≡◌, ℕ, ◌+◌, ◌≤◌, List, [], ◌++◌, length, take, drop, min, refl, sym, ◌∙◌, ap, subst, arith, append-nil, append_assoc, length-append, inl, inr}
use Rattle.std.proofs.Math.Seq.{take-add, take-append-le, take-append-add}
use Rattle.std.proofs.lemmas.List.{take_min}
use Rattle.std.specs.Prelude.{Option, Some, None, Result, Ok, Err, OnOk, OnErr}
use Rattle.tr_io.specs.declared.streams.Sink.{Ghosts}
use Rattle.tr_io.specs.Faults.{HasFault}
use Rattle.tr_io.specs.Streams.{Grew, GrewByPrefix}
use Rattle.tr_output.specs.Sending.{Sends, HasStopped}

-- what follows from two facts, where both are told of one answer
pub on_ok_both : {T E P Q R : Type 0} (r : Result T E) → (P → Q → R) → OnOk r P → OnOk r Q → OnOk r R
on_ok_both (Ok x) f p q = f p q
on_ok_both (Err e) f p q = tt

pub on_err_both : {T E P Q R : Type 0} (r : Result T E) → (P → Q → R) → OnErr r P → OnErr r Q → OnErr r R
on_err_both (Ok x) f p q = tt
on_err_both (Err e) f p q = f p q

-- one text after another
pub grew_on : (x y z : Option (List ℕ)) (one two : List ℕ) → Grew x y one → Grew y z two → Grew x z (one ++ two)
grew_on None y z one two e f = rw e at f
grew_on (Some bytes) y z one two e f = let k = rw e at f in k ∙ ap Some (append_assoc bytes one two)

-- text that a sink took in two parts
pub grew_twice : (x y z : Option (List ℕ)) (text : List ℕ) (m n : ℕ) → Grew x y (take m text) → Grew y z (take n (drop m text)) → Grew x z (take (m + n) text)
grew_twice x y z text m n e f =
    subst (λ (t : List ℕ). Grew x z t) (sym (take-add m n text)) (grew_on x y z (take m text) (take n (drop m text)) e f)

-- a front of the first of two texts is one of both
pub prefix_more : (x y : Option (List ℕ)) (one two : List ℕ) → GrewByPrefix x y one → GrewByPrefix x y (one ++ two)
prefix_more x y one two grew =
    (min grew.0 (length one), subst (λ (t : List ℕ). Grew x y t) (sym (front grew.0)) grew.1)
  where
    front : (n : ℕ) → take (min n (length one)) (one ++ two) ≡ take n one
    front n = take-append-le (min n (length one)) one two (omega arith) ∙ take_min n one

-- a text, and then a front of another, are a front of both
pub prefix_later : (x y z : Option (List ℕ)) (one two : List ℕ) → Grew x y one → GrewByPrefix y z two → GrewByPrefix x z (one ++ two)
prefix_later x y z one two e grew = (
  length one + grew.0,
  subst (λ (t : List ℕ). Grew x z t) (sym (take-append-add one two grew.0)) (grew_on x y z one (take grew.0 two) e grew.1),
)

-- a fault after the second of three counts is one after the first
pub later : (a b c : ℕ) → a ≤ b → HasFault b c → HasFault a c
later a b c rising (inl more) = inl (omega (arith, rising, more))
later a b c rising (inr last) = inr last

module _ {K : Type 0} (sink : Ghosts K) where
  -- all goes
  pub sends_all : (a b : K) (was : List ℕ) → Grew (sink.written a) (sink.written b) was → sink.room a ≤ sink.room b + length was → Sends sink a b was [] []
  sends_all a b was grew room = record { sent = was; parts = refl; grew = grew; room = room }

  -- more goes past an empty buffer
  pub sends_past : (a b : K) (is more : List ℕ) → is ≡ [] → Grew (sink.written a) (sink.written b) more →
      sink.room a ≤ sink.room b + length more → Sends sink a b is is more
  sends_past a b is more empty grew room = record { sent = more; parts = rw empty (append-nil more); grew = grew; room = room }

  -- one text after another
  pub sends_twice : {a b c : K} {was mid is one two : List ℕ} → Sends sink a b was mid one → Sends sink b c mid is two → Sends sink a c was is (one ++ two)
  sends_twice {a = a} {b = b} {c = c} {was = was} {mid = mid} {is = is} {one = one} {two = two} first second = record {
    sent = first.sent ++ second.sent;
    parts = append_assoc first.sent second.sent is
        ∙ ap (λ t. first.sent ++ t) second.parts
        ∙ sym (append_assoc first.sent mid two)
        ∙ ap (λ t. t ++ two) first.parts
        ∙ append_assoc was one two;
    grew = grew_on (sink.written a) (sink.written b) (sink.written c) first.sent second.sent first.grew second.grew;
    room = omega (arith, first.room, second.room, length-append first.sent second.sent);
  }

  -- a write failed, and more was to come
  pub stopped_more : {a b : K} {was one : List ℕ} (two : List ℕ) → HasStopped sink a b was one → HasStopped sink a b was (one ++ two)
  stopped_more {a = a} {b = b} {was = was} {one = one} two stopped = record {
    front = subst (λ (t : List ℕ). GrewByPrefix (sink.written a) (sink.written b) t) (append_assoc was one two)
        (prefix_more (sink.written a) (sink.written b) (was ++ one) two stopped.front);
    failed = stopped.failed;
  }

  -- a write failed behind others; `rising` is needed since a fault is counted from the first of them on
  pub stopped_later : {a b c : K} {was mid one two : List ℕ} → Sends sink a b was mid one → sink.faults a ≤ sink.faults b →
      HasStopped sink b c mid two → HasStopped sink a c was (one ++ two)
  stopped_later {a = a} {b = b} {c = c} {was = was} {mid = mid} {one = one} {two = two} first rising stopped = record {
    front = subst (λ (t : List ℕ). GrewByPrefix (sink.written a) (sink.written c) t)
        (sym (append_assoc first.sent mid two) ∙ ap (λ t. t ++ two) first.parts ∙ append_assoc was one two)
        (prefix_later (sink.written a) (sink.written b) (sink.written c) first.sent (mid ++ two) first.grew stopped.front);
    failed = later (sink.faults a) (sink.faults b) (sink.faults c) rising stopped.failed;
  }

  -- a write of all that the buffer held failed
  pub stopped_all : (a b : K) (was : List ℕ) → GrewByPrefix (sink.written a) (sink.written b) was → HasFault (sink.faults a) (sink.faults b) →
      HasStopped sink a b was []
  stopped_all a b was front failed = record {
    front = subst (λ (t : List ℕ). GrewByPrefix (sink.written a) (sink.written b) t) (sym (append-nil was)) front;
    failed = failed;
  }

  -- a write past an empty buffer failed
  pub stopped_past : (a b : K) (is more : List ℕ) → is ≡ [] → GrewByPrefix (sink.written a) (sink.written b) more →
      HasFault (sink.faults a) (sink.faults b) → HasStopped sink a b is more
  stopped_past a b is more empty front failed = record { front = rw empty front; failed = failed }

  -- a write failed that began with an empty buffer
  pub front_of : {a b : K} {was more : List ℕ} → was ≡ [] → HasStopped sink a b was more → GrewByPrefix (sink.written a) (sink.written b) more
  front_of empty stopped = rw empty at stopped.front

  -- there is room for more: what was sent is at most what was to be sent
  pub room_left : {a b : K} {was is one : List ℕ} (more : ℕ) → Sends sink a b was is one → length was + (length one + more) ≤ sink.room a →
      length is + more ≤ sink.room b
  room_left {was = was} {is = is} {one = one} more sends enough =
      omega (arith, sends.room, enough, ap (λ t. length t) sends.parts, length-append sends.sent is, length-append was one)
