use Rattle.std.proofs.Common.{◌≡◌, ◌+◌, ◌≤◌, ◌<◌, ◌++◌, length, sym, ap, ◌∙◌, arith}
use Rattle.std.proofs.lemmas.List.{take-append-drop}
use Rattle.tr_mirror.specs.Readings.{Reading, cut_between}
use Rattle.tr_mirror.specs.Automata.{after_bytes, try_len}
use Rattle.tr_mirror.proofs.ReadingLemmas.{gathers, read-append, IsReading-tried}
use Rattle.tr_mirror.proofs.RecordLemmas.{gathers_shown}
use Rattle.tr_mirror.proofs.ShownLemmas.{EndsAtCut-tried}
use Rattle.tr_mirror.proofs.readers.Reader.take_part.Goals as goal

pub returns-clause-read : goal.returns-clause-read
returns-clause-read c =
    let m = c.args.self.now in
    let piece = c.args.piece.now in
    let front = c.split_at.result.0.now in
    let rest = c.split_at.result.1.now in
    let begun : c.as_slice-begun.result.now ≡ m.begun = c.as_slice-begun.ensures.value ∙ ap (λ (r : Reading). r.begun) c.self.view_is in
    let goal_len : c.try_len.result ≡ try_len m.begun = c.try_len.ensures ∙ ap try_len begun in
    let came = ap (λ l. length l) begun in
    let some : 0 < length front = omega (arith, c.split_at.ensures.front_len, c.min.ensures, c.requires.reading.short) in
    let reach : length m.begun + length front ≤ try_len m.begun = omega (arith, c.split_at.ensures.front_len, c.min.ensures, c.requires.reading.short) in
    let parts : front ++ rest ≡ piece = rw (c.split_at.ensures.front, c.split_at.ensures.back) (take-append-drop c.min.result piece) in
    ap (λ r. after_bytes r rest) (c.gather.ensures ∙ sym (gathers m front c.requires.free some reach)) ∙ sym (read-append m front rest)
    ∙ ap (λ l. after_bytes m l) parts

pub returns-clause-front : goal.returns-clause-front
returns-clause-front c =
    let m = c.args.self.now in
    let piece = c.args.piece.now in
    let front = c.split_at.result.0.now in
    let rest = c.split_at.result.1.now in
    let begun : c.as_slice-begun.result.now ≡ m.begun = c.as_slice-begun.ensures.value ∙ ap (λ (r : Reading). r.begun) c.self.view_is in
    let goal_len : c.try_len.result ≡ try_len m.begun = c.try_len.ensures ∙ ap try_len begun in
    let came = ap (λ l. length l) begun in
    let some : 0 < length front = omega (arith, c.split_at.ensures.front_len, c.min.ensures, c.requires.reading.short) in
    let reach : length m.begun + length front ≤ try_len m.begun = omega (arith, c.split_at.ensures.front_len, c.min.ensures, c.requires.reading.short) in
    let parts : front ++ rest ≡ piece = rw (c.split_at.ensures.front, c.split_at.ensures.back) (take-append-drop c.min.result piece) in
    record {
      front = front;
      parts = parts;
      some = some;
      came = gathers m front c.requires.free some reach ∙ sym c.gather.ensures;
      shown = gathers_shown m front c.requires.free some reach
          ∙ ap (λ (r : Reading). cut_between m.standing r.standing) (sym c.gather.ensures);
      ends = rw c.gather.ensures (EndsAtCut-tried m front c.requires.free c.requires.reading some reach);
    }

pub returns-clause-reading : goal.returns-clause-reading
returns-clause-reading c =
    let m = c.args.self.now in
    let front = c.split_at.result.0.now in
    let begun : c.as_slice-begun.result.now ≡ m.begun = c.as_slice-begun.ensures.value ∙ ap (λ (r : Reading). r.begun) c.self.view_is in
    let goal_len : c.try_len.result ≡ try_len m.begun = c.try_len.ensures ∙ ap try_len begun in
    let came = ap (λ l. length l) begun in
    let some : 0 < length front = omega (arith, c.split_at.ensures.front_len, c.min.ensures, c.requires.reading.short) in
    let reach : length m.begun + length front ≤ try_len m.begun = omega (arith, c.split_at.ensures.front_len, c.min.ensures, c.requires.reading.short) in
    rw c.gather.ensures (IsReading-tried m front c.requires.reading some reach)
