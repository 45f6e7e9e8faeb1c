use Rattle.std.proofs.Common.{◌≡◌, ◌*◌, true, false, not, is_ok, length, ap, ◌∙◌, arith}
use Rattle.tr_words.specs.Answers.{texts}
use Rattle.tr_chunks.proofs.ChunkLemmas.{AreMarksOf, many_texts, texts_more, mark_more, marks_are, lines_are}
use Rattle.tr_chunks.proofs.scripts.steps_ahead.Goals as goal
use Rattle.tr_chunks.proofs.scripts.steps_ahead.Goals.{else-loop-count-test, then-loop-count-test+then-lines-eq0, then-lines-eq0-via-then-lines-eq0, then-lines-eq0-via-else-lines-eq0+then-is_err, then-loop-count-test+else-lines-eq0+else-is_err+then-lines-lt-LINES_A_MARK}

pub returns-clause-marks : goal.returns-clause-marks
returns-clause-marks c =
    let bytes = c.args.bytes.now in
    let count = c.loop-count.count in
    let behind = c.loop-count.behind in
    let items = c.loop-count.marks.items in
    let reached = c.loop-count.invariant in
    let are : AreMarksOf bytes c.loop-count-test.count (texts c.loop-count-test.marks.items) =
    elim c.loop-count-test.branch [
      | else-loop-count-test w ↦ rw (w.count-is, w.marks-is) reached.marks
      | then-loop-count-test+then-lines-eq0 w ↦
          elim w.then-lines-eq0.branch [
            | then-lines-eq0-via-then-lines-eq0 v ↦ rw (w.count-is, w.marks-is, v.marks-is) reached.marks
            | then-lines-eq0-via-else-lines-eq0+then-is_err v ↦
                let failed : is_ok v.push.result ≡ false = v.is_err.ensures.negation ∙ ap not v.if-is_err.true in
                let left = rw failed at v.push.ensures.items in
                rw (w.count-is, w.marks-is, v.marks-is, left) reached.marks
          ]
      | then-loop-count-test+else-lines-eq0+else-is_err+then-lines-lt-LINES_A_MARK w ↦
          let lines = w.pass_steps-lines.result.0 in
          let made : is_ok w.push.result ≡ true = w.is_err.ensures.negation ∙ ap not w.if-is_err.false in
          let more = rw made at w.push.ensures.items in
          let full : count ≡ length (texts items) * 250 = omega (arith, reached.full, many_texts items, c.loop-count.marks.ok) in
          rw (w.count-is, w.marks-is, more, texts_more items behind)
          (mark_more bytes count lines behind.now (texts items) reached.marks reached.behind full (omega (arith, w.if-lines-eq0.false))
          (omega (arith, w.if-lines-lt-LINES_A_MARK.true)) w.pass_steps-lines.ensures.within)
    ] in (
      marks_are bytes c.loop-count-test.count (texts c.loop-count-test.marks.items) are,
      lines_are bytes c.loop-count-test.count (texts c.loop-count-test.marks.items) are,
    )
