use Rattle.std.proofs.Common.{◌≡◌, ◌≢◌, false, true, None, is_some, refl, sym, ap, ◌∙◌, ◌++◌}
use Rattle.std.specs.Option.{option_copied}
use Rattle.tr_dump.specs.Reports.{dump_text}
use Rattle.tr_show.proofs.PassLemmas.{cut_pass, written_none, written_one}
use Rattle.tr_show.proofs.shows.show_to_cut.Goals as goal
use Rattle.tr_show.proofs.shows.show_to_cut.Goals.{then-cuts+in-Some+in_ok-to_screen+in_ok-dump, then-cuts+in_default, else-cuts}

pub returns-clause-pass : goal.returns-clause-pass
returns-clause-pass c stream is =
    let was = c.args.mirror.now in
    let new = c.feed_to_cut.new.self in
    let read = c.in_ok-count.ensures in
    cut_pass stream was.standing new c.args.bytes.now c.args.text.now c.if-cuts.text c.in_ok-count.count c.requires read.count read.some (read.stream stream is)
    (read.shows stream is)
    (elim c.if-cuts.branch [
      | then-cuts+in-Some+in_ok-to_screen+in_ok-dump w ↦
          rw w.text-is (written_one was.standing new.standing c.cuts.result c.cuts-cuts.result w.in-Some.screen.now c.args.text.now _ c.cuts.ensures.value
          c.cuts-cuts.ensures.value w.if-cuts.true (sym w.screen.ensures.value ∙ ap (λ o. option_copied o) w.in-Some.is)
          (w.in_ok-dump.ensures.ok ∙ ap (λ p. c.args.text.now ++ dump_text p) w.in_ok-to_screen.ensures))
      | then-cuts+in_default w ↦
          let more : new.standing.cuts ≢ was.standing.cuts = λ e. w.if-cuts.true (c.cuts.ensures.value ∙ e ∙ sym c.cuts-cuts.ensures.value) in
          let none : new.standing.screen ≡ None = sym w.screen.ensures.value ∙ ap (λ o. option_copied o) w.in_default.is in
          absurd (let e : false ≡ true = ap (λ o. is_some o) (sym none) ∙ (read.at_cut more).1 in cc)
      | else-cuts w ↦
          rw w.text-is (written_none was.standing new.standing c.cuts.result c.cuts-cuts.result c.args.text.now _ c.cuts.ensures.value
          c.cuts-cuts.ensures.value w.if-cuts.false refl)
    ])
