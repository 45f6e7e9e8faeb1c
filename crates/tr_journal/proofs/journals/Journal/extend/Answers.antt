use Rattle.std.proofs.Common.{◌≡◌, List, ◌∷◌, [], ◌++◌, sym, ap, ◌∙◌, arith, append_assoc}
use Rattle.std.proofs.lemmas.List.{length_push, map-append}
use Rattle.tr_journal.specs.declared.entries.Entry.{Entry}
use Rattle.tr_journal.specs.Journals.{silent}
use Rattle.tr_journal.proofs.journals.Journal.extend.Goals as goal

-- one entry more that sent nothing is one line more
silent_push : {M : Type 0} (es : List (Entry M)) (e : Entry M) → silent (es ++ e ∷ []) ≡ silent es ++ silent (e ∷ [])
silent_push es e = map-append (λ x. record { entry = x; sent = [] }) es (e ∷ [])

pub loop-entry-preserved : goal.loop-entry-preserved
loop-entry-preserved g c = record {
  can_next = tt;
  is_finite = tt;
  room = omega (arith, c.loop-entry.invariant.room, c.push_silent.ensures.room, length_push c.loop-entry.yielded c.in-Some.entry);
  lines = c.push_silent.ensures.lines
      ∙ ap (λ ls. ls ++ silent (c.in-Some.entry ∷ [])) c.loop-entry.invariant.lines
      ∙ append_assoc c.args.self.now.lines (silent c.loop-entry.yielded) (silent (c.in-Some.entry ∷ []))
      ∙ ap (λ ls. c.args.self.now.lines ++ ls) (sym (silent_push c.loop-entry.yielded c.in-Some.entry));
}
