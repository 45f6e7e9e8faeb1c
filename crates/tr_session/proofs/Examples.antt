-- Worked examples of what a session answers.
use Rattle.std.proofs.Common.{◌≡◌, true, false, [], ◌∷◌, Some, None, refl}
use Rattle.std.specs.Prelude.{codes}
use Rattle.std.specs.Fmt.{digits}
use Rattle.tr_grammar.specs.declared.Code.TheVariants.{B10}
use Rattle.tr_grammar.specs.declared.Place.TheVariants as places
use Rattle.tr_grammar.specs.declared.Meaning.TheVariants as meanings
use Rattle.tr_grammar.specs.States.{nothing_yet}
use Rattle.tr_journal.specs.declared.Query.TheVariants.{Peek}
use Rattle.tr_session.specs.declared.requests.Request.TheVariants.{Save, Cut, Quit, Script}
use Rattle.tr_session.specs.Lines.{request_of, needs_sync, last_lines}
use Rattle.tr_session.specs.Answers.{text, saved, bytes, refused, no_memory, answer_bytes}
use Rattle.tr_session.specs.Arrivals.{whole_lines}
use Rattle.tr_session.specs.Cuts.{open_stream, no_cut}

-- ---- the session's words, which have no more words behind them

saves : request_of (codes "!save") ≡ Save
saves = refl

cuts : request_of (codes "!cut") ≡ Cut
cuts = refl

quits : request_of (codes "!quit") ≡ Quit
quits = refl

says : request_of (codes "!cut ") ≡ Script
says = refl

-- ---- answers

nothing_follows : answer_bytes (text []) ≡ codes "ok 0\n"
unfolding digits
nothing_follows = refl

two_lines_follow : answer_bytes (text (codes "ok\nc key 5 65\n")) ≡ codes "ok 2\nok\nc key 5 65\n"
unfolding digits
two_lines_follow = refl

a_saved_script : answer_bytes (saved (codes "trestle 1\n") true) ≡ codes "ok 1 B7\ntrestle 1\n"
unfolding digits
a_saved_script = refl

a_group : answer_bytes (bytes (4 ∷ 0 ∷ 0 ∷ 0 ∷ 10 ∷ [])) ≡ codes "bytes 5\n\u{4}\0\0\0\n"
unfolding digits
a_group = refl

a_refusal : answer_bytes (refused B10) ≡ codes "refused B10\n"
unfolding digits
a_refusal = refl

no_room : answer_bytes no_memory ≡ codes "refused memory\n"
no_room = refl

-- ---- lines: what stands behind the last line feed is none yet

no_line : whole_lines (codes "dump") ≡ []
no_line = refl

two_lines : whole_lines (codes "peek\n\ndu") ≡ codes "peek" ∷ [] ∷ []
two_lines = refl

-- ---- a sync before a report behind a step, and before the end of what is saved

behind_step : needs_sync (record nothing_yet { place = places.Steps }) (Some (meanings.Report Peek)) ≡ true
behind_step = refl

in_a_gap : needs_sync (record nothing_yet { place = places.Gap }) (Some (meanings.Report Peek)) ≡ false
in_a_gap = refl

a_comment : needs_sync (record nothing_yet { place = places.Steps }) None ≡ false
a_comment = refl

saved_behind_step : last_lines (record nothing_yet { place = places.Steps }) ≡ codes "sync" ∷ codes "end" ∷ []
saved_behind_step = refl

-- ---- a stream is full with its 64th group

is_full : open_stream (record { last = None; groups = 64 }) ≡ no_cut
is_full = refl
