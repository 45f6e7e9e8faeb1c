-- What a sink takes of pieces, one after another.
use Rattle.std.proofs.Common.{◌≡◌, ℕ, ◌+◌, ◌<◌, ◌≤◌, List, ◌++◌, length, take, drop, get_or, sym, ◌∙◌, ap, subst, arith}
use Rattle.std.proofs.lemmas.List.{take-append-drop}
use Rattle.std.proofs.lemmas.Grind.{flat_map-append}
use Rattle.std.proofs.lemmas.List.Folds.{length-flat_map-take}
use Rattle.tr_io.specs.declared.streams.Sink.{Ghosts}
use Rattle.tr_output.specs.declared.pieces.Piece.{Piece}
use Rattle.tr_output.specs.Pieces.{piece_text, pieces_text}
use Rattle.tr_output.specs.Sending.{Sends, HasStopped}
use Rattle.tr_output.proofs.PieceLemmas.{taken_more}
use Rattle.tr_output.proofs.SendingLemmas.{room_left, sends_twice, stopped_later, stopped_more}

-- the pieces before one, this one, and those behind it
whole_text : (pixels : List ℕ) (pieces : List Piece) (k : ℕ) (piece : Piece) → k < length pieces → piece ≡ get_or pieces k piece →
    (pieces_text pixels (take k pieces) ++ piece_text pixels piece) ++ pieces_text pixels (drop (k + 1) pieces) ≡ pieces_text pixels pieces
whole_text pixels pieces k piece within here =
    ap (λ t. t ++ pieces_text pixels (drop (k + 1) pieces)) (sym (taken_more (piece_text pixels) pieces k piece piece within (sym here)))
    ∙ sym (flat_map-append (piece_text pixels) (take (k + 1) pieces) (drop (k + 1) pieces))
    ∙ ap (λ ps. pieces_text pixels ps) (take-append-drop (k + 1) pieces)

module _ {K : Type 0} (sink : Ghosts K) (pixels : List ℕ) (pieces : List Piece) (k : ℕ) (piece : Piece) where
  -- where the pieces before one were sent, there is room for it
  pub piece_room : {a b : K} {was is : List ℕ} → k < length pieces → piece ≡ get_or pieces k piece →
      Sends sink a b was is (pieces_text pixels (take k pieces)) →
      length was + length (pieces_text pixels pieces) ≤ sink.room a → length is + length (piece_text pixels piece) ≤ sink.room b
  piece_room within here before enough =
      let part = length-flat_map-take (piece_text pixels) pieces k piece within in
      let same : length (piece_text pixels piece) ≡ length (piece_text pixels (get_or pieces k piece)) = ap (λ p. length (piece_text pixels p)) here in
      room_left sink (length (piece_text pixels piece)) before (omega (arith, part, same, enough))

  -- and then it is sent, too
  pub piece_sent : {a b c : K} {was mid is : List ℕ} → k < length pieces → piece ≡ get_or pieces k piece →
      Sends sink a b was mid (pieces_text pixels (take k pieces)) → Sends sink b c mid is (piece_text pixels piece) →
      Sends sink a c was is (pieces_text pixels (take (k + 1) pieces))
  piece_sent {a = a} {c = c} {was = was} {is = is} within here before this =
      subst (λ (t : List ℕ). Sends sink a c was is t) (sym (taken_more (piece_text pixels) pieces k piece piece within (sym here)))
      (sends_twice sink before this)

  -- or a write fails
  pub piece_stopped : {a b c : K} {was mid : List ℕ} → k < length pieces → piece ≡ get_or pieces k piece →
      Sends sink a b was mid (pieces_text pixels (take k pieces)) → sink.faults a ≤ sink.faults b →
      HasStopped sink b c mid (piece_text pixels piece) → HasStopped sink a c was (pieces_text pixels pieces)
  piece_stopped {a = a} {c = c} {was = was} within here before rising stopped =
      subst (λ (t : List ℕ). HasStopped sink a c was t) (whole_text pixels pieces k piece within here)
      (stopped_more sink (pieces_text pixels (drop (k + 1) pieces)) (stopped_later sink before rising stopped))
