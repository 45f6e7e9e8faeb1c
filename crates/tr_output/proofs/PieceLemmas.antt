-- The text of pieces, where another comes behind them and more pixels are kept.
use Rattle.std.proofs.Common.{◌≡◌, ℕ, ◌+◌, ◌-◌, ◌*◌, ◌<◌, ◌≤◌, List, [], ◌∷◌, ◌++◌, length, min, take, drop, get_or, codes, refl, sym, ◌∙◌, ap, arith, add-one, append-nil, append_assoc, length-append}
use Rattle.std.proofs.Math.Seq.{take-length, take-suc, take-append-le, drop-append-le, drop-append_seam}
use Rattle.std.proofs.lemmas.List.{length-drop, length-take}
use Rattle.std.proofs.lemmas.Grind.{flat_map-append}
use Rattle.std.proofs.lemmas.List.Elements.{All-head, All-tail, All-weaker}
use Rattle.std.specs.Prelude.{All, slice_range}
use Rattle.std.specs.List.{flat_map}
use Rattle.hex.specs.Hex.{encode_lower, lower_digits}
use Rattle.hex.proofs.HexLemmas.{length-encode_with}
use Rattle.tr_output.specs.declared.pieces.Piece.{Piece}
use Rattle.tr_output.specs.declared.pieces.Piece.TheVariants.{Bytes, Row}
use Rattle.tr_output.specs.Texts.{row_text}
use Rattle.tr_output.specs.Pieces.{IsKeptAt, IsPieceWithin, piece_text, pieces_text}

-- a range of what was kept before more came
range_grown : (pixels more : List ℕ) (start end : ℕ) → start ≤ end → end ≤ length pixels →
    slice_range (pixels ++ more) start end ≡ slice_range pixels start end
range_grown pixels more start end some within =
    let short : end - start ≤ length (drop start pixels) = omega (arith, length-drop start pixels) in
    ap (λ t. take (end - start) t) (drop-append-le start pixels more (omega (arith, some, within)))
    ∙ take-append-le (end - start) (drop start pixels) more short

-- the range of what came
pub range_new : (pixels more : List ℕ) → slice_range (pixels ++ more) (length pixels) (length pixels + length more) ≡ more
range_new pixels more =
    let many : length pixels + length more - length pixels ≡ length more = omega arith in
    ap (λ t. take (length pixels + length more - length pixels) t) (drop-append_seam pixels more) ∙ ap (λ n. take n more) many ∙ take-length more

-- the text of a piece is the same where more pixels are kept
piece_grown : (pixels more : List ℕ) (piece : Piece) → IsPieceWithin (length pixels) piece → piece_text (pixels ++ more) piece ≡ piece_text pixels piece
piece_grown pixels more (Bytes bytes) within = refl
piece_grown pixels more (Row start wide) within = ap row_text (range_grown pixels more start (start + wide) (omega arith) within.0)

pub pieces_grown : (pixels more : List ℕ) (pieces : List Piece) → All (IsPieceWithin (length pixels)) pieces →
    pieces_text (pixels ++ more) pieces ≡ pieces_text pixels pieces
pieces_grown pixels more [] all = refl
pieces_grown pixels more (piece ∷ pieces) all =
    ap (λ t. t ++ pieces_text (pixels ++ more) pieces) (piece_grown pixels more piece (All-head (IsPieceWithin (length pixels)) piece pieces all))
    ∙ ap (λ t. piece_text pixels piece ++ t) (pieces_grown pixels more pieces (All-tail (IsPieceWithin (length pixels)) piece pieces all))

-- and they are within these, too
within_more : (few many : ℕ) → few ≤ many → (piece : Piece) → IsPieceWithin few piece → IsPieceWithin many piece
within_more few many more (Bytes bytes) within = tt
within_more few many more (Row start wide) within = (omega (arith, within.0), within.1)

pub all_within_more : (few many : ℕ) (pieces : List Piece) → few ≤ many → All (IsPieceWithin few) pieces → All (IsPieceWithin many) pieces
all_within_more few many pieces more all = All-weaker (IsPieceWithin few) (IsPieceWithin many) (within_more few many more) pieces all

-- a piece more
pub one_more : (pixels : List ℕ) (pieces : List Piece) (piece : Piece) →
    pieces_text pixels (pieces ++ piece ∷ []) ≡ pieces_text pixels pieces ++ piece_text pixels piece
one_more pixels pieces piece =
    flat_map-append (piece_text pixels) pieces (piece ∷ [])
    ∙ ap (λ t. pieces_text pixels pieces ++ t) (append-nil (piece_text pixels piece))

-- a row that is kept from a place on, as one piece more
pub kept_row : (pixels : List ℕ) (pieces : List Piece) (start : ℕ) (row : List ℕ) → IsKeptAt pixels start row →
    pieces_text pixels (pieces ++ Row start (length row) ∷ []) ≡ pieces_text pixels pieces ++ row_text row
kept_row pixels pieces start row kept =
    one_more pixels pieces (Row start (length row)) ∙ ap (λ r. pieces_text pixels pieces ++ row_text r) kept.same

-- a row of which the pixels are kept now
pub new_row : (pixels : List ℕ) (pieces : List Piece) (row : List ℕ) → All (IsPieceWithin (length pixels)) pieces →
    pieces_text (pixels ++ row) (pieces ++ Row (length pixels) (length row) ∷ []) ≡ pieces_text pixels pieces ++ row_text row
new_row pixels pieces row all =
    one_more (pixels ++ row) pieces (Row (length pixels) (length row))
    ∙ ap (λ r. pieces_text (pixels ++ row) pieces ++ row_text r) (range_new pixels row)
    ∙ ap (λ t. t ++ row_text row) (pieces_grown pixels row pieces all)

-- the text of one element more
pub taken_more : {X : Type 0} (f : X → List ℕ) (xs : List X) (k : ℕ) (x d : X) → k < length xs → get_or xs k d ≡ x →
    flat_map f (take (k + 1) xs) ≡ flat_map f (take k xs) ++ f x
taken_more f xs k x d within is =
    ap (λ n. flat_map f (take n xs)) (add-one k)
    ∙ ap (flat_map f) (take-suc xs k d within)
    ∙ flat_map-append f (take k xs) (get_or xs k d ∷ [])
    ∙ ap (λ y. flat_map f (take k xs) ++ (f y ++ [])) is
    ∙ ap (λ t. flat_map f (take k xs) ++ t) (append-nil (f x))

-- how long the line of a row is
pub row_long : (pixels : List ℕ) (many start wide : ℕ) (piece : Piece) → piece ≡ Row start wide → IsPieceWithin many piece →
    length pixels ≡ many → 2 * wide + 1 ≡ length (piece_text pixels piece)
row_long pixels many start wide piece is within same =
    let here = rw is at within in
    let within : start + wide ≤ length pixels = omega (arith, here.0, same) in
    rw is (line_long pixels start wide within)
  where
    line_long : (pixels : List ℕ) (start wide : ℕ) → start + wide ≤ length pixels →
        2 * wide + 1 ≡ length (row_text (slice_range pixels start (start + wide)))
    line_long pixels start wide within =
        let row : List ℕ = slice_range pixels start (start + wide) in
        let long : length row ≡ wide = omega (arith, length-take (start + wide - start) (drop start pixels), length-drop start pixels) in
        omega (arith, long, length-append (encode_lower row) (codes "\n"), length-encode_with lower_digits row)

-- a sum that stands still, with one number more
pub still_sum : (sum more most : ℕ) → min (min sum most + more) most ≡ min (sum + more) most
still_sum sum more most = omega arith

-- how long the text is with a piece more
pub len_more : (pixels : List ℕ) (pieces : List Piece) (k : ℕ) (piece : Piece) (most : ℕ) → k < length pieces → piece ≡ get_or pieces k piece →
    min (min (length (pieces_text pixels (take k pieces))) most + length (piece_text pixels piece)) most
    ≡ min (length (pieces_text pixels (take (k + 1) pieces))) most
len_more pixels pieces k piece most within is =
    still_sum (length (pieces_text pixels (take k pieces))) (length (piece_text pixels piece)) most
    ∙ ap (λ n. min n most)
    (sym (length-append (pieces_text pixels (take k pieces)) (piece_text pixels piece))
    ∙ ap (λ t. length t) (sym (taken_more (piece_text pixels) pieces k piece piece within (sym is))))

-- the lines of the rows up to one of them, and that of this one
pub rows_more : (new mid old : List ℕ) (rows : List (List ℕ)) (v : ℕ) (row : List ℕ) → v < length rows → row ≡ get_or rows v [] →
    mid ≡ old ++ flat_map row_text (take v rows) → new ≡ mid ++ row_text row → new ≡ old ++ flat_map row_text (take (v + 1) rows)
rows_more new mid old rows v row within is so_far more =
    more
    ∙ ap (λ t. t ++ row_text row) so_far
    ∙ append_assoc old (flat_map row_text (take v rows)) (row_text row)
    ∙ ap (λ t. old ++ t) (sym (taken_more row_text rows v row [] within (sym is)))

-- the room for the pixels of the rows from v on, and from the next one on
pub room_next : (high v wide : ℕ) → v < high → (high - v) * wide ≡ (high - (v + 1)) * wide + wide
room_next high v wide less =
    let left : high - v ≡ high - (v + 1) + 1 = omega arith in
    ap (λ n. n * wide) left ∙ one_more_row (high - (v + 1)) wide
  where
    one_more_row : (left wide : ℕ) → (left + 1) * wide ≡ left * wide + wide
    one_more_row left wide = omega arith
