-- Where packed children stand.
use Rattle.std.proofs.Common.{◌≡◌, ℕ, ◌+◌, ◌-◌, ◌*◌, ◌<◌, ◌≤◌, min, pos, Bool, true, false, cond, List, [], ◌∷◌, ◌++◌, drop, length, get_or, refl, sym, ap, ◌∙◌, arith, length-append}
use Rattle.std.specs.Prelude.{All, sum_by, nat_le}
use Rattle.std.proofs.lemmas.Bool.Decides.{nat_tests}
use Rattle.std.proofs.lemmas.List.{append-nil, append_assoc, drop_more, drop_all, get_or-map, length-map}
use Rattle.std.proofs.lemmas.List.Elements.{All-nil, All-cons}
use Rattle.std.proofs.lemmas.List.Sums.{sum_by-cons, sum_by_push}
use Rattle.tr_base.specs.declared.shapes.Shapes.{Shapes}
use Rattle.tr_base.specs.Rects.{Edges, meet_of, sides_of}
use Rattle.tr_base.specs.Layouts.{turned, placed}
use Rattle.tr_base.proofs.LayoutLemmas.{greatest_by_push, turned-meet_of}
use Rattle.tr_pack.specs.declared.packs.Pen.{Pen}
use Rattle.tr_pack.specs.Cuts.{Extent, extent_of, extents, row_length, cut_from, cut}
use Rattle.tr_pack.specs.Packs.{PlaceOf, depth_of, start_of_row, start_in_row, place_in_row, row_places, all_places}
use Rattle.tr_pack.specs.Pens.{moved_for, passed}

-- ---- one more child in the last row

row_places_push : (place : PlaceOf) (rows : List (List Extent)) (row xs : List Extent) (x : Extent) →
    row_places place rows row (xs ++ x ∷ []) ≡ row_places place rows row xs ++ place rows (row ++ xs) x ∷ []
row_places_push place rows row [] x = ap (λ (r : List Extent). place rows r x ∷ []) (sym (append-nil row))
row_places_push place rows row (y ∷ ys) x =
    ap (λ (l : List Edges). place rows row y ∷ l) (row_places_push place rows (row ++ y ∷ []) ys x)
    ∙ ap (λ (r : List Extent). place rows row y ∷ (row_places place rows (row ++ y ∷ []) ys ++ place rows r x ∷ [])) (append_assoc row (y ∷ []) ys)

last_child : (place : PlaceOf) (passed rows : List (List Extent)) (row : List Extent) (x : Extent) →
    all_places place passed (rows ++ (row ++ x ∷ []) ∷ []) ≡ all_places place passed (rows ++ row ∷ []) ++ place (passed ++ rows) row x ∷ []
last_child place passed [] row x =
    append-nil (row_places place passed [] (row ++ x ∷ [])) ∙ row_places_push place passed [] row x
    ∙ ap (λ (l : List Edges). l ++ place passed row x ∷ []) (sym (append-nil (row_places place passed [] row)))
    ∙ ap (λ (rs : List (List Extent)). (row_places place passed [] row ++ []) ++ place rs row x ∷ []) (sym (append-nil passed))
last_child place passed (r ∷ rs) row x =
    ap (λ (l : List Edges). row_places place passed [] r ++ l) (last_child place (passed ++ r ∷ []) rs row x)
    ∙ ap (λ (p : List (List Extent)). row_places place passed [] r ++ (all_places place (passed ++ r ∷ []) (rs ++ row ∷ []) ++ place p row x ∷ []))
    (append_assoc passed (r ∷ []) rs)
    ∙ sym (append_assoc (row_places place passed [] r) (all_places place (passed ++ r ∷ []) (rs ++ row ∷ [])) (place (passed ++ (r ∷ rs)) row x ∷ []))

-- a row without children adds no place
empty_row : (place : PlaceOf) (passed rows : List (List Extent)) → all_places place passed (rows ++ [] ∷ []) ≡ all_places place passed rows
empty_row place passed [] = refl
empty_row place passed (r ∷ rs) = ap (λ (l : List Edges). row_places place passed [] r ++ l) (empty_row place (passed ++ r ∷ []) rs)

-- ---- the running place

start_in_row-is : (gap : ℕ) (row : List Extent) → start_in_row gap row ≡ sum_by (λ (x : Extent). x.long) row + gap * length row
start_in_row-is gap [] = omega arith
start_in_row-is gap (x ∷ row) =
    omega (arith, sum_by-cons (λ (x : Extent). x.long + gap) x row, sum_by-cons (λ (x : Extent). x.long) x row, start_in_row-is gap row)

-- a row ends behind its last child
row_length_push : (gap : ℕ) (row : List Extent) (x : Extent) → row_length gap (row ++ x ∷ []) ≡ start_in_row gap row + x.long
row_length_push gap row x =
    let before : length (row ++ x ∷ []) - 1 ≡ length row = omega (arith, length-append row (x ∷ [])) in
    omega (arith, ap (λ n. gap * n) before, sum_by_push (λ (x : Extent). x.long) row x, start_in_row-is gap row)

-- a row may begin with any child
begin_row : (room gap : ℕ) (x : Extent) (xs : List Extent) → x.long ≤ room → cut_from room gap [] (x ∷ xs) ≡ cut_from room gap (x ∷ []) xs
begin_row room gap x xs le =
    let fits : nat_le (row_length gap (x ∷ [])) room ≡ true = grind (arith, nat_tests) in
    rw fits refl

-- what is packed, and where
pub record Packing : Type 0 where
  pub place : PlaceOf
  pub room : ℕ
  pub side : ℕ
  pub gap : ℕ
  pub xs : List Extent

-- after k children: the rows before the last one, and the last row so far
pub record Stands (p : Packing) (k : ℕ) (items : List Edges) (pen : Pen) : Type 0 where
  pub above : List (List Extent)
  pub row : List Extent
  pub cut : above ++ cut_from p.room p.gap row (drop k p.xs) ≡ cut_from p.room p.gap [] p.xs
  pub places : items ≡ all_places p.place [] (above ++ row ∷ [])
  pub along : pen.along ≡ start_in_row p.gap row
  pub start : pen.start ≡ start_of_row p.gap p.side above
  pub deep : pen.deep ≡ depth_of row

pub stands_first : (p : Packing) (items : List Edges) (pen : Pen) → items ≡ [] → pen ≡ record { along = 0; start = 0; deep = 0 } → Stands p 0 items pen
stands_first p items pen none is = rw (none, is) (record {
  above = [];
  row = [];
  cut = refl;
  places = refl;
  along = refl;
  start = omega arith;
  deep = refl;
})

-- the k-th child and those after it
rest_at : (xs : List Extent) (k : ℕ) (x : Extent) → k < length xs → x ≡ get_or xs k x → drop k xs ≡ x ∷ drop (k + 1) xs
rest_at xs k x lt is = drop_more xs k x lt ∙ ap (λ (y : Extent). y ∷ drop (k + 1) xs) (sym is)

-- the child stands in the row, or begins the next one
pub stands_moved : (p : Packing) (k : ℕ) (items : List Edges) (pen : Pen) (x : Extent) → k < length p.xs → x ≡ get_or p.xs k x → x.long ≤ p.room →
    Stands p k items pen →
    Stands p k items (moved_for p.room p.side p.gap pen x.long) × ((moved_for p.room p.side p.gap pen x.long).along + x.long ≤ p.room)
stands_moved p k items pen x lt is le s = by_test (nat_le (pen.along + x.long) p.room) refl
  where
    next : Pen
    next = record { along = 0; start = min (pen.start + pen.deep + p.gap) p.side; deep = 0 }

    stay : nat_le (pen.along + x.long) p.room ≡ true → pen.along + x.long ≤ p.room
    stay h = grind (arith, nat_tests)

    leave : nat_le (pen.along + x.long) p.room ≡ false → nat_le (row_length p.gap (s.row ++ x ∷ [])) p.room ≡ false
    leave h = rw (row_length_push p.gap s.row x, ← s.along) h

    begun : nat_le (pen.along + x.long) p.room ≡ false → (s.above ++ s.row ∷ []) ++ cut_from p.room p.gap [] (drop k p.xs) ≡ cut_from p.room p.gap [] p.xs
    begun h =
        let old = rw (rest_at p.xs k x lt is, leave h) at s.cut in
        let first : cut_from p.room p.gap [] (drop k p.xs) ≡ cut_from p.room p.gap (x ∷ []) (drop (k + 1) p.xs) = ap (cut_from p.room p.gap [])
        (rest_at p.xs k x lt is) ∙ begin_row p.room p.gap x (drop (k + 1) p.xs) le in
        ap (λ (l : List (List Extent)). (s.above ++ s.row ∷ []) ++ l) first
        ∙ append_assoc s.above (s.row ∷ []) (cut_from p.room p.gap (x ∷ []) (drop (k + 1) p.xs)) ∙ old

    begins : min (pen.start + pen.deep + p.gap) p.side ≡ start_of_row p.gap p.side (s.above ++ s.row ∷ [])
    begins = omega (arith, s.start, s.deep, sum_by_push (λ (row : List Extent). depth_of row + p.gap) s.above s.row)

    by_test : (b : Bool) → nat_le (pen.along + x.long) p.room ≡ b → Stands p k items (cond b pen next) × ((cond b pen next).along + x.long ≤ p.room)
    by_test true h = (s, stay h)
    by_test false h = (
      record {
        above = s.above ++ s.row ∷ [];
        row = [];
        cut = begun h;
        places = s.places ∙ sym (empty_row p.place [] (s.above ++ s.row ∷ []));
        along = refl;
        start = begins;
        deep = refl;
      },
      omega arith,
    )

-- the child has its place
pub stands_passed : (p : Packing) (k : ℕ) (items : List Edges) (pen : Pen) (x : Extent) (r : Edges) → k < length p.xs → x ≡ get_or p.xs k x →
    (s : Stands p k items pen) →
    pen.along + x.long ≤ p.room → r ≡ p.place s.above s.row x → Stands p (k + 1) (items ++ r ∷ []) (passed p.gap pen x.long x.deep)
stands_passed p k items pen x r lt is s le place =
    let fits : nat_le (row_length p.gap (s.row ++ x ∷ [])) p.room ≡ true = in_room in
    record {
      above = s.above;
      row = s.row ++ x ∷ [];
      cut = rw (rest_at p.xs k x lt is, fits) at s.cut;
      places = rw (s.places, place) (sym (last_child p.place [] s.above s.row x));
      along = omega (arith, s.along, sum_by_push (λ (x : Extent). x.long + p.gap) s.row x);
      start = s.start;
      deep = rw (s.deep) (sym (greatest_by_push (λ (x : Extent). x.deep) s.row x));
    }
  where
    in_room : nat_le (row_length p.gap (s.row ++ x ∷ [])) p.room ≡ true
    in_room = let ends = row_length_push p.gap s.row x in let at = s.along in grind (arith, nat_tests)

-- after the last child: the places are those of the cut
pub stands_last : (p : Packing) (k : ℕ) (items : List Edges) (pen : Pen) → length p.xs ≤ k → All (λ (x : Extent). x.long ≤ p.room) p.xs → Stands p k items pen →
    items ≡ all_places p.place [] (cut p.room p.gap p.xs)
stands_last p k items pen le fits s =
    let none : drop k p.xs ≡ [] = drop_all k p.xs le in
    let rows : s.above ++ s.row ∷ [] ≡ cut_from p.room p.gap [] p.xs = rw none at s.cut in
    s.places ∙ ap (all_places p.place []) rows ∙ begun p.place p.room p.gap p.xs fits
  where
    begun : (place : PlaceOf) (room gap : ℕ) (xs : List Extent) → All (λ (x : Extent). x.long ≤ room) xs →
        all_places place [] (cut_from room gap [] xs) ≡ all_places place [] (cut room gap xs)
    begun place room gap [] fits = refl
    begun place room gap (x ∷ xs) fits = ap (all_places place []) (begin_row room gap x xs (fits 0 x (omega arith)))

-- what is packed in a node
abbrev pub packing : Bool → Edges → ℕ → ℕ × ℕ → List Shapes → Packing
packing down e gap sides cs = record { place = place_in_row down e gap; room = sides.0; side = sides.1; gap = gap; xs = extents down sides.0 cs }

-- what the loop makes of the k-th child
pub extent_read : (down : Bool) (room : ℕ) (cs : List Shapes) (k : ℕ) (child : Shapes) (x : Extent) → k < length cs → child ≡ get_or cs k child →
    x ≡ extent_of down room child → x ≡ get_or (extents down room cs) k x
extent_read down room cs k child x lt is e =
    e ∙ ap (extent_of down room) is ∙ sym (get_or-map (extent_of down room) cs k child x lt)

pub length-extents : (down : Bool) (room : ℕ) (cs : List Shapes) → length (extents down room cs) ≡ length cs
length-extents down room cs = length-map cs (extent_of down room)

pub extents_fit : (down : Bool) (room : ℕ) (cs : List Shapes) → All (λ (x : Extent). x.long ≤ room) (extents down room cs)
extents_fit down room [] = All-nil (λ (x : Extent). x.long ≤ room)
extents_fit down room (c ∷ cs) = All-cons (λ (x : Extent). x.long ≤ room) (extent_of down room c) (extents down room cs) (omega arith)
    (extents_fit down room cs)

-- what the loop places is the child's place
pub place_is : (down : Bool) (e : Edges) (gap : ℕ) (sides : ℕ × ℕ) (cs : List Shapes) (k : ℕ) (items : List Edges) (pen : Pen) (x : Extent)
    (whole r : Edges) → sides ≡ sides_of (turned down e) →
    (s : Stands (packing down e gap sides cs) k items pen) →
    whole ≡ turned down (placed (turned down e) (pos pen.along) (pos pen.start) (x.long, x.deep)) → r ≡ meet_of e whole →
    r ≡ place_in_row down e gap s.above s.row x
place_is down e gap sides cs k items pen x whole r is s placed' meets =
    let side : sides.1 ≡ (sides_of (turned down e)).1 = ap (λ (p : ℕ × ℕ). p.1) is in
    let whole' = rw (s.along, s.start, side) at placed' in
    rw (meets, whole') (sym (turned-meet_of down e
    (placed (turned down e) (pos (start_in_row gap s.row)) (pos (start_of_row gap (sides_of (turned down e)).1 s.above)) (x.long, x.deep))))
