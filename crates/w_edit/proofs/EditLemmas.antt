-- Lines that take the place of others, and commands that stand before others in a batch.
use Rattle.std.proofs.Common.{◌≡◌, ℕ, ◌+◌, ◌-◌, ◌≤◌, ◌<◌, List, [], ◌∷◌, ◌++◌, length, take, drop, set, sym, ap, subst, ◌∙◌, refl, arith, append_assoc, length-append, length-take, length-set, take_all}
use Rattle.std.specs.List.{insert}
use Rattle.std.specs.Prelude.{Result, IfOk}
use Rattle.std.proofs.lemmas.List.{set-append_left, take-take, take-append-drop}
use Rattle.std.proofs.lemmas.Grind.{take-set_at}
use Rattle.std.proofs.lemmas.Result.{IfOk-weaker}
use Rattle.std.proofs.Math.Seq.{take-append_seam}
use Rattle.tr_paint.specs.declared.Paint.{Paint}
use Rattle.w_edit.specs.declared.changes.Edit.{Edit}
use Rattle.w_edit.specs.declared.changes.Edit.TheVariants.{Line, Joined, Broken}
use Rattle.w_edit.specs.Contents.{Contents, IsContents, below, with_lines}
use Rattle.w_edit.specs.Edits.{IsEditOf, MakesContents, edited_contents}

-- the last line of those that stand before others is another
pub last_set : (xs rest : List (List ℕ)) (n : ℕ) (line : List ℕ) → n < length xs →
    set (take (n + 1) xs ++ rest) n line ≡ take n xs ++ line ∷ rest
last_set xs rest n line within =
    set-append_left front rest n line (omega (arith, long))
    ∙ ap (λ (zs : List (List ℕ)). zs ++ rest) whole
    ∙ append_assoc (take n xs) (line ∷ []) rest
  where
    front : List (List ℕ)
    front = take (n + 1) xs

    long : length front ≡ n + 1
    long = omega (arith, length-take (n + 1) xs)

    whole : set front n line ≡ take n xs ++ line ∷ []
    whole =
        sym (take_all (n + 1) (set front n line) (omega (arith, long, length-set front n line)))
        ∙ take-set_at front n (n + 1) line refl (omega (arith, long))
        ∙ ap (λ (zs : List (List ℕ)). zs ++ line ∷ []) (take-take n (n + 1) xs (omega arith))

-- the caret's line is another
pub line_made : (x y : Contents) (edit : Edit) (line : List ℕ) (column : ℕ) → x ≡ y → edit ≡ Line line column →
    x.row < length x.lines → with_lines x (set x.lines x.row line) x.row column ≡ edited_contents y edit
line_made x y edit line column same is within =
    ap (λ (lines : List (List ℕ)). with_lines x lines x.row column)
    (ap (λ (lines : List (List ℕ)). set lines x.row line) (sym (take-append-drop (x.row + 1) x.lines))
    ∙ last_set x.lines (below x) x.row line within)
    ∙ ap (λ (z : Contents). edited_contents z (Line line column)) same
    ∙ ap (λ (e : Edit). edited_contents y e) (sym is)

-- the caret's line is gone, and the one above it is another
pub joined_made : (x y : Contents) (edit : Edit) (rest : List (List ℕ)) (line : List ℕ) (column : ℕ) →
    x ≡ y → edit ≡ Joined line column → IsEditOf y edit → x.row < length x.lines →
    rest ≡ take x.row x.lines ++ drop (x.row + 1) x.lines →
    with_lines x (set rest (x.row - 1) line) (x.row - 1) column ≡ edited_contents y edit
joined_made x y edit rest line column same is can within gone =
    ap (λ (lines : List (List ℕ)). with_lines x lines (x.row - 1) column)
    (ap (λ (lines : List (List ℕ)). set lines (x.row - 1) line)
    (gone ∙ ap (λ (n : ℕ). take n x.lines ++ below x) (omega (arith, some)))
    ∙ last_set x.lines (below x) (x.row - 1) line (omega (arith, within)))
    ∙ ap (λ (z : Contents). edited_contents z (Joined line column)) same
    ∙ ap (λ (e : Edit). edited_contents y e) (sym is)
  where
    later : 0 < y.row
    later = subst (λ (e : Edit). IsEditOf y e) is can

    some : 0 < x.row
    some = subst (λ (z : Contents). 0 < z.row) (sym same) later

-- one line is behind the caret's, and the caret's is another
pub broken_made : (x y : Contents) (edit : Edit) (more : List (List ℕ)) (front back : List ℕ) →
    x ≡ y → edit ≡ Broken front back → x.row < length x.lines → more ≡ insert x.lines (x.row + 1) back →
    with_lines x (set more x.row front) (x.row + 1) 0 ≡ edited_contents y edit
broken_made x y edit more front back same is within come =
    ap (λ (lines : List (List ℕ)). with_lines x lines (x.row + 1) 0)
    (ap (λ (lines : List (List ℕ)). set lines x.row front) come ∙ last_set x.lines (back ∷ below x) x.row front within)
    ∙ ap (λ (z : Contents). edited_contents z (Broken front back)) same
    ∙ ap (λ (e : Edit). edited_contents y e) (sym is)

-- commands stay at the front of a batch that grows, where those that it has then stay at the front of more
pub front_stays : (old mid new more : List Paint) → mid ≡ old ++ more → take (length mid) new ≡ mid → take (length old) new ≡ old
front_stays old mid new more grown stays =
    let long : length old ≤ length mid = omega (arith, ap (λ (ps : List Paint). length ps) grown, length-append old more) in
    sym (take-take (length old) (length mid) new long)
    ∙ ap (λ (ps : List Paint). take (length old) ps) (stays ∙ grown)
    ∙ take-append_seam old more

-- an edit that makes a content is one that leaves a content
pub contents_made : {E : Type 0} (x y : Contents) (r : Result Edit E) → IsContents y → IfOk r (λ edit. MakesContents x edit y) →
    IfOk r (λ edit. IsContents (edited_contents x edit))
contents_made x y r is made =
    IfOk-weaker r (λ edit. MakesContents x edit y) (λ edit. IsContents (edited_contents x edit)) (λ edit m. subst IsContents (sym m.1) is) made
