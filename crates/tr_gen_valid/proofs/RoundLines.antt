-- The line of each round makes a step.
use Rattle.std.proofs.Common.{◌≡◌, ℕ, zero, suc, ◌+◌, ◌<◌, ◌≤◌, ◌^◌, Bool, true, false, cond, not, ℤ, pos, negsuc, neg_ℤ, ◌-ℤ◌, List, [], ◌∷◌, ◌++◌, length, is_none, refl, ap, ◌∙◌, append_assoc, length-append, le-leb, arith}
use Rattle.std.specs.Prelude.{codes, decimal, slice_index, int_le, unsigned_abs, ◌==◌}
use Rattle.std.specs.Fmt.{signed_decimal}
use Rattle.std.specs.List.{list_all}
use Rattle.std.proofs.lemmas.Bool.{and_from, or_from}
use Rattle.std.proofs.lemmas.Int.{ints}
use Rattle.std.proofs.lemmas.List.Folds.{list_all-append}
use Rattle.tr_gen.specs.Draws.{Drawing, next_state, number_below}
use Rattle.tr_gen.specs.Lines as lines
use Rattle.tr_grammar.specs.Names.{number_of}
use Rattle.tr_grammar.specs.Forms.{Field, byte, offset, edge, number, text, AddLine, AddRect, AddSwap, Undo, SetBar, SetTint, Move, Lift}
use Rattle.tr_grammar.specs.Faults.{is_misspelled}
use Rattle.tr_gen_valid.proofs.Cutting.{is_word_byte, is_word}
use Rattle.tr_gen_valid.proofs.Decimals.{decimal_is_word, signed_is_word, is_number-decimal, is_signed-decimal}
use Rattle.tr_gen_valid.proofs.Playing.{names}
use Rattle.tr_gen_valid.proofs.StepLines.{MakeStep, IsStepLine}

-- ---- words that stand for values

-- the word stands for a value of this field
record IsValue (f : Field) (w : List ℕ) : Type 0 where
  word : is_word w ≡ true
  right : is_misspelled (f, w ∷ []) ≡ false

number_value : (high n : ℕ) → n ≤ high → high < 2 ^ 32 → IsValue (number 0 high) (decimal n)
number_value high n below small = record {
  word = decimal_is_word n (omega arith);
  right = ap not (is_number-decimal 0 high n (omega arith) below (omega arith));
}

edge_value : (n : ℕ) → n ≤ 8192 → IsValue edge (decimal n)
edge_value n below = record {
  word = decimal_is_word n (omega arith);
  right = ap not (is_signed-decimal 8192 8192 (pos n) (omega arith) refl (le-leb n 8192 below));
}

at_least : (z : ℤ) → unsigned_abs z ≤ 2048 → int_le (neg_ℤ (pos 2048)) z ≡ true
at_least (pos n) small = refl
at_least (negsuc n) small = le-leb n 2047 (omega arith)

at_most : (z : ℤ) → unsigned_abs z ≤ 2048 → int_le z (pos 2048) ≡ true
at_most (pos n) small = le-leb n 2048 (omega arith)
at_most (negsuc n) small = refl

offset_value : (z : ℤ) → unsigned_abs z ≤ 2048 → IsValue offset (signed_decimal z)
offset_value z small = record {
  word = signed_is_word z (omega arith);
  right = ap not (is_signed-decimal 2048 2048 z (omega arith) (at_least z small) (at_most z small));
}

-- the name of a node
record IsNodeName (w : List ℕ) : Type 0 where
  word : is_word w ≡ true
  known : is_none (number_of names.nodes w) ≡ false

child_name : (i : ℕ) → i < 4 → IsNodeName (slice_index (codes "bkms") i ∷ [])
child_name zero h = record { word = refl; known = refl }
child_name (suc zero) h = record { word = refl; known = refl }
child_name (suc (suc zero)) h = record { word = refl; known = refl }
child_name (suc (suc (suc zero))) h = record { word = refl; known = refl }
child_name (suc (suc (suc (suc i)))) h = absurd (omega arith)

-- ---- words of each form

no_letters_make : MakeStep AddLine (codes "@t" ∷ codes "line" ∷ [])
no_letters_make = record { words = refl; spelled = refl; declared = λ x. refl; others = λ x. refl }

letters_make : (w : List ℕ) → IsValue text w → MakeStep AddLine (codes "@t" ∷ codes "line" ∷ w ∷ [])
letters_make w value = record {
  words = and_from _ _ value.word refl;
  spelled = or_from _ _ value.right refl;
  declared = λ x. refl;
  others = λ x. refl;
}

-- the four edges of a rectangle
record AreEdges (a b c d : List ℕ) : Type 0 where
  west : IsValue edge a
  east : IsValue edge b
  north : IsValue edge c
  south : IsValue edge d

rect_makes : (a b c d e : List ℕ) → AreEdges a b c d × IsValue byte e →
    MakeStep AddRect (codes "@k" ∷ codes "rect" ∷ a ∷ b ∷ c ∷ d ∷ e ∷ [])
rect_makes a b c d e h =
    let edges = h.0 in
    let tint = h.1 in
    record {
      words = and_from _ _ edges.west.word (and_from _ _ edges.east.word
          (and_from _ _ edges.north.word (and_from _ _ edges.south.word (and_from _ _ tint.word refl))));
      spelled = or_from _ _ edges.west.right (or_from _ _ edges.east.right
          (or_from _ _ edges.north.right (or_from _ _ edges.south.right (or_from _ _ tint.right refl))));
      declared = λ x. refl;
      others = λ x. refl;
    }

swap_makes : (a b c d : List ℕ) → AreEdges a b c d → MakeStep AddSwap (codes "@k" ∷ codes "swap" ∷ a ∷ b ∷ c ∷ d ∷ [])
swap_makes a b c d edges = record {
  words = and_from _ _ edges.west.word (and_from _ _ edges.east.word (and_from _ _ edges.north.word (and_from _ _ edges.south.word refl)));
  spelled = or_from _ _ edges.west.right (or_from _ _ edges.east.right (or_from _ _ edges.north.right (or_from _ _ edges.south.right refl)));
  declared = λ x. refl;
  others = λ x. refl;
}

undo_makes : MakeStep Undo (codes "@k" ∷ codes "undo" ∷ [])
undo_makes = record { words = refl; spelled = refl; declared = λ x. refl; others = λ x. refl }

bar_makes : (a b : List ℕ) → IsValue (number 0 31) a → IsValue byte b → MakeStep SetBar (codes "@m" ∷ codes "bar" ∷ a ∷ b ∷ [])
bar_makes a b bar height = record {
  words = and_from _ _ bar.word (and_from _ _ height.word refl);
  spelled = or_from _ _ bar.right (or_from _ _ height.right refl);
  declared = λ x. refl;
  others = λ x. refl;
}

tint_makes : (a : List ℕ) → IsValue byte a → MakeStep SetTint (codes "@s" ∷ codes "tint" ∷ a ∷ [])
tint_makes a value = record {
  words = and_from _ _ value.word refl;
  spelled = or_from _ _ value.right refl;
  declared = λ x. refl;
  others = λ x. refl;
}

move_makes : (w a b : List ℕ) → IsNodeName w → IsValue offset a × IsValue offset b → MakeStep Move (codes "move" ∷ w ∷ a ∷ b ∷ [])
move_makes w a b name at = record {
  words = and_from _ _ name.word (and_from _ _ at.0.word (and_from _ _ at.1.word refl));
  spelled = or_from _ _ at.0.right (or_from _ _ at.1.right refl);
  declared = λ x. or_from _ _ name.known refl;
  others = λ x. refl;
}

lift_makes : (w : List ℕ) → IsNodeName w → MakeStep Lift (codes "lift" ∷ w ∷ [])
lift_makes w name = record {
  words = and_from _ _ name.word refl;
  spelled = refl;
  declared = λ x. or_from _ _ name.known refl;
  others = λ x. refl;
}

-- ---- the line of each kind

-- each line that is made makes a step
abbrev MakesStep : Drawing (List ℕ) → Type 0
MakesStep line = (s : ℕ) → IsStepLine (line s).value

below : (k s : ℕ) → 0 < k → number_below k s < k
unfolding number_below
below k s some = omega arith

letter_byte : (i : ℕ) → i < 2 → is_word_byte (slice_index (codes "AB") i) ≡ true
letter_byte zero h = refl
letter_byte (suc zero) h = refl
letter_byte (suc (suc i)) h = absurd (omega arith)

letters_bytes : (n s : ℕ) → list_all is_word_byte (lines.letters n s).value ≡ true
letters_bytes zero s = refl
letters_bytes (suc n) s =
    let before = lines.letters n s in
    let i = number_below 2 (next_state before.state) in
    list_all-append is_word_byte before.value (slice_index (codes "AB") i ∷ [])
    ∙ and_from _ _ (letters_bytes n s) (and_from _ _ (letter_byte i (below 2 (next_state before.state) (omega arith))) refl)

length-letters : (n s : ℕ) → length (lines.letters n s).value ≡ n
length-letters zero s = refl
length-letters (suc n) s =
    let before = lines.letters n s in
    let i = number_below 2 (next_state before.state) in
    omega (arith, length-append before.value (slice_index (codes "AB") i ∷ []), length-letters n s)

letters_value : (n s : ℕ) → n ≤ 20 → IsValue text (lines.letters n s).value
letters_value n s few =
    let long = length-letters n s in
    record {
      word = and_from _ _ (le-leb (length (lines.letters n s).value) 100 (omega arith)) (letters_bytes n s);
      right = ap not (le-leb (length (lines.letters n s).value) 80 (omega arith));
    }

text_steps : MakesStep lines.text_line
text_steps s = by_test (number_below 21 (next_state s) == 0)
  where
    drawn : List ℕ
    drawn = (lines.letters (number_below 21 (next_state s)) (next_state s)).value

    by_test : (b : Bool) → IsStepLine (cond b (codes "@t line") (codes "@t line " ++ drawn))
    by_test true = record { form = AddLine; words = codes "@t" ∷ codes "line" ∷ []; text = refl; makes = no_letters_make }
    by_test false =
        let small = below 21 (next_state s) (omega arith) in
        record {
          form = AddLine;
          words = codes "@t" ∷ codes "line" ∷ drawn ∷ [];
          text = refl;
          makes = letters_make drawn (letters_value (number_below 21 (next_state s)) (next_state s) (omega arith));
        }

-- the numbers of a rectangle are those of edges
edges_values : (s0 : ℕ) →
    let s1 = next_state s0 in
    let s2 = next_state s1 in
    let s3 = next_state s2 in
    let s4 = next_state s3 in
    let west = number_below 64 s1 in
    let north = number_below 64 s3 in
    AreEdges (decimal west) (decimal (west + number_below 32 s2)) (decimal north) (decimal (north + number_below 32 s4))
edges_values s0 =
    let s1 = next_state s0 in
    let s2 = next_state s1 in
    let s3 = next_state s2 in
    let s4 = next_state s3 in
    let west = number_below 64 s1 in
    let wide = number_below 32 s2 in
    let north = number_below 64 s3 in
    let high = number_below 32 s4 in
    let west_small = below 64 s1 (omega arith) in
    let wide_small = below 32 s2 (omega arith) in
    let north_small = below 64 s3 (omega arith) in
    let high_small = below 32 s4 (omega arith) in
    record {
      west = edge_value west (omega arith);
      east = edge_value (west + wide) (omega arith);
      north = edge_value north (omega arith);
      south = edge_value (north + high) (omega arith);
    }

-- words that were put in one after another
four_words : (a b c d : List ℕ) → ((a ++ 32 ∷ b) ++ 32 ∷ c) ++ 32 ∷ d ≡ a ++ 32 ∷ (b ++ 32 ∷ (c ++ 32 ∷ d))
four_words a b c d =
    ap (λ l. l ++ 32 ∷ d) (append_assoc a (32 ∷ b) (32 ∷ c))
    ∙ append_assoc a (32 ∷ (b ++ 32 ∷ c)) (32 ∷ d)
    ∙ ap (λ l. a ++ 32 ∷ l) (append_assoc b (32 ∷ c) (32 ∷ d))

five_words : (a b c d e : List ℕ) → (((a ++ 32 ∷ b) ++ 32 ∷ c) ++ 32 ∷ d) ++ 32 ∷ e ≡ a ++ 32 ∷ (b ++ 32 ∷ (c ++ 32 ∷ (d ++ 32 ∷ e)))
five_words a b c d e =
    ap (λ l. l ++ 32 ∷ e) (four_words a b c d)
    ∙ append_assoc a (32 ∷ (b ++ 32 ∷ (c ++ 32 ∷ d))) (32 ∷ e)
    ∙ ap (λ l. a ++ 32 ∷ l) (append_assoc b (32 ∷ (c ++ 32 ∷ d)) (32 ∷ e) ∙ ap (λ l. b ++ 32 ∷ l) (append_assoc c (32 ∷ d) (32 ∷ e)))

rect_steps : MakesStep lines.rect_line
rect_steps s0 =
    let s1 = next_state s0 in
    let s2 = next_state s1 in
    let s3 = next_state s2 in
    let s4 = next_state s3 in
    let s5 = next_state s4 in
    let west = decimal (number_below 64 s1) in
    let east = decimal (number_below 64 s1 + number_below 32 s2) in
    let north = decimal (number_below 64 s3) in
    let south = decimal (number_below 64 s3 + number_below 32 s4) in
    let small = below 256 s5 (omega arith) in
    let tint = decimal (number_below 256 s5) in
    record {
      form = AddRect;
      words = codes "@k" ∷ codes "rect" ∷ west ∷ east ∷ north ∷ south ∷ tint ∷ [];
      text = ap (λ l. codes "@k rect " ++ l) (five_words west east north south tint);
      makes = rect_makes west east north south tint (edges_values s0, number_value 255 (number_below 256 s5) (omega arith) (omega arith));
    }

swap_steps : MakesStep lines.swap_line
swap_steps s0 =
    let s1 = next_state s0 in
    let s2 = next_state s1 in
    let s3 = next_state s2 in
    let s4 = next_state s3 in
    let west = decimal (number_below 64 s1) in
    let east = decimal (number_below 64 s1 + number_below 32 s2) in
    let north = decimal (number_below 64 s3) in
    let south = decimal (number_below 64 s3 + number_below 32 s4) in
    record {
      form = AddSwap;
      words = codes "@k" ∷ codes "swap" ∷ west ∷ east ∷ north ∷ south ∷ [];
      text = ap (λ l. codes "@k swap " ++ l) (four_words west east north south);
      makes = swap_makes west east north south (edges_values s0);
    }

undo_steps : MakesStep lines.undo_line
undo_steps s = record { form = Undo; words = codes "@k" ∷ codes "undo" ∷ []; text = refl; makes = undo_makes }

bar_steps : MakesStep lines.bar_line
bar_steps s0 =
    let s1 = next_state s0 in
    let s2 = next_state s1 in
    let bar = number_below 8 s1 in
    let height = number_below 64 s2 in
    let bar_small = below 8 s1 (omega arith) in
    let height_small = below 64 s2 (omega arith) in
    record {
      form = SetBar;
      words = codes "@m" ∷ codes "bar" ∷ decimal bar ∷ decimal height ∷ [];
      text = refl;
      makes = bar_makes (decimal bar) (decimal height)
          (number_value 31 bar (omega arith) (omega arith)) (number_value 255 height (omega arith) (omega arith));
    }

tint_steps : MakesStep lines.tint_line
tint_steps s0 =
    let tint = number_below 256 (next_state s0) in
    let small = below 256 (next_state s0) (omega arith) in
    record {
      form = SetTint;
      words = codes "@s" ∷ codes "tint" ∷ decimal tint ∷ [];
      text = refl;
      makes = tint_makes (decimal tint) (number_value 255 tint (omega arith) (omega arith));
    }

coordinate_value : (k s : ℕ) → 0 < k → k ≤ 256 → IsValue offset (signed_decimal (pos (number_below k s) -ℤ pos 32))
coordinate_value k s some few =
    let n = number_below k s in
    let small : n < k = below k s some in
    offset_value (pos n -ℤ pos 32) (omega (arith, ints))

drawn_name : (s : ℕ) → IsNodeName (slice_index (codes "bkms") (number_below 4 s) ∷ [])
drawn_name s = child_name (number_below 4 s) (below 4 s (omega arith))

move_steps : MakesStep lines.move_line
move_steps s0 =
    let s1 = next_state s0 in
    let s2 = next_state s1 in
    let s3 = next_state s2 in
    let name = slice_index (codes "bkms") (number_below 4 s1) ∷ [] in
    let h = signed_decimal (pos (number_below 256 s2) -ℤ pos 32) in
    let v = signed_decimal (pos (number_below 192 s3) -ℤ pos 32) in
    record {
      form = Move;
      words = codes "move" ∷ name ∷ h ∷ v ∷ [];
      text = refl;
      makes = move_makes name h v
          (drawn_name s1) (coordinate_value 256 s2 (omega arith) (omega arith), coordinate_value 192 s3 (omega arith) (omega arith));
    }

lift_steps : MakesStep lines.lift_line
lift_steps s0 =
    let name = slice_index (codes "bkms") (number_below 4 (next_state s0)) ∷ [] in
    record { form = Lift; words = codes "lift" ∷ name ∷ []; text = refl; makes = lift_makes name (drawn_name (next_state s0)) }

either : (b : Bool) (one other : Drawing (List ℕ)) → MakesStep one → MakesStep other → MakesStep (cond b one other)
either true one other first last = first
either false one other first last = last

kinds_step : (kind : ℕ) → MakesStep (lines.drawn_line kind)
unfolding lines.drawn_line
kinds_step kind =
    either (kind == 0) _ _ text_steps
    (either (kind == 1) _ _ rect_steps
    (either (kind == 2) _ _ swap_steps
    (either (kind == 3) _ _ undo_steps
    (either (kind == 4) _ _ bar_steps
    (either (kind == 5) _ _ tint_steps
    (either (kind == 6) _ _ move_steps lift_steps))))))

pub round_steps : MakesStep lines.round_line
round_steps s = kinds_step (number_below 8 (next_state s)) (next_state s)
