use Rattle.std.proofs.Common.{◌≡◌, ℕ, List, length, take, replicate, slice_range, ap, ◌∙◌, arith}
use Rattle.std.proofs.lemmas.List.{length-replicate, take-replicate}
use Rattle.hex.specs.Hex.{encode_with}
use Rattle.tr_output.specs.Texts.{row_text}
use Rattle.tr_output.proofs.lines.Line.new.Goals as goal

-- the line of no pixels is a line feed
no_pixels : (pixels text : List ℕ) → text ≡ replicate 2049 10 → take 1 text ≡ row_text (slice_range pixels 0 0)
unfolding encode_with
no_pixels pixels text is = ap (λ t. take 1 t) is ∙ take-replicate {X = ℕ} 1 2049 10 (omega arith)

pub returns : goal.returns
returns c pixels =
    let is : c.in_ok-vec.field-0.items ≡ replicate 2049 10 = c.in_ok-vec.ensures.items_if_clones_equal (λ y same. same) in
    record {
      long = ap (λ t. length t) is ∙ length-replicate {A = ℕ} 2049 10;
      wide = omega arith;
      text = no_pixels pixels c.in_ok-vec.field-0.items is;
    }
