use Rattle.std.proofs.Common.{◌≡◌, ◌+◌, ◌-◌, length, get_or, ap, ap₂, ◌∙◌, arith, inl, inr}
use Rattle.std.proofs.lemmas.Bool.{cases_lt}
use Rattle.std.proofs.lemmas.List.{get_or_append_left, get_or-append_right, get_or-take, get_or-drop}
use Rattle.tr_kernel.specs.Steps.{stepped_by}
use Rattle.tr_kernel.specs.Masks.{bit_in_cells}
use Rattle.tr_kernel.proofs.PatternLemmas.{bit_behind}
use Rattle.tr_kernel.proofs.masks.paint_cells.Goals as goal

pub returns : goal.returns
returns c k lt =
    let old = c.args.row.now in
    let n = c.min-n.result in
    let halves = c.split_at_mut-first.ensures in
    let first = c.paint-2.new.row in
    let rest = c.paint-3.new.row in
    let bit = bit_in_cells c.args.cells.now c.args.phase in
    let long : length first ≡ n = omega (arith, halves.front_len) in
    elim (cases_lt k n) [
      | inl before ↦
          let here = ap (λ l. get_or l k 0) halves.front ∙ get_or-take n old k 0 before in
          get_or_append_left first rest 0 k (omega (arith, long)) ∙ c.paint-2.ensures k (omega (arith, halves.front_len))
          ∙ ap (stepped_by c.args.steps (bit k)) here
      | inr behind ↦
          let e : n + (k - n) ≡ k = omega arith in
          let here = ap (λ l. get_or l (k - n) 0) halves.back ∙ get_or-drop n old (k - n) 0 ∙ ap (λ i. get_or old i 0) e in
          get_or-append_right first rest n k 0 long (omega arith) ∙ c.paint-3.ensures (k - n) (omega (arith, halves.back_len))
          ∙ ap₂ (stepped_by c.args.steps) (bit_behind c.args.cells.now c.args.phase n k (omega arith) (omega arith) (omega arith)) here
    ]
