use Rattle.std.proofs.Common.{◌≡◌, ℕ, ◌∷◌, [], ◌++◌, ◌+◌, ◌-◌, List, length, take, sym, ap, ◌∙◌, rules, arith}
use Rattle.std.specs.Prelude.{vec_len}
use Rattle.std.proofs.lemmas.List.{length-append, length-map, take-map}
use Rattle.std.proofs.lemmas.Map.Text.{btree_map_updates_str}
use Rattle.std.proofs.Math.Seq.{take-append_seam}
use Rattle.tr_words.specs.Answers.{texts}
use Rattle.tr_reader.proofs.NameLemmas.{number_of-pop, numbered-pop}
use Rattle.tr_reader.proofs.names.NameTable.withdraw.Goals as goal

pub invariant_of-self : goal.invariant_of-self
invariant_of-self c =
    let old = c.self.inside.names.items in
    let name = c.args.name.now in
    let before = c.requires.last.0 in
    let all : texts old ≡ before ++ name ∷ [] = c.self.view_is ∙ c.requires.last.1 in
    let count : length old ≡ vec_len c.self.inside.names = search rules in
    let more : length old ≡ length before + 1 = sym (length-map old (λ w. w.now)) ∙ ap length all ∙ length-append before (name ∷ []) in
    let one : vec_len c.self.inside.names - 1 ≡ length before = omega arith in
    let items : texts c.pop.new.self.items ≡ before =
    rw (c.pop.ensures.rest, one) (sym (take-map (λ w. w.now) (length before) old))
    ∙ ap (λ (v : List (List ℕ)). take (length before) v) all
    ∙ take-append_seam before (name ∷ []) in
    let now = λ (q : List ℕ). btree_map_updates_str name c.self.inside.numbers c.remove.new.self _ c.remove.ensures.updates q in (
      omega (arith, c.pop.ensures.len),
      λ q. rw (now q, c.self.invariant.1 q, all, items) (number_of-pop before name q c.requires.last.2),
      rw items (numbered-pop before name c.requires.last.2 (rw all at c.self.invariant.2)),
    )
