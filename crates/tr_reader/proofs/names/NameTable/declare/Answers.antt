use Rattle.std.proofs.Common.{◌≡◌, ℕ, ◌∷◌, [], ◌++◌, List, ◌<◌, length, cond, Some, None, refl, sym, ap, ◌∙◌, rules, arith}
use Rattle.std.specs.Prelude.{bytes_eq, vec_len}
use Rattle.std.proofs.lemmas.List.{map-append, length-map}
use Rattle.std.proofs.lemmas.Map.Text.{btree_map_updates_str}
use Rattle.tr_grammar.specs.Names.{number_of}
use Rattle.tr_words.specs.Answers.{texts}
use Rattle.tr_reader.proofs.NameLemmas.{number_of-push, numbered-push}
use Rattle.tr_reader.proofs.names.NameTable.declare.Goals as goal

pub invariant_of-self-2 : goal.invariant_of-self-2
invariant_of-self-2 c =
    let old = c.self.inside.names.items in
    let name = c.args.name.now in
    let count : length old ≡ vec_len c.self.inside.names = search rules in
    let all : length c.args.self.now ≡ length old = ap length (sym c.self.view_is) ∙ length-map old (λ w. w.now) in
    let few : length c.args.self.now < 256 = c.requires.room in
    let now = λ (q : List ℕ). btree_map_updates_str name c.self.inside.numbers c.insert.new.self _ c.in_ok-insert.ensures.updates q in
    let new : number_of (texts old) name ≡ None = ap (λ (v : List (List ℕ)). number_of v name) c.self.view_is ∙ c.requires.new in
    let items : texts c.push_reserved.new.self.items ≡ texts old ++ name ∷ [] =
    rw (c.push_reserved.ensures.items, c.in_ok-reserve.ensures.items, map-append) refl in (
      omega (arith, c.push_reserved.ensures.len, c.in_ok-reserve.ensures.len),
      λ q.
          let pushed = number_of-push (texts old) name q new in
          rw (now q, c.self.invariant.1 q, items, pushed, c.len-number.ensures.count)
          (ap (λ (v : List (List ℕ)). cond (bytes_eq name q) (Some (length v)) (number_of (texts old) q)) (sym c.self.view_is)),
      rw items (numbered-push (texts old) name new c.self.invariant.2),
    )
