use Rattle.std.proofs.Common.{◌≡◌, ◌≤◌, length, ap, sym, ◌∙◌, rules, arith}
use Rattle.std.specs.Prelude.{vec_len}
use Rattle.std.proofs.lemmas.List.{length-map}
use Rattle.tr_grammar.specs.Names.{number_of}
use Rattle.tr_reader.proofs.NameLemmas.{number_of-most}
use Rattle.tr_reader.proofs.names.NameTable.number_of.Goals as goal

pub returns-clause-most : goal.returns-clause-most
returns-clause-most c =
    let old = c.self.inside.names.items in
    let count : length old ≡ vec_len c.self.inside.names = search rules in
    let all : length c.args.self.now ≡ length old = ap length (sym c.self.view_is) ∙ length-map old (λ w. w.now) in
    let most = c.self.invariant.0 in
    let few : length c.args.self.now ≤ 256 = omega arith in
    let is : c.copied.result ≡ number_of c.args.self.now c.args.name.now = search rules in
    number_of-most c.args.self.now c.args.name.now c.copied.result 256 is few
