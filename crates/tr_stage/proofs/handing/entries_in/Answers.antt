use Rattle.std.proofs.Common.{◌≡◌, ◌<◌, ◌+◌, ◌∷◌, [], ◌++◌, length, take, get_or, sym, ap, ap₂, ◌∙◌, arith}
use Rattle.std.proofs.lemmas.Iterator.Adapters.{YieldsList-from_vec}
use Rattle.std.proofs.lemmas.Iterator.Consumers.{YieldsList-turn}
use Rattle.std.proofs.lemmas.List.{length_push}
use Rattle.tr_machine.specs.CommandSteps.{act_entries}
use Rattle.tr_stage.proofs.HandingLemmas.{entries_pushed}
use Rattle.tr_stage.proofs.handing.entries_in.Goals as goal

pub loop-cmd-preserved : goal.loop-cmd-preserved
loop-cmd-preserved g c =
    let gives = c.into_iter-cmd-iterator.ensures.into_iter_gives in
    let items = YieldsList-from_vec {s = c.into_iter-cmd-iterator.result} _ gives.0 (gives.1 ∙ c.args.commands.ok.0) in
    let turn = YieldsList-turn items c.loop-cmd.yielded c.loop-cmd.cmd-iterator c.loop-cmd.yielded_by c.next.result c.next.new.self
    c.in-Some.cmd c.in-Some.is c.next.ensures.steps in
    let leaf = c.args.leaf in
    let so_far = c.loop-cmd.invariant in
    let level = c.index-levels-len.result in
    let levels = c.args.levels.now in
    let place : c.len.result ≡ length c.loop-cmd.yielded = c.len.ensures ∙ c.loop-cmd.entries.ok.0 ∙ so_far.count in
    let there : level ≡ get_or levels (length c.loop-cmd.yielded) level = rw place at c.index-levels-len.is in
    let within : length c.loop-cmd.yielded < length levels = omega (arith, turn.0, c.requires.levels.counts) in
    let more = length_push c.loop-cmd.yielded c.in-Some.cmd in
    record {
      can_next = tt;
      is_finite = tt;
      room = omega (arith, so_far.room, c.push_reserved.ensures.capacity);
      count = ap (λ es. length es) c.push_reserved.ensures.items ∙ length_push c.loop-cmd.entries.items c.entry_of.result
          ∙ ap (λ n. n + 1) so_far.count ∙ sym more;
      entries = c.push_reserved.ensures.items ∙ ap₂ (λ es e. es ++ e ∷ []) so_far.entries c.entry_of.ensures
          ∙ sym (entries_pushed leaf c.loop-cmd.yielded levels c.in-Some.cmd level within there)
          ∙ ap (λ n. act_entries leaf (c.loop-cmd.yielded ++ c.in-Some.cmd ∷ []) (take n levels)) (sym more);
    }
