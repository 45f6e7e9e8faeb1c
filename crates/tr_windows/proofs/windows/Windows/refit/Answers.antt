use Rattle.std.proofs.Common.{◌≡◌, ℕ, length, ap, sym, ◌∙◌, add-one, zero-add, arith}
use Rattle.tr_base.specs.declared.LeafId.{LeafId}
use Rattle.tr_machine.specs.States.{changed_at}
use Rattle.tr_windows.specs.Presents.{without_old_batch}
use Rattle.tr_windows.proofs.ChangeLemmas.{changed-length, changed_below}
use Rattle.tr_windows.proofs.ShapeLemmas.{cleared_one_by_one}
use Rattle.tr_windows.proofs.windows.Windows.refit.Goals as goal

pub loop-n-preserved : goal.loop-n-preserved
loop-n-preserved g c =
    let leaf : LeafId = record { 0 = c.loop-n.n } in
    let change = without_old_batch c.args.was.now c.args.is.now leaf in
    record {
      done = rw add-one (c.refit_leaf.ensures ∙ ap (λ ws. changed_at c.loop-n.n change ws) c.loop-n.invariant.done);
      count = ap length c.refit_leaf.ensures ∙ changed-length change c.loop-n.self c.loop-n.n ∙ c.loop-n.invariant.count;
    }

pub returns : goal.returns
returns g c =
    let ended : c.loop-n.n ≡ length c.args.self.now = omega (arith, c.count-n-end.ensures.count) in
    let each = λ (k : ℕ). without_old_batch c.args.was.now c.args.is.now (record { 0 = k }) in
    c.loop-n.invariant.done
    ∙ ap (λ n. changed_below n each c.args.self.now) ended
    ∙ cleared_one_by_one c.args.was.now c.args.is.now 0 each
    (λ k w. ap (λ n. without_old_batch c.args.was.now c.args.is.now (record { 0 = n }) w) (sym (zero-add k))) c.args.self.now
