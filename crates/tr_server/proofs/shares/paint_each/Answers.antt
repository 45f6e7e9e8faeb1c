use Rattle.std.proofs.Common.{◌≡◌, length, sym, ap, ◌∙◌, arith, rules}
use Rattle.std.specs.Prelude.{Ok, slice_index_or}
use Rattle.std.proofs.lemmas.List.{length-map}
use Rattle.std.proofs.lemmas.Result.{IfOk-weaker}
use Rattle.tr_server.specs.Shares.{IsPaintedShare}
use Rattle.tr_server.proofs.ShareLemmas.{result_at}
use Rattle.tr_server.proofs.shares.paint_each.Goals as goal

pub returns : goal.returns
returns g c =
    IfOk-weaker c.all_ok.result _ _
    (λ all same.
    let many : length all.items ≡ length c.in_ok-results.results.items = sym (length-map all.items (λ x. Ok x)) ∙ ap length same in
    let jobs : length c.in_ok-results.results.items ≡ length c.args.shares.items = search rules in
    record {
      count = many ∙ jobs;
      each = λ i d e lt.
          let k = (c.in_ok-results.ensures.each i (Ok e) (omega (arith, lt, many, jobs))).1 in
          result_at (λ x. IsPaintedShare g.C.Client (slice_index_or c.args.shares.items i d) x) c.in_ok-results.results.items all.items i e same lt
          (rw (k.job_is d) k.call.met);
    })
    c.all_ok.ensures
