use Rattle.std.proofs.Common.{rules, ◌≡◌, ◌++◌, sym, ap, ◌∙◌, false}
use Rattle.std.specs.List.{list_any}
use Rattle.std.proofs.lemmas.List.Folds.{list_any-append}
use Rattle.unicorn_round.specs.Bench.{is_lacking, is_mixed}
use Rattle.unicorn_round.specs.Counts.{counts_of, plus}
use Rattle.unicorn_round.proofs.Counted.{apart_by, apart_more, counts_more, none_both}
use Rattle.unicorn_round.proofs.counter.Counter.count.Goals as goal

pub answer-requires-clause-may : goal.answer-requires-clause-may
answer-requires-clause-may g c κs within = let may = c.requires.may in record { fit = may.fit; from = may.from; to = may.to; rise = may.rise; lines = may.lines; ready = may.ready; few = may.few }

pub returns : goal.returns
returns g c =
    let more = c.in_ok-service.ensures {u = tt} in
    let said = c.in_ok-service.said in
    let none : list_any is_lacking said ≡ false = search rules in
    let apart : is_mixed c.args.items ≡ false = search rules in
    let counts : c.in_ok-counts.counts ≡ plus c.args.self.counts (counts_of said) = search rules in
    record {
      is_under = more.is_under;
      ready = more.ready;
      stands = λ entries rounds before of stood. record {
        silent = ap (λ t. t ++ c.new.result) stood.silent ∙ c.new.ensures;
        said = stood.said ++ said;
        served = more.stands entries rounds stood.said of stood.served;
        counted = counts ∙ ap (λ k. plus k (counts_of said)) stood.counted ∙ sym (counts_more stood.said said);
        whole = list_any-append is_lacking stood.said said ∙ none_both (list_any is_lacking stood.said) (list_any is_lacking said) stood.whole none;
        apart = apart_more rounds entries stood.apart (apart_by entries c.args.items of apart);
      };
    }
