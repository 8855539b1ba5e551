use Rattle.std.proofs.Common.{◌≡◌, [], refl, sym, ap, ◌∙◌}
use Rattle.std.specs.List.{list_any}
use Rattle.unicorn_round.specs.Bench.{is_lacking}
use Rattle.unicorn_round.specs.Counts.{counts_of}
use Rattle.unicorn_round.specs.Service.{service_terms}
use Rattle.unicorn_round.proofs.Counting.{nothing_answered}
use Rattle.unicorn_round.proofs.counter.Counter.open.Goals as goal

pub returns : goal.returns
returns g c =
    let opened = c.in_ok-service.ensures {u = tt} in
    let said = opened.stands.said in
    let none : said ≡ [] = opened.stands.served.says ∙ nothing_answered (service_terms c.in_ok-service.service) opened.stands.served.told opened.stands.served.is_record in
    record {
      is_under = opened.is_under;
      ready = opened.ready;
      stands = record {
        silent = refl;
        said = said;
        served = opened.stands.served;
        counted = c.none-counts.ensures ∙ ap counts_of (sym none);
        whole = ap (list_any is_lacking) none;
        apart = tt;
      };
    }
