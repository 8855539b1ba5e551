use Rattle.std.proofs.Common.{◌≡◌, None, Some, ◌∙◌, subst}
use Rattle.bench_script.specs.BenchScript.{bench_text}
use Rattle.unicorn_round.specs.Bench.{CounterStands, counter_terms}
use Rattle.unicorn_round.specs.Reads.{ScriptAnswered}
use Rattle.unicorn_round.proofs.Benched.{benched}
use Rattle.unicorn_round.proofs.summary.count_script.Goals as goal

pub returns-in-Ok : goal.returns-in-Ok
returns-in-Ok g c =
    let script = bench_text c.args.seed c.args.people in
    let limits = c.standard-limits.result in
    let after = c.answer_rounds-counted.new.source in
    let from : c.in_ok-source.source ≡ script = c.in_ok-source.ensures {u = tt} in
    let all = subst (λ bytes. ScriptAnswered limits counter_terms CounterStands (Some bytes) (Some after) None None c.in-Ok.counter c.in-Ok.field-0-1) from c.in-Ok.ensures.all in
    benched c.counts_agree.ensures limits script (Some after) None None c.in-Ok.counter c.in-Ok.field-0-1 c.standard-limits.ensures all
