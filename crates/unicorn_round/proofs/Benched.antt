-- What the answers of a script from memory come to.
use Rattle.std.proofs.Common.{◌≡◌, ℕ, List, [], ◌++◌, Option, Some, refl, sym, ap, ◌∙◌, subst, append-nil}
use Rattle.uni_base.specs.StandardLimits.{standard_limits}
use Rattle.std.specs.List.{list_any}
use Rattle.uni_base.specs.declared.limits.Limits.{Limits}
use Rattle.script_rounds.specs.Entries.{Entry}
use Rattle.script_rounds.specs.Reading.{Gave, NoneLeft}
use Rattle.script_rounds.specs.Rounds.{opened, script_of}
use Rattle.script_rounds.specs.Terms.{Terms, under}
use Rattle.round_feed.specs.Seats.{feed_of}
use Rattle.unicorn_round.specs.Answers.{opening_standing}
use Rattle.unicorn_round.specs.Bench.{CounterStands, counter_terms, is_lacking}
use Rattle.unicorn_round.specs.Counts.{CountsAgree, counts_of, counts_of_script, script_counts}
use Rattle.unicorn_round.specs.Reads.{ScriptAnswered}
use Rattle.unicorn_round.specs.ServedLaws.{served_legal}
use Rattle.unicorn_round.specs.Service.{service_stacks}
use Rattle.unicorn_round.specs.declared.counter.Counter.{Counter}
use Rattle.unicorn_round.proofs.Counted.{rounds_have}
use Rattle.unicorn_round.proofs.Reading.{no_rounds_ahead}

-- what a source gave until nothing was left is all that it had
all_given : (script bytes : List ℕ) (left : Option (List ℕ)) → Gave (Some script) bytes left → NoneLeft left → script ≡ bytes
all_given script bytes left gave none =
    let rest : gave.0 ≡ [] = subst NoneLeft gave.2 none in
    gave.1 ∙ ap (λ more. bytes ++ more) rest ∙ append-nil bytes

-- the counts of a counter are those of its rounds, answered line by line
counts_are : CountsAgree → (counter : Counter) (rounds : List (List Entry)) (text : List ℕ) → CounterStands counter rounds text → counter.counts ≡ script_counts (counter_terms counter) rounds
counts_are agree counter rounds text s =
    let terms = counter_terms counter in
    let legal = served_legal terms rounds (feed_of counter.service.feeder) (service_stacks counter.service) s.said s.served in
    let has = rounds_have terms (opening_standing terms) rounds s.served.told s.served.is_record (ap (λ said. list_any is_lacking said) (sym s.served.says) ∙ s.whole) in
    s.counted ∙ ap counts_of s.served.says ∙ agree.same terms rounds s.served.told s.served.is_record legal has s.apart

pub benched : CountsAgree → (limits : Limits) (script : List ℕ) (left taken_before taken : Option (List ℕ)) (counter : Counter) (lines : ℕ) → limits ≡ standard_limits
    → ScriptAnswered limits counter_terms CounterStands (Some script) left taken_before taken counter lines → counter.counts ≡ counts_of_script (script_of standard_limits script)
benched agree limits script left taken_before taken counter lines standard all =
    let o = all.ongoing in let read = o.read in
    let ended = all.spent.0 in
    let is : script ≡ read.bytes = all_given script read.bytes left read.gave (read.end ended) in
    let whole : script_of limits script ≡ opened o.schema o.rounds =
    ap (script_of limits) (is ∙ sym (append-nil read.bytes)) ∙ read.script [] (λ e. refl)
    ∙ ap (λ more. opened o.schema (o.rounds ++ more)) (no_rounds_ahead all.state all.spent [] (λ e. refl)) ∙ ap (opened o.schema) (append-nil o.rounds) in
    counts_are agree counter o.rounds o.text o.stands
    ∙ ap (λ (terms : Terms). script_counts terms o.rounds) (o.is_under ∙ ap (λ ls. under ls o.schema) standard)
    ∙ sym (ap counts_of_script (ap (λ ls. script_of ls script) (sym standard) ∙ whole))
