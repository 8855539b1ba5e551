use Rattle.std.proofs.Common.{rules, arith, ◌≡◌, T, List, take, drop, ap, ◌∙◌, sym, subst, is_some}
use Rattle.std.specs.FinMap as finite
use Rattle.std.specs.FinMap.{is_sorted}
use Rattle.std.proofs.lemmas.Result.{IfOk-weaker}
use Rattle.layer_base.specs.Layers.{from_log}
use Rattle.forward_data.specs.declared.record.RecordKey.{RecordKey}
use Rattle.forward_data.specs.Combined.{is_among, is_changed, AreChanged}
use Rattle.forward_data.specs.Records.{Records, record_cmp}
use Rattle.layer_base.proofs.Among.{among_last}
use Rattle.forward_data.proofs.Combined.{changed_start, changed_more}
use Rattle.forward_data.proofs.Order.{record_apart, record_total}
use Rattle.forward_data.proofs.combine.changed_keys.Goals as goal

pub loop-i-init : goal.loop-i-init
loop-i-init c k none = changed_start k c.args.stack.now.0

pub loop-i-preserved : goal.loop-i-preserved
loop-i-preserved c k none =
    let layer = c.layer.result.now.value in
    let is : c.deref.result.now ≡ layer = search rules in
    let both = c.in_ok-note_keys.ensures {u = tt} k none in
    changed_more k c.args.stack.now.0 c.loop-i.i layer c.loop-i.auto.i c.layer.ensures (c.loop-i.invariant k both.0) (ap (λ (l : Records). is_some (finite.get l k)) (sym is) ∙ both.1)

pub last_words-requires : goal.last_words-requires
last_words-requires c = record_apart

pub returns : goal.returns
returns c =
    let layers = c.args.stack.now.0 in let log = c.loop-i.log.items in
    let all : c.loop-i.i ≡ c.args.count = omega (arith, c.loop-i-test.false, c.loop-i.auto.i-end, c.requires) in
    IfOk-weaker c.last_words.result (λ rows. rows.items ≡ finite.entries (from_log {R = record_cmp} log)) (λ rows. AreChanged (drop 1 (take c.args.count layers)) rows.items)
    (λ rows is. record {
      sorted = subst (λ (es : List (RecordKey × Unit {0})). T (is_sorted record_cmp es)) (sym is) (finite.entries_sorted (from_log {R = record_cmp} log));
      others = λ k none. ap (λ n. is_changed k (drop 1 (take n layers))) (sym all) ∙ c.loop-i.invariant k (sym (ap (is_among k) is ∙ among_last record_cmp record_total k log) ∙ none);
    }) c.last_words.ensures.last
