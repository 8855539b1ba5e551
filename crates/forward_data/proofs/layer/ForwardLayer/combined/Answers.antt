use Rattle.std.proofs.Common.{rules, ◌≡◌, false, T, List, Option, [], is_some, Global, ap, ◌∙◌, sym, subst}
use Rattle.std.specs.FinMap as finite
use Rattle.std.specs.FinMap.{is_sorted}
use Rattle.std.specs.Option.{option_map, unwrap_or}
use Rattle.std.specs.declared.sync.Arc.{Arc}
use Rattle.layer_base.specs.Layers.{from_log}
use Rattle.layer_base.proofs.Among.{among_last, among_noted, or_false}
use Rattle.forward_data.specs.declared.record.RecordKey.{RecordKey}
use Rattle.forward_data.specs.declared.rows.RecordRows.{RecordRows}
use Rattle.forward_data.specs.Combined.{is_among, layer_of}
use Rattle.forward_data.specs.Records.{Records, record_cmp, records_over}
use Rattle.forward_data.proofs.Based.{base_record}
use Rattle.forward_data.proofs.Combined.{oldest_alone}
use Rattle.forward_data.proofs.Order.{record_apart, record_total}
use Rattle.forward_data.proofs.layer.ForwardLayer.combined.Goals as goal

pub last_words-requires : goal.last_words-requires
last_words-requires c = record_apart

pub merged-requires-clause-sorted : goal.merged-requires-clause-sorted
merged-requires-clause-sorted c =
    let log = c.note_keys.new.keys.items in
    let is : c.deref-in-Some.result.now ≡ finite.entries (from_log {R = record_cmp} log) = c.deref-in-Some.ensures.value ∙ c.in_ok-keys-in-Some.ensures.last in
    subst (λ (es : List (RecordKey × Unit {0})). T (is_sorted record_cmp es)) (sym is) (finite.entries_sorted (from_log {R = record_cmp} log))

pub merged-requires-clause-alone : goal.merged-requires-clause-alone
merged-requires-clause-alone c k none =
    let l = c.self.inside in let rows : Records = l.rows.value in let base : Records = c.in-Some.base.value in
    let value : records_over base rows ≡ c.args.self.now = ap (λ (o : Option (Arc RecordRows Global)). layer_of rows (option_map (λ (b : Arc RecordRows Global). b.value) o)) (sym c.in-Some.is) ∙ c.self.view_is in
    let own : c.deref.result.now ≡ rows = search rules in
    let log = c.note_keys.new.keys.items in
    let is : c.deref-in-Some.result.now ≡ finite.entries (from_log {R = record_cmp} log) = c.deref-in-Some.ensures.value ∙ c.in_ok-keys-in-Some.ensures.last in
    let sides = or_false (is_among k c.args.changed.items) (is_among k (finite.entries c.deref.result.now))
    (sym (ap (is_among k) (c.in_ok-note_keys-in-Some.ensures {u = tt}) ∙ among_noted record_cmp k c.args.changed.items (finite.entries c.deref.result.now)) ∙ sym (ap (is_among k) is ∙ among_last record_cmp record_total k log) ∙ none) in
    let absent : is_some (finite.get rows k) ≡ false = ap (λ (v : Records). is_some (finite.get v k)) (sym own) ∙ ap is_some (finite.get-entries c.deref.result.now k) ∙ sides.1 in
    oldest_alone c.args.stack.now.0 c.args.count c.args.self.now c.args.changed.items c.requires.oldest c.requires.count.0 c.requires.changed k sides.0
    ∙ ap (λ (v : Records). unwrap_or (finite.get v k) []) (sym value) ∙ ap (λ f. unwrap_or f []) (base_record k rows base absent)

pub merged-requires-in-None-clause-alone : goal.merged-requires-in-None-clause-alone
merged-requires-in-None-clause-alone c k none =
    let l = c.self.inside in let rows : Records = l.rows.value in
    let value : rows ≡ c.args.self.now = ap (λ (o : Option (Arc RecordRows Global)). layer_of rows (option_map (λ (b : Arc RecordRows Global). b.value) o)) (sym c.in-None.is) ∙ c.self.view_is in
    oldest_alone c.args.stack.now.0 c.args.count c.args.self.now c.args.changed.items c.requires.oldest c.requires.count.0 c.requires.changed k (ap (is_among k) (sym c.deref-in-None.ensures.value) ∙ none)
    ∙ ap (λ (v : Records). unwrap_or (finite.get v k) []) (sym value)
