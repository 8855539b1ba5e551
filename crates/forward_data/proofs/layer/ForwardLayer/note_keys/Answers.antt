use Rattle.std.proofs.Common.{rules, ◌≡◌, ◌++◌, false, List, Option, map, Global, ◌∙◌, ap, sym, is_some}
use Rattle.std.specs.Option.{option_map}
use Rattle.std.specs.FinMap as finite
use Rattle.std.specs.declared.sync.Arc.{Arc}
use Rattle.forward_data.specs.declared.rows.RecordRows.{RecordRows}
use Rattle.forward_data.specs.Combined.{is_among, layer_of}
use Rattle.forward_data.specs.Records.{Records, record_cmp, records_over}
use Rattle.layer_base.specs.Among.{bare}
use Rattle.layer_base.proofs.Among.{among_noted, or_false}
use Rattle.forward_data.specs.declared.record.RecordKey.{RecordKey}
use Rattle.forward_data.proofs.Based.{none_over}
use Rattle.forward_data.proofs.layer.ForwardLayer.note_keys.Goals as goal

-- a key that is not among a list with the keys of records
unnoted : (k : RecordKey) (old new : List (RecordKey × Unit {0})) (records : Records) → new ≡ old ++ map bare (finite.entries records) → is_among k new ≡ false → (is_among k old ≡ false) × (is_some (finite.get records k) ≡ false)
unnoted k old new records is none =
    let sides = or_false (is_among k old) (is_among k (finite.entries records)) (sym (ap (is_among k) is ∙ among_noted record_cmp k old (finite.entries records)) ∙ none) in
    (sides.0, ap is_some (finite.get-entries records k) ∙ sides.1)

pub returns-in_ok-note_keys-2 : goal.returns-in_ok-note_keys-2
returns-in_ok-note_keys-2 c k none =
    let l = c.self.inside in let rows : Records = l.rows.value in let base : Records = c.in-Some.base.value in
    let value : records_over base rows ≡ c.args.self.now = ap (λ (o : Option (Arc RecordRows Global)). layer_of rows (option_map (λ (b : Arc RecordRows Global). b.value) o)) (sym c.in-Some.is) ∙ c.self.view_is in
    let one : c.deref.result.now ≡ rows = search rules in let two : c.deref-in-Some.result.now ≡ base = search rules in
    let last = unnoted k c.note_keys.new.keys.items c.note_keys-in-Some.new.keys.items base (c.in_ok-note_keys-2.ensures {u = tt} ∙ ap (λ (v : Records). c.note_keys.new.keys.items ++ map bare (finite.entries v)) two) none in
    let first = unnoted k c.args.keys.now.items c.note_keys.new.keys.items rows (c.in_ok-note_keys.ensures {u = tt} ∙ ap (λ (v : Records). c.args.keys.now.items ++ map bare (finite.entries v)) one) last.0 in
    (first.0, ap (λ (v : Records). is_some (finite.get v k)) (sym value) ∙ none_over k rows base first.1 last.1)

pub returns-in_default : goal.returns-in_default
returns-in_default c k none =
    let l = c.self.inside in let rows : Records = l.rows.value in
    let value : rows ≡ c.args.self.now = ap (λ (o : Option (Arc RecordRows Global)). layer_of rows (option_map (λ (b : Arc RecordRows Global). b.value) o)) (sym c.in_default.is) ∙ c.self.view_is in
    let one : c.deref.result.now ≡ rows = search rules in
    let first = unnoted k c.args.keys.now.items c.note_keys.new.keys.items rows (c.in_ok-note_keys.ensures {u = tt} ∙ ap (λ (v : Records). c.args.keys.now.items ++ map bare (finite.entries v)) one) none in
    (first.0, ap (λ (v : Records). is_some (finite.get v k)) (sym value) ∙ first.1)
