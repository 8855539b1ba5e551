use Rattle.std.proofs.Common.{rules, arith, ◌≡◌, ◌++◌, ◌∷◌, [], take, ap, ◌∙◌, sym}
use Rattle.std.proofs.lemmas.List.{take_more, map-append}
use Rattle.std.proofs.lemmas.Option.{get_or_from_slice_get, slice_get_within}
use Rattle.layer_stack.specs.Postings.{PostingChanges}
use Rattle.layer_stack.specs.Readers.{ReaderValue, layers_read}
use Rattle.layer_stack.proofs.front.FrontReader.of.Goals as goal

pub loop-i-init : goal.loop-i-init
loop-i-init c = ap layers_read (c.in_ok-readers.ensures {u = tt}).items

pub loop-i-preserved : goal.loop-i-preserved
loop-i-preserved c =
    let layers = c.args.stack.now.0 in let i = c.loop-i.i in let old = c.loop-i.readers.items in
    let layer : PostingChanges = c.layer.result.now.value in
    let is : c.deref.result.now ≡ layer = search rules in
    let reader : c.reader.result ≡ (layer, []) = c.reader.ensures ∙ ap (λ (l : PostingChanges). (l, [])) is in
    let pushed : c.push.new.self.items ≡ old ++ c.reader.result ∷ [] = search rules in
    ap layers_read pushed ∙ map-append (λ (r : ReaderValue). r.0) old (c.reader.result ∷ [])
    ∙ (λ j. c.loop-i.invariant j ++ (reader j).0 ∷ [])
    ∙ ap (λ l. take i layers ++ l ∷ []) (sym (get_or_from_slice_get layers i layer layer c.layer.ensures))
    ∙ sym (take_more layers i layer (slice_get_within layers i layer c.layer.ensures))

pub returns : goal.returns
returns c =
    let all : c.loop-i.i ≡ c.args.count = omega (arith, c.loop-i-test.false, c.loop-i.auto.i-end) in
    c.loop-i.invariant ∙ ap (λ n. take n c.args.stack.now.0) all
