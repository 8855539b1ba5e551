use Rattle.std.proofs.Common.{rules, arith, ◌≡◌, ◌<◌, ◌≤◌, List, [], length, get_or, slice_get, Some, refl, ap, ◌∙◌, sym}
use Rattle.std.specs.FinMap as finite
use Rattle.std.specs.Option.{option_map}
use Rattle.std.proofs.lemmas.List.{length-map, take_all}
use Rattle.std.proofs.lemmas.List.Elements.{All-set}
use Rattle.std.proofs.lemmas.Option.{slice_get-map, slice_get_read}
use Rattle.uni_base.specs.RankOrder.{doc_cmp}
use Rattle.layer_base.specs.Layers.{stack_table}
use Rattle.layer_stack.specs.Places.{place_cmp}
use Rattle.layer_stack.specs.Postings.{PostingChanges, place_of, postings_of, deletes_of}
use Rattle.layer_stack.specs.Readers.{ReaderValue, AreBefore, layers_read}
use Rattle.layer_stack.specs.Stacks.{PartValue, part_table}
use Rattle.layer_stack.proofs.Passed.{layers_set}
use Rattle.layer_stack.proofs.Terms.{layer_more, parts_stand}
use Rattle.layer_stack.proofs.front.gather.Goals as goal

pub loop-reader-init : goal.loop-reader-init
loop-reader-init c =
    let none : c.clear.new.self.items ≡ [] = search rules in
    record {
      parts = λ k. ap (λ (ps : List PartValue). finite.get (part_table ps) k) none ∙ finite.get-empty doc_cmp k ∙ sym (finite.get-empty place_cmp (place_of c.args.term.now k));
      same = refl;
      ready = c.requires;
    }

pub add_to-requires : goal.add_to-requires
add_to-requires c =
    let fits : c.loop-reader.reader-index < length c.loop-reader.readers = search (rules, arith) in
    c.loop-reader.invariant.ready c.loop-reader.reader-index c.reader-item.result fits

pub returns-in_err-add_to-clause-same : goal.returns-in_err-add_to-clause-same
returns-in_err-add_to-clause-same c =
    let rs = c.loop-reader.readers in let i = c.loop-reader.reader-index in
    let fits : i < length rs = search (rules, arith) in
    layers_set rs i c.reader-item.result c.add_to.new.self fits c.reader-item.is ((c.in_err-add_to.ensures {u = tt}).same ∙ ap (λ (r : ReaderValue). r.0) (sym c.reader-item.is)) ∙ c.loop-reader.invariant.same

pub returns-in_err-add_to-clause-ready : goal.returns-in_err-add_to-clause-ready
returns-in_err-add_to-clause-ready c =
    All-set (λ (r : ReaderValue). AreBefore c.args.term.now r.1) c.loop-reader.readers c.loop-reader.reader-index c.add_to.new.self (c.in_err-add_to.ensures {u = tt}).passed c.loop-reader.invariant.ready

pub loop-reader-preserved : goal.loop-reader-preserved
loop-reader-preserved c =
    let rs = c.loop-reader.readers in let i = c.loop-reader.reader-index in let t = c.args.term.now in let layers = layers_read c.args.readers.now in
    let cur : ReaderValue = get_or rs i c.reader-item.result in let new = c.add_to.new.self in
    let fits : i < length rs = search (rules, arith) in
    let at : slice_get layers i ≡ Some cur.0 =
    ap (λ (ls : List PostingChanges). slice_get ls i) (sym c.loop-reader.invariant.same) ∙ slice_get-map (λ (r : ReaderValue). r.0) rs i
    ∙ ap (option_map (λ (r : ReaderValue). r.0)) (slice_get_read rs (length rs) i c.reader-item.result refl fits c.reader-item.is) ∙ ap (λ (r : ReaderValue). Some r.0) c.reader-item.is in
    record {
      parts = λ k. ap (λ (ps : List PartValue). finite.get (part_table ps) k) (c.in_ok-add_to.ensures {u = tt}).parts
          ∙ layer_more t layers i cur.0 c.loop-reader.parts.items (deletes_of t cur.0, postings_of t cur.0.puts) at refl c.loop-reader.invariant.parts k;
      same = layers_set rs i c.reader-item.result new fits c.reader-item.is ((c.in_ok-add_to.ensures {u = tt}).same ∙ ap (λ (r : ReaderValue). r.0) (sym c.reader-item.is)) ∙ c.loop-reader.invariant.same;
      ready = All-set (λ (r : ReaderValue). AreBefore t r.1) rs i new (c.in_ok-add_to.ensures {u = tt}).passed c.loop-reader.invariant.ready;
    }

pub returns-clause-parts : goal.returns-clause-parts
returns-clause-parts c =
    let layers = layers_read c.args.readers.now in let t = c.args.term.now in
    let long : length layers ≡ length c.args.readers.now = length-map c.args.readers.now (λ (r : ReaderValue). r.0) in
    let whole : length layers ≤ c.loop-reader.reader-index = omega (arith, c.loop-reader-test.false, long) in
    parts_stand t c.loop-reader.parts.items (stack_table layers) (λ k. c.loop-reader.invariant.parts k ∙ ap (λ (ls : List PostingChanges). finite.get (stack_table ls) (place_of t k)) (take_all c.loop-reader.reader-index layers whole))

pub returns-clause-same : goal.returns-clause-same
returns-clause-same c = c.loop-reader.invariant.same

pub returns-clause-ready : goal.returns-clause-ready
returns-clause-ready c = c.loop-reader.invariant.ready
