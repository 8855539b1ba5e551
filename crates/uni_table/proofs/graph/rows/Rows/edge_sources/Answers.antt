use Rattle.std.proofs.Common.{ℕ, List, Option, ◌≡◌, ◌<◌, ◌++◌, ◌∷◌, [], sym, refl, ap, subst, ◌∙◌, arith, length}
use Rattle.std.proofs.lemmas.List.Elements.{All-map, filter_map-append}
use Rattle.std.specs.List.{filter_map, range_with_len}
use Rattle.std.specs.List.Sorted.{IsPermutation}
use Rattle.std.specs.Option.{option_to_list}
use Rattle.uni_table.specs.GraphSources.{last_from, source_told}
use Rattle.uni_table.specs.declared.graph.numbers.Source.{Source}
use Rattle.uni_table.specs.declared.graph.order.PlacedEdge.{PlacedEdge}
use Rattle.uni_table.proofs.Filters.{listed-option}
use Rattle.uni_table.proofs.Ranges.{range_more}
use Rattle.uni_table.proofs.SourceLists.{are_declared, are_lasts, are_rising, are_whole}
use Rattle.uni_table.proofs.graph.rows.Rows.edge_sources.Goals as goal

pub loop-number-preserved : goal.loop-number-preserved
loop-number-preserved c =
    let n = c.loop-number.number in
    let f = last_from c.args.self.now c.args.types in
    c.in_ok-push_some.ensures ∙ ap (λ o. c.loop-number.lasts.items ++ option_to_list o) c.last_from.ensures
    ∙ ap (λ xs. xs ++ option_to_list (f n)) c.loop-number.invariant ∙ ap (λ xs. filter_map f (range_with_len 0 n) ++ xs) (listed-option (f n))
    ∙ sym (ap (filter_map f) (range_more n) ∙ filter_map-append f (range_with_len 0 n) (n ∷ []))

-- what was put in order is all of it
same : (f : ℕ → Option PlacedEdge) (n count : ℕ) (all lasts : List PlacedEdge) → n ≡ count → all ≡ filter_map f (range_with_len 0 n) → IsPermutation all lasts → IsPermutation (filter_map f (range_with_len 0 count)) lasts
same f n count all lasts at is p = subst (λ xs. IsPermutation xs lasts) (is ∙ ap (λ n. filter_map f (range_with_len 0 n)) at) p

pub invariant_of-result : goal.invariant_of-result
invariant_of-result c =
    let rows = c.args.self.now in
    let lasts = c.in_order-lasts.result.items in
    let all : c.loop-number.number ≡ length rows.sources.entries = omega (arith, c.loop-number-test.false, c.loop-number.auto.number-end, c.len-number-end.ensures.len) in
    let listed = same (last_from rows c.args.types) c.loop-number.number (length rows.sources.entries) c.loop-number.lasts.items lasts all c.loop-number.invariant c.in_order-lasts.ensures.permutation in
    (are_lasts rows c.requires c.args.types lasts listed, c.in_ok-copies.ensures {u = tt})

pub returns : goal.returns
returns c =
    let rows = c.args.self.now in
    let lasts = c.in_order-lasts.result.items in
    let all : c.loop-number.number ≡ length rows.sources.entries = omega (arith, c.loop-number-test.false, c.loop-number.auto.number-end, c.len-number-end.ensures.len) in
    let listed = same (last_from rows c.args.types) c.loop-number.number (length rows.sources.entries) c.loop-number.lasts.items lasts all c.loop-number.invariant c.in_order-lasts.ensures.permutation in
    record {
      of = refl;
      rising = are_rising rows c.requires c.args.types lasts listed c.in_order-lasts.ensures.sorted;
      declared = All-map (λ (s : Source). s.type_no < c.args.types) (source_told rows) lasts (are_declared rows c.requires c.args.types lasts listed);
      whole = are_whole rows c.requires c.args.types lasts listed;
    }
