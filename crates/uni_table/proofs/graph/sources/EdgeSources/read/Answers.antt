use Rattle.std.proofs.Common.{rules, arith, ◌≡◌, ◌<◌, ◌++◌, Some, length, reverse, slice_get, sym, ap, subst, ◌∙◌}
use Rattle.std.proofs.lemmas.List.Elements.{All-from_recursion}
use Rattle.std.proofs.lemmas.List.Sorted.{All-permutation, IsPermutation-reverse, IsPermutation-trans, answers_always}
use Rattle.std.proofs.lemmas.List.{length-map}
use Rattle.std.proofs.lemmas.Option.{slice_get-get_or, slice_get-map}
use Rattle.std.specs.List.{filter_map}
use Rattle.std.specs.List.Sorted.{IsPermutation}
use Rattle.std.specs.Map.{keys_of}
use Rattle.std.specs.Option.{option_map}
use Rattle.uni_table.specs.GraphRows.{IsCircleKnown}
use Rattle.uni_table.specs.GraphSources.{all_ends, led_to, source_told, AreEnds}
use Rattle.uni_table.specs.Sources.{AreTargets, SourcesState}
use Rattle.uni_table.specs.declared.graph.order.PlacedEdge.{PlacedEdge}
use Rattle.uni_table.specs.declared.graph.sources.FarEnd.{FarEnd}
use Rattle.uni_table.specs.declared.table.reached.Target.{Target}
use Rattle.uni_table.proofs.GraphSources.{all-targets, ends-known}
use Rattle.uni_table.proofs.graph.sources.EdgeSources.read.Goals as goal

pub add_targets-requires : goal.add_targets-requires
add_targets-requires c =
    let rows = c.self.inside.rows.now in
    let q = c.index.result.now.source in
    let ends : c.as_slice-2.result.now ≡ reverse (all_ends rows q) = c.as_slice-2.ensures.value ∙ c.in_ok-add_ends.ensures {u = tt} ∙ ap (λ xs. xs ++ reverse (all_ends rows q)) c.clear.ensures.items in
    subst (AreEnds rows) (sym ends)
    (All-permutation (λ (end : FarEnd). IsCircleKnown (length rows.sources.entries) end.state) (all_ends rows q) (reverse (all_ends rows q)) (IsPermutation-reverse (all_ends rows q))
    (All-from_recursion (λ (end : FarEnd). IsCircleKnown (length rows.sources.entries) end.state) (all_ends rows q) (ends-known rows c.self.invariant.0.kept q)))

pub returns : goal.returns
returns c source at =
    let rows = c.self.inside.rows.now in
    let kept = c.self.invariant.0.kept in
    let lasts = c.self.inside.lasts.items in
    let last : PlacedEdge = c.index.result.now in
    let q = last.source in
    let ends : c.as_slice-2.result.now ≡ reverse (all_ends rows q) = c.as_slice-2.ensures.value ∙ c.in_ok-add_ends.ensures {u = tt} ∙ ap (λ xs. xs ++ reverse (all_ends rows q)) c.clear.ensures.items in
    let targets : c.add_targets.new.targets.items ≡ filter_map (led_to rows) c.as_slice-2.result.now = c.in_ok-add_targets.ensures {u = tt} ∙ ap (λ xs. xs ++ filter_map (led_to rows) c.as_slice-2.result.now) c.clear-2.ensures.items in
    let within : c.args.at < length lasts = omega (arith, c.requires, length-map lasts (source_told rows), ap (λ (s : SourcesState). length s.sources) c.self.view_is) in
    let is : slice_get lasts c.args.at ≡ Some last = slice_get-get_or lasts c.args.at last within ∙ ap Some (sym c.index.ensures) in
    let told : Some (source_told rows last) ≡ Some source =
    sym (slice_get-map (source_told rows) lasts c.args.at ∙ ap (option_map (source_told rows)) is) ∙ ap (λ (s : SourcesState). slice_get s.sources c.args.at) c.self.view_is ∙ at in
    let numbered : slice_get (keys_of rows.sources.entries) q ≡ Some source =
    subst (λ (p : PlacedEdge). slice_get (keys_of rows.sources.entries) p.source ≡ Some (source_told rows p)) (sym c.index.ensures) (c.self.invariant.0.numbered c.args.at last within) ∙ told in
    subst (λ (s : SourcesState). AreTargets s.table source c.sort_unstable_by_key.new.self.items) c.self.view_is (record {
      led = IsPermutation-trans _ (filter_map (led_to rows) c.as_slice-2.result.now) c.sort_unstable_by_key.new.self.items (all-targets rows kept q source numbered c.as_slice-2.result.now ends)
          (subst (λ ts. IsPermutation ts c.sort_unstable_by_key.new.self.items) targets c.sort_unstable_by_key.ensures.permutation);
      ranked = c.sort_unstable_by_key.ensures.sorted (λ (t : Target). t.doc) (answers_always _ _ _ (λ f a r g k. search rules));
    })
