use Rattle.std.proofs.Common.{◌≡◌, ◌++◌, ◌∷◌, [], sym, ap, subst, ◌∙◌, arith, length}
use Rattle.std.proofs.lemmas.List.Elements.{filter_map-append}
use Rattle.std.specs.List.{filter_map, range_with_len}
use Rattle.std.specs.Option.{option_to_list}
use Rattle.uni_table.specs.Changes.{HasEntityChanges}
use Rattle.uni_table.specs.Contents.{empty}
use Rattle.uni_table.specs.GraphChanges.{put_at}
use Rattle.uni_table.specs.GraphRows.{contents_of}
use Rattle.uni_table.proofs.Filters.{listed-option}
use Rattle.uni_table.proofs.GraphChanged.{all-put}
use Rattle.uni_table.proofs.Ranges.{range_more}
use Rattle.uni_table.proofs.graph.rows.Rows.all_entities.Goals as goal

pub loop-number-preserved : goal.loop-number-preserved
loop-number-preserved c =
    let n = c.loop-number.number in
    let f = put_at c.args.self.now in
    c.in_ok-push_some.ensures ∙ ap (λ o. c.loop-number.changes.items ++ option_to_list o) c.entity_put.ensures
    ∙ ap (λ xs. xs ++ option_to_list (f n)) c.loop-number.invariant ∙ ap (λ xs. filter_map f (range_with_len 0 n) ++ xs) (listed-option (f n))
    ∙ sym (ap (filter_map f) (range_more n) ∙ filter_map-append f (range_with_len 0 n) (n ∷ []))

pub returns : goal.returns
returns c =
    let rows = c.args.self.now in
    let all : c.loop-number.number ≡ length rows.ids.entries = omega (arith, c.loop-number-test.false, c.loop-number.auto.number-end, c.len-number-end.ensures.len) in
    subst (HasEntityChanges empty (contents_of rows)) (sym (c.loop-number.invariant ∙ ap (λ n. filter_map (put_at rows) (range_with_len 0 n)) all)) (all-put rows c.requires)
