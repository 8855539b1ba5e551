use Rattle.std.proofs.Common.{◌≡◌, ◌++◌, ◌∷◌, [], List, Option, None, Some, sym, ap, ◌∙◌, subst, filter, map}
use Rattle.std.specs.List.{cons_option, filter_map}
use Rattle.std.specs.List.Sorted.{IsPermutation}
use Rattle.std.specs.Option.{option_to_list}
use Rattle.std.proofs.lemmas.List.{append-nil, append_assoc}
use Rattle.uni_table.specs.Contents.{has_ended}
use Rattle.uni_table.specs.GraphRows.{contents_of, ending_no}
use Rattle.uni_table.specs.Lists.{ending_of}
use Rattle.uni_table.proofs.GraphEndings.{endings-permutation, endings-between}
use Rattle.uni_table.proofs.graph.rows.Rows.ending.Goals as goal

pub returns : goal.returns
returns c =
    let rows = c.args.self.now in
    let all : c.loop-entry.endings.items ≡ filter_map (ending_no rows c.args.publish) rows.ends.keys =
    sym (append-nil c.loop-entry.endings.items)
    ∙ ap (λ ks. c.loop-entry.endings.items ++ filter_map (ending_no rows c.args.publish) ks) (sym c.in-None.ensures.steps.0)
    ∙ c.loop-entry.invariant
    ∙ ap (filter_map (ending_no rows c.args.publish)) (c.into_iter-entry-iterator.ensures.into_iter_gives ∙ c.range-entry-items.ensures.between tt)
    ∙ endings-between rows c.requires c.args.publish rows.ends.keys in
    subst (IsPermutation (map ending_of (filter (λ e. has_ended c.args.publish e.1) (contents_of rows).edges))) (sym all)
    (endings-permutation rows c.requires c.args.publish c.range-entry-items.ensures.ordered)

step : {Y : Type 0} (xs : List Y) (o : Option Y) (ys : List Y) → (xs ++ option_to_list o) ++ ys ≡ xs ++ cons_option o ys
step xs None ys = ap (λ zs. zs ++ ys) (append-nil xs)
step xs (Some y) ys = append_assoc xs (y ∷ []) ys

pub loop-entry-preserved : goal.loop-entry-preserved
loop-entry-preserved c =
    let f = ending_no c.args.self.now c.args.publish in
    ap (λ xs. xs ++ filter_map f c.next.new.self) c.in_ok-add_ending.ensures
    ∙ step c.loop-entry.endings.items (f c.in-Some.entry.now) (filter_map f c.next.new.self)
    ∙ ap (λ ks. c.loop-entry.endings.items ++ filter_map f ks) (sym c.in-Some.ensures.steps)
    ∙ c.loop-entry.invariant
