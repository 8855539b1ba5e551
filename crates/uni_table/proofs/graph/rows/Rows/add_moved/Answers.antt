use Rattle.std.proofs.Common.{◌≡◌, ◌+◌, ◌<◌, ◌++◌, suc, nat_eq, subst, sym, ◌∙◌, ap, append-nil, length, take, drop, arith, rules}
use Rattle.std.specs.List.{Contains, IsDistinct, filter_map}
use Rattle.std.specs.Option.{option_to_list}
use Rattle.std.proofs.lemmas.List.{take_all}
use Rattle.uni_table.specs.GraphChanges.{earlier_at, moved_last_at}
use Rattle.uni_table.specs.GraphOrder.{untouched_edge_at}
use Rattle.uni_table.proofs.SideBySide.{before-earlier, picked-on, weight, weight-step}
use Rattle.uni_table.proofs.WalkedOnce.{adds-moved, adds-none, lasts-apart, lasts-reached, walk-apart, walk-reached}
use Rattle.uni_table.proofs.graph.rows.Rows.add_moved.Goals as goal

pub loop-at-init : goal.loop-at-init
loop-at-init c =
    let rows = c.args.self.now in
    record {
      walked = c.in_ok-walk.ensures ∙ sym (append-nil (filter_map (moved_last_at rows) rows.touched_ids.items));
      apart = subst (IsDistinct nat_eq) (sym c.in_ok-walk.ensures) (lasts-apart rows c.requires);
      reached = λ p there. lasts-reached rows c.requires rows.touched_ids.items p (subst (λ xs. Contains xs p) c.in_ok-walk.ensures there);
      added = sym (append-nil c.args.edges.now.items);
    }

pub loop-at-smaller : goal.loop-at-smaller
loop-at-smaller c =
    let rows = c.args.self.now in let walk = c.loop-at.walk.items in let at = c.loop-at.at in let place = c.index-place.result.now in
    let within : at < length walk = omega (arith, c.loop-at-test.true, c.len.ensures) in
    subst (λ w. weight (drop (at + 1) w) < weight (drop at walk)) (sym (c.in_ok-push_some.ensures ∙ ap (λ o. walk ++ option_to_list o) c.earlier_into.ensures))
    (subst (λ n. weight (drop n (walk ++ option_to_list (earlier_at rows place))) < weight (drop at walk)) (let one : suc at ≡ at + 1 = omega arith in one)
    (weight-step walk at place (earlier_at rows place) within c.index-place.ensures (before-earlier rows c.requires place)))

pub loop-at-preserved : goal.loop-at-preserved
loop-at-preserved c =
    let rows = c.args.self.now in let walk = c.loop-at.walk.items in let at = c.loop-at.at in let place = c.index-place.result.now in
    let within : at < length walk = omega (arith, c.loop-at-test.true, c.len.ensures) in
    let heads = filter_map (moved_last_at rows) rows.touched_ids.items in
    let more = option_to_list (earlier_at rows place) in
    let grown : c.push_some.new.items.items ≡ walk ++ more = c.in_ok-push_some.ensures ∙ ap (λ o. walk ++ option_to_list o) c.earlier_into.ensures in
    let one : suc at ≡ at + 1 = omega arith in
    record {
      walked = grown ∙ picked-on (earlier_at rows) heads walk walk more at place within c.index-place.ensures c.loop-at.invariant.walked
          ∙ ap (λ n. heads ++ filter_map (earlier_at rows) (take n (walk ++ more))) one ∙ ap (λ w. heads ++ filter_map (earlier_at rows) (take (at + 1) w)) (sym grown);
      apart = subst (IsDistinct nat_eq) (sym grown) (walk-apart rows c.requires rows.touched_ids.items walk at place within c.index-place.ensures c.loop-at.invariant.walked c.loop-at.invariant.apart);
      reached = λ p there. walk-reached rows c.requires walk place c.loop-at.invariant.reached (at, within, sym c.index-place.ensures) p (subst (λ xs. Contains xs p) grown there);
      added = c.in_ok-add_untouched.ensures ∙ picked-on (untouched_edge_at rows) c.args.edges.now.items c.loop-at.edges.items walk more at place within c.index-place.ensures c.loop-at.invariant.added
          ∙ ap (λ n. c.args.edges.now.items ++ filter_map (untouched_edge_at rows) (take n (walk ++ more))) one ∙ ap (λ w. c.args.edges.now.items ++ filter_map (untouched_edge_at rows) (take (at + 1) w)) (sym grown);
    }

pub returns : goal.returns
returns c =
    let rows = c.args.self.now in let walk = c.loop-at.walk.items in
    let whole : take c.loop-at.at walk ≡ walk = take_all c.loop-at.at walk (omega (arith, c.loop-at-test.false, c.len.ensures)) in
    adds-moved rows c.requires walk (c.loop-at.invariant.walked ∙ ap (λ w. filter_map (moved_last_at rows) rows.touched_ids.items ++ filter_map (earlier_at rows) w) whole)
    c.loop-at.invariant.apart c.loop-at.invariant.reached c.args.edges.now.items c.loop-at.edges.items
    (c.loop-at.invariant.added ∙ ap (λ w. c.args.edges.now.items ++ filter_map (untouched_edge_at rows) w) whole)

pub returns-then-len : goal.returns-then-len
returns-then-len c =
    let all : length c.args.self.now.touched_edges.items ≡ length c.args.self.now.edges.entries = search rules in
    adds-none c.args.self.now c.requires all c.args.edges.now.items
