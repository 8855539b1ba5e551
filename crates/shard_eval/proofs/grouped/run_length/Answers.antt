use Rattle.std.proofs.Common.{◌≡◌, ◌+◌, Bool, true, false, not, ◌==◌, ◌&&◌, cond, suc, drop, map, get_or, sym, ◌∙◌, ap, arith}
use Rattle.std.proofs.lemmas.List.{length-drop}
use Rattle.std.specs.Ordering.{is_eq}
use Rattle.uni_base.specs.RankOrder.{doc_cmp}
use Rattle.shard_eval.specs.Grouped.{run_length}
use Rattle.shard_eval.specs.Reached.{found_place}
use Rattle.shard_eval.proofs.FoundLists.{same_place}
use Rattle.shard_eval.proofs.Places.{run_fits, run_from}
use Rattle.shard_eval.proofs.grouped.run_length.Goals as goal

from_not : (b c : Bool) → not b ≡ c → b ≡ not c
from_not true c e = ap not e
from_not false c e = ap not e

pub returns-then-ne : goal.returns-then-ne
returns-then-ne c =
    let ps = c.args.places.now in
    let k = c.args.key.now in
    let i = c.loop-i.i in
    let d = c.index-places-i.result in
    let other : is_eq (doc_cmp (get_or ps i d).key k) ≡ false = same_place (get_or ps i d).key k ∙ from_not ((get_or ps i d).key.rank.0 == k.rank.0 && (get_or ps i d).key.id == k.id) true (sym c.ne.ensures ∙ c.if-ne.true) in
    let here : run_length k (map found_place (drop i ps)) ≡ 0 = run_from k ps i d c.loop-i-test.true ∙ ap (λ b. cond b (suc (run_length k (map found_place (drop (i + 1) ps)))) 0) other in
    let whole : run_length k (map found_place ps) ≡ i + run_length k (map found_place (drop i ps)) = c.loop-i.invariant in
    omega (arith, here, whole)

pub loop-i-preserved : goal.loop-i-preserved
loop-i-preserved c =
    let ps = c.args.places.now in
    let k = c.args.key.now in
    let i = c.loop-i.i in
    let d = c.index-places-i.result in
    let alike : is_eq (doc_cmp (get_or ps i d).key k) ≡ true = same_place (get_or ps i d).key k ∙ from_not ((get_or ps i d).key.rank.0 == k.rank.0 && (get_or ps i d).key.id == k.id) false (sym c.ne.ensures ∙ c.if-ne.false) in
    let here : run_length k (map found_place (drop i ps)) ≡ suc (run_length k (map found_place (drop (i + 1) ps))) =
    run_from k ps i d c.loop-i-test.true ∙ ap (λ b. cond b (suc (run_length k (map found_place (drop (i + 1) ps)))) 0) alike in
    let whole : run_length k (map found_place ps) ≡ i + run_length k (map found_place (drop i ps)) = c.loop-i.invariant in
    let more : run_length k (map found_place ps) ≡ (i + 1) + run_length k (map found_place (drop (i + 1) ps)) = omega (arith, here, whole) in
    more

pub returns : goal.returns
returns c =
    let ps = c.args.places.now in
    let k = c.args.key.now in
    let i = c.loop-i.i in
    let whole : run_length k (map found_place ps) ≡ i + run_length k (map found_place (drop i ps)) = c.loop-i.invariant in
    omega (arith, whole, run_fits k (drop i ps), length-drop i ps, c.loop-i-test.false, c.loop-i.auto.i-end)
