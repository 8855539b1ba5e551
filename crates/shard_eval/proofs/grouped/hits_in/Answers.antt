use Rattle.std.proofs.Common.{◌≡◌, ◌≤◌, ◌+◌, ◌++◌, ◌∷◌, [], false, List, length, map, take, drop, get_or, ap, subst, sym, ◌∙◌, arith}
use Rattle.std.proofs.lemmas.List.{drop-drop, length-append, length-drop}
use Rattle.lineage_tree.specs.declared.lineage.RawHit.{RawHit}
use Rattle.shard_eval.specs.declared.grouped.Place.{Place}
use Rattle.shard_eval.specs.Found.{found_all, found_of}
use Rattle.shard_eval.specs.Grouped.{grouped, run_length, Rises}
use Rattle.shard_eval.specs.Kept.{is_full, IsWithin}
use Rattle.shard_eval.specs.Reached.{found_place}
use Rattle.shard_eval.proofs.FirstKeys.{enough_hit, no_more_hits}
use Rattle.shard_eval.proofs.Places.{first_left, hit_of_run, hits_more, none_left, rises_next, run_fits, with_tree}
use Rattle.shard_eval.proofs.ReachedLists.{within_more}
use Rattle.shard_eval.proofs.grouped.hits_in.Goals as goal
use Rattle.shard_eval.proofs.grouped.hits_in.Goals.{else-loop-from-test, then-loop-from-test+then-is_full}

pub split_at-requires-in-loop-from : goal.split_at-requires-in-loop-from
split_at-requires-in-loop-from c =
    let rest = c.split_at.result.1.now in
    let key = (get_or c.args.places.now c.loop-from.from c.index-places-from.result).key in
    let fits : run_length key (map found_place rest) ≤ length rest = run_fits key rest in
    subst (λ n. n ≤ length rest) (sym c.run_length-count.ensures) fits

pub loop-from-preserved : goal.loop-from-preserved
loop-from-preserved c =
    let ps = c.args.places.now in
    let from = c.loop-from.from in
    let d = c.index-places-from.result in
    let p = get_or ps from d in
    let left = drop from ps in
    let n = c.run_length-count.result in
    let inv = c.loop-from.invariant in
    let back : c.split_at.result.1.now ≡ left = c.split_at.ensures.back in
    let is : n ≡ run_length p.key (map found_place left) = c.run_length-count.ensures ∙ ap (λ (qs : List Place). run_length p.key (map found_place qs)) back in
    let run : c.split_at-in-loop-from.result.0.now ≡ take n left = c.split_at-in-loop-from.ensures.front ∙ ap (take n) back in
    let hit : RawHit = record { key = p.key; lineage = c.in_ok-lineage.lineage } in
    let one : found_of hit ≡ hit_of_run p.key (take n left) = ap (with_tree p.key) (c.in_ok-lineage.ensures {u = tt}) ∙ ap (hit_of_run p.key) run in
    let pushed = (c.in_ok-push.ensures {u = tt}).ok in
    let later : drop n left ≡ drop (from + n) ps = drop-drop n from ps in
    let le : run_length p.key (map found_place left) ≤ length left = run_fits p.key left in
    let room : is_full (length c.loop-from.hits) c.args.limit ≡ false = ap (λ m. is_full m c.args.limit) (sym c.len.ensures) ∙ sym c.is_full.ensures ∙ c.if-is_full.false in
    record {
      fits = omega (arith, inv.fits, is, le, length-drop from ps);
      whole = subst (λ (hs : List RawHit). found_all hs ++ grouped (map found_place (drop (from + n) ps)) ≡ grouped (map found_place ps)) (sym pushed)
          (subst (λ (qs : List Place). found_all (c.loop-from.hits ++ hit ∷ []) ++ grouped (map found_place qs) ≡ grouped (map found_place ps)) later
          (hits_more c.loop-from.hits hit left p n (grouped (map found_place ps)) (first_left ps from d c.loop-from-test.true) inv.rises is one inv.whole));
      rises = subst (λ (qs : List Place). Rises (map found_place qs)) later (rises_next n left inv.rises);
      within = subst (λ m. IsWithin m c.args.limit) (sym (ap length pushed ∙ length-append c.loop-from.hits (hit ∷ []))) (within_more c.args.limit (length c.loop-from.hits) room);
    }

pub returns : goal.returns
returns c =
    let ps = c.args.places.now in
    let inv = c.loop-from.invariant in
    elim c.loop-from-test.branch [
      | else-loop-from-test w ↦
          no_more_hits c.args.limit c.loop-from.hits (grouped (map found_place ps))
          (subst (λ (qs : List Place). found_all c.loop-from.hits ++ grouped (map found_place qs) ≡ grouped (map found_place ps)) (none_left c.loop-from.from ps w.loop-from-test.false) inv.whole) inv.within
      | then-loop-from-test+then-is_full w ↦
          enough_hit c.args.limit c.loop-from.hits (grouped (map found_place (drop c.loop-from.from ps))) (grouped (map found_place ps)) inv.whole inv.within
          (ap (λ m. is_full m c.args.limit) (sym w.len.ensures) ∙ sym w.is_full.ensures ∙ w.if-is_full.true)
    ]
