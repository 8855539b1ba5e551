use Rattle.std.proofs.Common.{◌≡◌, ◌-◌, length, take, drop, arith, ap, sym, subst, ◌∙◌}
use Rattle.std.proofs.lemmas.List.{drop-map, length-drop, take_all}
use Rattle.uni_base.specs.Cursors.{IsRanked, keys_from}
use Rattle.uni_base.proofs.RankedLemmas.{IsRanked-keys_from}
use Rattle.lineage_tree.specs.declared.lineage.RawHit.{RawHit}
use Rattle.shard_eval.specs.Found.{hit_keys}
use Rattle.shard_eval.proofs.operand.HitCursorDocCursor.seek.Goals as goal

pub invariant_of-self : goal.invariant_of-self
invariant_of-self c =
    let hits = c.self.inside.hits.now in
    let n = c.count_before-passed.result in
    let part : take (length hits - n) (drop n hits) ≡ drop n hits = take_all (length hits - n) (drop n hits) (omega (arith, length-drop n hits)) in
    let left : hit_keys (take (length hits - n) (drop n hits)) ≡ keys_from c.args.from (hit_keys hits) =
    ap hit_keys part ∙ sym (drop-map (λ (hit : RawHit). hit.key) n hits) ∙ sym c.count_before-passed.ensures.value in
    subst IsRanked (sym left) (IsRanked-keys_from c.args.from (hit_keys hits) c.self.invariant)

pub returns : goal.returns
returns c =
    let hits = c.self.inside.hits.now in
    let n = c.count_before-passed.result in
    let part : take (length hits - n) (drop n hits) ≡ drop n hits = take_all (length hits - n) (drop n hits) (omega (arith, length-drop n hits)) in
    ap hit_keys part ∙ sym (drop-map (λ (hit : RawHit). hit.key) n hits) ∙ sym c.count_before-passed.ensures.value ∙ ap (keys_from c.args.from) c.self.view_is
