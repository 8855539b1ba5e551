use Rattle.std.proofs.Common.{rules, arith, ◌≡◌, ◌+◌, ◌-◌, ◌*◌, ◌≤◌, ◌++◌, ◌∷◌, [], take, drop, length, subst, sym, ap, ◌∙◌}
use Rattle.std.proofs.lemmas.List.{map-append, take-map, drop-map, length-append, length-map, length-take-le, length-drop}
use Rattle.std.proofs.lemmas.List.Elements.{All-push}
use Rattle.layer_base.specs.Shared.{values, layers_in, AreWhole}
use Rattle.layer_base.proofs.Frozen.{frozen_more}
use Rattle.layer_base.proofs.blocks.freeze.Goals as goal

pub loop-n-preserved : goal.loop-n-preserved
loop-n-preserved g c =
    let n = c.loop-n.n in let recent = c.args.recent.now in
    let arc = c.in_ok-new.field-0 in
    let pushed : c.push.new.self.items ≡ c.loop-n.blocks.items ++ arc ∷ [] = search rules in
    let made : arc.value ≡ c.in_ok-block.block = c.in_ok-new.ensures.ok in
    let blocks : values c.push.new.self.items ≡ values c.loop-n.blocks.items ++ c.in_ok-block.block ∷ [] =
    ap values pushed ∙ map-append (λ r. r.value) c.loop-n.blocks.items (arc ∷ []) ∙ ap (λ b. values c.loop-n.blocks.items ++ b ∷ []) made in
    let copied : values c.in_ok-block.block.items ≡ values (take 64 (drop (64 * n) recent)) = let same : 64 * n + 64 - 64 * n ≡ 64 = omega arith in c.in_ok-block.ensures {u = tt} ∙ ap (λ k. values (take k (drop (64 * n) recent))) same in
    let fits : 64 * n + 64 ≤ length recent = omega (arith, c.loop-n-test.true) in
    let part : values (take 64 (drop (64 * n) recent)) ≡ take 64 (drop (64 * n) (values recent)) = sym (take-map (λ r. r.value) 64 (drop (64 * n) recent)) ∙ ap (take 64) (sym (drop-map (λ r. r.value) (64 * n) recent)) in
    let long : length c.in_ok-block.block.items ≡ 64 =
    sym (length-map c.in_ok-block.block.items (λ r. r.value)) ∙ ap length copied ∙ length-map (take 64 (drop (64 * n) recent)) (λ r. r.value) ∙ length-take-le 64 (drop (64 * n) recent) (omega (arith, fits, length-drop (64 * n) recent)) in
    record {
      layers = ap layers_in blocks ∙ frozen_more (values c.args.blocks.now.items) (values c.loop-n.blocks.items) c.in_ok-block.block recent n (64 * (n + 1)) (omega arith) (omega (arith, fits)) c.loop-n.invariant.layers (copied ∙ part);
      whole = subst AreWhole (sym blocks) (record {
        each = All-push (λ v. length v.items ≡ 64) (values c.loop-n.blocks.items) c.in_ok-block.block c.loop-n.invariant.whole.each long;
        few = let len : c.len.result ≡ length c.loop-n.blocks.items = search rules in omega (arith, len, c.if-len-ge-MOST_BLOCKS.false, length-append (values c.loop-n.blocks.items) (c.in_ok-block.block ∷ []), length-map c.loop-n.blocks.items (λ r. r.value));
      });
    }
