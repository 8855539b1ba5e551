use Rattle.std.proofs.Common.{arith, ◌≡◌, ◌+◌, ◌<◌, ◌++◌, ◌∷◌, [], Some, length, take, drop, get_or, refl, sym, ap, ◌∙◌, slice_get}
use Rattle.std.proofs.lemmas.List.{map-append, length-map, take-map, drop-map}
use Rattle.std.proofs.lemmas.Option.{slice_get_read, get_or_from_slice_get}
use Rattle.layer_base.proofs.Frozen.{slice_get-map}
use Rattle.shard_index.specs.Versions.{layers_of}
use Rattle.version_catalog.proofs.Shares.{one_changed}
use Rattle.version_catalog.proofs.stacks.fronted_stacks.Goals as goal

pub returns : goal.returns
returns c =
    let stacks = c.args.stacks.now in let i = c.args.number in let stack = c.index-stacks-number.result in let all = layers_of stacks in
    let at : slice_get all i ≡ Some stack.0 = slice_get-map (λ index. index.0) stacks i stack (slice_get_read stacks (length stacks) i stack refl c.requires.number c.index-stacks-number.is) in
    let own : stack.0 ≡ get_or all i [] = sym (get_or_from_slice_get all i stack.0 [] at) in
    let front : c.in_ok-front.front.0 ≡ c.args.layer ∷ drop (1 + c.args.later) (get_or all i []) = c.in_ok-front.ensures {u = tt} ∙ ap (λ ls. c.args.layer ∷ drop (1 + c.args.later) ls) own in
    let first : layers_of c.add_stacks.new.all.items ≡ take i all =
    c.in_ok-add_stacks.ensures {u = tt} ∙ (λ k. layers_of (c.new-changed.ensures.items k) ++ layers_of (c.split_at.ensures.front k)) ∙ sym (take-map (λ index. index.0) i stacks) in
    let rest : layers_of c.split_at-2.result.1.now ≡ drop (i + 1) all = ap layers_of c.split_at-2.ensures.back ∙ sym (drop-map (λ index. index.0) (i + 1) stacks) in
    let pushed : layers_of c.push.new.self.items ≡ take i all ++ (c.args.layer ∷ drop (1 + c.args.later) (get_or all i [])) ∷ [] =
    ap layers_of (c.in_ok-push.ensures {u = tt}).items ∙ map-append (λ index. index.0) c.add_stacks.new.all.items (c.in_ok-front.front ∷ []) ∙ (λ k. first k ++ front k ∷ []) in
    let below : i < length all = omega (arith, c.requires.number, length-map stacks (λ index. index.0)) in
    c.in_ok-add_stacks-2.ensures {u = tt} ∙ (λ k. pushed k ++ rest k) ∙ one_changed all i (c.args.layer ∷ drop (1 + c.args.later) (get_or all i [])) below
