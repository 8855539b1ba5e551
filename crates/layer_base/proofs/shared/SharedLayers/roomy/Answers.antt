use Rattle.std.proofs.Common.{rules, arith, ◌≡◌, ◌-◌, ◌*◌, ◌/◌, ◌++◌, take, drop, length, ap, ◌∙◌, sym, append_assoc}
use Rattle.std.proofs.lemmas.List.{drop-map, take-append-drop, take_all, length-drop}
use Rattle.layer_base.specs.Shared.{values, layers_in}
use Rattle.layer_base.proofs.shared.SharedLayers.roomy.Goals as goal

pub returns-clause-layers : goal.returns-clause-layers
returns-clause-layers g c =
    let recent = c.self.inside.recent.items in let n = 64 * (length recent / 64) in
    let frozen : layers_in (values c.freeze.new.blocks.items) ≡ layers_in (values c.self.inside.blocks.items) ++ take n (values recent) =
    let copied : values c.in_ok-blocks.blocks.items ≡ values c.self.inside.blocks.items = search (rules, c.in_ok-blocks.ensures {u = tt}, ap values c.deref.ensures.value) in
    c.in_ok-freeze.ensures.layers ∙ (λ i. layers_in (copied i) ++ take (64 * (length (c.deref-2.ensures.value i) / 64)) (values (c.deref-2.ensures.value i))) in
    let rest : values c.reserve.new.self.items ≡ drop n (values recent) =
    let whole : c.len-whole.result ≡ length recent = search rules in
    let kept : c.reserve.new.self.items ≡ c.in_ok-recent.recent.items = search rules in
    let e = c.in_ok-recent.ensures {u = tt} in ap values kept ∙ e
    ∙ (λ i. values (take (length (c.deref-3.ensures.value i) - 64 * (whole i / 64)) (drop (64 * (whole i / 64)) (c.deref-3.ensures.value i))))
    ∙ ap values (take_all (length recent - n) (drop n recent) (omega (arith, length-drop n recent))) ∙ sym (drop-map (λ r. r.value) n recent) in
    (λ i. frozen i ++ rest i) ∙ append_assoc (layers_in (values c.self.inside.blocks.items)) (take n (values recent)) (drop n (values recent))
    ∙ ap (λ xs. layers_in (values c.self.inside.blocks.items) ++ xs) (take-append-drop n (values recent)) ∙ ap (λ v. v.0) c.self.view_is
