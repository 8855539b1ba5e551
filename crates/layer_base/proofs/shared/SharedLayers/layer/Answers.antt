use Rattle.std.proofs.Common.{rules, arith, ◌≡◌, ◌-◌, ◌*◌, ◌/◌, ◌%◌, length, get_or, slice_get, Some, ap, ◌∙◌, sym, refl}
use Rattle.std.proofs.lemmas.List.{length-map}
use Rattle.std.proofs.lemmas.Option.{slice_get_read}
use Rattle.std.specs.Vec.{vec_len}
use Rattle.layer_base.specs.Shared.{values}
use Rattle.layer_base.proofs.Frozen.{slice_get-map, in_block, past_blocks, length-layers_of, whole_at}
use Rattle.layer_base.proofs.shared.SharedLayers.layer.Goals as goal

pub index-requires-then-block-len : goal.index-requires-then-block-len
index-requires-then-block-len g c =
    let b = c.args.i / 64 in
    let len : c.len.result ≡ length c.self.inside.blocks.items = search rules in
    let at : slice_get c.self.inside.blocks.items b ≡ Some c.index.result.now = slice_get_read c.self.inside.blocks.items (length c.self.inside.blocks.items) b c.index.result.now refl (omega (arith, len, c.if-block-len.true)) c.index.ensures in
    let long = whole_at (values c.self.inside.blocks.items) b c.index.result.now.value c.self.invariant.each (slice_get-map (λ r. r.value) c.self.inside.blocks.items b c.index.result.now at) in
    let is : c.deref.result.now ≡ c.index.result.now.value = search rules in
    let all : vec_len c.deref.result.now ≡ 64 = search (rules, long, is) in
    omega (arith, all)

pub index-requires-else-block-len : goal.index-requires-else-block-len
index-requires-else-block-len g c =
    let all = length-layers_of (values c.self.inside.blocks.items) c.self.inside.recent.items c.self.invariant.each in
    let blocks : c.len-else-block-len.result ≡ length c.self.inside.blocks.items = search rules in
    let first : c.len.result ≡ length c.self.inside.blocks.items = search rules in
    let recent : vec_len c.self.inside.recent ≡ length c.self.inside.recent.items = search rules in
    omega (arith, all, blocks, first, recent, c.if-block-len.false, length-map c.self.inside.blocks.items (λ r. r.value), ap (λ v. length v.0) c.self.view_is, c.requires)

pub returns-then-block-len : goal.returns-then-block-len
returns-then-block-len g c =
    let b = c.args.i / 64 in let r = c.args.i % 64 in
    let len : c.len.result ≡ length c.self.inside.blocks.items = search rules in
    let at : slice_get c.self.inside.blocks.items b ≡ Some c.index.result.now = slice_get_read c.self.inside.blocks.items (length c.self.inside.blocks.items) b c.index.result.now refl (omega (arith, len, c.if-block-len.true)) c.index.ensures in
    let block = c.index.result.now.value in
    let is : c.deref.result.now ≡ block = search rules in
    let long = whole_at (values c.self.inside.blocks.items) b block c.self.invariant.each (slice_get-map (λ x. x.value) c.self.inside.blocks.items b c.index.result.now at) in
    let read : slice_get block.items r ≡ Some c.index-then-block-len.result.now = slice_get_read block.items (length block.items) r c.index-then-block-len.result.now refl (omega (arith, long)) (c.index-then-block-len.ensures ∙ ap (λ v. get_or v.items r c.index-then-block-len.result.now) is) in
    ap (λ v. slice_get v.0 c.args.i) (sym c.self.view_is)
    ∙ in_block (values c.self.inside.blocks.items) (values c.self.inside.recent.items) b r c.args.i block c.self.invariant.each (slice_get-map (λ x. x.value) c.self.inside.blocks.items b c.index.result.now at) (omega arith) (omega arith)
    ∙ slice_get-map (λ x. x.value) block.items r c.index-then-block-len.result.now read

pub returns-else-block-len : goal.returns-else-block-len
returns-else-block-len g c =
    let all = length-layers_of (values c.self.inside.blocks.items) c.self.inside.recent.items c.self.invariant.each in
    let blocks : c.len-else-block-len.result ≡ length c.self.inside.blocks.items = search rules in
    let first : c.len.result ≡ length c.self.inside.blocks.items = search rules in
    let mapped = length-map c.self.inside.blocks.items (λ r. r.value) in
    let n = c.args.i - 64 * c.len-else-block-len.result in
    let read : slice_get c.self.inside.recent.items n ≡ Some c.index-else-block-len.result.now =
    slice_get_read c.self.inside.recent.items (length c.self.inside.recent.items) n c.index-else-block-len.result.now refl
    (omega (arith, all, blocks, first, c.if-block-len.false, mapped, ap (λ v. length v.0) c.self.view_is, c.requires)) c.index-else-block-len.ensures in
    ap (λ v. slice_get v.0 c.args.i) (sym c.self.view_is)
    ∙ past_blocks (values c.self.inside.blocks.items) (values c.self.inside.recent.items) c.args.i c.self.invariant.each (omega (arith, first, mapped, c.if-block-len.false))
    ∙ ap (λ k. slice_get (values c.self.inside.recent.items) (c.args.i - 64 * k)) (mapped ∙ sym blocks)
    ∙ slice_get-map (λ x. x.value) c.self.inside.recent.items n c.index-else-block-len.result.now read
