use Rattle.std.proofs.Common.{rules, arith, ◌≡◌, ◌<◌, [], Some, length, ap, ◌∙◌, sym, refl, slice_get}
use Rattle.std.proofs.lemmas.List.{length-map}
use Rattle.std.proofs.lemmas.Option.{get_or_from_slice_get, slice_get_read}
use Rattle.layer_base.proofs.Frozen.{slice_get-map}
use Rattle.shard_index.specs.Places.{stack_place, stack_no, stack_count}
use Rattle.shard_index.specs.Rows.{stack_rows}
use Rattle.shard_index.specs.Versions.{VersionState, layers_of}
use Rattle.shard_index.proofs.StackPlaces.{stack_is_at}
use Rattle.shard_index.proofs.Standing.{stands_at}
use Rattle.shard_index.proofs.version.Version.shard.Goals as goal

pub returns-clause-rows : goal.returns-clause-rows
returns-clause-rows c table stands =
    let schema = c.args.self.now.schema in let stacks = c.args.self.now.stacks in
    let v = c.args.vertical in let s = c.args.shard in let r = c.args.replica in
    let no = stack_no schema v s r in
    let is : c.stack_no.result ≡ no = search rules in
    let at : slice_get stacks no ≡ Some c.index.result.now.0 =
    let count : length (layers_of c.self.inside.stacks.items) ≡ length c.self.inside.stacks.items = length-map c.self.inside.stacks.items (λ index. index.0) in
    let below : c.stack_no.result < length c.self.inside.stacks.items = omega (arith, c.self.invariant.count, count, c.stack_no.ensures.within, ap stack_count c.deref.ensures) in
    let read : slice_get c.self.inside.stacks.items c.stack_no.result ≡ Some c.index.result.now = slice_get_read c.self.inside.stacks.items (length c.self.inside.stacks.items) c.stack_no.result c.index.result.now refl below c.index.ensures in
    ap (slice_get stacks) (sym is) ∙ ap (λ (version : VersionState). slice_get version.stacks c.stack_no.result) (sym c.self.view_is) ∙ slice_get-map (λ index. index.0) c.self.inside.stacks.items c.stack_no.result c.index.result.now read in
    ap stack_rows (sym (get_or_from_slice_get stacks no c.index.result.now.0 [] at)) ∙ stands_at schema table stacks stands.rows no (stack_place v s r) (stack_is_at schema v s r c.requires)
