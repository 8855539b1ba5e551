use Rattle.std.proofs.Common.{◌≡◌, ◌++◌, ◌+◌, ℕ, List, map, sym, ap, ◌∙◌, arith}
use Rattle.std.specs.List.{flat_map, range_with_len}
use Rattle.uni_base.specs.declared.entity.DocKey.{DocKey}
use Rattle.uni_table.specs.Ranked.{ranked}
use Rattle.uni_meaning.specs.Viewed.{Viewed}
use Rattle.uni_meaning.specs.declared.place.Place.{Place}
use Rattle.uni_meaning.proofs.AtPlaces.{flat_map-range_more}
use Rattle.uni_meaning.proofs.view.View.places.Goals as goal

pub loop-shard-preserved : goal.loop-shard-preserved
loop-shard-preserved c =
    let s = c.args.self.now in
    let shard = c.loop-shard.shard in
    let placed = λ (n : ℕ). map (λ (x : DocKey). record { doc = x; shard = n }) (ranked s.schema s.contents c.args.vertical n) in
    let docs : c.as_slice.result.now ≡ ranked s.schema s.contents c.args.vertical shard =
    c.as_slice.ensures ∙ c.in_ok-docs.ensures ∙ ap (λ (v : Viewed). ranked v.schema v.contents c.args.vertical shard) c.self.view_is in
    c.in_ok-add_places.ensures
    ∙ ap (λ (ps : List Place). ps ++ map (λ (x : DocKey). record { doc = x; shard = shard }) c.as_slice.result.now) c.loop-shard.invariant
    ∙ ap (λ (ds : List DocKey). flat_map placed (range_with_len 0 shard) ++ map (λ (x : DocKey). record { doc = x; shard = shard }) ds) docs
    ∙ sym (flat_map-range_more placed 0 shard ∙ ap (λ n. flat_map placed (range_with_len 0 shard) ++ placed n) (let e : 0 + shard ≡ shard = omega arith in e))
