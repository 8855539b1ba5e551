-- The ranks that the rows of a shard have are those of its entities.
use Rattle.std.proofs.Common.{◌≡◌, ◌==◌, ◌&&◌, ℕ, Bool, true, false, cond, if◌then◌else◌, List, [], ◌∷◌, map, filter, Option, None, Some, refl, sym, ◌∙◌, ap, subst, arith}
use Rattle.std.proofs.lemmas.Bool.Decides.{nat_tests}
use Rattle.std.proofs.lemmas.List.Elements.{All-contains_itself, All-weaker, recursion_from_All}
use Rattle.std.proofs.lemmas.Map.Lookups.{exact_unsigned}
use Rattle.std.specs.Cmp.{nat_cmp_total, tied_itself}
use Rattle.std.specs.FinMap as finite
use Rattle.std.specs.List.{AllByRecursion, Contains, list_any}
use Rattle.std.specs.Option.{option_and_then}
use Rattle.std.specs.Ordering.{nat_cmp, eq_by_cmp, is_eq}
use Rattle.uni_base.specs.declared.entity.DocKey.{DocKey}
use Rattle.uni_base.specs.declared.entity.Rank.{Rank}
use Rattle.uni_base.specs.declared.limits.Limits.{Limits}
use Rattle.uni_schema.specs.Schema.{Declarations, shard_of}
use Rattle.uni_table.specs.declared.command.EntityRow.{EntityRow}
use Rattle.uni_table.specs.Contents.{Contents, entity_at}
use Rattle.uni_table.specs.Ranked.{is_of_shard, ranked, ranked_all}
use Rattle.uni_table.specs.TableState.{IsKept}
use Rattle.uni_table.proofs.Exact.{ranked_is_exact}
use Rattle.uni_table.proofs.Sharded.{shards_part}
use Rattle.shard_index.specs.Laws.{rank_in_shard}
use Rattle.shard_index.specs.Shards.{entity_row, shard_rows}
use Rattle.shard_index.proofs.Among.{any_left, any-map}
use Rattle.shard_index.proofs.LoggedMaps.{equal_of, Agree, stands_there, logged_is}
use Rattle.shard_index.proofs.Squeezed.{number_itself}

pub same_number : (a b : ℕ) → (a == b) ≡ true → a ≡ b
same_number a b e = grind (arith, nat_tests)

and_true : (a b : Bool) → a ≡ true → b ≡ true → (a && b) ≡ true
and_true true b s t = t
and_true false b s t = cc

and_first : (a b : Bool) → (a && b) ≡ true → a ≡ true
and_first true b t = refl
and_first false b t = cc

and_second : (a b : Bool) → (a && b) ≡ true → b ≡ true
and_second true b t = t
and_second false b t = cc

module _ (schema : Declarations) (limits : Limits) (table : Contents) (vertical shard : ℕ) (kept : IsKept schema limits table) where
  abbrev of_shard : DocKey → Bool
  of_shard k = shard_of schema vertical k.id == shard

  abbrev IsThere : DocKey → Type 0
  IsThere k = entity_at table k.id ≡ Some (record { vertical = vertical; rank = k.rank })

  -- an entity of the shard at its rank
  abbrev pub IsOfShard : DocKey → Type 0
  IsOfShard k = IsThere k × (of_shard k ≡ true)

  in_shard : (ks : List DocKey) → AllByRecursion IsThere ks → AllByRecursion IsOfShard (filter of_shard ks)
  in_shard [] all = tt
  in_shard (k ∷ ks) all = by (of_shard k) refl (in_shard ks all.1) all.0
    where
      by : (b : Bool) → of_shard k ≡ b → AllByRecursion IsOfShard (filter of_shard ks) → IsThere k → AllByRecursion IsOfShard (cond b (k ∷ filter of_shard ks) (filter of_shard ks))
      by true t later here = ((here, t), later)
      by false t later here = later

  part : ranked schema table vertical shard ≡ filter of_shard (ranked_all table vertical)
  part = shards_part.lists schema limits table vertical shard kept

  -- the entities that are listed for the shard are its own
  pub ranked_there : AllByRecursion IsOfShard (ranked schema table vertical shard)
  ranked_there =
      subst (AllByRecursion IsOfShard) (sym part)
      (in_shard (ranked_all table vertical)
      (recursion_from_All IsThere (ranked_all table vertical) (All-weaker (Contains (ranked_all table vertical)) IsThere (λ k among. (ranked_is_exact.lists schema limits table vertical k kept).0 among) (ranked_all table vertical) (All-contains_itself (ranked_all table vertical)))))

  -- and each of them is listed
  pub ranked_has : (id : ℕ) (row : EntityRow) → entity_at table id ≡ Some row → is_of_shard schema vertical shard (id, row) ≡ true → list_any (λ k. eq_by_cmp nat_cmp id k.id) (ranked schema table vertical shard) ≡ true
  ranked_has id row at own =
      let of_vertical : row.vertical ≡ vertical = same_number row.vertical vertical (and_first (row.vertical == vertical) (shard_of schema vertical id == shard) own) in
      let key : DocKey = record { rank = row.rank; id = id } in
      let there : IsThere key = at ∙ (λ i. Some (record { vertical = of_vertical i; rank = row.rank })) in
      ap (list_any (λ k. eq_by_cmp nat_cmp id k.id)) part
      ∙ any_left of_shard (λ k. eq_by_cmp nat_cmp id k.id) (ranked_all table vertical) key ((ranked_is_exact.lists schema limits table vertical key kept).1 there) (and_second (row.vertical == vertical) (shard_of schema vertical id == shard) own) (ap is_eq (tied_itself nat_cmp_total id))

  module _ (id : ℕ) where
    abbrev answer : Option Rank
    answer = rank_in_shard schema table vertical shard id

    one_agrees : (k : DocKey) → IsOfShard k → eq_by_cmp nat_cmp id k.id ≡ true → answer ≡ Some k.rank
    one_agrees k own t =
        let same : id ≡ k.id = exact_unsigned id k.id (equal_of (nat_cmp id k.id) t) in
        let asked : EntityRow → Option Rank = λ row. if is_of_shard schema vertical shard (k.id, row) then Some row.rank else None in
        ap (rank_in_shard schema table vertical shard) same ∙ ap (option_and_then asked) own.0
        ∙ ap (λ b. if b then Some k.rank else None) (and_true (vertical == vertical) (of_shard k) (number_itself vertical) own.1)

    agree : (ks : List DocKey) → AllByRecursion IsOfShard ks → Agree nat_cmp id answer (map entity_row ks)
    agree [] all = tt
    agree (k ∷ ks) all = (one_agrees k all.0, agree ks all.1)

    missing : stands_there nat_cmp id answer (map entity_row (ranked schema table vertical shard)) ≡ false → answer ≡ None
    missing e = by (entity_at table id) refl
      where
        never : true ≡ false → answer ≡ None
        never f = cc

        by : (o : Option EntityRow) → entity_at table id ≡ o → option_and_then (λ (row : EntityRow). if is_of_shard schema vertical shard (id, row) then Some row.rank else None) o ≡ None
        by None at = refl
        by (Some row) at = next (is_of_shard schema vertical shard (id, row)) refl
          where
            next : (b : Bool) → is_of_shard schema vertical shard (id, row) ≡ b → (if b then Some row.rank else None) ≡ None
            next true own =
                let listed : list_any (λ k. eq_by_cmp nat_cmp id k.id) (ranked schema table vertical shard) ≡ true = ranked_has id row at own in
                let unlisted : list_any (λ k. eq_by_cmp nat_cmp id k.id) (ranked schema table vertical shard) ≡ false =
                sym (any-map (λ row. eq_by_cmp nat_cmp id row.0) entity_row (ranked schema table vertical shard)) ∙ e in
                let both : true ≡ false = sym listed ∙ unlisted in absurd cc
            next false own = refl

    pub ranks_read : finite.get (shard_rows schema table vertical shard).entities id ≡ answer
    unfolding shard_rows
    ranks_read = logged_is nat_cmp id answer nat_cmp_total (map entity_row (ranked schema table vertical shard)) (agree (ranked schema table vertical shard) ranked_there) missing
