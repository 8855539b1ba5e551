-- What an operator keeps is in rank order.
use Rattle.std.proofs.Common.{◌≡◌, ℕ, zero, suc, true, not, List, [], ◌∷◌, Option, None, Some, map, take, refl, sym, ◌∙◌, ap}
use Rattle.std.specs.List.{list_all, take-map}
use Rattle.std.proofs.lemmas.List.Elements.{All-head, All-take}
use Rattle.query_tree.specs.declared.kind.ListKind.{ListKind}
use Rattle.query_tree.specs.declared.kind.ListKind.TheVariants.{And, Or, Difference, WeakAnd, StrongOr}
use Rattle.query_tree.specs.declared.query.Mark.{Mark}
use Rattle.uni_base.specs.declared.entity.DocKey.{DocKey}
use Rattle.uni_base.specs.Cursors.{is_before, IsRanked}
use Rattle.uni_base.specs.KeySets.{has_key, united}
use Rattle.uni_base.proofs.RankedLemmas.{IsRanked-filter}
use Rattle.uni_base.proofs.UnitedLemmas.{IsRanked-united}
use Rattle.weak_strong.specs.declared.rule.Rule.TheVariants.{Weak, Strong}
use Rattle.weak_strong.proofs.Settled.{IsRanked-walk_of}
use Rattle.shard_eval.specs.Found.{Found, found_keys}
use Rattle.shard_eval.specs.Kept.{counters, found_at, found_list, kept, up_to}
use Rattle.shard_eval.specs.Rows.{found_rows, with_all}
use Rattle.shard_eval.specs.Sources.{AreRanked}

pub kept_ranked : (kind : ListKind) (marks : List Mark) (lists : List (List Found)) → AreRanked lists → IsRanked (kept kind marks (map found_keys lists))
kept_ranked And marks lists all = IsRanked-filter (λ k. list_all (λ (keys : List DocKey). has_key keys k) (map found_keys lists)) (united (map found_keys lists)) (IsRanked-united (map found_keys lists))
kept_ranked Or marks lists all = IsRanked-united (map found_keys lists)
kept_ranked Difference marks [] all = tt
kept_ranked Difference marks (fs ∷ lists) all = IsRanked-filter (λ k. not (has_key (united (map found_keys lists)) k)) (found_keys fs) (All-head (λ (gs : List Found). IsRanked (found_keys gs)) fs lists all)
kept_ranked WeakAnd marks lists all = IsRanked-walk_of Weak (map found_keys lists) (counters marks) 0
kept_ranked StrongOr marks lists all = IsRanked-walk_of Strong (map found_keys lists) (counters marks) 0

IsRanked-take : (n : ℕ) (keys : List DocKey) → IsRanked keys → IsRanked (take n keys)
IsRanked-take zero keys ranked = tt
IsRanked-take (suc n) [] ranked = tt
IsRanked-take (suc n) (k ∷ keys) ranked = (All-take (λ x. is_before k x ≡ true) n keys ranked.0, IsRanked-take n keys ranked.1)

pub up_to_ranked : (limit : Option ℕ) (keys : List DocKey) → IsRanked keys → IsRanked (up_to limit keys)
up_to_ranked None keys ranked = ranked
up_to_ranked (Some n) keys ranked = IsRanked-take n keys ranked

-- as many of what is found as of its keys
pub up_to_map : {X Y : Type 0} (f : X → Y) (limit : Option ℕ) (xs : List X) → map f (up_to limit xs) ≡ up_to limit (map f xs)
up_to_map f None xs = refl
up_to_map f (Some n) xs = sym (take-map f n xs)

-- the keys of what an operator finds are those that it keeps
pub keys_of_list : (kind : ListKind) (marks : List Mark) (lists : List (List Found)) → found_keys (found_list kind marks lists) ≡ kept kind marks (map found_keys lists)
keys_of_list kind marks lists = over (kept kind marks (map found_keys lists))
  where
    over : (keys : List DocKey) → found_keys (map (found_at kind lists) keys) ≡ keys
    over [] = refl
    over (k ∷ keys) = ap (λ (ks : List DocKey). k ∷ ks) (over keys)

-- the rows of the first keys are the first of what an operator finds
pub rows_up_to : (kind : ListKind) (marks : List Mark) (lists : List (List Found)) (limit : Option ℕ)
    → found_rows kind (with_all lists (up_to limit (kept kind marks (map found_keys lists)))) ≡ up_to limit (found_list kind marks lists)
rows_up_to kind marks lists limit = over (up_to limit (kept kind marks (map found_keys lists))) ∙ up_to_map (found_at kind lists) limit (kept kind marks (map found_keys lists))
  where
    over : (keys : List DocKey) → found_rows kind (with_all lists keys) ≡ map (found_at kind lists) keys
    over [] = refl
    over (k ∷ keys) = ap (λ (fs : List Found). found_at kind lists k ∷ fs) (over keys)
