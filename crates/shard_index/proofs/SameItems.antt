-- The edges of a record in two tables that have them with the same audiences.
use Rattle.std.proofs.Common.{◌≡◌, Bool, true, false, cond, List, [], ◌∷◌, map, filter, None, Some, refl, sym, ◌∙◌, ap, subst}
use Rattle.std.proofs.lemmas.Map.Entries.{lookup-filter-keys}
use Rattle.std.proofs.lemmas.List.Kept.{IsStrictlySortedBy-filter}
use Rattle.std.specs.BTreeMap.{is_at}
use Rattle.std.specs.List.Sorted.{IsStrictlySortedBy}
use Rattle.std.specs.Map.{keys_of, lookup}
use Rattle.std.specs.Option.{option_map}
use Rattle.uni_base.specs.declared.edge.Audience.{Audience}
use Rattle.uni_base.specs.declared.edge.EdgeRef.{EdgeRef}
use Rattle.uni_base.specs.EdgeOrder.{edge_cmp}
use Rattle.uni_table.specs.declared.command.EdgeRow.{EdgeRow}
use Rattle.uni_table.specs.GraphKeys.{edge_total, exact_edges}
use Rattle.uni_table.specs.Lists.{held_of}
use Rattle.forward_data.specs.declared.record.ForwardItem.{ForwardItem}
use Rattle.shard_index.specs.Shards.{item_of}
use Rattle.shard_index.proofs.LoggedMaps.{equal_of}
use Rattle.shard_index.proofs.SameLists.{lists_same}

-- an edge with its audience
abbrev pub seen : EdgeRef × EdgeRow → EdgeRef × Audience
seen e = (e.0, e.1.audience)

abbrev pub item : EdgeRef × Audience → ForwardItem
item e = record { target = e.0.target; audience = e.1 }

lookup-seen : (test : EdgeRef → Bool) (es : List (EdgeRef × EdgeRow)) → lookup test (map seen es) ≡ option_map (λ (row : EdgeRow). row.audience) (lookup test es)
lookup-seen test [] = refl
lookup-seen test (e ∷ es) = elim (test e.0) as (λ b. cond b (Some e.1.audience) (lookup test (map seen es)) ≡ option_map (λ (row : EdgeRow). row.audience) (cond b (Some e.1) (lookup test es))) [
  | true ↦ refl
  | false ↦ lookup-seen test es
]

keys-seen : (es : List (EdgeRef × EdgeRow)) → keys_of (map seen es) ≡ keys_of es
keys-seen [] = refl
keys-seen (e ∷ es) = ap (λ ks. e.0 ∷ ks) (keys-seen es)

pub keys-left : (p : EdgeRef → Bool) (es : List (EdgeRef × EdgeRow)) → keys_of (filter (λ e. p e.0) es) ≡ filter p (keys_of es)
keys-left p [] = refl
keys-left p (e ∷ es) =
    elim (p e.0) as (λ b. keys_of (cond b (e ∷ filter (λ f. p f.0) es) (filter (λ f. p f.0) es)) ≡ cond b (e.0 ∷ filter p (keys_of es)) (filter p (keys_of es))) [
      | true ↦ ap (λ ks. e.0 ∷ ks) (keys-left p es)
      | false ↦ keys-left p es
    ]

items-seen : (es : List (EdgeRef × EdgeRow)) → map item (map seen es) ≡ map item_of (map held_of es)
items-seen [] = refl
items-seen (e ∷ es) = ap (λ is. item_of (held_of e) ∷ is) (items-seen es)

module _ (p : EdgeRef → Bool) where
  pub sorted-seen : (es : List (EdgeRef × EdgeRow)) → IsStrictlySortedBy edge_cmp (keys_of es) → IsStrictlySortedBy edge_cmp (keys_of (map seen (filter (λ e. p e.0) es)))
  sorted-seen es sorted = subst (IsStrictlySortedBy edge_cmp) (sym (keys-seen (filter (λ e. p e.0) es) ∙ keys-left p es)) (IsStrictlySortedBy-filter edge_cmp p (keys_of es) sorted)

  -- the audience of an edge that is left
  pub seen_at : (es : List (EdgeRef × EdgeRow)) (q : EdgeRef) → lookup (is_at (edge_cmp q)) (map seen (filter (λ e. p e.0) es)) ≡ option_map (λ (row : EdgeRow). row.audience) (cond (p q) (lookup (is_at (edge_cmp q)) es) None)
  seen_at es q =
      lookup-seen (is_at (edge_cmp q)) (filter (λ e. p e.0) es)
      ∙ ap (option_map (λ (row : EdgeRow). row.audience)) (lookup-filter-keys (is_at (edge_cmp q)) p (p q) (λ k t. ap p (sym (exact_edges q k (equal_of (edge_cmp q k) t)))) es)

  -- edges that are left with the same audiences are the same items
  pub same_items : (es fs : List (EdgeRef × EdgeRow)) → IsStrictlySortedBy edge_cmp (keys_of es) → IsStrictlySortedBy edge_cmp (keys_of fs)
      → ((q : EdgeRef) → p q ≡ true → option_map (λ (row : EdgeRow). row.audience) (lookup (is_at (edge_cmp q)) es) ≡ option_map (λ (row : EdgeRow). row.audience) (lookup (is_at (edge_cmp q)) fs))
      → map item_of (map held_of (filter (λ e. p e.0) es)) ≡ map item_of (map held_of (filter (λ e. p e.0) fs))
  same_items es fs es_sorted fs_sorted alike =
      sym (items-seen (filter (λ e. p e.0) es))
      ∙ ap (map item) (lists_same edge_total exact_edges (map seen (filter (λ e. p e.0) es)) (map seen (filter (λ e. p e.0) fs)) (sorted-seen es es_sorted) (sorted-seen fs fs_sorted)
      (λ q. seen_at es q ∙ by q (p q) refl ∙ sym (seen_at fs q)))
      ∙ items-seen (filter (λ e. p e.0) fs)
    where
      by : (q : EdgeRef) (b : Bool) → p q ≡ b → option_map (λ (row : EdgeRow). row.audience) (cond b (lookup (is_at (edge_cmp q)) es) None) ≡ option_map (λ (row : EdgeRow). row.audience) (cond b (lookup (is_at (edge_cmp q)) fs) None)
      by q true t = alike q t
      by q false t = refl
