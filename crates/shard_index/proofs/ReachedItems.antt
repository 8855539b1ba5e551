-- The edges of a type and key by target are those that the table has of them, in its order.
use Rattle.std.proofs.Common.{◌≡◌, ◌==◌, ◌&&◌, ◌||◌, ◌⊎◌, inl, inr, ℕ, ◌<◌, Bool, true, false, cond, List, [], ◌∷◌, map, filter, length, Option, None, Some, refl, sym, ◌∙◌, ap, subst}
use Rattle.std.proofs.lemmas.Bool.{and_parts}
use Rattle.std.proofs.lemmas.List.Elements.{All-contains_itself, recursion_from_All}
use Rattle.std.proofs.lemmas.List.Kept.{IsStrictlySortedBy-filter}
use Rattle.std.proofs.lemmas.Map.Lookups.{exact_unsigned}
use Rattle.std.specs.Prelude.{T}
use Rattle.std.specs.BTreeMap.{is_at}
use Rattle.std.specs.Cmp.{nat_cmp_total, tied_itself}
use Rattle.std.specs.declared.cmp.Ordering.TheVariants.{Less}
use Rattle.std.specs.FinMap as finite
use Rattle.std.specs.FinMap.Entries.{find, is_sorted, below_all}
use Rattle.std.specs.List.{AllByRecursion, Contains, list_any}
use Rattle.std.specs.List.Sorted.{IsStrictlySortedBy}
use Rattle.std.specs.Map.{keys_of, lookup}
use Rattle.std.specs.Option.{option_map}
use Rattle.std.specs.Ordering.{nat_cmp, eq_by_cmp, ordering_then, is_eq, is_lt}
use Rattle.uni_base.specs.declared.edge.Audience.{Audience}
use Rattle.uni_base.specs.declared.edge.EdgeRef.{EdgeRef}
use Rattle.uni_base.specs.declared.edge.Held.{Held}
use Rattle.uni_base.specs.declared.edge.Key.{Key}
use Rattle.uni_base.specs.declared.limits.Limits.{Limits}
use Rattle.uni_base.specs.EdgeOrder.{edge_cmp, key_cmp, key_cmp-total}
use Rattle.uni_schema.specs.Schema.{Declarations}
use Rattle.uni_table.specs.declared.command.EdgeRow.{EdgeRow}
use Rattle.uni_table.specs.Contents.{Contents, audience_at, starts_at}
use Rattle.uni_table.specs.GraphKeys.{exact_edges}
use Rattle.uni_table.specs.Lists.{held_of}
use Rattle.uni_table.specs.Ranked.{held_at, reached_of}
use Rattle.uni_table.specs.TableState.{IsKept}
use Rattle.uni_table.proofs.Exact.{reached_is_exact}
use Rattle.uni_table.proofs.Listed.{none_in_nil, first_or_later}
use Rattle.uni_base.specs.KeyHash.{exact_keys}
use Rattle.layer_base.specs.Layers.{from_log}
use Rattle.layer_base.proofs.Sorted.{both as both_hold, lt_from}
use Rattle.shard_index.specs.ChangedRows.{target_row, row_item}
use Rattle.shard_index.specs.Laws.{edge_to}
use Rattle.shard_index.specs.Shards.{item_of}
use Rattle.shard_index.proofs.LoggedMaps.{equal_of, Agree, stands_there, logged_is}
use Rattle.shard_index.proofs.Among.{any-map}
use Rattle.shard_index.proofs.SameItems.{keys-left}
use Rattle.shard_index.proofs.ReadRanks.{same_number}
use Rattle.shard_index.proofs.Squeezed.{number_itself}

any_listed : {X : Type 0} (test : X → Bool) (xs : List X) (x : X) → Contains xs x → test x ≡ true → list_any test xs ≡ true
any_listed test [] x there t = absurd (none_in_nil x there)
any_listed test (y ∷ xs) x there t = by (first_or_later y xs x there) (λ later. any_listed test xs x later t)
  where
    or_true : (b : Bool) → (b || true) ≡ true
    or_true true = refl
    or_true false = refl

    by : (y ≡ x) ⊎ Contains xs x → (Contains xs x → list_any test xs ≡ true) → (test y || list_any test xs) ≡ true
    by (inl same) more = ap (λ b. b || list_any test xs) (ap test same ∙ t)
    by (inr later) more = ap (λ b. test y || b) (more later) ∙ or_true (test y)

-- an edge of a table as a row
abbrev pub as_row : EdgeRef × EdgeRow → ℕ × Audience
as_row e = (e.0.target, e.1.audience)

pub rows_as_items : (es : List (EdgeRef × EdgeRow)) → map row_item (map as_row es) ≡ map item_of (map held_of es)
rows_as_items [] = refl
rows_as_items (e ∷ es) = ap (λ is. item_of (held_of e) ∷ is) (rows_as_items es)

module _ (number : ℕ) (key : Key) where
  abbrev starts : EdgeRef × EdgeRow → Bool
  starts e = starts_at number key e.0

  -- an edge that starts there, by its target
  pub named : (edge : EdgeRef) → starts_at number key edge ≡ true → edge_to number key edge.target ≡ edge
  named edge t =
      let parts = and_parts (number == edge.type_no) (is_eq (key_cmp key edge.key)) t in
      λ i. record { type_no = same_number number edge.type_no parts.0 i; key = exact_keys key edge.key (equal_of (key_cmp key edge.key) parts.1) i; target = edge.target }

  itself_starts : (target : ℕ) → starts_at number key (edge_to number key target) ≡ true
  itself_starts target = λ i. number_itself number i && is_eq (tied_itself key_cmp-total key i)

  -- edges that start there are in the order of their targets
  by_target : (a b : ℕ) → edge_cmp (edge_to number key a) (edge_to number key b) ≡ nat_cmp a b
  by_target a b = λ i. ordering_then (equal_of (nat_cmp number number) (ap is_eq (tied_itself nat_cmp_total number)) i) (ordering_then (tied_itself key_cmp-total key i) (nat_cmp a b))

  compared : (x y : EdgeRef) → starts_at number key x ≡ true → starts_at number key y ≡ true → edge_cmp x y ≡ nat_cmp x.target y.target
  compared x y s t = (λ i. edge_cmp (sym (named x s) i) (sym (named y t) i)) ∙ by_target x.target y.target

  all_start : (es : List (EdgeRef × EdgeRow)) → AllByRecursion (λ e. starts e ≡ true) (filter starts es)
  all_start [] = tt
  all_start (e ∷ es) = by (starts e) refl (all_start es)
    where
      by : (b : Bool) → starts e ≡ b → AllByRecursion (λ f. starts f ≡ true) (filter starts es) → AllByRecursion (λ f. starts f ≡ true) (cond b (e ∷ filter starts es) (filter starts es))
      by true t later = (t, later)
      by false t later = later

  below : (x : EdgeRef) → starts_at number key x ≡ true → (es : List (EdgeRef × EdgeRow)) → AllByRecursion (λ e. starts e ≡ true) es → AllByRecursion (λ y. edge_cmp x y ≡ Less) (keys_of es) → T (below_all nat_cmp x.target (map as_row es))
  below x s [] all less = tt
  below x s (e ∷ es) all less =
      both_hold (is_lt (nat_cmp x.target e.0.target)) (below_all nat_cmp x.target (map as_row es)) (lt_from (nat_cmp x.target e.0.target) (sym (compared x e.0 s all.0) ∙ less.0)) (below x s es all.1 less.1)

  rows_rise : (es : List (EdgeRef × EdgeRow)) → AllByRecursion (λ e. starts e ≡ true) es → IsStrictlySortedBy edge_cmp (keys_of es) → T (is_sorted nat_cmp (map as_row es))
  unfolding IsStrictlySortedBy
  rows_rise [] all sorted = tt
  rows_rise (e ∷ es) all sorted =
      both_hold (below_all nat_cmp e.0.target (map as_row es)) (is_sorted nat_cmp (map as_row es)) (below e.0 all.0 es all.1 sorted.0) (rows_rise es all.1 sorted.1)

  -- the row of a target
  pub row_found : (q : ℕ) (es : List (EdgeRef × EdgeRow)) → find nat_cmp q (map as_row (filter starts es)) ≡ option_map (λ (row : EdgeRow). row.audience) (lookup (is_at (edge_cmp (edge_to number key q))) es)
  row_found q [] = refl
  row_found q (e ∷ es) = by (starts e) refl (row_found q es)
    where
      audience : Option EdgeRow → Option Audience
      audience o = option_map (λ (row : EdgeRow). row.audience) o

      missed : starts e ≡ false → (b : Bool) → is_at (edge_cmp (edge_to number key q)) e.0 ≡ b → lookup (is_at (edge_cmp (edge_to number key q))) es ≡ cond b (Some e.1) (lookup (is_at (edge_cmp (edge_to number key q))) es)
      missed f true t =
          let is : edge_to number key q ≡ e.0 = exact_edges (edge_to number key q) e.0 (equal_of (edge_cmp (edge_to number key q) e.0) t) in
          let clash : true ≡ false = sym (itself_starts q) ∙ ap (starts_at number key) is ∙ f in absurd cc
      missed f false t = refl

      here : starts e ≡ true → is_at (nat_cmp q) e.0.target ≡ is_at (edge_cmp (edge_to number key q)) e.0
      here t = ap is_eq (sym (compared (edge_to number key q) e.0 (itself_starts q) t))

      taken : (b : Bool) → find nat_cmp q (map as_row (filter starts es)) ≡ audience (lookup (is_at (edge_cmp (edge_to number key q))) es)
          → cond b (Some e.1.audience) (find nat_cmp q (map as_row (filter starts es))) ≡ audience (cond b (Some e.1) (lookup (is_at (edge_cmp (edge_to number key q))) es))
      taken true later = refl
      taken false later = later

      by : (b : Bool) → starts e ≡ b → find nat_cmp q (map as_row (filter starts es)) ≡ audience (lookup (is_at (edge_cmp (edge_to number key q))) es)
          → find nat_cmp q (map as_row (cond b (e ∷ filter starts es) (filter starts es))) ≡ audience (cond (is_at (edge_cmp (edge_to number key q)) e.0) (Some e.1) (lookup (is_at (edge_cmp (edge_to number key q))) es))
      by true t later = ap (λ b. cond b (Some e.1.audience) (find nat_cmp q (map as_row (filter starts es)))) (here t) ∙ taken (is_at (edge_cmp (edge_to number key q)) e.0) later
      by false t later = later ∙ ap audience (missed t (is_at (edge_cmp (edge_to number key q)) e.0) refl)

  module _ (schema : Declarations) (limits : Limits) (table : Contents) (declared : number < length schema.types) (kept : IsKept schema limits table) where
    abbrev reached : List Held
    reached = reached_of schema table number key

    abbrev IsReached : Held → Type 0
    IsReached h = held_at table number key h.edge.target ≡ Some h

    all_reached : AllByRecursion (Contains reached) reached
    all_reached = recursion_from_All (Contains reached) reached (All-contains_itself reached)

    module _ (q : ℕ) where
      abbrev answer : Option Audience
      answer = audience_at table (edge_to number key q)

      one_agrees : (h : Held) → IsReached h → eq_by_cmp nat_cmp q h.edge.target ≡ true → answer ≡ Some h.audience
      one_agrees h is t = ap (λ n. audience_at table (edge_to number key n)) (exact_unsigned q h.edge.target (equal_of (nat_cmp q h.edge.target) t)) ∙ by (audience_at table (edge_to number key h.edge.target)) is
        where
          by : (o : Option Audience) → option_map (λ audience. record { edge = edge_to number key h.edge.target; audience = audience }) o ≡ Some h → o ≡ Some h.audience
          by None e = cc
          by (Some a) e = let same : record { edge = edge_to number key h.edge.target; audience = a } ≡ h = cc in ap (λ (x : Held). Some x.audience) same

      agree : (hs : List Held) → AllByRecursion (Contains reached) hs → Agree nat_cmp q answer (map target_row hs)
      agree [] all = tt
      agree (h ∷ hs) all = (one_agrees h ((reached_is_exact.lists schema limits table number key h declared kept).0 all.0), agree hs all.1)

      missing : stands_there nat_cmp q answer (map target_row reached) ≡ false → answer ≡ None
      missing e = by (audience_at table (edge_to number key q)) refl
        where
          by : (o : Option Audience) → audience_at table (edge_to number key q) ≡ o → o ≡ None
          by None at = refl
          by (Some a) at =
              let h : Held = record { edge = edge_to number key q; audience = a } in
              let among : Contains (reached_of schema table number key) h =
              (reached_is_exact.lists schema limits table number key h declared kept).1 (ap (option_map (λ audience. record { edge = edge_to number key q; audience = audience })) at) in
              let listed = any_listed (λ (x : Held). eq_by_cmp nat_cmp q x.edge.target) reached h among (ap is_eq (tied_itself nat_cmp_total q)) in
              let clash : true ≡ false = sym listed ∙ sym (any-map (λ (row : ℕ × Audience). eq_by_cmp nat_cmp q row.0) target_row reached) ∙ e in absurd cc

      alike : finite.get (from_log {R = nat_cmp} (map target_row reached)) q ≡ find nat_cmp q (map as_row (filter starts table.edges))
      alike = logged_is nat_cmp q answer nat_cmp_total (map target_row reached) (agree reached all_reached) missing ∙ sym (row_found q table.edges)

    rise : T (is_sorted nat_cmp (map as_row (filter starts table.edges)))
    rise =
        rows_rise (filter starts table.edges) (all_start table.edges)
        (subst (IsStrictlySortedBy edge_cmp) (sym (keys-left (starts_at number key) table.edges)) (IsStrictlySortedBy-filter edge_cmp (starts_at number key) (keys_of table.edges) kept.edges))

    pub reached_items : map row_item (finite.entries (from_log {R = nat_cmp} (map target_row (reached_of schema table number key)))) ≡ map item_of (map held_of (filter (λ e. starts_at number key e.0) table.edges))
    reached_items =
        let rows = map as_row (filter starts table.edges) in
        ap (λ m. map row_item (finite.entries m)) (finite.same_map nat_cmp_total exact_unsigned (from_log {R = nat_cmp} (map target_row reached)) (finite.from_sorted rows) (λ q. alike q ∙ sym (finite.get-from_sorted nat_cmp rows q rise)))
        ∙ ap (map row_item) (finite.entries-from_sorted nat_cmp rows rise) ∙ rows_as_items (filter starts table.edges)
