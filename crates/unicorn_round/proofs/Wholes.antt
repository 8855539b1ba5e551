-- No word in a reply holds an LF, where no word in its journal does.
use Rattle.std.proofs.Common.{◌≡◌, ◌≤◌, ◌+◌, ◌||◌, ℕ, zero, suc, Bool, true, false, cond, List, [], ◌∷◌, ◌++◌, length, filter, take, flat_map, filter_map, not, Option, None, Some, IfSome, is_some, option_map, option_and_then, if◌then◌else◌, refl, ap, sym, ◌∙◌, subst, arith}
use Rattle.std.proofs.lemmas.Bool.{and_parts, or_parts}
use Rattle.std.proofs.lemmas.List.Elements.{Contains-append_left, Contains-append_right, Contains-push}
use Rattle.std.proofs.lemmas.List.Folds.{list_any-append}
use Rattle.std.specs.BTreeMap.{insert_entry, is_at}
use Rattle.std.specs.List.{AllByRecursion, Contains, cons_option, list_all, list_any}
use Rattle.std.specs.Map.{lookup, remove_entry}
use Rattle.std.specs.Option.{option_map_or, option_or}
use Rattle.std.specs.Ordering.{is_eq, match_ordering}
use Rattle.std.specs.declared.cmp.Ordering.{Ordering}
use Rattle.std.specs.declared.cmp.Ordering.TheVariants.{Less, Equal, Greater}
use Rattle.uni_base.specs.declared.edge.Audience.{Audience}
use Rattle.uni_base.specs.declared.edge.EdgeRef.{EdgeRef}
use Rattle.uni_base.specs.declared.edge.Key.{Key}
use Rattle.uni_base.specs.declared.edge.Key.TheVariants.{Id}
use Rattle.uni_base.specs.declared.entity.DocKey.{DocKey}
use Rattle.uni_base.specs.EdgeOrder.{edge_cmp}
use Rattle.uni_base.specs.Numbers.{id_of}
use Rattle.uni_schema.specs.Schema.{Declarations, key_from, type_at}
use Rattle.uni_schema.specs.declared.schema.Origin.{Origin}
use Rattle.uni_schema.specs.declared.schema.Origin.TheVariants.{Vertical, Words}
use Rattle.uni_schema.specs.declared.schema.TypeDef.{TypeDef}
use Rattle.uni_table.specs.Commands.{audience_of, edge_of, next, next_edge}
use Rattle.uni_table.specs.Contents.{Contents, has_edge, has_ended, touches, without_edge}
use Rattle.uni_table.specs.GraphKeys.{exact_edges}
use Rattle.uni_table.specs.Journals.{after_batches, after_commands, first, fold_of}
use Rattle.uni_table.specs.declared.command.Command.{Command}
use Rattle.uni_table.specs.declared.command.Command.TheVariants.{Entity, Gone, Edge, Cut}
use Rattle.uni_table.specs.declared.command.EdgeRow.{EdgeRow}
use Rattle.query_check.specs.Plan.{Plan}
use Rattle.uni_meaning.specs.Firsts.{first_shown}
use Rattle.uni_meaning.specs.Hits.{cut}
use Rattle.uni_meaning.specs.Laws.{first_whole}
use Rattle.uni_meaning.specs.Lineages.{lineages}
use Rattle.uni_meaning.specs.Policy.{authorised}
use Rattle.uni_meaning.specs.Replies.{reply_of, shown_hit}
use Rattle.uni_meaning.specs.declared.reply.Hit.{Hit}
use Rattle.uni_meaning.proofs.Exact.{lineages_are_exact}
use Rattle.uni_meaning.proofs.Firsts.{first_is_first}
use Rattle.uni_meaning.proofs.Stands.{lineages_stand}
use Rattle.reply_text.specs.Laws.{word_of, words_of_hit}
use Rattle.uni_base.specs.Lines.{has_lf, AreUnbroken}
use Rattle.script_rounds.specs.Laws.{audience_words, words_of}

-- no word of a command holds an LF, nor one of commands
abbrev pub IsWhole : Command → Type 0
IsWhole command = AreUnbroken (words_of command)

abbrev pub AreWhole : List Command → Type 0
AreWhole commands = AllByRecursion IsWhole commands

-- nor the key of an edge, nor those of edges
abbrev IsWord : EdgeRef → Type 0
IsWord edge = AreUnbroken (word_of edge.key)

abbrev HaveWords : List (EdgeRef × EdgeRow) → Type 0
HaveWords edges = AllByRecursion (λ e. IsWord e.0) edges

-- one list after another
pub unbroken-append : (xs ys : List (List ℕ)) → AreUnbroken xs → AreUnbroken ys → AreUnbroken (xs ++ ys)
unbroken-append xs ys a b = list_any-append has_lf xs ys ∙ ap (λ t. t || list_any has_lf ys) a ∙ b

insert-words : (edges : List (EdgeRef × EdgeRow)) (edge : EdgeRef) (row : EdgeRow) → IsWord edge → HaveWords edges → HaveWords (insert_entry edge_cmp edges edge row)
insert-words [] edge row word all = (word, tt)
insert-words (e ∷ es) edge row word all = by (edge_cmp edge e.0) (insert-words es edge row word all.1)
  where
    by : (o : Ordering) → HaveWords (insert_entry edge_cmp es edge row)
        → HaveWords (match_ordering o ((edge, row) ∷ e ∷ es) ((e.0, row) ∷ es) (e ∷ insert_entry edge_cmp es edge row))
    by Less rest = (word, all)
    by Equal rest = (all.0, all.1)
    by Greater rest = (all.0, rest)

remove-words : (test : EdgeRef → Bool) (edges : List (EdgeRef × EdgeRow)) → HaveWords edges → HaveWords (remove_entry test edges)
remove-words test [] all = tt
remove-words test (e ∷ es) all = by (test e.0) (remove-words test es all.1)
  where
    by : (b : Bool) → HaveWords (remove_entry test es) → HaveWords (cond b es (e ∷ remove_entry test es))
    by true rest = all.1
    by false rest = (all.0, rest)

filter-words : (test : EdgeRef × EdgeRow → Bool) (edges : List (EdgeRef × EdgeRow)) → HaveWords edges → HaveWords (filter test edges)
filter-words test [] all = tt
filter-words test (e ∷ es) all = by (test e) (filter-words test es all.1)
  where
    by : (b : Bool) → HaveWords (filter test es) → HaveWords (cond b (e ∷ filter test es) (filter test es))
    by true rest = (all.0, rest)
    by false rest = rest

-- an edge that a table has is one of its edges
equal_from : (o : Ordering) → is_eq o ≡ true → o ≡ Equal
equal_from Less is = absurd cc
equal_from Equal is = refl
equal_from Greater is = absurd cc

has-word : (edges : List (EdgeRef × EdgeRow)) (edge : EdgeRef) → HaveWords edges → is_some (lookup (is_at (edge_cmp edge)) edges) ≡ true → IsWord edge
has-word [] edge all has = absurd cc
has-word (e ∷ es) edge all has = by (is_at (edge_cmp edge) e.0) refl has (has-word es edge all.1)
  where
    by : (b : Bool) → is_at (edge_cmp edge) e.0 ≡ b → is_some (cond b (Some e.1) (lookup (is_at (edge_cmp edge)) es)) ≡ true
        → (is_some (lookup (is_at (edge_cmp edge)) es) ≡ true → IsWord edge) → IsWord edge
    by true here found later = subst IsWord (sym (exact_edges edge e.0 (equal_from (edge_cmp edge e.0) here))) all.0
    by false here found later = later found

module _ (schema : Declarations) where
  -- the key of an edge is a word of its command
  edge-word : (number : ℕ) (key : List ℕ) (target : ℕ) → has_lf key ≡ false → IfSome (edge_of schema number key target) IsWord
  edge-word number key target whole = by (type_at schema number)
    where
      made : Key → EdgeRef
      made k = record { type_no = number; key = k; target = target }

      of_id : (id : Option ℕ) → IfSome (option_map made (option_map Id id)) IsWord
      of_id None = tt
      of_id (Some id) = refl

      of_origin : (origin : Origin) → IfSome (option_map made (key_from origin key)) IsWord
      of_origin (Vertical vertical) = of_id (id_of key)
      of_origin Words = ap (λ b. b || false) whole

      by : (found : Option TypeDef) → IfSome (option_map made (option_and_then (λ type_def. key_from type_def.origin key) found)) IsWord
      by None = tt
      by (Some type_def) = of_origin type_def.origin

  next-words : (table : Contents) (command : Command) → IsWhole command → HaveWords table.edges → HaveWords (next schema table command).edges
  next-words table (Entity vertical id rank) whole all = all
  next-words table (Gone id) whole all = filter-words (λ e. not (touches id e.0)) table.edges all
  next-words table (Edge number key target audience until) whole all =
      by (edge_of schema number key target) (audience_of schema audience) (edge-word number key target (or_parts (has_lf key) (list_any has_lf (audience_words audience)) whole).0)
    where
      by : (edge : Option EdgeRef) (found : Option Audience) → IfSome edge IsWord → HaveWords (next_edge table until edge found).edges
      by (Some edge) (Some a) word = insert-words table.edges edge (record { audience = a; end = until }) word all
      by (Some edge) None word = all
      by None found word = all
  next-words table (Cut number key target) whole all = by (edge_of schema number key target)
    where
      by : (edge : Option EdgeRef) → HaveWords (option_map_or (λ e. without_edge table e) edge table).edges
      by None = all
      by (Some edge) = remove-words (is_at (edge_cmp edge)) table.edges all

  commands-words : (table : Contents) (commands : List Command) → AreWhole commands → HaveWords table.edges → HaveWords (after_commands schema table commands).edges
  commands-words table [] whole all = all
  commands-words table (command ∷ commands) whole all = commands-words (next schema table command) commands whole.1 (next-words table command whole.0 all)

  batches-words : (table : Contents) (made : ℕ) (batches : List (List Command)) → AllByRecursion AreWhole batches → HaveWords table.edges → HaveWords (after_batches schema table made batches).edges
  batches-words table made [] whole all = all
  batches-words table made (batch ∷ batches) whole all =
      let now : Contents = after_commands schema table batch in
      batches-words (record now { edges = filter (λ e. not (has_ended (made + 1) e.1)) now.edges }) (made + 1) batches whole.1
      (filter-words (λ e. not (has_ended (made + 1) e.1)) now.edges (commands-words table batch whole.0 all))

  -- no key in the table after the first batches of a journal holds an LF
  first-words : (journal : List (List Command)) (n : ℕ) → AllByRecursion AreWhole journal → HaveWords (fold_of schema (first journal n)).edges
  first-words journal n whole = batches-words (record { entities = []; edges = [] }) 0 (take n journal) (taken n journal whole) tt
    where
      taken : (n : ℕ) (batches : List (List Command)) → AllByRecursion AreWhole batches → AllByRecursion AreWhole (take n batches)
      taken zero batches whole = tt
      taken (suc n) [] whole = tt
      taken (suc n) (batch ∷ batches) whole = (whole.0, taken n batches whole.1)

  module _ (table : Contents) (words : HaveWords table.edges) where
    abbrev AreWords : List EdgeRef → Type 0
    AreWords edges = AreUnbroken (flat_map (λ edge. word_of edge.key) edges)

    lineage-words : (edges : List EdgeRef) → list_all (has_edge table) edges ≡ true → AreWords edges
    lineage-words [] all = refl
    lineage-words (edge ∷ edges) all =
        let parts = and_parts (has_edge table edge) (list_all (has_edge table) edges) all in
        unbroken-append (word_of edge.key) (flat_map (λ e. word_of e.key) edges) (has-word table.edges edge words parts.0) (lineage-words edges parts.1)

    -- the first list that passes is one of the lists
    first_among : (test : EdgeRef → Bool) (lists : List (List EdgeRef)) (edges : List EdgeRef) → first_whole test lists ≡ Some edges → Contains lists edges
    first_among test [] edges is = absurd cc
    first_among test (one ∷ lists) edges is = by (list_all test one) is (first_among test lists edges)
      where
        by : (b : Bool) → option_or (if b then Some one else None) (first_whole test lists) ≡ Some edges → (first_whole test lists ≡ Some edges → Contains lists edges) → Contains (one ∷ lists) edges
        by true same later =
            let here : one ≡ edges = cc in
            subst (Contains (one ∷ lists)) here (Contains-append_left (one ∷ []) lists one (Contains-push [] one))
        by false same later = Contains-append_right (one ∷ []) lists edges (later same)

    shown-words : (viewer : ℕ) (plan : Plan) (x : DocKey) (edges : List EdgeRef) → first_shown schema table viewer plan x ≡ Some edges → AreWords edges
    shown-words viewer plan x edges is =
        let among : Contains (lineages schema table plan x) edges =
        first_among (authorised schema table viewer) (lineages schema table plan x) edges (sym (first_is_first.first schema table viewer plan x) ∙ is) in
        lineage-words edges (lineages_stand.stands schema table plan x edges ((lineages_are_exact.exact schema table plan x edges).0 among))

    hits-words : (viewer : ℕ) (plan : Plan) (ks : List DocKey) → AreUnbroken (flat_map words_of_hit (filter_map (shown_hit schema table viewer plan) ks))
    hits-words viewer plan [] = refl
    hits-words viewer plan (k ∷ ks) = by (first_shown schema table viewer plan k) refl (hits-words viewer plan ks)
      where
        rest : List Hit
        rest = filter_map (shown_hit schema table viewer plan) ks

        by : (shown : Option (List EdgeRef)) → first_shown schema table viewer plan k ≡ shown → AreUnbroken (flat_map words_of_hit rest)
            → AreUnbroken (flat_map words_of_hit (cons_option (option_map (λ edges. record { key = k; lineage = edges }) shown) rest))
        by None is later = later
        by (Some edges) is later = unbroken-append (flat_map (λ edge. word_of edge.key) edges) (flat_map words_of_hit rest) (shown-words viewer plan k edges is) later

  -- no word in a reply holds an LF
  pub reply-words : (journal : List (List Command)) (n : ℕ) (plan : Plan) (viewer limit : ℕ) → AllByRecursion AreWhole journal
      → AreUnbroken (flat_map words_of_hit (reply_of schema (fold_of schema (first journal n)) n plan viewer limit).hits)
  reply-words journal n plan viewer limit whole =
      let table : Contents = fold_of schema (first journal n) in
      hits-words table (first-words journal n whole) viewer plan (cut schema table plan limit)

  -- a reply has no more hits than are wanted
  pub reply-few : (table : Contents) (n : ℕ) (plan : Plan) (viewer limit : ℕ) → length (reply_of schema table n plan viewer limit).hits ≤ limit
  reply-few table n plan viewer limit =
      omega (arith, shown (cut schema table plan limit), taken limit)
    where
      shown : (ks : List DocKey) → length (filter_map (shown_hit schema table viewer plan) ks) ≤ length ks
      shown [] = omega arith
      shown (k ∷ ks) = by (shown_hit schema table viewer plan k) (shown ks)
        where
          by : (o : Option Hit) → length (filter_map (shown_hit schema table viewer plan) ks) ≤ length ks → length (cons_option o (filter_map (shown_hit schema table viewer plan) ks)) ≤ suc (length ks)
          by None few = omega (arith, few)
          by (Some hit) few = omega (arith, few)

      taken : (n : ℕ) (xs : List DocKey) → length (take n xs) ≤ n
      taken zero xs = omega arith
      taken (suc n) [] = omega arith
      taken (suc n) (x ∷ xs) = omega (arith, taken n xs)
