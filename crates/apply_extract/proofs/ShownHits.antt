-- Which hits a viewer is shown, by their trees.
use Rattle.std.proofs.Common.{◌≡◌, ◌&&◌, ◌==◌, ℕ, Bool, true, false, if◌then◌else◌, List, [], ◌∷◌, ◌++◌, Option, None, Some, All, map, filter, refl, sym, ◌∙◌, ap}
use Rattle.std.proofs.lemmas.List.{map-append}
use Rattle.std.proofs.lemmas.List.Elements.{All-head, All-tail}
use Rattle.std.specs.List.{AllByRecursion, cons_option, filter_map, list_all}
use Rattle.std.specs.Option.{option_map, option_map_or, option_or}
use Rattle.uni_base.specs.declared.edge.Audience.{Audience}
use Rattle.uni_base.specs.declared.edge.EdgeRef.{EdgeRef}
use Rattle.uni_base.specs.declared.edge.Held.{Held}
use Rattle.uni_base.specs.declared.edge.Key.{Key}
use Rattle.uni_base.specs.declared.edge.Key.TheVariants.{Id, Word}
use Rattle.uni_base.specs.declared.entity.DocKey.{DocKey}
use Rattle.uni_schema.specs.Schema.{Declarations, owners_of}
use Rattle.uni_table.specs.Contents.{Contents, audience_at}
use Rattle.query_tree.specs.declared.kind.ListKind.TheVariants.{And, Or, Difference, WeakAnd, StrongOr}
use Rattle.query_check.specs.Plan.{Plan, Plans, term_plan, prefix_plan, list_plan, join_plan, no_plans, with_plan}
use Rattle.uni_meaning.specs.Firsts.{first_shown}
use Rattle.uni_meaning.specs.Hits.{cut, edge_to, is_hit, leads_to}
use Rattle.uni_meaning.specs.Laws.{first_whole}
use Rattle.uni_meaning.specs.Policy.{admits, authorised, denies, some_owner}
use Rattle.uni_meaning.specs.Prefixes.{prefix_keys}
use Rattle.uni_meaning.specs.Replies.{reply_of, shown_hit}
use Rattle.uni_meaning.proofs.Firsts.{first_is_first}
use Rattle.lineage_tree.specs.declared.lineage.RawHit.{RawHit}
use Rattle.lineage_tree.specs.Accepted.{edges_of, first_accepted}
use Rattle.lineage_tree.specs.Lists.{choices_of, joined, lists_of, members_lists}
use Rattle.lineage_tree.specs.Tree.{Tree, Forest, edge, all_of, any_of, entry, no_members, with_member, forest_of, tree_of}
use Rattle.rack_aggregate.specs.Merged.{keys_of}
use Rattle.viewer_policy.specs.Judged.{IsHeld, judged}
use Rattle.shard_eval.specs.PlanTrees.{both_of, edge_tree, plan_tree, trees_each, trees_having, tree_first}
use Rattle.shard_eval.proofs.TreeLineages.{tree_told}
use Rattle.apply_extract.specs.Hits.{Book}
use Rattle.apply_extract.specs.Shown.{accepted_hits}

-- ---- every edge of a plan's tree is one of the table, with its audience

abbrev mutual
  AllHeld : Contents → Tree → Type 0
  AllHeld table (edge held) = IsHeld table held
  AllHeld table (all_of members) = MembersHeld table members
  AllHeld table (any_of members) = MembersHeld table members
  AllHeld table (entry number) = Unit {0}

  MembersHeld : Contents → Forest → Type 0
  MembersHeld table no_members = Unit {0}
  MembersHeld table (with_member tree members) = AllHeld table tree × MembersHeld table members

edge_held : (table : Contents) (number : ℕ) (key : Key) (x : DocKey) → AllHeld table (edge_tree table number key x)
edge_held table number key x = over (audience_at table (edge_to number key x.id)) refl
  where
    over : (o : Option Audience) → audience_at table (edge_to number key x.id) ≡ o
        → AllHeld table (option_map_or (λ audience. edge (record { edge = edge_to number key x.id; audience = audience })) o (any_of no_members))
    over None e = tt
    over (Some audience) e = e

each_held : {X : Type 0} (table : Contents) (tree : X → Tree) → ((x : X) → AllHeld table (tree x)) → (xs : List X) → MembersHeld table (forest_of (map tree xs))
each_held table tree held [] = tt
each_held table tree held (x ∷ xs) = (held x, each_held table tree held xs)

mutual
  plan_held : (schema : Declarations) (table : Contents) (plan : Plan) (x : DocKey) → AllHeld table (plan_tree schema table plan x)
  plan_held schema table (term_plan number key) x = edge_held table number key x
  plan_held schema table (prefix_plan number from) x = each_held table (λ word. edge_tree table number (Word word) x) (λ word. edge_held table number (Word word) x) (filter (λ word. leads_to table number (Word word) x) (prefix_keys table number from))
  plan_held schema table (list_plan And plans) x = each_plan_held schema table plans x
  plan_held schema table (list_plan Or plans) x = having_held schema table plans x
  plan_held schema table (list_plan Difference plans) x = first_held schema table plans x
  plan_held schema table (list_plan WeakAnd plans) x = having_held schema table plans x
  plan_held schema table (list_plan StrongOr plans) x = having_held schema table plans x
  plan_held schema table (join_plan kind number limit plan) x =
      each_held table (λ y. both_of (edge_tree table number (Id y.id) x) (plan_tree schema table plan y)) (λ y. (edge_held table number (Id y.id) x, (plan_held schema table plan y, tt)))
      (filter (λ y. leads_to table number (Id y.id) x) (cut schema table plan limit))

  each_plan_held : (schema : Declarations) (table : Contents) (plans : Plans) (x : DocKey) → MembersHeld table (trees_each schema table plans x)
  each_plan_held schema table no_plans x = tt
  each_plan_held schema table (with_plan plan mark others) x = (plan_held schema table plan x, each_plan_held schema table others x)

  having_held : (schema : Declarations) (table : Contents) (plans : Plans) (x : DocKey) → MembersHeld table (trees_having schema table plans x)
  having_held schema table no_plans x = tt
  having_held schema table (with_plan plan mark others) x = over (is_hit schema table plan x) (plan_held schema table plan x) (having_held schema table others x)
    where
      over : (b : Bool) → AllHeld table (plan_tree schema table plan x) → MembersHeld table (trees_having schema table others x)
          → MembersHeld table (if b then with_member (plan_tree schema table plan x) (trees_having schema table others x) else trees_having schema table others x)
      over true one rest = (one, rest)
      over false one rest = rest

  first_held : (schema : Declarations) (table : Contents) (plans : Plans) (x : DocKey) → AllHeld table (tree_first schema table plans x)
  first_held schema table no_plans x = tt
  first_held schema table (with_plan plan mark others) x = plan_held schema table plan x

-- ---- of such a tree a judge of held edges says what one of edges says

module _ (schema : Declarations) (table : Contents) (viewer : ℕ) where
  abbrev accepts : Held → Bool
  accepts = judged schema table viewer

  abbrev sees : EdgeRef → Bool
  sees = authorised schema table viewer

  same_verdict : (held : Held) → IsHeld table held → accepts held ≡ sees held.edge
  same_verdict held is =
      ap (λ o. if some_owner (λ owner. owner == viewer) (owners_of schema held.edge) then true else (if some_owner (denies schema table viewer) (owners_of schema held.edge) then false else option_map_or (admits table viewer) o false)) (sym is)

  -- a list is accepted whole by both, or by neither
  abbrev Agrees : List Held → Type 0
  Agrees list = list_all accepts list ≡ list_all sees (edges_of list)

  agrees_append : (xs ys : List Held) → Agrees xs → Agrees ys → Agrees (xs ++ ys)
  agrees_append xs ys first second =
      all_append accepts xs ys ∙ (λ i. first i && second i) ∙ sym (ap (list_all sees) (map-append (λ (held : Held). held.edge) xs ys) ∙ all_append sees (edges_of xs) (edges_of ys))
    where
      all_append : {X : Type 0} (test : X → Bool) (firsts lasts : List X) → list_all test (firsts ++ lasts) ≡ (list_all test firsts && list_all test lasts)
      all_append test [] lasts = refl
      all_append test (a ∷ firsts) lasts = over (test a) (all_append test firsts lasts)
        where
          over : (b : Bool) → list_all test (firsts ++ lasts) ≡ (list_all test firsts && list_all test lasts) → (b && list_all test (firsts ++ lasts)) ≡ ((b && list_all test firsts) && list_all test lasts)
          over true rest = rest
          over false rest = refl

  lists_append : (ls ms : List (List Held)) → AllByRecursion Agrees ls → AllByRecursion Agrees ms → AllByRecursion Agrees (ls ++ ms)
  lists_append [] ms first second = second
  lists_append (l ∷ ls) ms first second = (first.0, lists_append ls ms first.1 second)

  lists_joined : (ls ms : List (List Held)) → AllByRecursion Agrees ls → AllByRecursion Agrees ms → AllByRecursion Agrees (joined ls ms)
  lists_joined [] ms first second = tt
  lists_joined (l ∷ ls) ms first second = lists_append (map (λ m. l ++ m) ms) (joined ls ms) (each ms second) (lists_joined ls ms first.1 second)
    where
      each : (ns : List (List Held)) → AllByRecursion Agrees ns → AllByRecursion Agrees (map (λ m. l ++ m) ns)
      each [] all = tt
      each (n ∷ ns) all = (agrees_append l n first.0 all.0, each ns all.1)

  mutual
    tree_agrees : (tree : Tree) → AllHeld table tree → AllByRecursion Agrees (lists_of [] tree)
    tree_agrees (edge held) all = (ap (λ b. b && true) (same_verdict held all), tt)
    tree_agrees (all_of members) all = choices_agree members all
    tree_agrees (any_of members) all = members_agree members all
    tree_agrees (entry number) all = tt

    choices_agree : (members : Forest) → MembersHeld table members → AllByRecursion Agrees (choices_of [] members)
    choices_agree no_members all = (refl, tt)
    choices_agree (with_member tree members) all = lists_joined (lists_of [] tree) (choices_of [] members) (tree_agrees tree all.0) (choices_agree members all.1)

    members_agree : (members : Forest) → MembersHeld table members → AllByRecursion Agrees (members_lists [] members)
    members_agree no_members all = tt
    members_agree (with_member tree members) all = lists_append (lists_of [] tree) (members_lists [] members) (tree_agrees tree all.0) (members_agree members all.1)

  first_agrees : (lists : List (List Held)) → AllByRecursion Agrees lists → option_map edges_of (first_accepted accepts lists) ≡ first_whole sees (map edges_of lists)
  first_agrees [] all = refl
  first_agrees (l ∷ lists) all = over (list_all accepts l) (list_all sees (edges_of l)) all.0 (first_agrees lists all.1)
    where
      over : (a b : Bool) → a ≡ b → option_map edges_of (first_accepted accepts lists) ≡ first_whole sees (map edges_of lists)
          → option_map edges_of (if a then Some l else first_accepted accepts lists) ≡ option_or (if b then Some (edges_of l) else None) (first_whole sees (map edges_of lists))
      over true true e rest = refl
      over true false e rest = absurd cc
      over false true e rest = absurd cc
      over false false e rest = rest

  -- what is shown of an entity, by its tree
  tree_shown : (plan : Plan) (x : DocKey) → option_map edges_of (first_accepted accepts (lists_of [] (plan_tree schema table plan x))) ≡ first_shown schema table viewer plan x
  tree_shown plan x =
      first_agrees (lists_of [] (plan_tree schema table plan x)) (tree_agrees (plan_tree schema table plan x) (plan_held schema table plan x))
      ∙ ap (first_whole sees) (tree_told schema table plan x) ∙ sym (first_is_first.first schema table viewer plan x)

  -- the hits of a cut that are shown
  hits_shown : (plan : Plan) (book : Book) (hs : List RawHit) → All (λ h. lists_of book (tree_of h.lineage) ≡ lists_of [] (plan_tree schema table plan h.key)) hs
      → accepted_hits accepts book hs ≡ filter_map (shown_hit schema table viewer plan) (keys_of hs)
  hits_shown plan book [] all = refl
  hits_shown plan book (h ∷ hs) all =
      λ i. cons_option
      (option_map (λ edges. record { key = h.key; lineage = edges }) ((ap (λ ls. option_map edges_of (first_accepted accepts ls)) (All-head (λ h. lists_of book (tree_of h.lineage) ≡ lists_of [] (plan_tree schema table plan h.key)) h hs all) ∙ tree_shown plan h.key) i))
      (hits_shown plan book hs (All-tail (λ h. lists_of book (tree_of h.lineage) ≡ lists_of [] (plan_tree schema table plan h.key)) h hs all) i)

  pub reply_is : (publishes : ℕ) (plan : Plan) (limit : ℕ) (book : Book) (hs : List RawHit) → keys_of hs ≡ cut schema table plan limit
      → All (λ h. lists_of book (tree_of h.lineage) ≡ lists_of [] (plan_tree schema table plan h.key)) hs
      → record { publishes = publishes; hits = accepted_hits accepts book hs } ≡ reply_of schema table publishes plan viewer limit
  reply_is publishes plan limit book hs keys all =
      ap (λ shown. record { publishes = publishes; hits = shown }) (hits_shown plan book hs all ∙ ap (filter_map (shown_hit schema table viewer plan)) keys)
