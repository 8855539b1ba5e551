-- What is shown is the first lineage that is authorised whole.
use Rattle.std.proofs.Common.{◌≡◌, ◌++◌, ◌&&◌, ℕ, Bool, true, false, List, [], ◌∷◌, Option, None, Some, refl, sym, ◌∙◌, ap, if◌then◌else◌, map, filter}
use Rattle.std.specs.List.{flat_map, list_all}
use Rattle.std.specs.Option.{option_map, option_and_then, option_or}
use Rattle.uni_base.specs.declared.edge.EdgeRef.{EdgeRef}
use Rattle.uni_base.specs.declared.edge.Key.{Key}
use Rattle.uni_base.specs.declared.edge.Key.TheVariants.{Id, Word}
use Rattle.uni_base.specs.declared.entity.DocKey.{DocKey}
use Rattle.uni_schema.specs.Schema.{Declarations}
use Rattle.uni_table.specs.Contents.{Contents}
use Rattle.query_tree.specs.declared.kind.ListKind.TheVariants.{And, Or, Difference, WeakAnd, StrongOr}
use Rattle.query_check.specs.Plan.{Plan, Plans, term_plan, prefix_plan, list_plan, join_plan, no_plans, with_plan}
use Rattle.uni_meaning.specs.Firsts.{first_given, first_shown, seen_edge, joined, shown_under_each, shown_under_having, shown_under_one, shown_under_first}
use Rattle.uni_meaning.specs.Hits.{cut, edge_to, is_hit, leads_to}
use Rattle.uni_meaning.specs.Laws.{FirstIsFirst, first_whole}
use Rattle.uni_meaning.specs.Lineages.{choices, lineages, under_each, under_having, under_one, under_first}
use Rattle.uni_meaning.specs.Policy.{authorised}
use Rattle.uni_meaning.specs.Prefixes.{prefix_keys}

module _ (test : EdgeRef → Bool) where
  -- a list, if every edge of it passes
  abbrev whole : List EdgeRef → Option (List EdgeRef)
  whole edges = if list_all test edges then Some edges else None

  or_else_assoc : {X : Type 0} (a b c : Option X) → option_or (option_or a b) c ≡ option_or a (option_or b c)
  or_else_assoc None b c = refl
  or_else_assoc (Some a) b c = refl

  -- of two lists of lists, the first one's first
  pub first-append : (ls ms : List (List EdgeRef)) → first_whole test (ls ++ ms) ≡ option_or (first_whole test ls) (first_whole test ms)
  first-append [] ms = refl
  first-append (a ∷ ls) ms = ap (option_or (whole a)) (first-append ls ms) ∙ sym (or_else_assoc (whole a) (first_whole test ls) (first_whole test ms))

  -- along a list
  pub first-flat_map : {X : Type 0} (f : X → List (List EdgeRef)) (xs : List X) → first_whole test (flat_map f xs) ≡ first_given (λ x. first_whole test (f x)) xs
  first-flat_map f [] = refl
  first-flat_map f (x ∷ xs) = first-append (f x) (flat_map f xs) ∙ ap (option_or (first_whole test (f x))) (first-flat_map f xs)

  all-append : (ls ms : List EdgeRef) → list_all test (ls ++ ms) ≡ (list_all test ls && list_all test ms)
  all-append [] ms = refl
  all-append (a ∷ ls) ms = ap (λ b. test a && b) (all-append ls ms) ∙ and_assoc (test a) (list_all test ls) (list_all test ms)
    where
      and_assoc : (a b c : Bool) → (a && (b && c)) ≡ ((a && b) && c)
      and_assoc true b c = refl
      and_assoc false b c = refl

  -- lists that begin alike
  first-after : (own : List EdgeRef) (ms : List (List EdgeRef)) → first_whole test (map (λ rest. own ++ rest) ms) ≡ joined (whole own) (first_whole test ms)
  first-after own [] = by (list_all test own)
    where
      by : (b : Bool) → None ≡ joined (if b then Some own else None) None
      by true = refl
      by false = refl
  first-after own (b ∷ ms) = ap (λ o. option_or o (first_whole test (map (λ rest. own ++ rest) ms))) (ap (λ t. if t then Some (own ++ b) else None) (all-append own b)) ∙ ap (option_or _) (first-after own ms) ∙ by (list_all test own) (list_all test b) (first_whole test ms)
    where
      by : (t u : Bool) (o : Option (List EdgeRef))
          → option_or (if t && u then Some (own ++ b) else None) (joined (if t then Some own else None) o) ≡ joined (if t then Some own else None) (option_or (if u then Some b else None) o)
      by true true o = refl
      by true false o = refl
      by false u o = refl

  -- choices of one of each
  pub first-choices : (ls ms : List (List EdgeRef)) → first_whole test (choices ls ms) ≡ joined (first_whole test ls) (first_whole test ms)
  first-choices [] ms = refl
  first-choices (a ∷ ls) ms =
      first-append (map (λ rest. a ++ rest) ms) (choices ls ms)
      ∙ (λ i. option_or (first-after a ms i) (first-choices ls ms i))
      ∙ by (whole a) (first_whole test ls) (first_whole test ms)
    where
      by : (a b c : Option (List EdgeRef)) → option_or (joined a c) (joined b c) ≡ joined (option_or a b) c
      by None b c = refl
      by (Some a) None None = refl
      by (Some a) (Some b) None = refl
      by (Some a) b (Some c) = refl

  -- lists that begin with one edge
  pub first-cons : (edge : EdgeRef) (ms : List (List EdgeRef)) → first_whole test (map (λ rest. edge ∷ rest) ms) ≡ (if test edge then option_map (λ rest. edge ∷ rest) (first_whole test ms) else None)
  first-cons edge [] = by (test edge)
    where
      by : (b : Bool) → None ≡ (if b then option_map (λ rest. edge ∷ rest) None else None)
      by true = refl
      by false = refl
  first-cons edge (b ∷ ms) = ap (option_or (if test edge && list_all test b then Some (edge ∷ b) else None)) (first-cons edge ms) ∙ by (test edge) (list_all test b) (first_whole test ms)
    where
      by : (t u : Bool) (o : Option (List EdgeRef))
          → option_or (if t && u then Some (edge ∷ b) else None) (if t then option_map (λ rest. edge ∷ rest) o else None) ≡ (if t then option_map (λ rest. edge ∷ rest) (option_or (if u then Some b else None) o) else None)
      by true true o = refl
      by true false o = refl
      by false u o = refl

-- what agrees along a list gives the same first
given-same : {X Y : Type 0} (f g : X → Option Y) → ((x : X) → f x ≡ g x) → (xs : List X) → first_given f xs ≡ first_given g xs
given-same f g same [] = refl
given-same f g same (x ∷ xs) = λ i. option_or (same x i) (given-same f g same xs i)

module _ (schema : Declarations) (table : Contents) (viewer : ℕ) where
  abbrev seen : EdgeRef → Bool
  seen = authorised schema table viewer

  term_first : (number : ℕ) (key : Key) (x : DocKey)
      → option_map (λ (e : EdgeRef). e ∷ []) (seen_edge schema table viewer number key x) ≡ first_whole seen (if leads_to table number key x then (edge_to number key x.id ∷ []) ∷ [] else [])
  term_first number key x = by (leads_to table number key x) (seen (edge_to number key x.id)) refl
    where
      by : (l s : Bool) → seen (edge_to number key x.id) ≡ s → option_map (λ (e : EdgeRef). e ∷ []) (if l && s then Some (edge_to number key x.id) else None)
          ≡ first_given (λ edges. if list_all seen edges then Some edges else None) (if l then (edge_to number key x.id ∷ []) ∷ [] else [])
      by true true is = rw is refl
      by true false is = rw is refl
      by false s is = refl

  prefix_first : (number : ℕ) (words : List (List ℕ)) (x : DocKey)
      → option_map (λ (e : EdgeRef). e ∷ []) (first_given (λ word. seen_edge schema table viewer number (Word word) x) words)
      ≡ first_whole seen (map (λ word. edge_to number (Word word) x.id ∷ []) (filter (λ word. leads_to table number (Word word) x) words))
  prefix_first number [] x = refl
  prefix_first number (word ∷ words) x =
      by (leads_to table number (Word word) x) (seen (edge_to number (Word word) x.id)) refl (first_given (λ w. seen_edge schema table viewer number (Word w) x) words) (prefix_first number words x)
    where
      rest : List (List ℕ)
      rest = filter (λ w. leads_to table number (Word w) x) words

      by : (l s : Bool) → seen (edge_to number (Word word) x.id) ≡ s → (o : Option EdgeRef) → option_map (λ (e : EdgeRef). e ∷ []) o ≡ first_whole seen (map (λ w. edge_to number (Word w) x.id ∷ []) rest)
          → option_map (λ (e : EdgeRef). e ∷ []) (option_or (if l && s then Some (edge_to number (Word word) x.id) else None) o)
          ≡ first_whole seen (map (λ w. edge_to number (Word w) x.id ∷ []) (if l then word ∷ rest else rest))
      by true true is o later = rw is refl
      by true false is o later = rw is later
      by false s is o later = later

  having_step : (plan : Plan) (others : Plans) (x : DocKey) (b : Bool) → first_shown schema table viewer plan x ≡ first_whole seen (lineages schema table plan x)
      → shown_under_having schema table viewer others x ≡ first_whole seen (under_having schema table others x)
      → (if b then joined (first_shown schema table viewer plan x) (shown_under_having schema table viewer others x) else shown_under_having schema table viewer others x)
      ≡ first_whole seen (if b then choices (lineages schema table plan x) (under_having schema table others x) else under_having schema table others x)
  having_step plan others x true own rest = (λ i. joined (own i) (rest i)) ∙ sym (first-choices seen (lineages schema table plan x) (under_having schema table others x))
  having_step plan others x false own rest = rest

  one_step : (plan : Plan) (others : Plans) (x : DocKey) (b : Bool) → first_shown schema table viewer plan x ≡ first_whole seen (lineages schema table plan x)
      → shown_under_one schema table viewer others x ≡ first_whole seen (under_one schema table others x)
      → (if b then option_or (first_shown schema table viewer plan x) (shown_under_one schema table viewer others x) else shown_under_one schema table viewer others x)
      ≡ first_whole seen (if b then lineages schema table plan x ++ under_one schema table others x else under_one schema table others x)
  one_step plan others x true own rest = (λ i. option_or (own i) (rest i)) ∙ sym (first-append seen (lineages schema table plan x) (under_one schema table others x))
  one_step plan others x false own rest = rest

  join_first : (number : ℕ) (plan : Plan) (ys : List DocKey) (x : DocKey) → ((y : DocKey) → first_shown schema table viewer plan y ≡ first_whole seen (lineages schema table plan y))
      → first_given (λ y. option_and_then (λ edge. option_map (λ rest. edge ∷ rest) (first_shown schema table viewer plan y)) (seen_edge schema table viewer number (Id y.id) x)) ys
      ≡ first_whole seen (flat_map (λ y. if leads_to table number (Id y.id) x then map (λ rest. edge_to number (Id y.id) x.id ∷ rest) (lineages schema table plan y) else []) ys)
  join_first number plan ys x inner =
      given-same _ (λ y. first_whole seen (through y)) at ys ∙ sym (first-flat_map seen through ys)
    where
      through : DocKey → List (List EdgeRef)
      through y = if leads_to table number (Id y.id) x then map (λ rest. edge_to number (Id y.id) x.id ∷ rest) (lineages schema table plan y) else []

      by : (y : DocKey) (l s : Bool) → seen (edge_to number (Id y.id) x.id) ≡ s
          → option_and_then (λ edge. option_map (λ rest. edge ∷ rest) (first_shown schema table viewer plan y)) (if l && s then Some (edge_to number (Id y.id) x.id) else None)
          ≡ first_whole seen (if l then map (λ rest. edge_to number (Id y.id) x.id ∷ rest) (lineages schema table plan y) else [])
      by y true true is =
          ap (option_map (λ rest. edge_to number (Id y.id) x.id ∷ rest)) (inner y)
          ∙ sym (first-cons seen (edge_to number (Id y.id) x.id) (lineages schema table plan y) ∙ ap (λ b. if b then option_map (λ rest. edge_to number (Id y.id) x.id ∷ rest) (first_whole seen (lineages schema table plan y)) else None) is)
      by y true false is =
          sym (first-cons seen (edge_to number (Id y.id) x.id) (lineages schema table plan y) ∙ ap (λ b. if b then option_map (λ rest. edge_to number (Id y.id) x.id ∷ rest) (first_whole seen (lineages schema table plan y)) else None) is)
      by y false s is = refl

      at : (y : DocKey) → option_and_then (λ edge. option_map (λ rest. edge ∷ rest) (first_shown schema table viewer plan y)) (seen_edge schema table viewer number (Id y.id) x) ≡ first_whole seen (through y)
      at y = by y (leads_to table number (Id y.id) x) (seen (edge_to number (Id y.id) x.id)) refl

  mutual
    pub plan_first : (plan : Plan) (x : DocKey) → first_shown schema table viewer plan x ≡ first_whole seen (lineages schema table plan x)
    plan_first (term_plan number key) x = term_first number key x
    plan_first (prefix_plan number from) x = prefix_first number (prefix_keys table number from) x
    plan_first (list_plan And plans) x = each_first plans x
    plan_first (list_plan Or plans) x = one_first plans x
    plan_first (list_plan Difference plans) x = first_first plans x
    plan_first (list_plan WeakAnd plans) x = having_first plans x
    plan_first (list_plan StrongOr plans) x = one_first plans x
    plan_first (join_plan kind number limit plan) x = join_first number plan (cut schema table plan limit) x (plan_first plan)

    each_first : (plans : Plans) (x : DocKey) → shown_under_each schema table viewer plans x ≡ first_whole seen (under_each schema table plans x)
    each_first no_plans x = refl
    each_first (with_plan plan mark others) x =
        (λ i. joined (plan_first plan x i) (each_first others x i)) ∙ sym (first-choices seen (lineages schema table plan x) (under_each schema table others x))

    having_first : (plans : Plans) (x : DocKey) → shown_under_having schema table viewer plans x ≡ first_whole seen (under_having schema table plans x)
    having_first no_plans x = refl
    having_first (with_plan plan mark others) x = having_step plan others x (is_hit schema table plan x) (plan_first plan x) (having_first others x)

    one_first : (plans : Plans) (x : DocKey) → shown_under_one schema table viewer plans x ≡ first_whole seen (under_one schema table plans x)
    one_first no_plans x = refl
    one_first (with_plan plan mark others) x = one_step plan others x (is_hit schema table plan x) (plan_first plan x) (one_first others x)

    first_first : (plans : Plans) (x : DocKey) → shown_under_first schema table viewer plans x ≡ first_whole seen (under_first schema table plans x)
    first_first no_plans x = refl
    first_first (with_plan plan mark others) x = plan_first plan x

pub first_is_first : FirstIsFirst
first_is_first = record { first = λ schema table viewer plan x. plan_first schema table viewer plan x }
