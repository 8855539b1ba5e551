-- Something is shown of a hit exactly where a lineage of it is authorised whole.
use Rattle.std.proofs.Common.{◌≡◌, ◌⊎◌, inl, inr, ℕ, Bool, true, false, List, [], ◌∷◌, None, Some, refl, sym, ◌∙◌, ap, subst, if◌then◌else◌}
use Rattle.std.specs.List.{Contains, list_all}
use Rattle.std.specs.Option.{option_or}
use Rattle.uni_base.specs.declared.edge.EdgeRef.{EdgeRef}
use Rattle.uni_base.specs.declared.entity.DocKey.{DocKey}
use Rattle.uni_schema.specs.Schema.{Declarations}
use Rattle.uni_table.specs.Contents.{Contents}
use Rattle.uni_table.proofs.Listed.{none_in_nil, first_or_later, first_is, later_is}
use Rattle.query_check.specs.Plan.{Plan}
use Rattle.uni_meaning.specs.Firsts.{first_shown}
use Rattle.uni_meaning.specs.Hits.{is_hit}
use Rattle.uni_meaning.specs.Laws.{FirstIsShown, first_whole}
use Rattle.uni_meaning.specs.Lineages.{Shown, lineages}
use Rattle.uni_meaning.specs.Policy.{authorised}
use Rattle.uni_meaning.proofs.Exact.{plan_exact}
use Rattle.uni_meaning.proofs.Firsts.{plan_first}

module _ (test : EdgeRef → Bool) where
  -- the first list that passes whole is one of the lists, and passes
  whole_is : (ls : List (List EdgeRef)) (edges : List EdgeRef) → first_whole test ls ≡ Some edges → Contains ls edges × (list_all test edges ≡ true)
  whole_is [] edges e = cc
  whole_is (l ∷ ls) edges e = by (list_all test l) refl e (whole_is ls edges)
    where
      by : (b : Bool) → list_all test l ≡ b → option_or (if b then Some l else None) (first_whole test ls) ≡ Some edges → (first_whole test ls ≡ Some edges → Contains ls edges × (list_all test edges ≡ true))
          → Contains (l ∷ ls) edges × (list_all test edges ≡ true)
      by true passes e rest = let same : l ≡ edges = cc in (subst (Contains (l ∷ ls)) same (first_is l ls), ap (list_all test) (sym same) ∙ passes)
      by false passes e rest = let later = rest e in (later_is l ls edges later.0, later.1)

  -- where one of the lists passes whole, there is a first
  some_whole : (ls : List (List EdgeRef)) (edges : List EdgeRef) → Contains ls edges → list_all test edges ≡ true → (first : List EdgeRef) × (first_whole test ls ≡ Some first)
  some_whole [] edges there passes = absurd (none_in_nil edges there)
  some_whole (l ∷ ls) edges there passes = by (list_all test l) refl (first_or_later l ls edges there) (λ later. some_whole ls edges later passes)
    where
      by : (b : Bool) → list_all test l ≡ b → (l ≡ edges) ⊎ Contains ls edges → (Contains ls edges → (first : List EdgeRef) × (first_whole test ls ≡ Some first))
          → (first : List EdgeRef) × (option_or (if b then Some l else None) (first_whole test ls) ≡ Some first)
      by true is place rest = (l, refl)
      by false is (inl same) rest = let no_way : false ≡ true = sym is ∙ ap (list_all test) same ∙ passes in absurd cc
      by false is (inr later) rest = rest later

module _ (schema : Declarations) (table : Contents) (viewer : ℕ) (plan : Plan) (x : DocKey) (hit : is_hit schema table plan x ≡ true) where
  is_shown : ((edges : List EdgeRef) × (first_shown schema table viewer plan x ≡ Some edges)) → Shown schema table viewer plan x
  is_shown given =
      let whole = whole_is (authorised schema table viewer) (lineages schema table plan x) given.0 (sym (plan_first schema table viewer plan x) ∙ given.1) in
      (hit, given.0, (plan_exact schema table plan x given.0).0 whole.0, whole.1)

  is_given : Shown schema table viewer plan x → (edges : List EdgeRef) × (first_shown schema table viewer plan x ≡ Some edges)
  is_given shown =
      let some = some_whole (authorised schema table viewer) (lineages schema table plan x) shown.1 ((plan_exact schema table plan x shown.1).1 shown.2) shown.3 in
      (some.0, plan_first schema table viewer plan x ∙ some.1)

pub first_is_shown : FirstIsShown
first_is_shown = record {
  exact = λ schema table viewer plan x hit. (is_shown schema table viewer plan x hit, is_given schema table viewer plan x hit);
  of_hits = λ schema table viewer plan x shown. shown.0;
}
