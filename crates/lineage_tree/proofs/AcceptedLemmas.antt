-- Lists that are accepted whole, among those that a tree stands for.
use Rattle.std.proofs.Common.{◌≡◌, ℕ, zero, suc, Bool, true, false, ◌&&◌, ◌||◌, List, [], ◌∷◌, ◌++◌, refl, sym, ◌∙◌, ap, map, get_or}
use Rattle.std.specs.List.{list_any, list_all}
use Rattle.std.proofs.lemmas.List.{map-append}
use Rattle.std.proofs.lemmas.List.Folds.{list_any-append, list_all-append}
use Rattle.uni_base.specs.declared.edge.Held.{Held}
use Rattle.lineage_tree.specs.Accepted.{some_accepted, verdicts_of}
use Rattle.lineage_tree.specs.Holding.{holds_by, all_hold_by, some_hold_by}
use Rattle.lineage_tree.specs.Lists.{joined, lists_of, choices_of, members_lists}
use Rattle.lineage_tree.specs.Tree.{Tree, edge, all_of, any_of, entry, Forest, no_members, with_member}
use Rattle.lineage_tree.proofs.EntryLemmas.{Book}

module _ (accepts : Held → Bool) where
  abbrev whole : List Held → Bool
  whole list = list_all accepts list

  some_after : (first : List Held) (seconds : List (List Held)) → list_any whole (map (λ second. first ++ second) seconds) ≡ (whole first && list_any whole seconds)
  some_after first [] = sym (and_false (whole first))
    where
      and_false : (b : Bool) → (b && false) ≡ false
      and_false true = refl
      and_false false = refl
  some_after first (second ∷ seconds) =
      ap (λ b. b || list_any whole (map (λ s. first ++ s) seconds)) (list_all-append accepts first second) ∙ ap (λ b. (whole first && whole second) || b) (some_after first seconds)
      ∙ spread (whole first) (whole second) (list_any whole seconds)
    where
      spread : (a b c : Bool) → ((a && b) || (a && c)) ≡ (a && (b || c))
      spread true b c = refl
      spread false b c = refl

  pub some_joined : (firsts seconds : List (List Held)) → some_accepted accepts (joined firsts seconds) ≡ (some_accepted accepts firsts && some_accepted accepts seconds)
  some_joined [] seconds = refl
  some_joined (first ∷ firsts) seconds =
      list_any-append whole (map (λ second. first ++ second) seconds) (joined firsts seconds)
      ∙ ap (λ b. b || list_any whole (joined firsts seconds)) (some_after first seconds)
      ∙ ap (λ b. (whole first && list_any whole seconds) || b) (some_joined firsts seconds)
      ∙ gather (whole first) (list_any whole firsts) (list_any whole seconds)
    where
      gather : (a b c : Bool) → ((a && c) || (b && c)) ≡ ((a || b) && c)
      gather true true true = refl
      gather true true false = refl
      gather true false true = refl
      gather true false false = refl
      gather false b c = refl

  verdict : (book : Book) (n : ℕ) → get_or (verdicts_of accepts book) n false ≡ some_accepted accepts (get_or book n [])
  verdict [] n = refl
  verdict (lists ∷ book) zero = refl
  verdict (lists ∷ book) (suc n) = verdict book n

  -- a tree holds by its forms exactly if some one of its lists is accepted whole
  mutual
    pub holds_by-lists : (book : Book) (tree : Tree) → holds_by accepts (verdicts_of accepts book) tree ≡ some_accepted accepts (lists_of book tree)
    holds_by-lists book (edge held) = one (accepts held)
      where
        one : (b : Bool) → b ≡ ((b && true) || false)
        one true = refl
        one false = refl
    holds_by-lists book (all_of members) = all_hold_by-lists book members
    holds_by-lists book (any_of members) = some_hold_by-lists book members
    holds_by-lists book (entry number) = verdict book number

    pub all_hold_by-lists : (book : Book) (members : Forest) → all_hold_by accepts (verdicts_of accepts book) members ≡ some_accepted accepts (choices_of book members)
    all_hold_by-lists book no_members = refl
    all_hold_by-lists book (with_member tree members) =
        ap (λ b. b && all_hold_by accepts (verdicts_of accepts book) members) (holds_by-lists book tree)
        ∙ ap (λ b. some_accepted accepts (lists_of book tree) && b) (all_hold_by-lists book members)
        ∙ sym (some_joined (lists_of book tree) (choices_of book members))

    pub some_hold_by-lists : (book : Book) (members : Forest) → some_hold_by accepts (verdicts_of accepts book) members ≡ some_accepted accepts (members_lists book members)
    some_hold_by-lists book no_members = refl
    some_hold_by-lists book (with_member tree members) =
        ap (λ b. b || some_hold_by accepts (verdicts_of accepts book) members) (holds_by-lists book tree)
        ∙ ap (λ b. some_accepted accepts (lists_of book tree) || b) (some_hold_by-lists book members)
        ∙ sym (list_any-append whole (lists_of book tree) (members_lists book members))

-- one verdict more
pub verdicts_more : (accepts : Held → Bool) (book : Book) (verdicts : List Bool) (verdict : Bool) (tree : Tree) → verdicts ≡ verdicts_of accepts book → verdict ≡ some_accepted accepts (lists_of book tree)
    → verdicts ++ verdict ∷ [] ≡ verdicts_of accepts (book ++ lists_of book tree ∷ [])
verdicts_more accepts book verdicts verdict tree e f =
    ap (λ (vs : List Bool). vs ++ verdict ∷ []) e ∙ ap (λ b. verdicts_of accepts book ++ b ∷ []) f ∙ sym (map-append (some_accepted accepts) book (lists_of book tree ∷ []))
