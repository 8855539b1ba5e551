-- A key among the postings of one layer, none of which stands before it.
use Rattle.std.proofs.Common.{◌≡◌, true, false, not, cond, List, [], ◌∷◌, map, filter, drop, Option, None, Some, arith, refl, sym, ◌∙◌, ap, subst, All}
use Rattle.std.specs.Option.{option_map, unwrap_or}
use Rattle.std.specs.List.{slice_get}
use Rattle.std.specs.Ordering.{is_eq}
use Rattle.std.specs.FinMap.Entries.{find}
use Rattle.std.proofs.lemmas.List.Elements.{All-head, All-tail}
use Rattle.uni_base.specs.declared.entity.DocKey.{DocKey}
use Rattle.uni_base.specs.Cursors.{is_before, IsRanked}
use Rattle.uni_base.specs.RankOrder.{doc_cmp}
use Rattle.uni_base.proofs.RankedLemmas.{Standing, before, same, after, standing, is_before_self, is_eq_same, is_eq_swap, IsBeforeAll, IsBeforeAll-ranked}
use Rattle.posting_lists.specs.declared.posting.Posting.{Posting}
use Rattle.posting_lists.specs.Postings.{keys_of, postings_from}
use Rattle.posting_lists.proofs.Sections.{postings_from-at}
use Rattle.layer_stack.specs.Stacks.{stands_at, entry_of, first_and, first_before}

-- a key that comes before all postings is at none
pub find_absent : (k : DocKey) (ps : List Posting) → IsBeforeAll k (keys_of ps) → find doc_cmp k (map entry_of ps) ≡ None
find_absent k [] all = refl
find_absent k (p ∷ ps) all =
    ap (λ b. cond b (Some p.audience) (find doc_cmp k (map entry_of ps))) (apart (All-head (λ x. is_before k x ≡ true) p.key (keys_of ps) all)) ∙ find_absent k ps (All-tail (λ x. is_before k x ≡ true) p.key (keys_of ps) all)
  where
    apart : is_before k p.key ≡ true → is_eq (doc_cmp k p.key) ≡ false
    apart h = by (standing k p.key)
      where
        by : Standing k p.key → is_eq (doc_cmp k p.key) ≡ false
        by (before _ _ e _) = e
        by (same e) = absurd_from e
          where
            absurd_from : k ≡ p.key → is_eq (doc_cmp k p.key) ≡ false
            absurd_from f = let no : is_before k k ≡ true = subst (λ (x : DocKey). is_before k x ≡ true) (sym f) h in let yes = is_before_self k in absurd cc
        by (after _ _ e _) = e

-- a filter that passes all postings after a key
keep_all : (k : DocKey) (ps : List Posting) → IsBeforeAll k (keys_of ps) → filter (λ x. is_before k x.key) ps ≡ ps
keep_all k [] all = refl
keep_all k (p ∷ ps) all =
    ap (λ b. cond b (p ∷ filter (λ x. is_before k x.key) ps) (filter (λ x. is_before k x.key) ps)) (All-head (λ x. is_before k x ≡ true) p.key (keys_of ps) all)
    ∙ ap (λ qs. p ∷ qs) (keep_all k ps (All-tail (λ x. is_before k x ≡ true) p.key (keys_of ps) all))

-- what is said of a key by the first posting, and by the others
data Head (k : DocKey) (p : Posting) (ps : List Posting) : Type 0 where
  here : is_eq (doc_cmp p.key k) ≡ true → is_eq (doc_cmp k p.key) ≡ true → is_before k p.key ≡ false → IsBeforeAll k (keys_of ps) → Head k p ps
  later : is_eq (doc_cmp p.key k) ≡ false → is_eq (doc_cmp k p.key) ≡ false → is_before k p.key ≡ true → IsBeforeAll k (keys_of ps) → Head k p ps

head_is : (k : DocKey) (p : Posting) (ps : List Posting) → IsRanked (keys_of (p ∷ ps)) → is_before p.key k ≡ false → Head k p ps
head_is k p ps ranked from = by (standing k p.key)
  where
    by : Standing k p.key → Head k p ps
    by (before b _ e f) = later f e b (IsBeforeAll-ranked k p.key (keys_of ps) ranked from)
    by (same e) =
        let self : is_eq (doc_cmp k p.key) ≡ true = is_eq_at e in
        here (is_eq_swap p.key k ∙ self) self (subst (λ (x : DocKey). is_before k x ≡ false) e (is_before_self k)) (IsBeforeAll-ranked k p.key (keys_of ps) ranked from)
      where
        is_eq_at : k ≡ p.key → is_eq (doc_cmp k p.key) ≡ true
        is_eq_at f = is_eq_same k p.key f
    by (after b _ _ _) = absurd cc

-- the answer at the key is at the first posting
pub find_first : (k : DocKey) (ps : List Posting) → IsRanked (keys_of ps) → All (λ x. is_before x.key k ≡ false) ps → find doc_cmp k (map entry_of ps) ≡ cond (stands_at k ps) (option_map (λ p. p.audience) (slice_get ps 0)) None
find_first k [] ranked from = refl
find_first k (p ∷ ps) ranked from = by (head_is k p ps ranked (All-head (λ x. is_before x.key k ≡ false) p ps from))
  where
    by : Head k p ps → find doc_cmp k (map entry_of (p ∷ ps)) ≡ cond (is_eq (doc_cmp p.key k)) (Some p.audience) None
    by (here e f _ _) = ap (λ b. cond b (Some p.audience) (find doc_cmp k (map entry_of ps))) f ∙ sym (ap (λ b. cond b (Some p.audience) None) e)
    by (later e f _ all) = ap (λ b. cond b (Some p.audience) (find doc_cmp k (map entry_of ps))) f ∙ find_absent k ps all ∙ sym (ap (λ b. cond b (Some p.audience) None) e)

-- what is left after the key
pub pass_first : (k : DocKey) (ps : List Posting) → IsRanked (keys_of ps) → All (λ x. is_before x.key k ≡ false) ps → filter (λ x. is_before k x.key) ps ≡ cond (stands_at k ps) (drop 1 ps) ps
pass_first k [] ranked from = refl
pass_first k (p ∷ ps) ranked from = by (head_is k p ps ranked (All-head (λ x. is_before x.key k ≡ false) p ps from))
  where
    by : Head k p ps → filter (λ x. is_before k x.key) (p ∷ ps) ≡ cond (is_eq (doc_cmp p.key k)) ps (p ∷ ps)
    by (here e _ b all) = ap (λ c. cond c (p ∷ filter (λ x. is_before k x.key) ps) (filter (λ x. is_before k x.key) ps)) b ∙ keep_all k ps all ∙ sym (ap (λ c. cond c ps (p ∷ ps)) e)
    by (later e _ b all) = ap (λ c. cond c (p ∷ filter (λ x. is_before k x.key) ps) (filter (λ x. is_before k x.key) ps)) b ∙ ap (λ qs. p ∷ qs) (keep_all k ps all) ∙ sym (ap (λ c. cond c ps (p ∷ ps)) e)

-- after the first of postings in rank order come the others
pub after_first : (p : Posting) (ps : List Posting) → IsRanked (keys_of ps) → slice_get ps 0 ≡ Some p → filter (λ x. is_before p.key x.key) ps ≡ drop 1 ps
after_first p [] ranked first = cc
after_first p (q ∷ ps) ranked first =
    let is : q ≡ p = ap (λ o. unwrap_or o p) first in
    let self : is_before p.key q.key ≡ false = subst (λ (x : Posting). is_before p.key x.key ≡ false) (sym is) (is_before_self p.key) in
    let later : IsBeforeAll p.key (keys_of ps) = subst (λ (x : Posting). IsBeforeAll x.key (keys_of ps)) is ranked.0 in
    ap (λ b. cond b (q ∷ filter (λ x. is_before p.key x.key) ps) (filter (λ x. is_before p.key x.key) ps)) self ∙ keep_all p.key ps later

-- the first of postings and the others
pub first_back : (p : Posting) (ps : List Posting) → slice_get ps 0 ≡ Some p → p ∷ drop 1 ps ≡ ps
first_back p [] first = cc
first_back p (q ∷ ps) first = ap (λ x. x ∷ ps) (sym (ap (λ o. unwrap_or o p) first))

-- from a key on, where the first posting comes before it
pub from_others : (from : DocKey) (o : Option Posting) (ps : List Posting) → first_before from (first_and o ps) ≡ true → postings_from from ps ≡ postings_from from (first_and o ps)
from_others from None ps is = refl
from_others from (Some p) ps is = sym (ap (λ b. cond (not b) (p ∷ postings_from from ps) (postings_from from ps)) is)

-- from a key on, where the first posting does not come before it
pub from_first : (from : DocKey) (ps : List Posting) → IsRanked (keys_of ps) → first_before from ps ≡ false → ps ≡ postings_from from ps
from_first from [] ranked is = cc
from_first from (p ∷ ps) ranked is = sym (postings_from-at from (p ∷ ps) 0 ranked (λ j d low fits. absurd (omega (arith, low))) (λ d fits. is))
