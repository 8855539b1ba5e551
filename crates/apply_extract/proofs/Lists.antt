-- Operands of lists: how they are typed, and what they stand for with one more.
use Rattle.std.proofs.Common.{rules, ◌≡◌, ◌<◌, ℕ, zero, suc, List, [], ◌∷◌, ◌++◌, map, length, get_or, refl, sym, ◌∙◌, ap, subst, arith}
use Rattle.std.proofs.lemmas.List.{append_assoc, append-nil, length-append, length-map, map-append}
use Rattle.uni_schema.specs.Schema.{Declarations}
use Rattle.uni_table.specs.Contents.{Contents}
use Rattle.query_tree.specs.declared.kind.ListKind.{ListKind}
use Rattle.query_tree.specs.declared.query.Mark.{Mark}
use Rattle.query_check.specs.declared.checked.CheckedOperand.{CheckedOperand}
use Rattle.query_check.specs.Plan.{SeenOperand, Stated, all_inner, operands_seen, plans_of, seen_list, seen_operand, list_plan}
use Rattle.query_check.specs.Verticals.{AreOf, AreStated}
use Rattle.uni_meaning.proofs.Typed.{list_of}
use Rattle.lineage_tree.specs.Lists.{lists_of}
use Rattle.lineage_tree.specs.Tree.{Tree}
use Rattle.shard_eval.specs.Kept.{IsShare}
use Rattle.shard_eval.specs.Meant.{AllStandFor, StandsFor as IsMeant}
use Rattle.shard_eval.specs.Resolution.{Resolution, nodes_of, list_node, AreReady}
use Rattle.apply_extract.specs.declared.answered.AnsweredOperand.{AnsweredOperand}
use Rattle.apply_extract.specs.Answered.{answered_in, in_place, operand_in, AreReadyIn, IsReadyIn}
use Rattle.apply_extract.specs.declared.answered.Answered.TheFolds.{fold_out-AnsweredOperand}
use Rattle.apply_extract.specs.declared.answered.Answered.TheViews.{the_lemmas}
use Rattle.apply_extract.specs.Booked.{all_booked, booked, lists_each, tree_in}
use Rattle.apply_extract.specs.Conditions.{AreTyped, HaveShares, IsTyped}
use Rattle.apply_extract.specs.Hits.{AreAnswered, Book, IsAnswered}

-- ---- a typed list has typed operands

stated_parts : (schema : Declarations) (xs ys : List Stated) → AreStated schema (xs ++ ys) → AreStated schema xs × AreStated schema ys
stated_parts schema [] ys are = (tt, are)
stated_parts schema (x ∷ xs) ys are = let rest = stated_parts schema xs ys are.1 in ((are.0, rest.0), rest.1)

operands_typed : (schema : Declarations) (vertical : ℕ) (operands : List SeenOperand) → AreOf schema (plans_of operands) vertical → AreStated schema (all_inner operands) → HaveShares (plans_of operands) → AreTyped schema vertical operands
operands_typed schema vertical [] of inner shares = tt
operands_typed schema vertical (o ∷ operands) of inner shares =
    let parts = stated_parts schema o.node.inner (all_inner operands) inner in
    (shares.0, record { of = of.0; inner = parts.0; shares = shares.1 }, operands_typed schema vertical operands of.1 parts.1 shares.2)

pub list_typed : (schema : Declarations) (vertical : ℕ) (kind : ListKind) (operands : List SeenOperand) → IsTyped schema vertical (seen_list kind operands) → AreTyped schema vertical operands
list_typed schema vertical kind operands typed = operands_typed schema vertical operands (list_of schema kind (plans_of operands) vertical typed.of) typed.inner typed.shares

pub typed_at : (schema : Declarations) (vertical : ℕ) (operands : List CheckedOperand) (i : ℕ) (d : CheckedOperand) → i < length operands → AreTyped schema vertical (operands_seen operands)
    → IsShare (seen_operand (get_or operands i d)).mark × IsTyped schema vertical (seen_operand (get_or operands i d)).node
typed_at schema vertical [] i d here are = absurd (omega (arith, here))
typed_at schema vertical (o ∷ operands) zero d here are = (are.0, are.1)
typed_at schema vertical (o ∷ operands) (suc i) d here are = typed_at schema vertical operands i d (omega (arith, here)) are.2

-- ---- one operand more

pub answered_operand : (operand : AnsweredOperand) → operand_in operand ≡ (answered_in operand.node, operand.mark)
answered_operand operand = search (rules, the_lemmas, fold_out-AnsweredOperand)

booked_more : (schema : Declarations) (table : Contents) (xs : List SeenOperand) (x : SeenOperand) → all_booked schema table (plans_of (xs ++ x ∷ [])) ≡ all_booked schema table (plans_of xs) ++ booked schema table x.node.plan
booked_more schema table [] x = append-nil (booked schema table x.node.plan)
booked_more schema table (y ∷ xs) x =
    ap (λ (ts : List Tree). booked schema table y.node.plan ++ ts) (booked_more schema table xs x)
    ∙ sym (append_assoc (booked schema table y.node.plan) (all_booked schema table (plans_of xs)) (booked schema table x.node.plan))

stand_more : (schema : Declarations) (table : Contents) (book : ℕ → Tree) (shard : ℕ) (xs : List SeenOperand) (x : SeenOperand) (ns : List (Resolution × Mark)) (n : Resolution × Mark)
    → AllStandFor schema table book shard (plans_of xs) (nodes_of ns) → n.1 ≡ x.mark → IsMeant schema table book shard x.node.plan n.0 → AllStandFor schema table book shard (plans_of (xs ++ x ∷ [])) (nodes_of (ns ++ n ∷ []))
stand_more schema table book shard [] x [] n all mark one = (mark, one, tt)
stand_more schema table book shard [] x (m ∷ ns) n all mark one = absurd all
stand_more schema table book shard (y ∷ xs) x [] n all mark one = absurd all
stand_more schema table book shard (y ∷ xs) x (m ∷ ns) n all mark one = (all.0, all.1, stand_more schema table book shard xs x ns n all.2 mark one)

pub operands_more : (schema : Declarations) (table : Contents) (shards : ℕ) (old mid new : Book) (xs : List SeenOperand) (x : SeenOperand) (os : List ((ℕ → Resolution) × Mark)) (o : (ℕ → Resolution) × Mark)
    → AreAnswered schema (plans_of xs) shards old mid os table → o.1 ≡ x.mark → IsAnswered schema x.node.plan shards mid new o.0 table → AreAnswered schema (plans_of (xs ++ x ∷ [])) shards old new (os ++ o ∷ []) table
operands_more schema table shards old mid new xs x os o are mark is =
    let all = all_booked schema table (plans_of xs) in
    let one = booked schema table x.node.plan in
    let more = booked_more schema table xs x in
    record {
      gains = is.gains ∙ ap (λ (b : Book). b ++ lists_each one) are.gains ∙ append_assoc old (lists_each all) (lists_each one)
          ∙ ap (λ (b : Book). old ++ b) (sym (ap lists_each more ∙ map-append (lists_of []) all one));
      stands = λ shard below before after count.
          let count_more : length (before ++ all) ≡ length mid = omega (arith, count, ap length are.gains, length-append old (lists_each all), length-map all (lists_of []), length-append before all) in
          let whole : before ++ (all ++ (one ++ after)) ≡ before ++ (all_booked schema table (plans_of (xs ++ x ∷ [])) ++ after) =
          ap (λ (ts : List Tree). before ++ ts) (sym (append_assoc all one after) ∙ ap (λ (ts : List Tree). ts ++ after) (sym more)) in
          subst (λ (nodes : List (Resolution × Mark)). AllStandFor schema table (tree_in (before ++ (all_booked schema table (plans_of (xs ++ x ∷ [])) ++ after))) shard (plans_of (xs ++ x ∷ [])) (nodes_of nodes))
          (sym (map-append (in_place shard) os (o ∷ [])))
          (subst (λ (ts : List Tree). AllStandFor schema table (tree_in ts) shard (plans_of (xs ++ x ∷ [])) (nodes_of (map (in_place shard) os ++ in_place shard o ∷ []))) whole
          (stand_more schema table (tree_in (before ++ (all ++ (one ++ after)))) shard xs x (map (in_place shard) os) (in_place shard o)
          (are.stands shard below before (one ++ after) count) mark
          (subst (λ (ts : List Tree). IsMeant schema table (tree_in ts) shard x.node.plan (o.0 shard)) (append_assoc before all (one ++ after)) (is.stands shard below (before ++ all) after count_more))));
    }

pub operands_none : (schema : Declarations) (table : Contents) (shards : ℕ) (book : Book) → AreAnswered schema (plans_of []) shards book book [] table
operands_none schema table shards book = record { gains = sym (append-nil book); stands = λ shard below before after count. tt }

-- a list of them
pub list_answered : (schema : Declarations) (table : Contents) (shards : ℕ) (old new : Book) (kind : ListKind) (xs : List SeenOperand) (os : List ((ℕ → Resolution) × Mark)) (query : ℕ → Resolution)
    → ((shard : ℕ) → query shard ≡ list_node kind (nodes_of (map (in_place shard) os))) → AreAnswered schema (plans_of xs) shards old new os table → IsAnswered schema (list_plan kind (plans_of xs)) shards old new query table
list_answered schema table shards old new kind xs os query is are = record {
  gains = are.gains;
  stands = λ shard below before after count.
      subst (IsMeant schema table (tree_in (before ++ (all_booked schema table (plans_of xs) ++ after))) shard (list_plan kind (plans_of xs))) (sym (is shard)) (refl, are.stands shard below before after count);
}

pub ready_more : (shards : ℕ) (os : List ((ℕ → Resolution) × Mark)) (o : (ℕ → Resolution) × Mark) → AreReadyIn shards os → IsShare o.1 → IsReadyIn shards o.0 → AreReadyIn shards (os ++ o ∷ [])
ready_more shards os o are share is shard below = more os (are shard below)
  where
    more : (ps : List ((ℕ → Resolution) × Mark)) → AreReady (nodes_of (map (in_place shard) ps)) → AreReady (nodes_of (map (in_place shard) (ps ++ o ∷ [])))
    more [] all = (share, is shard below, tt)
    more (p ∷ ps) all = (all.0, all.1, more ps all.2)
