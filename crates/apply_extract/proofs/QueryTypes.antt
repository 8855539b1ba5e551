-- Typed queries, by their nodes.
use Rattle.std.proofs.Common.{◌≡◌, ◌<◌, ℕ, length, sym, ◌∙◌, ap, subst}
use Rattle.uni_schema.specs.Schema.{Declarations, IsSchema}
use Rattle.uni_schema.specs.declared.schema.Origin.TheVariants.{Vertical}
use Rattle.uni_schema.specs.declared.schema.Store.TheVariants.{Forward}
use Rattle.query_tree.specs.declared.kind.JoinKind.TheVariants.{Extract}
use Rattle.query_check.specs.declared.checked.Checked.{Checked}
use Rattle.query_check.specs.Plan.{Plan, Seen, SeenQuery, seen, seen_join, seen_node}
use Rattle.query_check.specs.Verticals.{IsOf, IsType}
use Rattle.query_check.proofs.SeenLemmas.{seen_is}
use Rattle.uni_meaning.proofs.Typed.{vertical_is, vertical_within}
use Rattle.apply_extract.specs.Conditions.{IsAsked, IsTyped}

-- a plan is of one vertical
vertical_same : (schema : Declarations) (one : ℕ) (plan : Plan) (other : ℕ) → IsOf schema plan one → IsOf schema plan other → one ≡ other
vertical_same schema one plan other first second = sym (vertical_is schema plan one first) ∙ vertical_is schema plan other second

-- the node of a typed query
pub query_typed : (schema : Declarations) (query : Checked) → IsAsked schema (seen query) → IsTyped schema query.vertical (seen_node query.node)
query_typed schema query asked = subst (IsAsked schema) (seen_is query) asked

pub query_plan : (query : Checked) → (seen query).stated.plan ≡ (seen_node query.node).plan
query_plan query = ap (λ (q : SeenQuery). q.stated.plan) (seen_is query)

-- it has hits in a declared vertical
pub node_within : (schema : Declarations) (vertical : ℕ) (node : Seen) → IsSchema schema → IsTyped schema vertical node → vertical < length schema.verticals
node_within schema vertical node is typed = vertical_within schema is node.plan vertical typed.of

-- and so has the inner query of a join by forward edges, in the vertical that the type starts at
pub source_within : (schema : Declarations) (vertical number limit : ℕ) (node : Seen) (query : Checked) → IsSchema schema → node ≡ seen_join Extract number limit (seen query) → IsTyped schema vertical node → query.vertical < length schema.verticals
source_within schema vertical number limit node query is same typed =
    let whole : IsTyped schema vertical (seen_join Extract number limit (seen query)) = subst (IsTyped schema vertical) same typed in
    subst (λ (q : SeenQuery). q.stated.vertical < length schema.verticals) (seen_is query) (vertical_within schema is (seen query).stated.plan (seen query).stated.vertical whole.inner.0)

pub extract_type : (schema : Declarations) (vertical number limit : ℕ) (query other : Checked) → other ≡ query → IsTyped schema vertical (seen_join Extract number limit (seen query)) → IsType schema number Forward (Vertical other.vertical) vertical
extract_type schema vertical number limit query other same typed =
    let source = typed.of.0 in
    let is : IsType schema number Forward (Vertical source) vertical = typed.of.1.0 in
    subst (λ v. IsType schema number Forward (Vertical v) vertical) (vertical_same schema source (seen query).stated.plan (seen query).stated.vertical typed.of.1.1 typed.inner.0 ∙ ap (λ (q : SeenQuery). q.stated.vertical) (seen_is query) ∙ ap (λ (q : Checked). q.vertical) (sym same)) is
