use Rattle.std.proofs.Common.{◌≡◌, ◌++◌, ◌∷◌, [], ◌+◌, ◌<◌, List, length, map, suc, sym, ap, subst, ◌∙◌, arith, get_or, rules, take, take-suc, All}
use Rattle.std.proofs.lemmas.List.{map-append}
use Rattle.std.proofs.lemmas.List.Sorted.{answers_always}
use Rattle.std.specs.Result.{IfOk}
use Rattle.query_tree.specs.declared.kind.ListKind.{ListKind}
use Rattle.query_tree.specs.declared.kind.ListKind.TheVariants as lists
use Rattle.query_tree.specs.declared.kind.JoinKind.TheVariants as joins
use Rattle.query_tree.specs.declared.query.Mark.{Mark}
use Rattle.query_check.specs.declared.checked.Checked.{Checked}
use Rattle.query_check.specs.declared.checked.CheckedNode.{CheckedNode}
use Rattle.query_check.specs.declared.checked.CheckedOperand.{CheckedOperand}
use Rattle.query_check.specs.Plan.{Plan, Seen, all_inner, SeenOperand, SeenQuery, operands_seen, plans_of, seen, seen_join, seen_list, seen_node, seen_operand, stated_of, join_plan, list_plan, term_plan, prefix_plan}
use Rattle.query_check.specs.Verticals.{AreOf, AreStated, IsOf}
use Rattle.query_check.proofs.SeenLemmas.{seen_is}
use Rattle.uni_meaning.specs.Hits.{cut, first_vertical, target_of, vertical_of}
use Rattle.uni_meaning.specs.Standings.{columns_of, found_members, members_of, places_of, seen_column, standings_of}
use Rattle.uni_meaning.specs.Viewed.{Viewed}
use Rattle.uni_meaning.specs.declared.column.Column.{Column}
use Rattle.uni_meaning.specs.declared.place.Place.{Place}
use Rattle.uni_meaning.specs.declared.standing.Standing.{Standing}
use Rattle.uni_meaning.proofs.Cuts.{cut_is}
use Rattle.uni_meaning.proofs.ListStandings.{columns_long, walks_are}
use Rattle.uni_meaning.proofs.PlaceStandings.{operand_is, operand_of, operand_size, operand_stated, stand_joins, stand_prefixes, stand_sets, stand_terms}
use Rattle.uni_meaning.proofs.SeenNodes.{plan_size, seen_and, seen_apply, seen_difference, seen_extract, seen_or, seen_prefix, seen_strong_or, seen_term, seen_weak_and}
use Rattle.uni_meaning.proofs.Typed.{declared, list_of, vertical_is, vertical_within}
use Rattle.uni_meaning.proofs.view.View.+under.Goals as goal

pub columns-under-requires : goal.columns-under-requires
columns-under-requires t c =
    let v = c.args.self.now in
    let items = c.args.operands.now.items in
    let vertical = first_vertical v.schema (plans_of (operands_seen items)) in
    let within : c.loop-operand.operand-index < length items = omega (arith, c.loop-operand-test.true, ap length c.deref-operand-items.ensures.value) in
    let is : c.operand-item.result ≡ get_or items c.loop-operand.operand-index c.operand-item.result = c.operand-item.is ∙ ap (λ (xs : List CheckedOperand). get_or xs c.loop-operand.operand-index c.operand-item.result) c.deref-operand-items.ensures.value in
    let plan : Plan = (seen_node c.operand-item.result.node).plan in
    let of : IsOf v.schema plan vertical = operand_of v.schema items c.loop-operand.operand-index c.operand-item.result vertical within is c.requires.typed in
    let same : vertical_of v.schema plan ≡ vertical = vertical_is v.schema plan vertical of in
    let view = c.requires.view in
    let typed : IsOf v.schema (seen_node c.operand-item.result.node).plan (vertical_of v.schema (seen_node c.operand-item.result.node).plan) = subst (IsOf v.schema plan) (sym same) of in
    let stated : AreStated v.schema (seen_node c.operand-item.result.node).inner = operand_stated v.schema items c.loop-operand.operand-index c.operand-item.result within is c.requires.inner in
    let there : c.args.places.now ≡ places_of v.schema v.contents (vertical_of v.schema (seen_node c.operand-item.result.node).plan) = c.requires.there ∙ ap (places_of v.schema v.contents) (sym same) in
    (omega (arith, c.decreases, operand_size items c.loop-operand.operand-index c.operand-item.result within is), (view, (typed, (stated, there))))

pub columns-loop-operand-preserved : goal.columns-loop-operand-preserved
columns-loop-operand-preserved t c =
    let v = c.args.self.now in
    let items = c.deref-operand-items.result.now in
    let k = c.loop-operand.operand-index in
    let item = c.operand-item.result in
    let column : Mark × List Standing = (item.mark, standings_of v (seen_node item.node).plan c.args.places.now) in
    ap (map seen_column) c.in_ok-push.ensures.items ∙ map-append seen_column c.loop-operand.columns.items _
    ∙ ap (λ (cs : List (Mark × List Standing)). cs ++ (item.mark, c.in_ok-standings.standings.items) ∷ []) c.loop-operand.invariant
    ∙ ap (λ (ss : List Standing). columns_of v (operands_seen (take k items)) c.args.places.now ++ (item.mark, ss) ∷ []) c.in_ok-standings.ensures
    ∙ sym (ap (λ n. columns_of v (operands_seen (take n items)) c.args.places.now) (let e : k + 1 ≡ suc k = omega arith in e)
    ∙ ap (λ (os : List CheckedOperand). columns_of v (operands_seen os) c.args.places.now) (take-suc items k item c.loop-operand-test.true ∙ ap (λ (o : CheckedOperand). take k items ++ o ∷ []) (sym c.operand-item.is))
    ∙ ap (λ (os : List SeenOperand). columns_of v os c.args.places.now) (map-append seen_operand (take k items) (item ∷ []))
    ∙ map-append (λ (o : SeenOperand). (o.mark, standings_of v o.node.plan c.args.places.now)) (operands_seen (take k items)) (seen_operand item ∷ [])
    ∙ ap (λ (o : SeenOperand). columns_of v (operands_seen (take k items)) c.args.places.now ++ (o.mark, standings_of v o.node.plan c.args.places.now) ∷ []) (operand_is item))

pub cut-places-requires : goal.cut-places-requires
cut-places-requires t c =
    let v = c.args.self.now in
    subst (λ (q : SeenQuery). q.stated.vertical < length v.schema.verticals) (seen_is c.args.query.now)
    (vertical_within v.schema c.requires.view.schema (stated_of c.args.query.now).plan (stated_of c.args.query.now).vertical c.requires.typed)

pub cut-under-requires : goal.cut-under-requires
cut-under-requires t c =
    let v = c.args.self.now in
    let plan : Plan = (seen_node c.args.query.now.node).plan in
    let is : IsOf v.schema plan c.args.query.now.vertical = subst (λ (q : SeenQuery). IsOf v.schema q.stated.plan q.stated.vertical) (seen_is c.args.query.now) c.requires.typed in
    let same : vertical_of v.schema plan ≡ c.args.query.now.vertical = vertical_is v.schema plan c.args.query.now.vertical is in
    let view = c.requires.view in
    let typed : IsOf v.schema (seen_node c.args.query.now.node).plan (vertical_of v.schema (seen_node c.args.query.now.node).plan) = subst (IsOf v.schema plan) (sym same) is in
    let stated : AreStated v.schema (seen_node c.args.query.now.node).inner = subst (λ (q : SeenQuery). AreStated v.schema q.inner) (seen_is c.args.query.now) c.requires.inner in
    let there : c.as_slice.result.now ≡ places_of v.schema v.contents (vertical_of v.schema (seen_node c.args.query.now.node).plan) = c.as_slice.ensures.value ∙ c.in_ok-places.ensures ∙ ap (places_of v.schema v.contents) (sym same) in
    (omega (arith, c.decreases, ap (λ (q : SeenQuery). plan_size q.stated.plan) (seen_is c.args.query.now)), (view, (typed, (stated, there))))

pub cut-returns : goal.cut-returns
cut-returns t c =
    let v = c.args.self.now in
    let plan : Plan = (seen_node c.args.query.now.node).plan in
    let is : IsOf v.schema plan c.args.query.now.vertical = subst (λ (q : SeenQuery). IsOf v.schema q.stated.plan q.stated.vertical) (seen_is c.args.query.now) c.requires.typed in
    let same : vertical_of v.schema plan ≡ c.args.query.now.vertical = vertical_is v.schema plan c.args.query.now.vertical is in
    let places = c.in_ok-places.places.items in
    let there : places ≡ places_of v.schema v.contents (vertical_of v.schema plan) = c.in_ok-places.ensures ∙ ap (places_of v.schema v.contents) (sym same) in
    let stand : c.in_ok-standings.standings.items ≡ standings_of v plan places = c.in_ok-standings.ensures ∙ ap (standings_of v plan) c.as_slice.ensures.value in
    let found : c.in_ok-members.members.items ≡ found_members places c.in_ok-standings.standings.items = c.in_ok-members.ensures ∙ ap (λ (ps : List Place). found_members ps c.as_slice-3.result.now) c.as_slice-2.ensures.value ∙ ap (found_members places) c.as_slice-3.ensures.value in
    c.truncate.ensures.items
    ∙ cut_is v v.limits c.requires.view.kept plan c.args.limit places c.in_ok-standings.standings.items c.in_ok-members.members.items c.sort_unstable_by_key.new.self.items there stand found
    c.sort_unstable_by_key.ensures.permutation (c.sort_unstable_by_key.ensures.sorted (λ m. m.key) (answers_always _ _ _ (λ f a r g k. search rules)))
    ∙ ap (λ (q : SeenQuery). members_of v q.stated.plan (cut v.schema v.contents q.stated.plan c.args.limit)) (sym (seen_is c.args.query.now))

pub under-under_terms-requires : goal.under-under_terms-requires
under-under_terms-requires t c =
    let v = c.args.self.now in
    let typed = subst (λ (p : Plan). IsOf v.schema p (vertical_of v.schema p)) (ap (λ (n : CheckedNode). (seen_node n).plan) c.in-Term.is ∙ ap (λ (s : Seen). s.plan) (seen_term c.in-Term.type_no c.in-Term.key)) c.requires.typed in
    declared v.schema c.in-Term.type_no _ typed.0 _ typed.1.0

pub under-under_prefixes-requires : goal.under-under_prefixes-requires
under-under_prefixes-requires t c =
    let v = c.args.self.now in
    let typed = subst (λ (p : Plan). IsOf v.schema p (vertical_of v.schema p)) (ap (λ (n : CheckedNode). (seen_node n).plan) c.in-Prefix.is ∙ ap (λ (s : Seen). s.plan) (seen_prefix c.in-Prefix.type_no c.in-Prefix.from)) c.requires.typed in
    declared v.schema c.in-Prefix.type_no _ _ _ typed

pub under-returns-in-Term : goal.under-returns-in-Term
under-returns-in-Term t c =
    let v = c.args.self.now in
    let is : (seen_node c.args.node.now).plan ≡ term_plan c.in-Term.type_no c.in-Term.key = ap (λ (n : CheckedNode). (seen_node n).plan) c.in-Term.is ∙ ap (λ (s : Seen). s.plan) (seen_term c.in-Term.type_no c.in-Term.key) in
    let there = subst (λ (p : Plan). c.args.places.now ≡ places_of v.schema v.contents (vertical_of v.schema p)) is c.requires.there in
    subst (λ (p : Plan). IfOk c.under_terms.result (λ standings. standings.items ≡ standings_of v p c.args.places.now)) (sym is)
    (subst (λ (ss : List Standing). IfOk c.under_terms.result (λ standings. standings.items ≡ ss)) (stand_terms v v.limits c.requires.view.kept c.in-Term.type_no c.in-Term.key c.args.places.now there) c.under_terms.ensures)

pub under-returns-in-Prefix : goal.under-returns-in-Prefix
under-returns-in-Prefix t c =
    let v = c.args.self.now in
    let is : (seen_node c.args.node.now).plan ≡ prefix_plan c.in-Prefix.type_no c.in-Prefix.from = ap (λ (n : CheckedNode). (seen_node n).plan) c.in-Prefix.is ∙ ap (λ (s : Seen). s.plan) (seen_prefix c.in-Prefix.type_no c.in-Prefix.from) in
    let there = subst (λ (p : Plan). c.args.places.now ≡ places_of v.schema v.contents (vertical_of v.schema p)) is c.requires.there in
    subst (λ (p : Plan). IfOk c.under_prefixes.result (λ standings. standings.items ≡ standings_of v p c.args.places.now)) (sym is)
    (subst (λ (ss : List Standing). IfOk c.under_prefixes.result (λ standings. standings.items ≡ ss)) (stand_prefixes v v.limits c.requires.view.kept c.in-Prefix.type_no c.in-Prefix.from c.args.places.now there) c.under_prefixes.ensures)

-- what a node keeps, the list that it is seen as keeps
list_keeps : (v : Viewed) (node : Seen) (kind : ListKind) (operands : List SeenOperand) (places : List Place)
    → node ≡ seen_list kind operands
    → IsOf v.schema node.plan (vertical_of v.schema node.plan)
    → AreStated v.schema node.inner
    → places ≡ places_of v.schema v.contents (vertical_of v.schema node.plan)
    → IsOf v.schema (list_plan kind (plans_of operands)) (first_vertical v.schema (plans_of operands))
    × (AreStated v.schema (all_inner operands)
    × (places ≡ places_of v.schema v.contents (first_vertical v.schema (plans_of operands))))
list_keeps v node kind operands places is typed inner there = (
  subst (λ (s : Seen). IsOf v.schema s.plan (vertical_of v.schema s.plan)) is typed,
  (subst (λ (s : Seen). AreStated v.schema s.inner) is inner, subst (λ (s : Seen). places ≡ places_of v.schema v.contents (vertical_of v.schema s.plan)) is there),
)

pub under-under_list-requires : goal.under-under_list-requires
under-under_list-requires t c =
    let os = operands_seen c.in-And.operands.items in
    let is : seen_node c.args.node.now ≡ seen_list lists.And os = ap seen_node c.in-And.is ∙ seen_and c.in-And.operands in
    (omega (arith, c.decreases, ap (λ (s : Seen). plan_size s.plan) is), (c.requires.view, list_keeps c.args.self.now (seen_node c.args.node.now) lists.And os c.args.places.now is c.requires.typed c.requires.inner c.requires.there))

pub under-under_list-requires-in-Or : goal.under-under_list-requires-in-Or
under-under_list-requires-in-Or t c =
    let os = operands_seen c.in-Or.operands.items in
    let is : seen_node c.args.node.now ≡ seen_list lists.Or os = ap seen_node c.in-Or.is ∙ seen_or c.in-Or.operands in
    (omega (arith, c.decreases, ap (λ (s : Seen). plan_size s.plan) is), (c.requires.view, list_keeps c.args.self.now (seen_node c.args.node.now) lists.Or os c.args.places.now is c.requires.typed c.requires.inner c.requires.there))

pub under-under_list-requires-in-Difference : goal.under-under_list-requires-in-Difference
under-under_list-requires-in-Difference t c =
    let os = operands_seen c.in-Difference.operands.items in
    let is : seen_node c.args.node.now ≡ seen_list lists.Difference os = ap seen_node c.in-Difference.is ∙ seen_difference c.in-Difference.operands in
    (omega (arith, c.decreases, ap (λ (s : Seen). plan_size s.plan) is), (c.requires.view, list_keeps c.args.self.now (seen_node c.args.node.now) lists.Difference os c.args.places.now is c.requires.typed c.requires.inner c.requires.there))

pub under-under_list-requires-in-WeakAnd : goal.under-under_list-requires-in-WeakAnd
under-under_list-requires-in-WeakAnd t c =
    let os = operands_seen c.in-WeakAnd.operands.items in
    let is : seen_node c.args.node.now ≡ seen_list lists.WeakAnd os = ap seen_node c.in-WeakAnd.is ∙ seen_weak_and c.in-WeakAnd.operands in
    (omega (arith, c.decreases, ap (λ (s : Seen). plan_size s.plan) is), (c.requires.view, list_keeps c.args.self.now (seen_node c.args.node.now) lists.WeakAnd os c.args.places.now is c.requires.typed c.requires.inner c.requires.there))

pub under-under_list-requires-in-StrongOr : goal.under-under_list-requires-in-StrongOr
under-under_list-requires-in-StrongOr t c =
    let os = operands_seen c.in-StrongOr.operands.items in
    let is : seen_node c.args.node.now ≡ seen_list lists.StrongOr os = ap seen_node c.in-StrongOr.is ∙ seen_strong_or c.in-StrongOr.operands in
    (omega (arith, c.decreases, ap (λ (s : Seen). plan_size s.plan) is), (c.requires.view, list_keeps c.args.self.now (seen_node c.args.node.now) lists.StrongOr os c.args.places.now is c.requires.typed c.requires.inner c.requires.there))

pub under-under_query-requires : goal.under-under_query-requires
under-under_query-requires t c =
    let v = c.args.self.now in
    let inner : SeenQuery = seen c.deref.result.now in
    let is : seen_node c.args.node.now ≡ seen_join joins.Apply c.in-Apply.type_no c.in-Apply.limit inner =
    ap seen_node c.in-Apply.is ∙ seen_apply c.in-Apply.type_no c.in-Apply.limit c.in-Apply.node ∙ ap (λ (q : Checked). seen_join joins.Apply c.in-Apply.type_no c.in-Apply.limit (seen q)) (sym c.deref.ensures) in
    let typed : IsOf v.schema (seen_join joins.Apply c.in-Apply.type_no c.in-Apply.limit inner).plan (target_of v.schema c.in-Apply.type_no) = subst (λ (s : Seen). IsOf v.schema s.plan (vertical_of v.schema s.plan)) is c.requires.typed in
    let stated : AreStated v.schema (inner.stated ∷ inner.inner) = subst (λ (s : Seen). AreStated v.schema s.inner) is c.requires.inner in
    (omega (arith, c.decreases, ap (λ (s : Seen). plan_size s.plan) is), (c.requires.view, (declared v.schema c.in-Apply.type_no _ _ _ typed.1.0, (stated.0, stated.1))))

pub under-returns-in-Apply : goal.under-returns-in-Apply
under-returns-in-Apply t c =
    let v = c.args.self.now in
    let inner : SeenQuery = seen c.deref.result.now in
    let is : (seen_node c.args.node.now).plan ≡ join_plan joins.Apply c.in-Apply.type_no c.in-Apply.limit inner.stated.plan =
    ap (λ (n : CheckedNode). (seen_node n).plan) c.in-Apply.is ∙ ap (λ (s : Seen). s.plan) (seen_apply c.in-Apply.type_no c.in-Apply.limit c.in-Apply.node ∙ ap (λ (q : Checked). seen_join joins.Apply c.in-Apply.type_no c.in-Apply.limit (seen q)) (sym c.deref.ensures)) in
    let there = subst (λ (p : Plan). c.args.places.now ≡ places_of v.schema v.contents (vertical_of v.schema p)) is c.requires.there in
    subst (λ (p : Plan). IfOk c.under_query.result (λ standings. standings.items ≡ standings_of v p c.args.places.now)) (sym is)
    (subst (λ (ss : List Standing). IfOk c.under_query.result (λ standings. standings.items ≡ ss))
    (stand_joins v v.limits c.requires.view.kept joins.Apply c.in-Apply.type_no c.in-Apply.limit inner.stated.plan c.args.places.now there) c.under_query.ensures)

pub under-under_query-requires-in-Extract : goal.under-under_query-requires-in-Extract
under-under_query-requires-in-Extract t c =
    let v = c.args.self.now in
    let inner : SeenQuery = seen c.deref-in-Extract.result.now in
    let is : seen_node c.args.node.now ≡ seen_join joins.Extract c.in-Extract.type_no c.in-Extract.limit inner =
    ap seen_node c.in-Extract.is ∙ seen_extract c.in-Extract.type_no c.in-Extract.limit c.in-Extract.node ∙ ap (λ (q : Checked). seen_join joins.Extract c.in-Extract.type_no c.in-Extract.limit (seen q)) (sym c.deref-in-Extract.ensures) in
    let typed : IsOf v.schema (seen_join joins.Extract c.in-Extract.type_no c.in-Extract.limit inner).plan (target_of v.schema c.in-Extract.type_no) = subst (λ (s : Seen). IsOf v.schema s.plan (vertical_of v.schema s.plan)) is c.requires.typed in
    let stated : AreStated v.schema (inner.stated ∷ inner.inner) = subst (λ (s : Seen). AreStated v.schema s.inner) is c.requires.inner in
    (omega (arith, c.decreases, ap (λ (s : Seen). plan_size s.plan) is), (c.requires.view, (declared v.schema c.in-Extract.type_no _ _ _ typed.1.0, (stated.0, stated.1))))

pub under-returns-in-Extract : goal.under-returns-in-Extract
under-returns-in-Extract t c =
    let v = c.args.self.now in
    let inner : SeenQuery = seen c.deref-in-Extract.result.now in
    let is : (seen_node c.args.node.now).plan ≡ join_plan joins.Extract c.in-Extract.type_no c.in-Extract.limit inner.stated.plan =
    ap (λ (n : CheckedNode). (seen_node n).plan) c.in-Extract.is ∙ ap (λ (s : Seen). s.plan) (seen_extract c.in-Extract.type_no c.in-Extract.limit c.in-Extract.node ∙ ap (λ (q : Checked). seen_join joins.Extract c.in-Extract.type_no c.in-Extract.limit (seen q)) (sym c.deref-in-Extract.ensures)) in
    let there = subst (λ (p : Plan). c.args.places.now ≡ places_of v.schema v.contents (vertical_of v.schema p)) is c.requires.there in
    subst (λ (p : Plan). IfOk c.under_query-in-Extract.result (λ standings. standings.items ≡ standings_of v p c.args.places.now)) (sym is)
    (subst (λ (ss : List Standing). IfOk c.under_query-in-Extract.result (λ standings. standings.items ≡ ss))
    (stand_joins v v.limits c.requires.view.kept joins.Extract c.in-Extract.type_no c.in-Extract.limit inner.stated.plan c.args.places.now there) c.under_query-in-Extract.ensures)

pub under_query-cut-requires : goal.under_query-cut-requires
under_query-cut-requires t c = (omega (arith, c.decreases), (c.requires.view, (c.requires.typed, c.requires.inner)))

pub under_list-columns-requires : goal.under_list-columns-requires
under_list-columns-requires t c =
    let v = c.args.self.now in
    let view = c.requires.view in
    let typed : AreOf v.schema (plans_of (operands_seen c.args.operands.now.items)) (first_vertical v.schema (plans_of (operands_seen c.args.operands.now.items))) =
    list_of v.schema c.args.kind (plans_of (operands_seen c.args.operands.now.items)) (first_vertical v.schema (plans_of (operands_seen c.args.operands.now.items))) c.requires.typed in
    let stated = c.requires.inner in
    (omega (arith, c.decreases), (view, (typed, (stated, c.requires.there))))

pub under_list-under_set-requires : goal.under_list-under_set-requires
under_list-under_set-requires t c =
    let v = c.args.self.now in
    subst (λ (cs : List Column). All (λ column. length column.standings.items ≡ length c.args.places.now) cs) (sym c.as_slice.ensures.value)
    (columns_long v c.in_ok-columns.columns.items (operands_seen c.args.operands.now.items) c.args.places.now c.in_ok-columns.ensures)

pub under_list-returns-then-is_set : goal.under_list-returns-then-is_set
under_list-returns-then-is_set t c =
    let v = c.args.self.now in
    let os = operands_seen c.args.operands.now.items in
    let columns : c.as_slice.result.now ≡ c.in_ok-columns.columns.items = c.as_slice.ensures.value in
    let seen_columns : map seen_column c.as_slice.result.now ≡ columns_of v os c.args.places.now = ap (map seen_column) columns ∙ c.in_ok-columns.ensures in
    subst (λ (ss : List Standing). IfOk c.under_set.result (λ standings. standings.items ≡ ss))
    (stand_sets v v.limits c.requires.view.kept c.args.kind os c.as_slice.result.now c.args.places.now (sym c.is_set.ensures ∙ c.if-is_set.true) c.requires.typed c.requires.there seen_columns) c.under_set.ensures

pub under_list-under_walk-requires : goal.under_list-under_walk-requires
under_list-under_walk-requires t c =
    let v = c.args.self.now in
    subst (λ (cs : List Column). All (λ column. length column.standings.items ≡ length c.args.places.now) cs) (sym c.as_slice-else-is_set.ensures.value)
    (columns_long v c.in_ok-columns.columns.items (operands_seen c.args.operands.now.items) c.args.places.now c.in_ok-columns.ensures)

pub under_list-returns : goal.under_list-returns
under_list-returns t c =
    let v = c.args.self.now in
    let os = operands_seen c.args.operands.now.items in
    let columns : c.as_slice-else-is_set.result.now ≡ c.in_ok-columns.columns.items = c.as_slice-else-is_set.ensures.value in
    let seen_columns : map seen_column c.as_slice-else-is_set.result.now ≡ columns_of v os c.args.places.now = ap (map seen_column) columns ∙ c.in_ok-columns.ensures in
    subst (λ (ss : List Standing). IfOk c.under_walk.result (λ standings. standings.items ≡ ss))
    (walks_are v v.limits c.requires.view.kept c.args.kind os c.as_slice-else-is_set.result.now c.args.places.now (sym c.is_set.ensures ∙ c.if-is_set.false)
    (list_of v.schema c.args.kind (plans_of os) (first_vertical v.schema (plans_of os)) c.requires.typed) c.requires.there seen_columns) c.under_walk.ensures
