use Rattle.std.proofs.Common.{◌≡◌, ◌<◌, ◌+◌, ◌++◌, ◌∷◌, [], ℕ, List, IfOk, length, map, get_or, take, take-suc, suc, refl, ap, sym, subst, ◌∙◌, arith}
use Rattle.std.proofs.lemmas.Bool.Decides.{nat_tests}
use Rattle.std.proofs.lemmas.List.{map-append, take_all}
use Rattle.query_tree.specs.declared.kind.JoinKind.TheVariants as joins
use Rattle.query_tree.specs.declared.query.Mark.{Mark}
use Rattle.query_check.specs.declared.checked.Checked.{Checked}
use Rattle.query_check.specs.declared.checked.CheckedNode.{CheckedNode}
use Rattle.query_check.specs.declared.checked.CheckedOperand.{CheckedOperand}
use Rattle.query_check.specs.Plan.{Plan, Seen, SeenOperand, operands_seen, plans_of, seen, seen_join, seen_node, seen_operand}
use Rattle.uni_schema.specs.Schema.{Declarations, IsSchema}
use Rattle.uni_meaning.proofs.PlaceStandings.{operand_is, operand_size}
use Rattle.uni_meaning.proofs.SeenNodes.{seen_and, seen_apply, seen_difference, seen_extract, seen_or, seen_strong_or, seen_weak_and}
use Rattle.shard_index.specs.Places.{shards_in}
use Rattle.shard_eval.specs.Kept.{IsShare}
use Rattle.shard_eval.specs.Resolution.{Resolution, IsReady}
use Rattle.apply_extract.specs.declared.answered.AnsweredOperand.{AnsweredOperand}
use Rattle.apply_extract.specs.Answered.{answered_in, operand_in, AreReadyIn}
use Rattle.apply_extract.specs.Conditions.{AreTyped, IsTyped}
use Rattle.apply_extract.specs.Hits.{AreAnswered, IsAnswered, OfEachTable}
use Rattle.apply_extract.proofs.Asked.{if_both}
use Rattle.apply_extract.proofs.Cuts.{are_apart, are_cut, are_ranked}
use Rattle.apply_extract.proofs.InShards.{answered_joined, answered_list, answered_listed}
use Rattle.apply_extract.proofs.JoinPlans.{apply_answered, cut_plan, extract_answered, extract_ready, with_plan, with_plans}
use Rattle.apply_extract.proofs.Lists.{answered_operand, list_answered, list_typed, operands_more, ready_more, typed_at}
use Rattle.apply_extract.proofs.NotedHits.{cut_names, inner_are}
use Rattle.apply_extract.proofs.QueryTypes.{extract_type, node_within, query_plan, query_typed, source_within}
use Rattle.apply_extract.proofs.joins.+joins.Goals as goal

pub answer_joins-prove-unreachable-requires : goal.answer_joins-prove-unreachable-requires
answer_joins-prove-unreachable-requires g t c =
    let schema : IsSchema c.args.version.now.schema = subst IsSchema c.schema.ensures c.verticals-verticals.ensures.kept in
    let within = node_within c.args.version.now.schema c.args.vertical (seen_node c.args.node.now) schema c.requires.typed in
    let count : c.verticals-verticals.result ≡ length c.args.version.now.schema.verticals = c.verticals-verticals.ensures.count ∙ ap (λ (s : Declarations). length s.verticals) c.schema.ensures in
    grind (arith, nat_tests, c.if-prove.true, within, count)

pub answer_joins-led_from-requires-clause-schema : goal.answer_joins-led_from-requires-clause-schema
answer_joins-led_from-requires-clause-schema g t c = subst IsSchema c.schema.ensures c.verticals-verticals.ensures.kept

pub answer_joins-led_from-requires-clause-source : goal.answer_joins-led_from-requires-clause-source
answer_joins-led_from-requires-clause-source g t c =
    let schema : IsSchema c.args.version.now.schema = subst IsSchema c.schema.ensures c.verticals-verticals.ensures.kept in
    source_within c.args.version.now.schema c.args.vertical c.in-Extract.type_no c.in-Extract.limit (seen_node c.args.node.now) c.deref-in-Extract-2.result.now schema
    (ap seen_node c.in-Extract.is ∙ seen_extract c.in-Extract.type_no c.in-Extract.limit c.in-Extract.node ∙ ap (λ (q : Checked). seen_join joins.Extract c.in-Extract.type_no c.in-Extract.limit (seen q)) (sym c.deref-in-Extract-2.ensures)) c.requires.typed

pub answer_joins-returns-in-And-clause-is : goal.answer_joins-returns-in-And-clause-is
answer_joins-returns-in-And-clause-is g t c =
    let plan = ap (λ (n : CheckedNode). (seen_node n).plan) c.in-And.is ∙ ap (λ (s : Seen). s.plan) (seen_and c.in-And.operands) in
    subst (λ (p : Plan). IfOk c.answer_list.result (λ answered. OfEachTable c.args.version.now (IsAnswered c.args.version.now.schema p (shards_in c.args.version.now.schema c.args.vertical) c.args.book.now c.answer_list.new.book (answered_in answered)))) (sym plan) c.answer_list.ensures.is

pub answer_joins-returns-in-Or-clause-is : goal.answer_joins-returns-in-Or-clause-is
answer_joins-returns-in-Or-clause-is g t c =
    let plan = ap (λ (n : CheckedNode). (seen_node n).plan) c.in-Or.is ∙ ap (λ (s : Seen). s.plan) (seen_or c.in-Or.operands) in
    subst (λ (p : Plan). IfOk c.answer_list-in-Or.result (λ answered. OfEachTable c.args.version.now (IsAnswered c.args.version.now.schema p (shards_in c.args.version.now.schema c.args.vertical) c.args.book.now c.answer_list-in-Or.new.book (answered_in answered)))) (sym plan) c.answer_list-in-Or.ensures.is

pub answer_joins-returns-in-Difference-clause-is : goal.answer_joins-returns-in-Difference-clause-is
answer_joins-returns-in-Difference-clause-is g t c =
    let plan = ap (λ (n : CheckedNode). (seen_node n).plan) c.in-Difference.is ∙ ap (λ (s : Seen). s.plan) (seen_difference c.in-Difference.operands) in
    subst (λ (p : Plan). IfOk c.answer_list-in-Difference.result (λ answered. OfEachTable c.args.version.now (IsAnswered c.args.version.now.schema p (shards_in c.args.version.now.schema c.args.vertical) c.args.book.now c.answer_list-in-Difference.new.book (answered_in answered)))) (sym plan) c.answer_list-in-Difference.ensures.is

pub answer_joins-returns-in-WeakAnd-clause-is : goal.answer_joins-returns-in-WeakAnd-clause-is
answer_joins-returns-in-WeakAnd-clause-is g t c =
    let plan = ap (λ (n : CheckedNode). (seen_node n).plan) c.in-WeakAnd.is ∙ ap (λ (s : Seen). s.plan) (seen_weak_and c.in-WeakAnd.operands) in
    subst (λ (p : Plan). IfOk c.answer_list-in-WeakAnd.result (λ answered. OfEachTable c.args.version.now (IsAnswered c.args.version.now.schema p (shards_in c.args.version.now.schema c.args.vertical) c.args.book.now c.answer_list-in-WeakAnd.new.book (answered_in answered)))) (sym plan) c.answer_list-in-WeakAnd.ensures.is

pub answer_joins-returns-in-StrongOr-clause-is : goal.answer_joins-returns-in-StrongOr-clause-is
answer_joins-returns-in-StrongOr-clause-is g t c =
    let plan = ap (λ (n : CheckedNode). (seen_node n).plan) c.in-StrongOr.is ∙ ap (λ (s : Seen). s.plan) (seen_strong_or c.in-StrongOr.operands) in
    subst (λ (p : Plan). IfOk c.answer_list-in-StrongOr.result (λ answered. OfEachTable c.args.version.now (IsAnswered c.args.version.now.schema p (shards_in c.args.version.now.schema c.args.vertical) c.args.book.now c.answer_list-in-StrongOr.new.book (answered_in answered)))) (sym plan) c.answer_list-in-StrongOr.ensures.is

pub answer_joins-returns-in_ok-inner-in-Apply-clause-is : goal.answer_joins-returns-in_ok-inner-in-Apply-clause-is
answer_joins-returns-in_ok-inner-in-Apply-clause-is g t c limits table stands =
    let schema = c.args.version.now.schema in
    let shards = shards_in schema c.args.vertical in
    let inner = c.in_ok-inner-in-Apply.inner in
    let number = c.in-Apply.type_no in
    let plan : (seen_node c.args.node.now).plan ≡ (seen_join joins.Apply number c.in-Apply.limit (seen c.deref.result.now)).plan =
    ap (λ (n : CheckedNode). (seen_node n).plan) c.in-Apply.is ∙ ap (λ (s : Seen). s.plan) (seen_apply number c.in-Apply.limit c.in-Apply.node ∙ ap (λ (q : Checked). seen_join joins.Apply number c.in-Apply.limit (seen q)) (sym c.deref.ensures)) in
    with_plan plan (apply_answered schema table number c.in-Apply.limit shards _ c.args.book.now c.inner_hits.new.book inner.items _ (answered_joined number inner) (c.in_ok-inner-in-Apply.ensures limits table stands))

pub answer_joins-returns-in_ok-inner-in-Extract-2-clause-ready : goal.answer_joins-returns-in_ok-inner-in-Extract-2-clause-ready
answer_joins-returns-in_ok-inner-in-Extract-2-clause-ready g t c =
    extract_ready c.in-Extract.type_no (shards_in c.args.version.now.schema c.args.vertical) c.in_ok-inner-in-Extract-2.inner.items _ (answered_listed c.in-Extract.type_no c.in_ok-inner-in-Extract-2.inner) c.in_ok-inner-in-Extract-2.ensures.ranked

pub answer_joins-returns-in_ok-inner-in-Extract-2-clause-is : goal.answer_joins-returns-in_ok-inner-in-Extract-2-clause-is
answer_joins-returns-in_ok-inner-in-Extract-2-clause-is g t c limits table stands =
    let schema = c.args.version.now.schema in
    let shards = shards_in schema c.args.vertical in
    let inner = c.in_ok-inner-in-Extract.inner in
    let led = c.in_ok-inner-in-Extract-2.inner in
    let number = c.in-Extract.type_no in
    let query = c.deref-in-Extract.result.now in
    let node : seen_node c.args.node.now ≡ seen_join joins.Extract number c.in-Extract.limit (seen query) =
    ap seen_node c.in-Extract.is ∙ seen_extract number c.in-Extract.limit c.in-Extract.node ∙ ap (λ (q : Checked). seen_join joins.Extract number c.in-Extract.limit (seen q)) (sym c.deref-in-Extract.ensures) in
    let typed : IsTyped schema c.args.vertical (seen_join joins.Extract number c.in-Extract.limit (seen query)) = subst (IsTyped schema c.args.vertical) node c.requires.typed in
    let same = c.in_ok-inner-in-Extract-2.ensures.hits ∙ c.deref-in-Extract-3.ensures.value in
    let listed = c.in_ok-inner-in-Extract-2.ensures.edges (extract_type schema c.args.vertical number c.in-Extract.limit query c.deref-in-Extract-2.result.now (c.deref-in-Extract-2.ensures ∙ sym c.deref-in-Extract.ensures) typed) limits table stands in
    with_plan (ap (λ (s : Seen). s.plan) node) (extract_answered schema table number c.in-Extract.limit shards _ c.args.book.now c.inner_hits-in-Extract.new.book inner.items led.items _ (answered_listed number led) same (c.in_ok-inner-in-Extract.ensures limits table stands) listed)

pub answer_list-answer_operands-requires : goal.answer_list-answer_operands-requires
answer_list-answer_operands-requires g t c κs within =
    (omega (arith, c.decreases), (within, (c.requires.may, (c.requires.gives, (c.requires.standing, list_typed c.args.version.now.schema c.args.vertical c.args.kind (operands_seen c.args.operands.now.items) c.requires.typed)))))

pub answer_list-returns-clause-ready : goal.answer_list-returns-clause-ready
answer_list-returns-clause-ready g t c shard below = subst IsReady (sym (answered_list c.args.kind c.in_ok-operands.operands shard)) (c.in_ok-operands.ensures.ready shard below)

pub answer_list-returns-clause-is : goal.answer_list-returns-clause-is
answer_list-returns-clause-is g t c limits table stands =
    list_answered c.args.version.now.schema table (shards_in c.args.version.now.schema c.args.vertical) c.args.book.now c.answer_operands.new.book c.args.kind (operands_seen c.args.operands.now.items)
    (map operand_in c.in_ok-operands.operands.items) _ (answered_list c.args.kind c.in_ok-operands.operands) (c.in_ok-operands.ensures.are limits table stands)

pub answer_operands-answer_joins-requires : goal.answer_operands-answer_joins-requires
answer_operands-answer_joins-requires g t c κs within =
    let items = c.args.operands.now.items in
    let i = c.loop-operand.operand-index in
    let item = c.operand-item.result in
    let below : i < length items = omega (arith, c.loop-operand-test.true, ap length c.deref-operand-items.ensures.value) in
    let is : item ≡ get_or items i item = c.operand-item.is ∙ ap (λ (xs : List CheckedOperand). get_or xs i item) c.deref-operand-items.ensures.value in
    let typed = (typed_at c.args.version.now.schema c.args.vertical items i item below c.requires.typed).1 in
    let seen_so : seen_operand (get_or items i item) ≡ record { node = seen_node item.node; mark = item.mark } = ap seen_operand (sym is) ∙ operand_is item in
    (omega (arith, c.decreases, operand_size items i item below is), (within, (c.requires.may, (c.requires.gives, (c.requires.standing, subst (λ (o : SeenOperand). IsTyped c.args.version.now.schema c.args.vertical o.node) seen_so typed)))))

pub answer_operands-loop-operand-preserved : goal.answer_operands-loop-operand-preserved
answer_operands-loop-operand-preserved g t c =
    let schema = c.args.version.now.schema in
    let shards = shards_in schema c.args.vertical in
    let items = c.deref-operand-items.result.now in
    let i = c.loop-operand.operand-index in
    let item = c.operand-item.result in
    let below = c.loop-operand-test.true in
    let node = c.in_ok-node.node in
    let made : AnsweredOperand = record { node = node; mark = item.mark } in
    let one : (ℕ → Resolution) × Mark = (answered_in node, item.mark) in
    let x : SeenOperand = record { node = seen_node item.node; mark = item.mark } in
    let past = operands_seen (take i items) in
    let pushed : map operand_in c.push.new.self.items ≡ map operand_in c.loop-operand.found.items ++ one ∷ [] =
    ap (map operand_in) c.in_ok-push.ensures.items ∙ map-append operand_in c.loop-operand.found.items (made ∷ []) ∙ ap (λ (o : (ℕ → Resolution) × Mark). map operand_in c.loop-operand.found.items ++ o ∷ []) (answered_operand made) in
    let more : operands_seen (take (i + 1) items) ≡ past ++ x ∷ [] =
    ap (λ n. operands_seen (take n items)) (let e : i + 1 ≡ suc i = omega arith in e)
    ∙ ap operands_seen (take-suc items i item below ∙ ap (λ (o : CheckedOperand). take i items ++ o ∷ []) (sym c.operand-item.is))
    ∙ map-append seen_operand (take i items) (item ∷ []) ∙ ap (λ (o : SeenOperand). past ++ o ∷ []) (operand_is item) in
    let share = (typed_at schema c.args.vertical items i item below (subst (λ (os : List CheckedOperand). AreTyped schema c.args.vertical (operands_seen os)) (sym c.deref-operand-items.ensures.value) c.requires.typed)).0 in
    let seen_so : seen_operand (get_or items i item) ≡ x = ap seen_operand (sym c.operand-item.is) ∙ operand_is item in
    record {
      ready = subst (AreReadyIn shards) (sym pushed) (ready_more shards (map operand_in c.loop-operand.found.items) one c.loop-operand.invariant.ready (subst (λ (o : SeenOperand). IsShare o.mark) seen_so share) c.in_ok-node.ensures.ready);
      are = λ limits table stands.
          subst (λ (os : List SeenOperand). AreAnswered schema (plans_of os) shards c.args.book.now c.answer_joins.new.book (map operand_in c.push.new.self.items) table) (sym more)
          (subst (λ (os : List ((ℕ → Resolution) × Mark)). AreAnswered schema (plans_of (past ++ x ∷ [])) shards c.args.book.now c.answer_joins.new.book os table) (sym pushed)
          (operands_more schema table shards c.args.book.now c.loop-operand.book c.answer_joins.new.book past x (map operand_in c.loop-operand.found.items) one (c.loop-operand.invariant.are limits table stands) refl (c.in_ok-node.ensures.is limits table stands)));
    }

pub answer_operands-returns-clause-are : goal.answer_operands-returns-clause-are
answer_operands-returns-clause-are g t c limits table stands =
    let whole : take c.loop-operand.operand-index c.deref-operand-items.result.now ≡ c.args.operands.now.items =
    take_all c.loop-operand.operand-index c.deref-operand-items.result.now (omega (arith, c.loop-operand-test.false)) ∙ c.deref-operand-items.ensures.value in
    with_plans (ap (λ (os : List CheckedOperand). plans_of (operands_seen os)) (sym whole)) (c.loop-operand.invariant.are limits table stands)

pub first_hits-prove-unreachable-requires : goal.first_hits-prove-unreachable-requires
first_hits-prove-unreachable-requires g t c =
    let schema : IsSchema c.args.version.now.schema = subst IsSchema c.schema.ensures c.verticals-verticals.ensures.kept in
    let within = node_within c.args.version.now.schema c.args.query.now.vertical (seen_node c.args.query.now.node) schema (query_typed c.args.version.now.schema c.args.query.now c.requires.typed) in
    let count : c.verticals-verticals.result ≡ length c.args.version.now.schema.verticals = c.verticals-verticals.ensures.count ∙ ap (λ (s : Declarations). length s.verticals) c.schema.ensures in
    grind (arith, nat_tests, c.if-prove.true, within, count)

pub first_hits-merge_top-requires-clause-ranked : goal.first_hits-merge_top-requires-clause-ranked
first_hits-merge_top-requires-clause-ranked g t c =
    let version = c.args.version.now in
    let query = c.args.query.now in
    let st = c.requires.standing in
    let gave = c.requires.gives query.vertical c.in_ok-answered.answered c.args.limit c.in_ok-parts.parts c.in_ok-parts.ensures in
    are_ranked version st.0 st.1.0 st.1.1 (seen_node query.node).plan query.vertical (query_typed version.schema query c.requires.typed).of _ _ _ (c.in_ok-answered.ensures.is st.0 st.1.0 st.1.1) c.args.limit c.in_ok-parts.parts.items gave.0 gave.1

pub first_hits-merge_top-requires-clause-apart : goal.first_hits-merge_top-requires-clause-apart
first_hits-merge_top-requires-clause-apart g t c =
    let version = c.args.version.now in
    let query = c.args.query.now in
    let st = c.requires.standing in
    let gave = c.requires.gives query.vertical c.in_ok-answered.answered c.args.limit c.in_ok-parts.parts c.in_ok-parts.ensures in
    are_apart version st.0 st.1.0 st.1.1 (seen_node query.node).plan query.vertical (query_typed version.schema query c.requires.typed).of _ _ _ (c.in_ok-answered.ensures.is st.0 st.1.0 st.1.1) c.args.limit c.in_ok-parts.parts.items gave.0 gave.1

pub first_hits-returns : goal.first_hits-returns
first_hits-returns g t c =
    let version = c.args.version.now in
    let query = c.args.query.now in
    let gave = c.requires.gives query.vertical c.in_ok-answered.answered c.args.limit c.in_ok-parts.parts c.in_ok-parts.ensures in
    if_both c.merge_top.result (λ hits merged keys limits table stands.
    cut_plan (query_plan query) (are_cut version limits table stands (seen_node query.node).plan query.vertical (query_typed version.schema query c.requires.typed).of _ _ _ (c.in_ok-answered.ensures.is limits table stands) c.args.limit c.in_ok-parts.parts.items gave.0 gave.1 hits merged keys))
    c.merge_top.ensures.hits c.merge_top.ensures.keys

pub inner_hits-note_hits-requires : goal.inner_hits-note_hits-requires
inner_hits-note_hits-requires g t c =
    let st = c.requires.standing in
    cut_names c.args.version.now.schema st.1.0 (seen c.args.query.now).stated.plan c.args.limit _ _ c.in_ok-hits.hits (c.in_ok-hits.ensures st.0 st.1.0 st.1.1)

pub inner_hits-returns : goal.inner_hits-returns
inner_hits-returns g t c =
    if_both c.note_hits.result (λ inner is grown limits table stands.
    inner_are c.args.version.now.schema table (seen c.args.query.now).stated.plan c.args.limit _ _ _ c.in_ok-hits.hits inner.items (c.in_ok-hits.ensures limits table stands) is grown)
    c.note_hits.ensures.inner c.note_hits.ensures.book
