-- What more numbers leave as it was.
use Rattle.std.proofs.Common.{◌≡◌, ◌≤◌, ◌<◌, ◌+◌, ◌^◌, inl, inr, ℕ, zero, suc, Bool, true, false, List, [], ◌∷◌, ◌++◌, Option, None, Some, refl, sym, ◌∙◌, ap, subst, length, map, take, slice_get, get_or, nat_eq, is_some, arith, length-append}
use Rattle.std.specs.BTreeSet.{contains}
use Rattle.std.specs.List.{IsDistinct}
use Rattle.std.specs.BTreeMap.{is_at}
use Rattle.std.specs.Map.{keys_of}
use Rattle.std.specs.Option.{option_map, option_map_or}
use Rattle.std.specs.Ordering.{nat_cmp, eq_by_cmp}
use Rattle.std.proofs.lemmas.List.{map_push}
use Rattle.std.proofs.lemmas.Map.{NonePasses}
use Rattle.std.proofs.lemmas.Map.Entries.{length-keys_of}
use Rattle.std.proofs.lemmas.Option.{slice_get-get_or, get_or_from_slice_get}
use Rattle.chained_rows.specs.Chains.{AtEach, last_no}
use Rattle.chained_rows.specs.Counts.{count_of}
use Rattle.chained_rows.specs.Ordered.{ordered}
use Rattle.chained_rows.proofs.Counted.{count-push}
use Rattle.chained_rows.proofs.Ordered.{ordered-push_none}
use Rattle.chained_rows.proofs.Places.{slice_get-before, map-agree}
use Rattle.std.specs.Cmp.{nat_cmp_total}
use Rattle.uni_base.specs.EdgeOrder.{edge_cmp}
use Rattle.uni_base.specs.declared.edge.EdgeRef.{EdgeRef}
use Rattle.uni_table.specs.GraphKeys.{source_eq}
use Rattle.uni_table.specs.GraphRows.{Grows, IsRows, IsKnown, IsCircleKnown, IsBeforeKnown, IsQuiet, IsPlaceOf, AreTouched, slot_before, node_before, entity_before, row_before, row_of, is_same, is_same_entity, source_named, audience_named, slot_named, slots_named, node_named, edge_named, circle_named, last_at, next_at, no_at, has_at, is_entity, is_live, end_cmp}
use Rattle.uni_table.specs.declared.graph.numbers.Source.{Source}
use Rattle.uni_table.specs.declared.graph.numbers.Node.{Node}
use Rattle.uni_table.specs.declared.graph.numbers.EdgeNo.{EdgeNo}
use Rattle.uni_table.specs.declared.graph.numbers.Slot.{Slot}
use Rattle.uni_table.specs.declared.command.EdgeRow.{EdgeRow}
use Rattle.uni_table.specs.declared.graph.numbers.Before.{Before}
use Rattle.uni_table.specs.declared.graph.numbers.Before.TheVariants as before
use Rattle.uni_table.specs.declared.graph.numbers.EntityBefore.TheVariants as entity_then
use Rattle.uni_table.specs.declared.graph.numbers.SlotState.{SlotState}
use Rattle.uni_table.specs.declared.graph.numbers.SlotState.TheVariants.{Gone, Public, Only, Circle}
use Rattle.uni_table.specs.declared.graph.numbers.Side.{Side}
use Rattle.uni_table.specs.declared.graph.numbers.Side.TheVariants.{Target, Source as From}
use Rattle.uni_table.specs.declared.graph.rows.Rows.{Rows}

-- all items stand where they stood
abbrev pub IsLonger : {X : Type 0} → List X → List X → Type 0
IsLonger old new = AtEach (λ i x. slice_get new i ≡ Some x) old

pub longer-refl : {X : Type 0} (xs : List X) → IsLonger xs xs
longer-refl xs i x at = at

module _ {K V : Type 0} (old new : List (K × V)) (k : K) (v : V) where
  pub longer-grown : Grows old new k v → IsLonger (keys_of old) (keys_of new)
  longer-grown (inl same) = subst (λ es. IsLonger (keys_of old) (keys_of es)) (sym same) (longer-refl (keys_of old))
  longer-grown (inr more) = subst (λ es. IsLonger (keys_of old) (keys_of es)) (sym more) (λ i x at. ap (λ ks. slice_get ks i) (map_push (λ e. e.0) old (k, v)) ∙ slice_get-before (keys_of old) (k ∷ []) i x at)

  pub length-grown : Grows old new k v → length old ≤ length new
  length-grown (inl same) = omega (arith, ap length same)
  length-grown (inr more) = omega (arith, ap length more, length-append old ((k, v) ∷ []))

  -- what was read at a place, or 0, where the new entry gives 0
  pub read-grown : (f : K × V → ℕ) → f (k, v) ≡ 0 → Grows old new k v → (q : ℕ) → option_map_or f (slice_get new q) 0 ≡ option_map_or f (slice_get old q) 0
  read-grown f none (inl same) q = ap (λ es. option_map_or f (slice_get es q) 0) same
  read-grown f none (inr more) q = ap (λ es. option_map_or f (slice_get es q) 0) more ∙ pushed old q
    where
      pushed : (es : List (K × V)) (n : ℕ) → option_map_or f (slice_get (es ++ (k, v) ∷ []) n) 0 ≡ option_map_or f (slice_get es n) 0
      pushed [] zero = none
      pushed [] (suc n) = refl
      pushed (e ∷ es) zero = refl
      pushed (e ∷ es) (suc n) = pushed es n

  pub count-grown : (lives : V → Bool) → lives v ≡ false → Grows old new k v → count_of lives new ≡ count_of lives old
  count-grown lives gone (inl same) = ap (count_of lives) same
  count-grown lives gone (inr more) = ap (count_of lives) more ∙ count-push lives old k v ∙ ap (λ b. count_of lives old + Rattle.chained_rows.specs.Counts.one_if b) gone ∙ omega arith

-- a number that there was names what it named
longer-same : {X : Type 0} (d : X) (old new : List X) → IsLonger old new → (n : ℕ) → n < length old → get_or new n d ≡ get_or old n d
longer-same d old new longer n below = get_or_from_slice_get new n (get_or old n d) d (longer n (get_or old n d) (slice_get-get_or old n d below))

module _ (sources more_sources : List Source) (ids more_ids : List ℕ) (s : IsLonger sources more_sources) (t : IsLonger ids more_ids) where
  source-same : (n : ℕ) → n < length sources → source_named more_sources n ≡ source_named sources n
  source-same = longer-same (record { type_no = 0; key = Rattle.uni_base.specs.declared.edge.Key.TheVariants.Id 0 }) sources more_sources s

  pub audience-same : (state : SlotState) → IsCircleKnown (length sources) state → audience_named more_sources state ≡ audience_named sources state
  audience-same Gone known = refl
  audience-same Public known = refl
  audience-same Only known = refl
  audience-same (Circle n) known = ap (λ x. Some (circle_named x)) (source-same n known)

  pub edge-same : (n : EdgeNo) → n.source < length sources → n.target < length ids → edge_named more_sources more_ids n ≡ edge_named sources ids n
  edge-same n below under =
      let source = source-same n.source below in
      let target = longer-same 0 ids more_ids t n.target under in
      λ j. record { type_no = (source j).type_no; key = (source j).key; target = target j }

  pub slot-same : (e : EdgeNo × Slot) → IsKnown (length sources) (length ids) e → slot_named more_sources more_ids e ≡ slot_named sources ids e
  slot-same e known =
      let edge = edge-same e.0 known.source known.target in
      let audience = audience-same e.1.state known.circle in
      λ j. (edge j, Rattle.std.specs.Option.option_map (λ a. record { audience = a; end = e.1.end }) (audience j))

pub known-keys : {K V L W : Type 0} (sources : List (K × V)) (ids : List (L × W)) (e : EdgeNo × Slot) → IsKnown (length sources) (length ids) e → IsKnown (length (keys_of sources)) (length (keys_of ids)) e
known-keys sources ids e known =
    subst (λ m. IsKnown (length (keys_of sources)) m e) (sym (length-keys_of ids)) (subst (λ n. IsKnown n (length ids) e) (sym (length-keys_of sources)) known)

pub circle-more : (m n : ℕ) → m ≤ n → (state : SlotState) → IsCircleKnown m state → IsCircleKnown n state
circle-more m n le Gone known = tt
circle-more m n le Public known = tt
circle-more m n le Only known = tt
circle-more m n le (Circle k) known = omega arith

-- the names of all edges stay
pub slots-same : (old new : Rows) → IsRows old → IsLonger (keys_of old.sources.entries) (keys_of new.sources.entries) → IsLonger (keys_of old.ids.entries) (keys_of new.ids.entries) → new.edges.entries ≡ old.edges.entries
    → slots_named new ≡ slots_named old
slots-same old new kept s t same =
    ap (map (slot_named (keys_of new.sources.entries) (keys_of new.ids.entries))) same
    ∙ map-agree (slot_named (keys_of new.sources.entries) (keys_of new.ids.entries)) (slot_named (keys_of old.sources.entries) (keys_of old.ids.entries)) old.edges.entries
    (λ i e at. slot-same (keys_of old.sources.entries) (keys_of new.sources.entries) (keys_of old.ids.entries) (keys_of new.ids.entries) s t e (known-keys old.sources.entries old.ids.entries e (kept.known i e at)))

entities-same : (old new : List (ℕ × Node)) (id : ℕ) (node : Node) → node.row ≡ None → Grows old new id node → ordered nat_cmp (map node_named new) ≡ ordered nat_cmp (map node_named old)
entities-same old new id node none (inl same) = ap (λ es. ordered nat_cmp (map node_named es)) same
entities-same old new id node none (inr more) =
    ap (λ es. ordered nat_cmp (map node_named es)) more ∙ ap (ordered nat_cmp) (map_push node_named old (id, node))
    ∙ ap (λ r. ordered nat_cmp (map node_named old ++ (id, r) ∷ [])) none ∙ ordered-push_none nat_cmp_total (map node_named old) id

pub before-more : (m n : ℕ) → m ≤ n → (b : Before) → IsBeforeKnown m b → IsBeforeKnown n b
before-more m n le before.Same known = tt
before-more m n le before.Gone known = tt
before-more m n le (before.Public end) known = tt
before-more m n le (before.Only end) known = tt
before-more m n le (before.Circle k end) known = omega arith

module _ (sources more_sources : List Source) (ids more_ids : List ℕ) (s : IsLonger sources more_sources) (t : IsLonger ids more_ids) where
  before-same : (b : Before) (now : Option EdgeRow) → IsBeforeKnown (length sources) b → row_before more_sources b now ≡ row_before sources b now
  before-same before.Same now known = refl
  before-same before.Gone now known = refl
  before-same (before.Public end) now known = refl
  before-same (before.Only end) now known = refl
  before-same (before.Circle n end) now known = ap (option_map (λ a. record { audience = a; end = end })) (audience-same sources more_sources ids more_ids s t (Circle n) known)

  -- more numbers leave an edge at the last publish as it was
  slot-then : (e : EdgeNo × Slot) → IsKnown (length sources) (length ids) e → slot_before more_sources more_ids e ≡ slot_before sources ids e
  slot-then e known =
      let edge = edge-same sources more_sources ids more_ids s t e.0 known.source known.target in
      let now = slot-same sources more_sources ids more_ids s t e known in
      let row = ap (λ x. row_before more_sources e.1.before x.1) now ∙ before-same e.1.before (row_of sources e.1.state e.1.end) known.before in
      λ j. (edge j, row j)

-- and all
pub then-same : (old new : Rows) → IsRows old → IsLonger (keys_of old.sources.entries) (keys_of new.sources.entries) → IsLonger (keys_of old.ids.entries) (keys_of new.ids.entries)
    → map (slot_before (keys_of new.sources.entries) (keys_of new.ids.entries)) old.edges.entries ≡ map (slot_before (keys_of old.sources.entries) (keys_of old.ids.entries)) old.edges.entries
then-same old new kept s t =
    map-agree (slot_before (keys_of new.sources.entries) (keys_of new.ids.entries)) (slot_before (keys_of old.sources.entries) (keys_of old.ids.entries)) old.edges.entries
    (λ i e at. slot-then (keys_of old.sources.entries) (keys_of new.sources.entries) (keys_of old.ids.entries) (keys_of new.ids.entries) s t e (known-keys old.sources.entries old.ids.entries e (kept.known i e at)))

-- an id that is new was no entity
pub entities-then : (old new : List (ℕ × Node)) (id : ℕ) (node : Node) → entity_before node ≡ None → Grows old new id node → ordered nat_cmp (map node_before new) ≡ ordered nat_cmp (map node_before old)
entities-then old new id node none (inl same) = ap (λ es. ordered nat_cmp (map node_before es)) same
entities-then old new id node none (inr more) =
    ap (λ es. ordered nat_cmp (map node_before es)) more ∙ ap (ordered nat_cmp) (map_push node_before old (id, node))
    ∙ ap (λ r. ordered nat_cmp (map node_before old ++ (id, r) ∷ [])) none ∙ ordered-push_none nat_cmp_total (map node_before old) id

-- numbers that are added change nothing else
pub quiet-grown : (old new : Rows) → IsRows old → (id : ℕ) (node : Node) → node.row ≡ None → entity_before node ≡ None → node.last_edge ≡ 0 → Grows old.ids.entries new.ids.entries id node
    → (source : Source) → Grows old.sources.entries new.sources.entries source 0
    → new.edges.entries ≡ old.edges.entries → new.ends ≡ old.ends → new.entity_count ≡ old.entity_count → new.edge_count ≡ old.edge_count
    → IsDistinct nat_eq (keys_of new.ids.entries) → IsDistinct source_eq (keys_of new.sources.entries) → length new.ids.entries < 2 ^ 32 → length new.sources.entries < 2 ^ 32
    → AreTouched (λ n. is_same_entity n.before) new.ids.entries new.touched_ids.items new.touched_ids.cap → new.touched_edges ≡ old.touched_edges
    → IsQuiet old new
quiet-grown old new kept id node none no_entity zero_last ids source sources same ends entities edges ids_apart sources_apart few_ids few_sources touched_ids touched_edges = record {
  kept = record {
    known = subst (AtEach (λ i e. IsKnown (length new.sources.entries) (length new.ids.entries) e)) (sym same) (λ i e at. let k = kept.known i e at in record { source = omega (arith, k.source, more_sources); target = omega (arith, k.target, more_ids); circle = circle-more _ _ more_sources e.1.state k.circle; before = before-more _ _ more_sources e.1.before k.before });
    chains = subst (λ es. (side : Side) → AtEach (λ i e. next_at side e.1 ≡ last_no (has_at side (no_at side e.0)) (take i (keys_of es))) es) (sym same) kept.chains;
    lasts = λ side q. last side q ∙ kept.lasts side q ∙ ap (λ es. last_no (has_at side q) (keys_of es)) (sym same);
    ids = ids_apart;
    sources = sources_apart;
    edges = subst (λ es. IsDistinct (eq_by_cmp edge_cmp) (keys_of es)) (sym slots) kept.edges;
    few_ids = few_ids;
    few_sources = few_sources;
    few_edges = subst (λ es. length es < 2 ^ 32) (sym same) kept.few_edges;
    entity_count = entities ∙ kept.entity_count ∙ sym (count-grown old.ids.entries new.ids.entries id node is_entity (ap is_some none) ids);
    edge_count = edges ∙ kept.edge_count ∙ ap (count_of (λ slot. is_live slot.state)) (sym same);
    ended =
        subst (AtEach (λ i e. is_live e.1.state ≡ true → 0 < e.1.end → contains end_cmp new.ends (e.1.end, i + 1) ≡ true)) (sym same)
        (subst (λ s. AtEach (λ i e. is_live e.1.state ≡ true → 0 < e.1.end → contains end_cmp s (e.1.end, i + 1) ≡ true) old.edges.entries) (sym ends) kept.ended);
    touched_ids = touched_ids;
    touched_edges =
        subst (λ es. AreTouched (λ slot. is_same slot.before) es new.touched_edges.items new.touched_edges.cap) (sym same)
        (subst (λ ps. AreTouched (λ slot. is_same slot.before) old.edges.entries ps.items ps.cap) (sym touched_edges) kept.touched_edges);
  };
  published = λ j. record { entities = entities-then old.ids.entries new.ids.entries id node no_entity ids j; edges = ordered edge_cmp (slots_then j) };
  same = λ j. record { entities = entities-same old.ids.entries new.ids.entries id node none ids j; edges = ordered edge_cmp (slots j) };
  edges = same;
  sources = longer_sources;
  ids = longer_ids;
}
  where
    longer_sources : IsLonger (keys_of old.sources.entries) (keys_of new.sources.entries)
    longer_sources = longer-grown old.sources.entries new.sources.entries source 0 sources

    longer_ids : IsLonger (keys_of old.ids.entries) (keys_of new.ids.entries)
    longer_ids = longer-grown old.ids.entries new.ids.entries id node ids

    more_sources : length old.sources.entries ≤ length new.sources.entries
    more_sources = length-grown old.sources.entries new.sources.entries source 0 sources

    more_ids : length old.ids.entries ≤ length new.ids.entries
    more_ids = length-grown old.ids.entries new.ids.entries id node ids

    slots : slots_named new ≡ slots_named old
    slots = slots-same old new kept longer_sources longer_ids same

    slots_then : map (slot_before (keys_of new.sources.entries) (keys_of new.ids.entries)) new.edges.entries ≡ map (slot_before (keys_of old.sources.entries) (keys_of old.ids.entries)) old.edges.entries
    slots_then = ap (map (slot_before (keys_of new.sources.entries) (keys_of new.ids.entries))) same ∙ then-same old new kept longer_sources longer_ids

    last : (side : Side) (q : ℕ) → last_at side new q ≡ last_at side old q
    last Target q = read-grown old.ids.entries new.ids.entries id node (λ e. e.1.last_edge) zero_last ids q
    last From q = read-grown old.sources.entries new.sources.entries source 0 (λ e. e.1) refl sources q

-- one such call after another
pub quiet-trans : (a b c : Rows) → IsQuiet a b → IsQuiet b c → IsQuiet a c
quiet-trans a b c p q = record {
  kept = q.kept;
  same = q.same ∙ p.same;
  published = q.published ∙ p.published;
  edges = q.edges ∙ p.edges;
  sources = λ i x at. q.sources i x (p.sources i x at);
  ids = λ i x at. q.ids i x (p.ids i x at);
}

pub quiet-refl : (rows : Rows) → IsRows rows → IsQuiet rows rows
quiet-refl rows kept = record { kept = kept; same = refl; published = refl; edges = refl; sources = longer-refl (keys_of rows.sources.entries); ids = longer-refl (keys_of rows.ids.entries) }

-- an edge stands where it stood
pub quiet-place : (old new : Rows) → IsRows old → IsQuiet old new → (edge : EdgeRef) (place : Option ℕ) → IsPlaceOf old edge place → IsPlaceOf new edge place
quiet-place old new kept quiet edge None none = subst (NonePasses (is_at (edge_cmp edge))) (sym (slots-same old new kept quiet.sources quiet.ids quiet.edges)) none
quiet-place old new kept quiet edge (Some i) (e, at, is) =
    let known = known-keys old.sources.entries old.ids.entries e (kept.known i e at) in (
      e,
      ap (λ es. slice_get es i) quiet.edges ∙ at,
      edge-same (keys_of old.sources.entries) (keys_of new.sources.entries) (keys_of old.ids.entries) (keys_of new.ids.entries) quiet.sources quiet.ids e.0 known.source known.target ∙ is,
    )

-- a source that is added changes nothing else, and neither does what is noted of sources
pub quiet-source : (old more : Rows) → IsRows old → (source : Source) → Grows old.sources.entries more.sources.entries source 0
    → IsDistinct source_eq (keys_of more.sources.entries) → length more.sources.entries < 2 ^ 32
    → IsQuiet old (record old { sources = more.sources; starts = more.starts })
quiet-source old more kept source grown apart few =
    quiet-grown old (record old { sources = more.sources; starts = more.starts }) kept 0 (record { row = None; before = entity_then.Same; last_edge = 0 }) refl refl refl (inl refl)
    source grown refl refl refl refl kept.ids apart kept.few_ids few kept.touched_ids refl
