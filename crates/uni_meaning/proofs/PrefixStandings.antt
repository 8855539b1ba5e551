-- How an entity stands under a prefix term: by the edges that touch it as by the keys of the term.
use Rattle.std.proofs.Common.{◌≡◌, ◌&&◌, ◌||◌, ◌==◌, ◌⊎◌, inl, inr, ℕ, Bool, true, false, cond, if◌then◌else◌, List, [], ◌∷◌, Option, None, Some, is_some, refl, sym, ◌∙◌, ap, subst, arith, map, filter}
use Rattle.std.proofs.lemmas.Bool.{and_parts}
use Rattle.std.proofs.lemmas.Bool.Decides.{nat_tests}
use Rattle.std.proofs.lemmas.Map.Keys.{sorted_head, sorted_tail}
use Rattle.std.specs.List.{AllByRecursion, Contains, cons_option, dedup, dedup_from, filter_map, list_any}
use Rattle.std.specs.List.Sorted.{IsStrictlySortedBy}
use Rattle.std.specs.Map.{keys_of}
use Rattle.std.specs.Option.{option_map, option_map_or, option_and_then, option_or}
use Rattle.std.specs.Ordering.{nat_cmp, ordering_then, ordering_reverse}
use Rattle.std.specs.declared.cmp.Ordering.{Ordering}
use Rattle.std.specs.declared.cmp.Ordering.TheVariants.{Less, Equal, Greater}
use Rattle.uni_base.specs.EdgeOrder.{edge_cmp, key_cmp, key_cmp-total}
use Rattle.uni_base.specs.Fields.{same}
use Rattle.uni_base.specs.declared.edge.EdgeRef.{EdgeRef}
use Rattle.uni_base.specs.declared.edge.Held.{Held}
use Rattle.uni_base.specs.declared.edge.Key.{Key}
use Rattle.uni_base.specs.declared.edge.Key.TheVariants.{Id, Word}
use Rattle.uni_base.specs.declared.entity.DocKey.{DocKey}
use Rattle.uni_base.specs.declared.limits.Limits.{Limits}
use Rattle.uni_schema.specs.Schema.{shard_of}
use Rattle.uni_table.specs.Contents.{edge_at, has_edge, leaves, touches}
use Rattle.uni_table.specs.Lists.{held_of, touching}
use Rattle.uni_table.specs.Ranked.{ranked}
use Rattle.uni_table.specs.TableState.{IsKept}
use Rattle.uni_table.specs.declared.command.EdgeRow.{EdgeRow}
use Rattle.uni_table.proofs.TouchLaws.{touching_is_exact}
use Rattle.uni_table.proofs.Listed.{none_in_nil, first_or_later, first_is, later_is}
use Rattle.query_check.specs.Plan.{prefix_plan}
use Rattle.uni_meaning.specs.Firsts.{first_given, seen_edge}
use Rattle.uni_meaning.specs.Hits.{edge_to, leads_to, target_of}
use Rattle.uni_meaning.specs.Policy.{authorised}
use Rattle.uni_meaning.specs.Prefixes.{begins_with, prefix_keys, word_of}
use Rattle.uni_meaning.specs.Standings.{by_word, first_of, is_from, is_word_from, shown_as, standing_of, under_prefix}
use Rattle.uni_meaning.specs.Viewed.{Viewed}
use Rattle.uni_meaning.specs.declared.standing.Standing.TheVariants.{Missed, Hidden, Shown}
use Rattle.uni_meaning.proofs.Arrivals.{any_from, found_by, same_tests}
use Rattle.uni_meaning.proofs.FirstFound.{first_of-given}
use Rattle.uni_meaning.proofs.Members.{is_left, is_made, left_by, made_of}
use Rattle.uni_meaning.proofs.Prefixed.{among_left}

equal_nat : (a : ℕ) → nat_cmp a a ≡ Equal
equal_nat a = grind (arith, nat_tests)

number_is : (a b : ℕ) → (a == b) ≡ true → a ≡ b
number_is a b e = grind (arith, nat_tests)

itself : (a : ℕ) → (a == a) ≡ true
itself a = grind (arith, nat_tests)

exact_same : (u v : List ℕ) → same u v ≡ true → u ≡ v
exact_same [] [] e = refl
exact_same [] (c ∷ v) e = cc
exact_same (b ∷ u) [] e = cc
exact_same (b ∷ u) (c ∷ v) e =
    let parts = and_parts (b == c) (same u v) e in
    λ i. number_is b c parts.0 i ∷ exact_same u v parts.1 i

module _ {X Y : Type 0} (f : X → Option Y) where
  -- what is given along a list from which some items are given nothing
  given-filter : (p : X → Bool) → ((x : X) → p x ≡ false → f x ≡ None) → (xs : List X) → first_given f (filter p xs) ≡ first_given f xs
  given-filter p none [] = refl
  given-filter p none (x ∷ xs) = by (p x) refl (given-filter p none xs)
    where
      by : (b : Bool) → p x ≡ b → first_given f (filter p xs) ≡ first_given f xs → first_given f (cond b (x ∷ filter p xs) (filter p xs)) ≡ option_or (f x) (first_given f xs)
      by true e h = ap (option_or (f x)) h
      by false e h = h ∙ ap (λ o. option_or o (first_given f xs)) (sym (none x e))

  given-map : {Z : Type 0} (g : Z → X) (zs : List Z) → first_given f (map g zs) ≡ first_given (λ z. f (g z)) zs
  given-map g [] = refl
  given-map g (z ∷ zs) = ap (option_or (f (g z))) (given-map g zs)

  given-filter_map : {Z : Type 0} (g : Z → Option X) (zs : List Z) → first_given f (filter_map g zs) ≡ first_given (λ z. option_and_then f (g z)) zs
  given-filter_map g [] = refl
  given-filter_map g (z ∷ zs) = by (g z) (given-filter_map g zs)
    where
      by : (o : Option X) → first_given f (filter_map g zs) ≡ first_given (λ y. option_and_then f (g y)) zs
          → first_given f (cons_option o (filter_map g zs)) ≡ option_or (option_and_then f o) (first_given (λ y. option_and_then f (g y)) zs)
      by None h = h
      by (Some x) h = ap (option_or (f x)) h

  given-after : {Z : Type 0} (g : Y → Z) (xs : List X) → first_given (λ x. option_map g (f x)) xs ≡ option_map g (first_given f xs)
  given-after g [] = refl
  given-after g (x ∷ xs) = by (f x) (given-after g xs)
    where
      by : (o : Option Y) → first_given (λ y. option_map g (f y)) xs ≡ option_map g (first_given f xs) → option_or (option_map g o) (first_given (λ y. option_map g (f y)) xs) ≡ option_map g (option_or o (first_given f xs))
      by None h = h
      by (Some y) h = refl

  again : (o : Option Y) (rest : Option Y) → option_or o (option_or o rest) ≡ option_or o rest
  again None rest = refl
  again (Some y) rest = refl

  given-dedup_from : (alike : X → X → Bool) → ((x y : X) → alike x y ≡ true → f x ≡ f y) → (k : X) (xs : List X) → first_given f (dedup_from alike k xs) ≡ option_or (f k) (first_given f xs)
  given-dedup_from alike same_given k [] = refl
  given-dedup_from alike same_given k (x ∷ xs) = by (alike x k) refl (given-dedup_from alike same_given k xs) (given-dedup_from alike same_given x xs)
    where
      by : (b : Bool) → alike x k ≡ b → first_given f (dedup_from alike k xs) ≡ option_or (f k) (first_given f xs) → first_given f (dedup_from alike x xs) ≡ option_or (f x) (first_given f xs)
          → first_given f (cond b (dedup_from alike k xs) (k ∷ dedup_from alike x xs)) ≡ option_or (f k) (option_or (f x) (first_given f xs))
      by true e h j = h ∙ sym (ap (λ o. option_or (f k) (option_or o (first_given f xs))) (same_given x k e) ∙ again (f k) (first_given f xs))
      by false e h j = ap (option_or (f k)) j

  given-dedup : (alike : X → X → Bool) → ((x y : X) → alike x y ≡ true → f x ≡ f y) → (xs : List X) → first_given f (dedup alike xs) ≡ first_given f xs
  given-dedup alike same_given [] = refl
  given-dedup alike same_given (x ∷ xs) = given-dedup_from alike same_given x xs

module _ {X : Type 0} (p : X → Bool) where
  any-dedup_from : (alike : X → X → Bool) → ((x y : X) → alike x y ≡ true → p x ≡ p y) → (k : X) (xs : List X) → list_any p (dedup_from alike k xs) ≡ (p k || list_any p xs)
  any-dedup_from alike same_passes k [] = refl
  any-dedup_from alike same_passes k (x ∷ xs) = by (alike x k) refl (any-dedup_from alike same_passes k xs) (any-dedup_from alike same_passes x xs)
    where
      twice : (b c : Bool) → (b || c) ≡ (b || (b || c))
      twice true c = refl
      twice false c = refl

      by : (b : Bool) → alike x k ≡ b → list_any p (dedup_from alike k xs) ≡ (p k || list_any p xs) → list_any p (dedup_from alike x xs) ≡ (p x || list_any p xs)
          → list_any p (cond b (dedup_from alike k xs) (k ∷ dedup_from alike x xs)) ≡ (p k || (p x || list_any p xs))
      by true e h j = h ∙ twice (p k) (list_any p xs) ∙ ap (λ b. p k || (b || list_any p xs)) (sym (same_passes x k e))
      by false e h j = ap (λ b. p k || b) j

  any-dedup : (alike : X → X → Bool) → ((x y : X) → alike x y ≡ true → p x ≡ p y) → (xs : List X) → list_any p (dedup alike xs) ≡ list_any p xs
  any-dedup alike same_passes [] = refl
  any-dedup alike same_passes (x ∷ xs) = any-dedup_from alike same_passes x xs

  any-filter_map : {Z : Type 0} (g : Z → Option X) (zs : List Z) → list_any p (filter_map g zs) ≡ list_any (λ z. option_map_or p (g z) false) zs
  any-filter_map g [] = refl
  any-filter_map g (z ∷ zs) = by (g z) (any-filter_map g zs)
    where
      by : (o : Option X) → list_any p (filter_map g zs) ≡ list_any (λ y. option_map_or p (g y) false) zs → list_any p (cons_option o (filter_map g zs)) ≡ (option_map_or p o false || list_any (λ y. option_map_or p (g y) false) zs)
      by None h = h
      by (Some x) h = ap (λ b. p x || b) h

  any-filter : (q : X → Bool) → ((x : X) → q x ≡ false → p x ≡ false) → (xs : List X) → list_any p (filter q xs) ≡ list_any p xs
  any-filter q none [] = refl
  any-filter q none (x ∷ xs) = by (q x) refl (any-filter q none xs)
    where
      by : (b : Bool) → q x ≡ b → list_any p (filter q xs) ≡ list_any p xs → list_any p (cond b (x ∷ filter q xs) (filter q xs)) ≡ (p x || list_any p xs)
      by true e h = ap (λ b. p x || b) h
      by false e h = h ∙ ap (λ b. b || list_any p xs) (sym (none x e))

  any-map : {Z : Type 0} (g : Z → X) (zs : List Z) → list_any p (map g zs) ≡ list_any (λ z. p (g z)) zs
  any-map g [] = refl
  any-map g (z ∷ zs) = ap (λ b. p (g z) || b) (any-map g zs)

module _ (v : Viewed) (limits : Limits) (kept : IsKept v.schema limits v.contents) (number : ℕ) (from : List ℕ) (x : DocKey) where
  edge_of : List ℕ → EdgeRef
  edge_of word = edge_to number (Word word) x.id

  abbrev may_see : EdgeRef → Bool
  may_see edge = authorised v.schema v.contents v.viewer edge

  -- the edge of a word to the entity, if it is shown
  abbrev seen : List ℕ → Option EdgeRef
  seen word = seen_edge v.schema v.contents v.viewer number (Word word) x

  -- an edge, if it is such and shown
  abbrev shown : EdgeRef → Option EdgeRef
  shown edge = if is_from number from x.id edge && may_see edge then Some edge else None

  abbrev words : EdgeRef → Option (List ℕ)
  words edge = word_of number from edge.type_no edge.key

  -- an edge of the table that touches the entity is there
  has_touching : (held : Held) → Contains (touching v.contents x.id) held → has_edge v.contents held.edge ≡ true
  has_touching held there = by (edge_at v.contents held.edge) ((touching_is_exact.lists v.schema limits v.contents x.id held kept).0 there).1
    where
      by : (o : Option EdgeRow) → option_map (λ row. row.audience) o ≡ Some held.audience → is_some o ≡ true
      by None e = cc
      by (Some row) e = refl

  touched : (edge : EdgeRef) → edge.target ≡ x.id → touches x.id edge ≡ true
  touched edge same = ap (λ n. (x.id == n) || leaves x.id edge) same ∙ ap (λ b. b || leaves x.id edge) (itself x.id)

  -- an edge to the entity that the table has is one of its edges
  there_is : (edge : EdgeRef) → edge.target ≡ x.id → has_edge v.contents edge ≡ true → Contains (keys_of v.contents.edges) edge
  there_is edge to has = by (edge_at v.contents edge) refl has
    where
      found : (held : Held) → held.edge ≡ edge → Contains (touching v.contents x.id) held → Contains (keys_of v.contents.edges) edge
      found held is there =
          let made = made_of held_of (filter (λ e. touches x.id e.0) v.contents.edges) held there in
          let left = left_by (λ (e : EdgeRef × EdgeRow). touches x.id e.0) v.contents.edges made.0 made.1 in
          subst (Contains (keys_of v.contents.edges)) (ap (λ (h : Held). h.edge) made.2 ∙ is) (is_made (λ (e : EdgeRef × EdgeRow). e.0) v.contents.edges made.0 left.0)

      by : (o : Option EdgeRow) → edge_at v.contents edge ≡ o → is_some o ≡ true → Contains (keys_of v.contents.edges) edge
      by None e h = cc
      by (Some row) e h =
          found (record { edge = edge; audience = row.audience }) refl
          ((touching_is_exact.lists v.schema limits v.contents x.id (record { edge = edge; audience = row.audience }) kept).1 (touched edge to, ap (option_map (λ (r : EdgeRow). r.audience)) e))

  -- and an edge to it that is one of the table's is there
  is_there : (edge : EdgeRef) → edge.target ≡ x.id → Contains (keys_of v.contents.edges) edge → has_edge v.contents edge ≡ true
  is_there edge to there =
      let made = made_of (λ (e : EdgeRef × EdgeRow). e.0) v.contents.edges edge there in
      subst (λ (e : EdgeRef). has_edge v.contents e ≡ true) made.2
      (has_touching (held_of made.0) (is_made held_of (filter (λ e. touches x.id e.0) v.contents.edges) made.0
      (is_left (λ (e : EdgeRef × EdgeRow). touches x.id e.0) v.contents.edges made.0 made.1 (touched made.0.0 (ap (λ (e : EdgeRef). e.target) made.2 ∙ to)))))

  -- an edge of the type and of a word that begins so
  record IsWordEdge (edge : EdgeRef) (text : List ℕ) : Type 0 where
    type : edge.type_no ≡ number
    key : edge.key ≡ Word text
    begins : begins_with from text ≡ true

  word_edge : (edge : EdgeRef) (text : List ℕ) → words edge ≡ Some text → IsWordEdge edge text
  word_edge edge text e = by edge.key refl e
    where
      by : (key : Key) → edge.key ≡ key → word_of number from edge.type_no key ≡ Some text → IsWordEdge edge text
      by (Id id) k h = cc
      by (Word w) k h = at (number == edge.type_no) refl (begins_with from w) refl h
        where
          at : (a : Bool) → (number == edge.type_no) ≡ a → (b : Bool) → begins_with from w ≡ b → (if a && b then Some w else None) ≡ Some text → IsWordEdge edge text
          at true f true g i = let same_text : w ≡ text = cc in record { type = sym (number_is number edge.type_no f); key = k ∙ ap Word same_text; begins = ap (begins_with from) (sym same_text) ∙ g }
          at true f false g i = cc
          at false f b g i = cc

  edge_is : (edge : EdgeRef) (text : List ℕ) → IsWordEdge edge text → edge.target ≡ x.id → edge ≡ edge_of text
  unfolding edge_of
  edge_is edge text is to = λ i. record { type_no = is.type i; key = is.key i; target = to i }

  -- such an edge leads from a word that begins so
  from_word : (edge : EdgeRef) (text : List ℕ) → IsWordEdge edge text → edge.target ≡ x.id → is_from number from x.id edge ≡ true
  from_word edge text is to =
      ap (λ n. (number == n) && (x.id == edge.target) && is_word_from from edge.key) is.type
      ∙ ap (λ n. (number == number) && (x.id == n) && is_word_from from edge.key) to
      ∙ ap (λ k. (number == number) && (x.id == x.id) && is_word_from from k) is.key
      ∙ all (itself number) (itself x.id) is.begins
    where
      all : {a b c : Bool} → a ≡ true → b ≡ true → c ≡ true → (a && b && c) ≡ true
      all e f g = λ i. e i && f i && g i

  -- and what leads from one is of a word
  record IsFrom (edge : EdgeRef) : Type 0 where
    text : List ℕ
    is : IsWordEdge edge text
    word : words edge ≡ Some text
    to : edge.target ≡ x.id

  from_is : (edge : EdgeRef) → is_from number from x.id edge ≡ true → IsFrom edge
  from_is edge e = by edge.key refl (number == edge.type_no) refl (x.id == edge.target) refl e
    where
      by : (key : Key) → edge.key ≡ key → (a : Bool) → (number == edge.type_no) ≡ a → (b : Bool) → (x.id == edge.target) ≡ b → (a && b && is_word_from from key) ≡ true → IsFrom edge
      by key k true f false g h = cc
      by key k false f b g h = cc
      by (Id id) k true f true g h = cc
      by (Word w) k true f true g h = record {
        text = w;
        is = record { type = sym (number_is number edge.type_no f); key = k; begins = h };
        word = ap (word_of number from edge.type_no) k ∙ ap (λ c. if c && begins_with from w then Some w else None) f ∙ ap (λ c. if c then Some w else None) h;
        to = sym (number_is x.id edge.target g);
      }

  -- the edge that is shown of a word is its edge, which is there and shown
  record IsSeen (text : List ℕ) (edge : EdgeRef) : Type 0 where
    is : edge ≡ edge_of text
    there : has_edge v.contents (edge_of text) ≡ true
    may : may_see (edge_of text) ≡ true

  seen_is : (text : List ℕ) (edge : EdgeRef) → seen text ≡ Some edge → IsSeen text edge
  unfolding edge_of
  seen_is text edge e = by (has_edge v.contents (edge_of text)) refl (may_see (edge_of text)) refl e
    where
      by : (a : Bool) → has_edge v.contents (edge_of text) ≡ a → (b : Bool) → may_see (edge_of text) ≡ b → (if a && b then Some (edge_to number (Word text) x.id) else None) ≡ Some edge → IsSeen text edge
      by true f true g h = let same_edge : edge_to number (Word text) x.id ≡ edge = cc in record { is = sym same_edge; there = f; may = g }
      by true f false g h = cc
      by false f b g h = cc

  -- an edge that is such is shown as its word's
  shown_as_seen : (edge : EdgeRef) (text : List ℕ) → IsWordEdge edge text → edge.target ≡ x.id → has_edge v.contents edge ≡ true → shown edge ≡ seen text
  unfolding edge_of
  shown_as_seen edge text is to has =
      ap (λ b. if b && may_see edge then Some edge else None) (from_word edge text is to)
      ∙ ap (λ b. if b && may_see edge then Some edge else None) (sym has)
      ∙ ap (λ (e : EdgeRef). if has_edge v.contents e && may_see e then Some e else None) (edge_is edge text is to)

  not_shown : (edge : EdgeRef) → is_from number from x.id edge ≡ false → shown edge ≡ None
  not_shown edge e = ap (λ b. if b && may_see edge then Some edge else None) e

  -- between an edge of a word and that word's edge to the entity no other word has one
  no_other : (edge other : EdgeRef) (text : List ℕ) → IsWordEdge edge text → edge_cmp edge other ≡ Less → edge_cmp other (edge_of text) ≡ Less → is_from number from x.id other ≡ true → ⊥
  unfolding edge_of
  no_other edge other text is first second e =
      let is_other = from_is other e in
      let one : ordering_then (nat_cmp number number) (ordering_then (key_cmp (Word text) (Word is_other.text)) (nat_cmp edge.target other.target)) ≡ Less =
      ap (λ n. ordering_then (nat_cmp n number) (ordering_then (key_cmp (Word text) (Word is_other.text)) (nat_cmp edge.target other.target))) (sym is.type)
      ∙ ap (λ n. ordering_then (nat_cmp edge.type_no n) (ordering_then (key_cmp (Word text) (Word is_other.text)) (nat_cmp edge.target other.target))) (sym is_other.is.type)
      ∙ ap (λ k. ordering_then (nat_cmp edge.type_no other.type_no) (ordering_then (key_cmp k (Word is_other.text)) (nat_cmp edge.target other.target))) (sym is.key)
      ∙ ap (λ k. ordering_then (nat_cmp edge.type_no other.type_no) (ordering_then (key_cmp edge.key k) (nat_cmp edge.target other.target))) (sym is_other.is.key) ∙ first in
      let two : ordering_then (nat_cmp number number) (ordering_then (key_cmp (Word is_other.text) (Word text)) (nat_cmp x.id x.id)) ≡ Less =
      ap (λ n. ordering_then (nat_cmp n number) (ordering_then (key_cmp (Word is_other.text) (Word text)) (nat_cmp x.id x.id))) (sym is_other.is.type)
      ∙ ap (λ k. ordering_then (nat_cmp other.type_no number) (ordering_then (key_cmp k (Word text)) (nat_cmp x.id x.id))) (sym is_other.is.key)
      ∙ ap (λ n. ordering_then (nat_cmp other.type_no number) (ordering_then (key_cmp other.key (Word text)) (nat_cmp n x.id))) (sym is_other.to) ∙ second in
      by (key_cmp (Word is_other.text) (Word text)) (key_cmp (Word text) (Word is_other.text)) (nat_cmp edge.target other.target) (key_cmp-total.antisymm (Word text) (Word is_other.text))
      (ap (λ o. ordering_then o (ordering_then (key_cmp (Word text) (Word is_other.text)) (nat_cmp edge.target other.target))) (sym (equal_nat number)) ∙ one)
      (ap (λ o. ordering_then (key_cmp (Word is_other.text) (Word text)) o) (sym (equal_nat x.id)) ∙ ap (λ o. ordering_then o (ordering_then (key_cmp (Word is_other.text) (Word text)) (nat_cmp x.id x.id))) (sym (equal_nat number)) ∙ two)
    where
      by : (back on third : Ordering) → on ≡ ordering_reverse back → ordering_then on third ≡ Less → ordering_then back Equal ≡ Less → ⊥
      by Less Less third e f g = cc
      by Less Equal third e f g = cc
      by Less Greater third e f g = cc
      by Equal on third e f g = cc
      by Greater on third e f g = cc

  own_shown : (text : List ℕ) → begins_with from text ≡ true → (found : EdgeRef) → seen text ≡ Some found → shown (edge_of text) ≡ Some found
  unfolding edge_of
  own_shown text begins found e = shown_as_seen (edge_of text) text (record { type = refl; key = refl; begins = begins }) refl (seen_is text found e).there ∙ e

  below_all : (edge : EdgeRef) (rest : List EdgeRef) → AllByRecursion (λ y. edge_cmp edge y ≡ Less) rest → (other : EdgeRef) → Contains rest other → edge_cmp edge other ≡ Less
  below_all edge [] above other there = absurd (none_in_nil other there)
  below_all edge (y ∷ rest) above other there = by (first_or_later y rest other there) (below_all edge rest above.1 other)
    where
      by : (y ≡ other) ⊎ Contains rest other → (Contains rest other → edge_cmp edge other ≡ Less) → edge_cmp edge other ≡ Less
      by (inl same) later = ap (edge_cmp edge) (sym same) ∙ above.0
      by (inr after) later = later after

  -- after an edge of a word, the first edge to the entity that is shown is that word's
  next_shown : (edge : EdgeRef) (text : List ℕ) (rest : List EdgeRef) → IsWordEdge edge text → AllByRecursion (λ y. edge_cmp edge y ≡ Less) rest → IsStrictlySortedBy edge_cmp rest
      → Contains rest (edge_of text) → (found : EdgeRef) → seen text ≡ Some found → first_given shown rest ≡ Some found
  next_shown edge text [] is above sorted there found e = absurd (none_in_nil (edge_of text) there)
  next_shown edge text (y ∷ rest) is above sorted there found e =
      by (first_or_later y rest (edge_of text) there) (λ later. next_shown edge text rest is above.1 (sorted_tail edge_cmp y rest sorted) later found e)
    where
      itself_shown : shown (edge_of text) ≡ Some found
      itself_shown = own_shown text is.begins found e

      past : (b : Bool) → is_from number from x.id y ≡ b → edge_cmp y (edge_of text) ≡ Less → shown y ≡ None
      past true f below = absurd (no_other edge y text is above.0 below f)
      past false f below = not_shown y f

      by : (y ≡ edge_of text) ⊎ Contains rest (edge_of text) → (Contains rest (edge_of text) → first_given shown rest ≡ Some found) → option_or (shown y) (first_given shown rest) ≡ Some found
      by (inl same) later = ap (λ o. option_or o (first_given shown rest)) (ap shown same ∙ itself_shown)
      by (inr after) later =
          ap (λ o. option_or o (first_given shown rest)) (past (is_from number from x.id y) refl (below_all y rest (sorted_head edge_cmp y rest sorted) (edge_of text) after)) ∙ later after

  -- the words whose edges are shown are among those of the edges
  abbrev HasShown : List EdgeRef → Type 0
  HasShown edges = (text : List ℕ) → begins_with from text ≡ true → (found : EdgeRef) → seen text ≡ Some found → Contains edges (edge_of text)

  own_word : (edge : EdgeRef) (text : List ℕ) → begins_with from text ≡ true → edge ≡ edge_of text → words edge ≡ Some text
  unfolding edge_of
  own_word edge text begins same = ap words same ∙ ap (λ b. if b && begins_with from text then Some text else None) (itself number) ∙ ap (λ b. if b then Some text else None) begins

  own_target : (edge : EdgeRef) (text : List ℕ) → edge ≡ edge_of text → edge.target ≡ x.id
  unfolding edge_of
  own_target edge text same = ap (λ (e : EdgeRef). e.target) same

  -- along the table's edges, what is shown by their words is what is shown by the edges to the entity
  by_words : (edges : List EdgeRef) → IsStrictlySortedBy edge_cmp edges → ((edge : EdgeRef) → Contains edges edge → Contains (keys_of v.contents.edges) edge) → HasShown edges
      → first_given (λ edge. option_and_then seen (words edge)) edges ≡ first_given shown edges
  by_words [] sorted all has = refl
  by_words (e ∷ edges) sorted all has = by (words e) refl (by_words edges (sorted_tail edge_cmp e edges sorted) (λ edge there. all edge (later_is e edges edge there)))
    where
      more : Option EdgeRef
      more = first_given (λ edge. option_and_then seen (words edge)) edges

      -- the head is not the edge of a word that is shown
      pass : ((text : List ℕ) → begins_with from text ≡ true → (found : EdgeRef) → seen text ≡ Some found → e ≡ edge_of text → ⊥) → HasShown edges
      pass none = λ text begins found s. later text begins found s (first_or_later e edges (edge_of text) (has text begins found s))
        where
          later : (text : List ℕ) → begins_with from text ≡ true → (found : EdgeRef) → seen text ≡ Some found → (e ≡ edge_of text) ⊎ Contains edges (edge_of text) → Contains edges (edge_of text)
          later text begins found s (inl same) = absurd (none text begins found s same)
          later text begins found s (inr there) = there

      wordless : (b : Bool) → is_from number from x.id e ≡ b → words e ≡ None → shown e ≡ None
      wordless true f w = let clash : None ≡ Some (from_is e f).text = sym w ∙ (from_is e f).word in absurd cc
      wordless false f w = not_shown e f

      elsewhere : (b : Bool) → is_from number from x.id e ≡ b → (x.id == e.target) ≡ false → shown e ≡ None
      elsewhere true f away = let clash : true ≡ false = sym (ap (λ n. x.id == n) (from_is e f).to ∙ itself x.id) ∙ away in absurd cc
      elsewhere false f away = not_shown e f

      here : (text : List ℕ) → words e ≡ Some text → e.target ≡ x.id → (o : Option EdgeRef) → seen text ≡ o → (HasShown edges → more ≡ first_given shown edges) → option_or (seen text) more ≡ option_or (shown e) (first_given shown edges)
      here text w to (Some found) s rest =
          ap (λ o. option_or o more) s ∙ ap (λ o. option_or o (first_given shown edges)) (sym (shown_as_seen e text (word_edge e text w) to (is_there e to (all e (first_is e edges))) ∙ s))
      here text w to None s rest =
          ap (λ o. option_or o more) s
          ∙ rest (pass (λ other begins found t same. let word : Some text ≡ Some other = sym w ∙ own_word e other begins same in let one : text ≡ other = cc in let clash : None ≡ Some found = sym s ∙ ap seen one ∙ t in absurd cc))
          ∙ ap (λ o. option_or o (first_given shown edges)) (sym (shown_as_seen e text (word_edge e text w) to (is_there e to (all e (first_is e edges))) ∙ s))

      away_from : (x.id == e.target) ≡ false → (text : List ℕ) → e ≡ edge_of text → ⊥
      away_from away text same = let clash : true ≡ false = sym (ap (λ n. x.id == n) (own_target e text same) ∙ itself x.id) ∙ away in absurd cc

      there : (text : List ℕ) → words e ≡ Some text → (x.id == e.target) ≡ false → (o : Option EdgeRef) → seen text ≡ o → (HasShown edges → more ≡ first_given shown edges) → option_or (seen text) more ≡ option_or (shown e) (first_given shown edges)
      there text w away (Some found) s rest =
          ap (λ o. option_or o more) s
          ∙ sym (next_shown e text edges (word_edge e text w) (sorted_head edge_cmp e edges sorted) (sorted_tail edge_cmp e edges sorted)
          (pass (λ other begins found t same. away_from away other same) text (word_edge e text w).begins found s) found s)
          ∙ ap (λ o. option_or o (first_given shown edges)) (sym (elsewhere (is_from number from x.id e) refl away))
      there text w away None s rest =
          ap (λ o. option_or o more) s ∙ rest (pass (λ other begins found t same. away_from away other same))
          ∙ ap (λ o. option_or o (first_given shown edges)) (sym (elsewhere (is_from number from x.id e) refl away))

      at : (text : List ℕ) → words e ≡ Some text → (b : Bool) → (x.id == e.target) ≡ b → (HasShown edges → more ≡ first_given shown edges) → option_or (seen text) more ≡ option_or (shown e) (first_given shown edges)
      at text w true f rest = here text w (sym (number_is x.id e.target f)) (seen text) refl rest
      at text w false f rest = there text w f (seen text) refl rest

      by : (o : Option (List ℕ)) → words e ≡ o → (HasShown edges → more ≡ first_given shown edges) → option_or (option_and_then seen (words e)) more ≡ option_or (shown e) (first_given shown edges)
      by None w rest =
          ap (λ o. option_or (option_and_then seen o) more) w
          ∙ rest (pass (λ text begins found s same. let clash : None ≡ Some text = sym w ∙ own_word e text begins same in absurd cc))
          ∙ ap (λ o. option_or o (first_given shown edges)) (sym (wordless (is_from number from x.id e) refl w))
      by (Some text) w rest = ap (λ o. option_or (option_and_then seen o) more) w ∙ at text w (x.id == e.target) refl rest

  one_edge : EdgeRef → List EdgeRef
  one_edge edge = edge ∷ []

  -- by an edge that touches the entity
  by_word_is : (held : Held) → by_word v number from x held ≡ (if is_from number from x.id held.edge then shown_as (option_map one_edge (shown held.edge)) else Missed)
  unfolding one_edge
  by_word_is held = by (is_from number from x.id held.edge) (may_see held.edge)
    where
      by : (b c : Bool) → (if b then (if c then Shown (held.edge ∷ []) else Hidden) else Missed) ≡ (if b then shown_as (option_map (λ edge. edge ∷ []) (if b && c then Some held.edge else None)) else Missed)
      by true true = refl
      by true false = refl
      by false c = refl

  by_word_all : (hs : List Held) → map (by_word v number from x) hs ≡ map (λ (held : Held). if is_from number from x.id held.edge then shown_as (option_map one_edge (shown held.edge)) else Missed) hs
  by_word_all [] = refl
  by_word_all (h ∷ hs) = λ i. by_word_is h i ∷ by_word_all hs i

  -- an edge that does not touch the entity does not lead to it from a word
  untouched : (edge : EdgeRef) → touches x.id edge ≡ false → is_from number from x.id edge ≡ false
  untouched edge e = by (is_from number from x.id edge) refl
    where
      by : (b : Bool) → is_from number from x.id edge ≡ b → b ≡ false
      by true f = let clash : true ≡ false = sym (touched edge (from_is edge f).to) ∙ e in absurd cc
      by false f = refl

  first_is_same : first_given (λ (held : Held). option_map one_edge (shown held.edge)) (touching v.contents x.id) ≡ option_map one_edge (first_given seen (prefix_keys v.contents number from))
  first_is_same =
      given-after (λ (held : Held). shown held.edge) one_edge (touching v.contents x.id)
      ∙ ap (option_map one_edge) (
      given-map (λ (held : Held). shown held.edge) held_of (filter (λ e. touches x.id e.0) v.contents.edges)
      ∙ given-filter (λ (e : EdgeRef × EdgeRow). shown e.0) (λ e. touches x.id e.0) (λ e none. not_shown e.0 (untouched e.0 none)) v.contents.edges
      ∙ sym (given-map shown (λ (e : EdgeRef × EdgeRow). e.0) v.contents.edges)
      ∙ sym (by_words (keys_of v.contents.edges) kept.edges (λ edge there. there) (λ text begins found s. here text found s))
      ∙ given-map (λ edge. option_and_then seen (words edge)) (λ (e : EdgeRef × EdgeRow). e.0) v.contents.edges
      ∙ sym (given-filter_map seen (λ (e : EdgeRef × EdgeRow). words e.0) v.contents.edges)
      ∙ sym (given-dedup seen same (λ a b e. ap seen (exact_same a b e)) (filter_map (λ (e : EdgeRef × EdgeRow). words e.0) v.contents.edges)))
    where
      here : (text : List ℕ) (found : EdgeRef) → seen text ≡ Some found → Contains (keys_of v.contents.edges) (edge_of text)
      here text found s = there_is (edge_of text) (own_target (edge_of text) text refl) (seen_is text found s).there

  any_is_same : list_any (λ (held : Held). is_from number from x.id held.edge) (touching v.contents x.id) ≡ list_any (λ word. leads_to v.contents number (Word word) x) (prefix_keys v.contents number from)
  unfolding edge_of
  any_is_same =
      any-map (λ (held : Held). is_from number from x.id held.edge) held_of (filter (λ e. touches x.id e.0) v.contents.edges)
      ∙ any-filter (λ (e : EdgeRef × EdgeRow). is_from number from x.id e.0) (λ e. touches x.id e.0) (λ e none. untouched e.0 none) v.contents.edges
      ∙ same_tests (list_any (λ (e : EdgeRef × EdgeRow). is_from number from x.id e.0) v.contents.edges) (list_any (λ (e : EdgeRef × EdgeRow). option_map_or leading (words e.0) false) v.contents.edges) there back
      ∙ sym (any-dedup leading same (λ a b e. ap leading (exact_same a b e)) (filter_map (λ (e : EdgeRef × EdgeRow). words e.0) v.contents.edges)
      ∙ any-filter_map leading (λ (e : EdgeRef × EdgeRow). words e.0) v.contents.edges)
    where
      leading : List ℕ → Bool
      leading word = leads_to v.contents number (Word word) x

      there : list_any (λ (e : EdgeRef × EdgeRow). is_from number from x.id e.0) v.contents.edges ≡ true → list_any (λ (e : EdgeRef × EdgeRow). option_map_or leading (words e.0) false) v.contents.edges ≡ true
      there any =
          let found = found_by (λ (e : EdgeRef × EdgeRow). is_from number from x.id e.0) v.contents.edges any in
          let is = from_is found.0.0 found.2 in
          any_from (λ (e : EdgeRef × EdgeRow). option_map_or leading (words e.0) false) v.contents.edges found.0 found.1
          (ap (λ o. option_map_or leading o false) is.word
          ∙ ap (has_edge v.contents) (sym (edge_is found.0.0 is.text is.is is.to))
          ∙ is_there found.0.0 is.to (is_made (λ (e : EdgeRef × EdgeRow). e.0) v.contents.edges found.0 found.1))

      back : list_any (λ (e : EdgeRef × EdgeRow). option_map_or leading (words e.0) false) v.contents.edges ≡ true → list_any (λ (e : EdgeRef × EdgeRow). is_from number from x.id e.0) v.contents.edges ≡ true
      back any = by (words found.0.0) refl found.2
        where
          found : (e : EdgeRef × EdgeRow) × Contains v.contents.edges e × (option_map_or leading (words e.0) false ≡ true)
          found = found_by (λ (e : EdgeRef × EdgeRow). option_map_or leading (words e.0) false) v.contents.edges any

          by : (o : Option (List ℕ)) → words found.0.0 ≡ o → option_map_or leading o false ≡ true → list_any (λ (e : EdgeRef × EdgeRow). is_from number from x.id e.0) v.contents.edges ≡ true
          by None w h = cc
          by (Some text) w h =
              let made = made_of (λ (e : EdgeRef × EdgeRow). e.0) v.contents.edges (edge_to number (Word text) x.id) (there_is (edge_to number (Word text) x.id) refl h) in
              any_from (λ (e : EdgeRef × EdgeRow). is_from number from x.id e.0) v.contents.edges made.0 made.1
              (ap (is_from number from x.id) made.2 ∙ from_word (edge_to number (Word text) x.id) text (record { type = refl; key = refl; begins = (word_edge found.0.0 text w).begins }) refl)

  pub prefix_standing : Contains (ranked v.schema v.contents (target_of v.schema number) (shard_of v.schema (target_of v.schema number) x.id)) x → standing_of v (prefix_plan number from) x ≡ under_prefix v number from x
  unfolding one_edge
  prefix_standing home =
      ap (λ b. if b then shown_as (option_map (λ edge. edge ∷ []) (first_given seen (prefix_keys v.contents number from))) else Missed)
      (among_left (λ k. list_any (λ word. leads_to v.contents number (Word word) k) (prefix_keys v.contents number from)) x (ranked v.schema v.contents (target_of v.schema number) (shard_of v.schema (target_of v.schema number) x.id)) home)
      ∙ sym (ap first_of (by_word_all (touching v.contents x.id))
      ∙ first_of-given (λ (held : Held). is_from number from x.id held.edge) (λ (held : Held). option_map one_edge (shown held.edge))
      (λ held e. ap (option_map one_edge) (not_shown held.edge e)) (touching v.contents x.id)
      ∙ ap (λ b. if b then shown_as (first_given (λ (held : Held). option_map one_edge (shown held.edge)) (touching v.contents x.id)) else Missed) any_is_same
      ∙ ap (λ o. if list_any (λ word. leads_to v.contents number (Word word) x) (prefix_keys v.contents number from) then shown_as o else Missed) first_is_same)
