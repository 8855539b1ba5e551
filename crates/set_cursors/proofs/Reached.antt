-- Where a leap ends.
use Rattle.std.proofs.Common.{◌≡◌, ℕ, ◌+◌, ◌<◌, ◌≤◌, true, false, List, [], ◌∷◌, None, Some, refl, sym, ◌∙◌, ap, subst, arith, length, get_or, map}
use Rattle.std.specs.Ordering.{is_eq}
use Rattle.uni_base.specs.declared.entity.DocKey.{DocKey}
use Rattle.uni_base.specs.RankOrder.{doc_cmp}
use Rattle.uni_base.specs.Cursors.{is_before, IsRanked, keys_from}
use Rattle.uni_base.proofs.RankedLemmas.{is_before_self, keys_from-head, keys_from-keys_from, same_from_is_eq}
use Rattle.std.proofs.lemmas.List.{ext_get_or, get_or-map, length-map}
use Rattle.set_cursors.specs.Firsts.{is_first}
use Rattle.set_cursors.specs.Passed.{HavePassed}
use Rattle.set_cursors.proofs.Asked.{all_pass, not_before_trans}
use Rattle.set_cursors.specs.Filters.{common}
use Rattle.set_cursors.specs.Leaps.{HasReached, IsAsked, IsPart, IsReached, StandsAt}
use Rattle.set_cursors.specs.Moves.{AreFew}
use Rattle.set_cursors.proofs.Shared.{IsPart_trans, KeepsShared, KeepsShared_trans, KeepsKeys-shared, asked_keeps, common_same, stands_there}
use Rattle.set_cursors.proofs.Weights.{HasPaid, last_paid}

-- from a key on, operands have what they had
abbrev pub SameOn : DocKey → List (List DocKey) → List (List DocKey) → Type 0
SameOn key olds news = (i : ℕ) → i < length olds → (b : DocKey) → is_before b key ≡ false → keys_from b (get_or news i []) ≡ keys_from b (get_or olds i [])

-- also from a later one that was reached
pub same_on : (key at : DocKey) (olds mids news : List (List DocKey)) → length mids ≡ length olds → IsReached key at mids news → SameOn key olds mids → SameOn at olds news
same_on key at olds mids news count reached same i within b late =
    let m = reached.each_moved i (omega (arith, count)) in
    ap (keys_from b) m.moves ∙ keys_from-keys_from m.to b (get_or mids i []) (not_before_trans m.to at b m.not_after late)
    ∙ same i within b (not_before_trans key at b reached.not_before late)

-- an operand is at its end
pub reached_nowhere : (before after : ℕ) (olds news : List (List DocKey)) → KeepsShared olds news → ((i : ℕ) → IsPart (get_or olds i []) (get_or news i [])) → StandsAt None news → AreFew before after olds news
    → before ≤ after → (after ≤ before → news ≡ olds) → HasReached None before after olds news
reached_nowhere before after olds news keeps parts stands few rises unmoved = record {
  stands = stands;
  ranked = λ k e. absurd cc;
  moved = record { after = common_same olds news keeps; operands = KeepsKeys-shared olds news keeps; passed = λ k e. absurd (let f = stands.first_is ∙ e in cc) };
  parts = parts;
  few = few;
  rises = rises;
  unmoved = unmoved;
}

-- all operands are at one key
pub reached_there : (before made after : ℕ) (key at : DocKey) (olds mids news : List (List DocKey)) (asked : IsAsked key (Some at) mids news) → is_eq (doc_cmp at key) ≡ true → KeepsShared olds mids
    → ((i : ℕ) → IsPart (get_or olds i []) (get_or mids i [])) → SameOn key olds mids → HasPaid before made key olds mids → 0 < length mids → after ≤ made + length olds → before ≤ after → (after ≤ before → news ≡ olds) → HasReached (Some at) before after olds news
reached_there before made after key at olds mids news asked here keeps parts same paid some few rises unmoved = record {
  stands = stands;
  ranked = λ k e i within. ((asked.reached at refl).each_moved i (omega (arith, asked.count))).ranked;
  moved = record { after = common_same olds news whole; operands = KeepsKeys-shared olds news whole; passed = passed };
  parts = λ i. IsPart_trans (get_or olds i []) (get_or mids i []) (get_or news i []) (parts i) (asked.parts i);
  few = last_paid before made after key (Some at) olds mids news paid keeps.count few asked;
  rises = rises;
  unmoved = unmoved;
}
  where
    whole : KeepsShared olds news
    whole = KeepsShared_trans olds mids news keeps (asked_keeps key (Some at) mids news asked)

    stands : StandsAt (Some at) news
    stands = stands_there key at mids news asked here some

    begins : (ks : List DocKey) → is_first at ks ≡ true → IsRanked ks → keys_from at ks ≡ ks
    begins [] e ranked = refl
    begins (x ∷ xs) e ranked = let s = same_from_is_eq x at e in subst (λ (y : DocKey). keys_from y (x ∷ xs) ≡ x ∷ xs) s (keys_from-head x xs ranked)

    each : (i : ℕ) → i < length news → get_or news i [] ≡ get_or (map (keys_from at) olds) i []
    each i within =
        let m = (asked.reached at refl).each_moved i (omega (arith, asked.count)) in
        sym (begins (get_or news i []) (all_pass (is_first at) news i [] within (stands.all_there at refl)) m.ranked)
        ∙ same_on key at olds mids news keeps.count (asked.reached at refl) same i (omega (arith, whole.count)) at (is_before_self at)
        ∙ sym (get_or-map (keys_from at) olds i [] [] (omega (arith, whole.count)))

    inside : {k : DocKey} → Some at ≡ Some k → at ≡ k
    inside e = cc

    passed : HavePassed (common news) olds news
    passed k e =
        let s : at ≡ k = inside (stands.first_is ∙ e) in
        subst (λ (x : DocKey). news ≡ map (keys_from x) olds) s (ext_get_or [] news (map (keys_from at) olds) (whole.count ∙ sym (length-map olds (keys_from at))) each)
