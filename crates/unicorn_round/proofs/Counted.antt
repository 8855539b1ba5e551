-- Counts of answers that come one after the other.
use Rattle.std.proofs.Common.{◌≡◌, ◌+◌, Bool, true, false, ◌||◌, ◌&&◌, ◌⊎◌, inl, inr, List, [], ◌∷◌, ◌++◌, refl, sym, ap, ◌∙◌, arith}
use Rattle.std.specs.List.{AllByRecursion, list_any}
use Rattle.std.proofs.lemmas.List.Folds.{list_any-append}
use Rattle.std.proofs.lemmas.List.Sums.{sum_by-append}
use Rattle.reply_text.specs.declared.answer.Answer.{Answer}
use Rattle.script_rounds.specs.Entries.{AreItemsOf, Entry, IsItemOf, change, publish, ask, compact, stats, refused, fault, query_fault, reads_query}
use Rattle.script_rounds.specs.Terms.{Terms}
use Rattle.script_rounds.specs.declared.item.Item.{Item}
use Rattle.script_rounds.specs.declared.item.Item.TheVariants as item
use Rattle.round_feed.specs.Feeds.{Feed, made}
use Rattle.unicorn_round.specs.Answers.{Standing, after_entry, after_entries, after_round, at_end, entry_answers, entries_answers, replies, round_answers, rounds_answers}
use Rattle.unicorn_round.specs.Bench.{is_lacking, is_mixed, may_ask, publishes}
use Rattle.unicorn_round.specs.Counts.{HasAll, IsApart, asks_told, counts_of, hits_told, ids_told, is_ask, is_publish, no_counts, plus, publishes_told}
use Rattle.unicorn_round.specs.Marks.{Mark, plain, lacking, at, lacks, Record}
use Rattle.unicorn_round.specs.Records.{AreMarked, IsRecordFrom}
use Rattle.unicorn_round.specs.Stacks.{tidy_answers}
use Rattle.unicorn_round.specs.declared.counts.Counts.{Counts}

-- counts of answers, and of more
pub counts_more : (xs ys : List Answer) → counts_of (xs ++ ys) ≡ plus (counts_of xs) (counts_of ys)
counts_more xs ys = (λ i. record {
  publishes = sum_by-append publishes_told xs ys i;
  asks = sum_by-append asks_told xs ys i;
  hits = sum_by-append hits_told xs ys i;
  ids = sum_by-append ids_told xs ys i;
})

pub plus_assoc : (a b c : Counts) → plus (plus a b) c ≡ plus a (plus b c)
plus_assoc a b c =
    let p : a.publishes + b.publishes + c.publishes ≡ a.publishes + (b.publishes + c.publishes) = omega arith in
    let q : a.asks + b.asks + c.asks ≡ a.asks + (b.asks + c.asks) = omega arith in
    let h : a.hits + b.hits + c.hits ≡ a.hits + (b.hits + c.hits) = omega arith in
    let s : a.ids + b.ids + c.ids ≡ a.ids + (b.ids + c.ids) = omega arith in
    (λ i. record { publishes = p i; asks = q i; hits = h i; ids = s i })

pub plus_none : (a : Counts) → plus a no_counts ≡ a
plus_none a =
    let p : a.publishes + 0 ≡ a.publishes = omega arith in
    let q : a.asks + 0 ≡ a.asks = omega arith in
    let h : a.hits + 0 ≡ a.hits = omega arith in
    let s : a.ids + 0 ≡ a.ids = omega arith in
    (λ i. record { publishes = p i; asks = q i; hits = h i; ids = s i })

or_none : (a b : Bool) → (a || b) ≡ false → (a ≡ false) × (b ≡ false)
or_none true b is = absurd cc
or_none false b is = (refl, is)

pub none_both : (a b : Bool) → a ≡ false → b ≡ false → (a || b) ≡ false
none_both true b is other = absurd cc
none_both false b is other = other

and_false : (a b : Bool) → (a && b) ≡ false → (a ≡ false) ⊎ (b ≡ false)
and_false true b is = inr is
and_false false b is = inl refl

-- ---- items and entries

publish_alike : (entry : Entry) (it : Item) → IsItemOf entry it → publishes it ≡ false → is_publish entry ≡ false
publish_alike entry (item.Change line command) of not = ap is_publish of
publish_alike entry (item.Publish line) of not = absurd cc
publish_alike entry (item.Ask line viewer session limit query) of not = ap is_publish of
publish_alike entry (item.Compact line vertical shard replica) of not = ap is_publish of
publish_alike entry (item.Stats line) of not = ap is_publish of
publish_alike entry (item.Refused line code) of not = ap is_publish of
publish_alike entry (item.Fault line code) of not = ap is_publish of
publish_alike entry (item.QueryFault line code column) of not = ap is_publish of
publish_alike entry (item.Memory line) of not = reading entry of.0
  where
    reading : (e : Entry) → reads_query e ≡ true → is_publish e ≡ false
    reading (change l command) is = absurd cc
    reading (publish l) is = absurd cc
    reading (ask l session viewer limit query) is = refl
    reading (compact l vertical shard replica) is = absurd cc
    reading (stats l) is = absurd cc
    reading (refused l code) is = absurd cc
    reading (fault l code) is = absurd cc
    reading (query_fault l code column) is = refl

ask_alike : (entry : Entry) (it : Item) → IsItemOf entry it → may_ask it ≡ false → is_ask entry ≡ false
ask_alike entry (item.Change line command) of not = ap is_ask of
ask_alike entry (item.Publish line) of not = ap is_ask of
ask_alike entry (item.Ask line viewer session limit query) of not = absurd cc
ask_alike entry (item.Compact line vertical shard replica) of not = ap is_ask of
ask_alike entry (item.Stats line) of not = ap is_ask of
ask_alike entry (item.Refused line code) of not = ap is_ask of
ask_alike entry (item.Fault line code) of not = ap is_ask of
ask_alike entry (item.QueryFault line code column) of not = ap is_ask of
ask_alike entry (item.Memory line) of not = absurd cc

none_publishes : (entries : List Entry) (items : List Item) → AreItemsOf entries items → list_any publishes items ≡ false → list_any is_publish entries ≡ false
none_publishes [] [] of none = refl
none_publishes [] (it ∷ items) of none = absurd of
none_publishes (entry ∷ entries) [] of none = absurd of
none_publishes (entry ∷ entries) (it ∷ items) of none =
    let each = or_none (publishes it) (list_any publishes items) none in
    none_both (is_publish entry) (list_any is_publish entries) (publish_alike entry it of.0 each.0) (none_publishes entries items of.1 each.1)

none_asks : (entries : List Entry) (items : List Item) → AreItemsOf entries items → list_any may_ask items ≡ false → list_any is_ask entries ≡ false
none_asks [] [] of none = refl
none_asks [] (it ∷ items) of none = absurd of
none_asks (entry ∷ entries) [] of none = absurd of
none_asks (entry ∷ entries) (it ∷ items) of none =
    let each = or_none (may_ask it) (list_any may_ask items) none in
    none_both (is_ask entry) (list_any is_ask entries) (ask_alike entry it of.0 each.0) (none_asks entries items of.1 each.1)

-- a round whose items do not both publish and ask
pub apart_by : (entries : List Entry) (items : List Item) → AreItemsOf entries items → is_mixed items ≡ false → IsApart entries
apart_by entries items of not = by (and_false (list_any publishes items) (list_any may_ask items) not)
  where
    by : (list_any publishes items ≡ false) ⊎ (list_any may_ask items ≡ false) → IsApart entries
    by (inl none) = inl (none_publishes entries items of none)
    by (inr none) = inr (none_asks entries items of none)

pub apart_more : (rounds : List (List Entry)) (entries : List Entry) → AllByRecursion IsApart rounds → IsApart entries → AllByRecursion IsApart (rounds ++ entries ∷ [])
apart_more [] entries all one = (one, tt)
apart_more (round ∷ rounds) entries all one = (all.0, apart_more rounds entries all.1 one)

-- ---- answers and marks

module _ (terms : Terms) where
  entry_has : (end : Standing) (feed : Feed) (entry : Entry) (m : Mark) → list_any is_lacking (entry_answers terms (replies terms.schema) end feed entry m) ≡ false → lacks m ≡ false
  entry_has end feed entry plain none = refl
  entry_has end feed entry lacking none = absurd cc
  entry_has end feed entry (at number) none = refl

  entries_have : (end s : Standing) (entries : List Entry) (ms : List Mark) → AreMarked entries ms → list_any is_lacking (entries_answers terms (replies terms.schema) end s entries ms) ≡ false
      → list_any lacks ms ≡ false
  entries_have end s [] [] marked none = refl
  entries_have end s [] (m ∷ ms) marked none = absurd marked
  entries_have end s (entry ∷ entries) [] marked none = absurd marked
  entries_have end s (entry ∷ entries) (m ∷ ms) marked none =
      let first = entry_answers terms (replies terms.schema) end s.feed entry m in
      let rest = entries_answers terms (replies terms.schema) end (after_entry terms s entry m) entries ms in
      let each = or_none (list_any is_lacking first) (list_any is_lacking rest) (sym (list_any-append is_lacking first rest) ∙ none) in
      none_both (lacks m) (list_any lacks ms) (entry_has end s.feed entry m each.0) (entries_have end (after_entry terms s entry m) entries ms marked.1 each.1)

  -- where no answer lacks memory, no line of the record does
  pub rounds_have : (s : Standing) (rounds : List (List Entry)) (told : Record) → IsRecordFrom terms s rounds told
      → list_any is_lacking (rounds_answers terms (replies terms.schema) s rounds told) ≡ false → AllByRecursion HasAll told
  rounds_have s [] [] is none = tt
  rounds_have s [] (one ∷ told) is none = absurd is
  rounds_have s (round ∷ rounds) [] is none = absurd is
  rounds_have s (round ∷ rounds) (one ∷ told) is none =
      let last = after_entries terms s round one.marks in
      let lines = entries_answers terms (replies terms.schema) (at_end one last) s round one.marks in
      let stacks = tidy_answers (made last.feed) one.untidied last.covers in
      let first = round_answers terms (replies terms.schema) s round one in
      let rest = rounds_answers terms (replies terms.schema) (after_round terms s round one) rounds told in
      let each = or_none (list_any is_lacking first) (list_any is_lacking rest) (sym (list_any-append is_lacking first rest) ∙ none) in
      let here = or_none (list_any is_lacking lines) (list_any is_lacking stacks) (sym (list_any-append is_lacking lines stacks) ∙ each.0) in
      (entries_have (at_end one last) s round one.marks is.0.marked here.0, rounds_have (after_round terms s round one) rounds told is.1 each.1)
