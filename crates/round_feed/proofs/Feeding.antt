-- Lines of the feed, and one line more.
use Rattle.std.proofs.Common.{◌≡◌, ◌+◌, ◌<◌, ℕ, List, [], ◌∷◌, ◌++◌, length, Option, None, Some, option_to_list, take, get_or, ap, sym, subst, ◌∙◌, arith, append-nil, length-append}
use Rattle.reply_text.specs.declared.answer.Answer.{Answer}
use Rattle.script_rounds.specs.Entries.{Entry}
use Rattle.script_rounds.specs.Terms.{Terms}
use Rattle.script_rounds.specs.declared.item.Item.{Item}
use Rattle.round_feed.specs.Fed.{IsFed, feed_entry, feed_entries, fed_answers}
use Rattle.round_feed.specs.FedLine.{IsFedLine, mark_of}
use Rattle.round_feed.specs.Feeds.{Feed, fed_one}
use Rattle.round_feed.specs.Steps.{after, given}
use Rattle.round_feed.proofs.Items.{filter_map-more, items-more}
use Rattle.round_feed.proofs.Steps.{after-snoc, given-snoc}

-- one line more
pub is_fed_more : (terms : Terms) (old now new : Feed) (items : List Item) (item : Item) (answers : List Answer) (answer : Option Answer) → IsFed terms old items answers now
    → IsFedLine terms now (feed_entry item) answer new → IsFed terms old (items ++ item ∷ []) (answers ++ option_to_list answer) new
is_fed_more terms old now new items item answers answer fed line = by (feed_entry item) (filter_map-more feed_entry items item) line
  where
    by : (found : Option Entry) → feed_entries (items ++ item ∷ []) ≡ feed_entries items ++ option_to_list found → IsFedLine terms now found answer new
        → IsFed terms old (items ++ item ∷ []) (answers ++ option_to_list answer) new
    by None entries line =
        let same : feed_entries (items ++ item ∷ []) ≡ feed_entries items = entries ∙ append-nil (feed_entries items) in
        record {
          lacks = fed.lacks;
          one_each = fed.one_each ∙ sym (ap length same);
          answered = ap (λ a. answers ++ option_to_list a) line.0 ∙ append-nil answers ∙ fed.answered
              ∙ sym (ap (λ es. given (fed_one terms) (fed_answers terms) old es fed.lacks) same);
          after = line.1 ∙ fed.after ∙ sym (ap (λ es. after (fed_one terms) old es fed.lacks) same);
        }
    by (Some entry) entries line =
        let mark = mark_of answer in
        record {
          lacks = fed.lacks ++ mark ∷ [];
          one_each = omega (arith, fed.one_each, ap length entries, length-append fed.lacks (mark ∷ []), length-append (feed_entries items) (entry ∷ []));
          answered = ap (λ front. front ++ option_to_list answer) fed.answered
              ∙ ap (λ last. given (fed_one terms) (fed_answers terms) old (feed_entries items) fed.lacks ++ last) (line.0 ∙ ap (λ f. fed_answers terms f entry mark) fed.after)
              ∙ sym (given-snoc (fed_one terms) (fed_answers terms) old (feed_entries items) fed.lacks entry mark fed.one_each)
              ∙ sym (ap (λ es. given (fed_one terms) (fed_answers terms) old es (fed.lacks ++ mark ∷ [])) entries);
          after = line.1 ∙ ap (λ f. fed_one terms f entry mark) fed.after
              ∙ sym (after-snoc (fed_one terms) old (feed_entries items) fed.lacks entry mark fed.one_each)
              ∙ sym (ap (λ es. after (fed_one terms) old es (fed.lacks ++ mark ∷ [])) entries);
        }

-- the lines before a place, and the one at it
pub is_fed_next : (terms : Terms) (old now new : Feed) (items slice : List Item) (i : ℕ) (item : Item) (answers more : List Answer) (answer : Option Answer)
    → slice ≡ items → i < length slice → item ≡ get_or slice i item → more ≡ answers ++ option_to_list answer → IsFed terms old (take i items) answers now
    → IsFedLine terms now (feed_entry item) answer new → IsFed terms old (take (i + 1) items) more new
is_fed_next terms old now new items slice i item answers more answer same below is all fed line =
    subst (λ xs. IsFed terms old xs more new) (sym (items-more items slice i item same below is))
    (subst (λ xs. IsFed terms old (take i items ++ item ∷ []) xs new) (sym all) (is_fed_more terms old now new (take i items) item answers answer fed line))
