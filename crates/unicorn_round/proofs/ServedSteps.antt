-- SerialState, round by round.
use Rattle.std.proofs.Common.{◌≡◌, ◌≤◌, ℕ, Bool, List, [], ◌∷◌, ◌++◌, length, map, refl, ap, sym, ◌∙◌, subst, arith, append-nil, append_assoc}
use Rattle.reply_text.specs.declared.answer.Answer.{Answer}
use Rattle.script_rounds.specs.declared.item.Item.{Item}
use Rattle.script_rounds.specs.Entries.{Entry}
use Rattle.script_rounds.specs.Terms.{Terms}
use Rattle.round_feed.specs.Fed.{feed_entries}
use Rattle.round_feed.specs.Feeds.{Feed, opening_feed, made, fed_one}
use Rattle.round_feed.specs.Steps.{after}
use Rattle.unicorn_round.specs.declared.stacks.StackCover.{StackCover}
use Rattle.unicorn_round.specs.Answers.{Standing, opening_standing, after_entries, after_round, at_end, answers, entries_answers, round_answers, replies}
use Rattle.unicorn_round.specs.Legal.{IsMade, AreWithin, Between, numbers_in, all_numbers, asks_in, compacts}
use Rattle.unicorn_round.specs.Marks.{StackName, RoundRecord, Record}
use Rattle.unicorn_round.specs.Records.{IsRoundRecord}
use Rattle.unicorn_round.specs.Served.{IsServed}
use Rattle.unicorn_round.specs.Stacks.{opening_stacks, due_untidied, tidy, tidy_answers}
use Rattle.unicorn_round.specs.Weaving.{compactions, compacted_covers, feed_items, merged, shown_at, slot_of}
use Rattle.round_feed.proofs.Steps.{after-snoc, given-snoc, each-length, each-snoc}
use Rattle.unicorn_round.proofs.PlainLegal.{between_append}
use Rattle.unicorn_round.proofs.Weaving.{Woven}

-- nothing was served yet
pub served_nothing : (terms : Terms) → IsServed terms [] opening_feed (opening_stacks terms.schema) []
served_nothing terms = record {
  told = [];
  is_record = tt;
  made = tt;
  sessions = λ session. none;
  stacks = λ vertical shard replica. none;
  stands = refl;
  says = refl;
}
  where
    none : 0 ≤ 0
    none = omega arith

-- the numbers of one round more
all_numbers-snoc : (test : Entry → Bool) (rounds : List (List Entry)) (told : Record) (entries : List Entry) (one : RoundRecord) → length told ≡ length rounds
    → all_numbers test (rounds ++ entries ∷ []) (told ++ one ∷ []) ≡ all_numbers test rounds told ++ numbers_in test entries one.marks
all_numbers-snoc test [] [] entries one same = append-nil (numbers_in test entries one.marks)
all_numbers-snoc test [] (t ∷ told) entries one same = absurd (omega (arith, same))
all_numbers-snoc test (round ∷ rounds) [] entries one same = absurd (omega (arith, same))
all_numbers-snoc test (round ∷ rounds) (t ∷ told) entries one same =
    ap (λ rest. numbers_in test round t.marks ++ rest) (all_numbers-snoc test rounds told entries one (omega (arith, same)))
    ∙ sym (append_assoc (numbers_in test round t.marks) (all_numbers test rounds told) (numbers_in test entries one.marks))

-- one round more
pub served_more : (terms : Terms) (rounds : List (List Entry)) (entries : List Entry) (items : List Item) (lacks : List Bool) (fed : List Answer) (asked : ℕ → List Answer) (compacted : List Answer)
    (feed feed_after : Feed) (covers covers_after : List StackCover) (untidied : List StackName) (said more : List Answer)
    → IsServed terms rounds feed covers said
    → Woven terms (record { feed = feed; covers = covers }) entries items lacks fed asked compacted (made feed) (record { feed = feed_after; covers = covers_after })
    → feed_after ≡ after (fed_one terms) feed (feed_entries (feed_items items)) lacks
    → untidied ≡ due_untidied (made feed_after) untidied (compacted_covers covers (compactions items) compacted)
    → covers_after ≡ map (tidy (made feed_after) untidied) (compacted_covers covers (compactions items) compacted)
    → more ≡ merged (shown_at (record { feed = feed_after; covers = covers_after })) (map slot_of items) fed asked compacted
    ++ tidy_answers (made feed_after) untidied (compacted_covers covers (compactions items) compacted)
    → IsServed terms (rounds ++ entries ∷ []) feed_after covers_after (said ++ more)
served_more terms rounds entries items lacks fed asked compacted feed feed_after covers covers_after untidied said more s w fed_is untidied_is covers_are says = record {
  told = s.told ++ one ∷ [];
  is_record = each-snoc (after_round terms) (IsRoundRecord terms) (opening_standing terms) rounds s.told entries one s.is_record
      (subst (λ now. IsRoundRecord terms now entries one) (sym s.stands) (record {
        marked = w.marked;
        untidied = untidied_is ∙ ap (λ (at : Standing). due_untidied (made at.feed) untidied at.covers) (sym last_is);
      }));
  made = each-snoc (after_round terms) (IsMade terms) (opening_standing terms) rounds s.told entries one s.made
      (subst (λ now. IsMade terms now entries one) (sym s.stands) (subst (λ f. AreWithin (made feed) (made f) w.marks) (sym feed_is) w.within));
  sessions = λ session. numbers (asks_in session) (s.sessions session) (w.sessions session);
  stacks = λ vertical shard replica. numbers (compacts vertical shard replica) (s.stacks vertical shard replica) (w.stacks vertical shard replica);
  stands =
      after-snoc (after_round terms) (opening_standing terms) rounds s.told entries one each
      ∙ ap (λ now. after_round terms now entries one) s.stands
      ∙ ended_is;
  says =
      ap (λ t. t ++ more) s.says
      ∙ ap (λ t. answers terms rounds s.told ++ t) (says ∙ round_is)
      ∙ ap (λ now. answers terms rounds s.told ++ round_answers terms (replies terms.schema) now entries one) (sym s.stands)
      ∙ sym (given-snoc (after_round terms) (round_answers terms (replies terms.schema)) (opening_standing terms) rounds s.told entries one each);
}
  where
    start : Standing
    start = record { feed = feed; covers = covers }

    end : Standing
    end = record { feed = feed_after; covers = covers_after }

    one : RoundRecord
    one = record { marks = w.marks; untidied = untidied }

    last : Standing
    last = after_entries terms start entries w.marks

    done : List StackCover
    done = compacted_covers covers (compactions items) compacted

    each : length s.told ≡ length rounds
    each = each-length (after_round terms) (IsRoundRecord terms) (opening_standing terms) rounds s.told s.is_record

    feed_is : last.feed ≡ feed_after
    feed_is = w.feed ∙ sym fed_is

    last_is : last ≡ record { feed = feed_after; covers = done }
    last_is =
        ap (λ f. record { feed = f; covers = last.covers }) feed_is
        ∙ ap (λ cs. record { feed = feed_after; covers = cs }) w.covers

    ended_is : at_end one last ≡ end
    ended_is = ap (at_end one) last_is ∙ ap (λ cs. record { feed = feed_after; covers = cs }) (sym covers_are)

    round_is : merged (shown_at end) (map slot_of items) fed asked compacted ++ tidy_answers (made feed_after) untidied done ≡ round_answers terms (replies terms.schema) start entries one
    round_is =
        ap (λ xs. xs ++ tidy_answers (made feed_after) untidied done) w.answers
        ∙ ap (λ at. entries_answers terms (replies terms.schema) at start entries w.marks ++ tidy_answers (made feed_after) untidied done) (sym ended_is)
        ∙ ap (λ (at : Standing). entries_answers terms (replies terms.schema) (at_end one last) start entries w.marks ++ tidy_answers (made at.feed) untidied at.covers) (sym last_is)

    numbers : (test : Entry → Bool) → Between 0 (made feed) (all_numbers test rounds s.told) → Between (made feed) (made feed_after) (numbers_in test entries w.marks)
        → Between 0 (made feed_after) (all_numbers test (rounds ++ entries ∷ []) (s.told ++ one ∷ []))
    numbers test before now =
        subst (Between 0 (made feed_after)) (sym (all_numbers-snoc test rounds s.told entries one each))
        (between_append 0 (made feed) (made feed_after) (all_numbers test rounds s.told) (numbers_in test entries w.marks) before now)
