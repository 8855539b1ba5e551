-- Answering line by line: each entry by itself.
use Rattle.std.proofs.Common.{◌≡◌, ◌+◌, ◌≤◌, ◌<◌, ℕ, true, false, List, [], ◌∷◌, ◌++◌, None, Some, is_some, if◌then◌else◌, nat_lt, refl, ap, sym, ◌∙◌, subst, arith, length-append}
use Rattle.std.proofs.lemmas.Bool.Decides.{nat_tests}
use Rattle.uni_schema.specs.Schema.{Declarations}
use Rattle.uni_table.specs.declared.command.Command.{Command}
use Rattle.uni_table.specs.declared.refusal.FeedRefusal.{FeedRefusal}
use Rattle.uni_table.specs.Commands.{next, refuses}
use Rattle.uni_table.specs.Contents.{ended}
use Rattle.uni_table.specs.Journals.{after_commands, fold_of, first}
use Rattle.uni_table.specs.Refusals.{code_of}
use Rattle.query_check.specs.Plan.{Plan}
use Rattle.uni_meaning.specs.Replies.{reply_of}
use Rattle.reply_text.specs.declared.answer.Answer.TheVariants.{Published, Reply, Compacted, Stats, Refused, Fault, QueryFault, Memory}
use Rattle.reply_text.specs.declared.answer.StackRow.{StackRow}
use Rattle.script_rounds.specs.Entries.{Entry, change, publish, ask, compact, stats, refused, fault, query_fault, reads_query, line_of}
use Rattle.script_rounds.specs.Terms.{Terms}
use Rattle.unicorn_round.specs.Answers.{Standing, after_entry, entry_answers, replies}
use Rattle.round_feed.specs.Feeds.{made, changed, published, publish_answers, refusal_answers, too_many_publishes}
use Rattle.unicorn_round.specs.Marks.{lacking}
use Rattle.unicorn_round.specs.Plain.{plain_mark}
use Rattle.unicorn_round.specs.SerialState.{SerialState, IsPending, StandsFor, Answered}
use Rattle.unicorn_round.specs.Records.{IsMarked}
use Rattle.unicorn_round.specs.Stacks.{covering}
use Rattle.unicorn_round.proofs.JournalSteps.{after_commands-snoc, accepts_commands-snoc, fold_of-snoc, first-later}

pub lt_true : (a b : ℕ) → a < b → nat_lt a b ≡ true
lt_true a b below = grind (arith, nat_tests)

pub lt_false : (a b : ℕ) → b ≤ a → nat_lt a b ≡ false
lt_false a b above = grind (arith, nat_tests)

-- an entry that has no effect
stays : (serving : SerialState) (s : Standing) → StandsFor serving s → StandsFor serving (record { feed = s.feed; covers = s.covers })
stays serving s st = record {
  pending = st.pending;
  batch = st.batch;
  published = st.published;
  publishes = st.publishes;
  covers = st.covers;
  feed = st.feed;
}

-- a change that is taken
pub change_taken : (old new : SerialState) (s : Standing) (line : ℕ) (command : Command) → StandsFor old s
    → refuses old.terms.schema old.terms.limits old.pending command ≡ None
    → new ≡ record old { pending = next old.terms.schema old.pending command; batch = old.batch ++ command ∷ [] }
    → Answered old.terms s (change line command) new []
change_taken old new s line command st none is =
    subst (λ n. Answered old.terms s (change line command) n []) (sym is) (record {
      lacks = false;
      marked = tt;
      stands = subst (λ f. StandsFor (record old { pending = next old.terms.schema old.pending command; batch = old.batch ++ command ∷ [] }) (record { feed = f; covers = s.covers })) (sym taken) (record {
        pending = ap (λ t. next old.terms.schema t command) st.pending;
        batch = ap (λ b. b ++ command ∷ []) st.batch;
        published = st.published;
        publishes = st.publishes;
        covers = st.covers;
        feed = record {
          table = ap (λ t. next old.terms.schema t command) st.feed.table ∙ sym (after_commands-snoc old.terms.schema (fold_of old.terms.schema s.feed.journal) s.feed.batch command);
          accepted = accepts_commands-snoc old.terms.schema old.terms.limits (fold_of old.terms.schema s.feed.journal) s.feed.batch command st.feed.accepted
              (ap (λ t. refuses old.terms.schema old.terms.limits t command) (sym st.feed.table) ∙ here);
        };
      });
      answers = λ end later. sym (ap (refusal_answers line) here);
    })
  where
    here : refuses old.terms.schema old.terms.limits s.feed.table command ≡ None
    here = ap (λ t. refuses old.terms.schema old.terms.limits t command) (sym st.pending) ∙ none

    taken : changed old.terms s.feed command ≡ record { journal = s.feed.journal; batch = s.feed.batch ++ command ∷ []; table = next old.terms.schema s.feed.table command }
    taken =
        ap (λ r. if is_some r then s.feed else record { journal = s.feed.journal; batch = s.feed.batch ++ command ∷ []; table = next old.terms.schema s.feed.table command }) here

-- a change that is refused, with its code
pub change_refused : (serving : SerialState) (s : Standing) (line : ℕ) (command : Command) (refusal : FeedRefusal) (code : ℕ) → StandsFor serving s
    → refuses serving.terms.schema serving.terms.limits serving.pending command ≡ Some refusal → code_of refusal ≡ Some code
    → Answered serving.terms s (change line command) serving (Refused line code ∷ [])
change_refused serving s line command refusal code st some is = record {
  lacks = false;
  marked = tt;
  stands = subst (λ f. StandsFor serving (record { feed = f; covers = s.covers })) (sym same) (stays serving s st);
  answers = λ end later. sym (ap (refusal_answers line) here ∙ coded);
}
  where
    here : refuses serving.terms.schema serving.terms.limits s.feed.table command ≡ Some refusal
    here = ap (λ t. refuses serving.terms.schema serving.terms.limits t command) (sym st.pending) ∙ some

    same : changed serving.terms s.feed command ≡ s.feed
    same =
        ap (λ r. if is_some r then s.feed else record { journal = s.feed.journal; batch = s.feed.batch ++ command ∷ []; table = next serving.terms.schema s.feed.table command }) here

    coded : refusal_answers line (Some refusal) ≡ Refused line code ∷ []
    coded = rw is refl

-- an entry for which memory was wanting has no effect
-- memory may be wanting for an entry that reads a query
pub reading_lacks : (entry : Entry) → reads_query entry ≡ true → IsMarked entry lacking
reading_lacks (ask line session viewer limit query) reads = tt
reading_lacks (query_fault line code column) reads = tt
reading_lacks entry reads = absurd cc

pub after_lacking : (terms : Terms) (s : Standing) (entry : Entry) → after_entry terms s entry lacking ≡ s
after_lacking terms s (change line command) = refl
after_lacking terms s (publish line) = refl
after_lacking terms s (ask line session viewer limit query) = refl
after_lacking terms s (compact line vertical shard replica) = refl
after_lacking terms s (stats line) = refl
after_lacking terms s (refused line code) = refl
after_lacking terms s (fault line code) = refl
after_lacking terms s (query_fault line code column) = refl

-- so is one that reads a query, in an answering line by line
pub reading_may : (n : ℕ) (entry : Entry) → reads_query entry ≡ true → plain_mark n entry true ≡ lacking
reading_may n (ask line session viewer limit query) reads = refl
reading_may n (query_fault line code column) reads = refl
reading_may n entry reads = absurd cc

pub lacking_answered : (serving : SerialState) (s : Standing) (entry : Entry) → StandsFor serving s → IsMarked entry lacking → plain_mark (made s.feed) entry true ≡ lacking
    → Answered serving.terms s entry serving (Memory (line_of entry) ∷ [])
lacking_answered serving s entry st able may = record {
  lacks = true;
  marked = subst (IsMarked entry) (sym may) able;
  stands = subst (λ m. StandsFor serving (after_entry serving.terms s entry m)) (sym may) (subst (StandsFor serving) (sym (after_lacking serving.terms s entry)) st);
  answers = λ end later. sym (ap (entry_answers serving.terms (replies serving.terms.schema) end s.feed entry) may);
}

-- a query that was read without memory
pub unread_answered : (serving : SerialState) (s : Standing) (entry : Entry) (line : ℕ) → StandsFor serving s → (reads_query entry ≡ true) × (line_of entry ≡ line)
    → Answered serving.terms s entry serving (Memory line ∷ [])
unread_answered serving s entry line st is =
    subst (λ l. Answered serving.terms s entry serving (Memory l ∷ [])) is.1 (lacking_answered serving s entry st (reading_lacks entry is.0) (reading_may (made s.feed) entry is.0))

-- what is pending at a place in a script is the last version with the pending batch
pub is_pending : (serving : SerialState) (s : Standing) → StandsFor serving s → IsPending serving
is_pending serving s st =
    st.pending ∙ st.feed.table ∙ ap (λ t. after_commands serving.terms.schema t s.feed.batch) (sym st.published)
    ∙ ap (λ b. after_commands serving.terms.schema serving.published b) (sym st.batch)

-- a publish that makes a version
pub publish_made : (old new : SerialState) (s : Standing) (line : ℕ) → StandsFor old s → old.publishes < old.terms.limits.publishes
    → new ≡ record old {
      pending = ended old.pending (old.publishes + 1);
      batch = [];
      published = ended (after_commands old.terms.schema old.published old.batch) (old.publishes + 1);
      publishes = old.publishes + 1;
    }
    → Answered old.terms s (publish line) new (Published line (old.publishes + 1) ∷ [])
publish_made old new s line st fewer is =
    subst (λ n. Answered old.terms s (publish line) n (Published line (old.publishes + 1) ∷ [])) (sym is) (record {
      lacks = false;
      marked = tt;
      stands = subst (λ f. StandsFor after (record { feed = f; covers = s.covers })) (sym feed_is) (record {
        pending = pending_is;
        batch = refl;
        published = published_is;
        publishes = omega (arith, st.publishes, length-append s.feed.journal (s.feed.batch ∷ []));
        covers = st.covers;
        feed = record { table = sym pending_is ∙ same ∙ published_is; accepted = refl };
      });
      answers = λ end later. sym (answers_is ∙ ap (λ n. Published line (n + 1) ∷ []) (sym st.publishes));
    })
  where
    schema : Declarations
    schema = old.terms.schema

    after : SerialState
    after = record old {
      pending = ended old.pending (old.publishes + 1);
      batch = [];
      published = ended (after_commands old.terms.schema old.published old.batch) (old.publishes + 1);
      publishes = old.publishes + 1;
    }

    room : nat_lt (made s.feed) old.terms.limits.publishes ≡ true
    room = lt_true (made s.feed) old.terms.limits.publishes (omega (arith, fewer, st.publishes))

    feed_is : published old.terms s.feed ≡ record { journal = s.feed.journal ++ s.feed.batch ∷ []; batch = []; table = ended s.feed.table (made s.feed + 1) }
    feed_is = ap (λ b. if b then record { journal = s.feed.journal ++ s.feed.batch ∷ []; batch = []; table = ended s.feed.table (made s.feed + 1) } else s.feed) room

    answers_is : publish_answers old.terms s.feed line ≡ Published line (made s.feed + 1) ∷ []
    answers_is = ap (λ b. if b then Published line (made s.feed + 1) ∷ [] else Refused line too_many_publishes ∷ []) room

    pending_is : ended old.pending (old.publishes + 1) ≡ ended s.feed.table (made s.feed + 1)
    pending_is = ap (λ t. ended t (old.publishes + 1)) st.pending ∙ ap (λ n. ended s.feed.table (n + 1)) st.publishes

    commands_are : after_commands schema old.published old.batch ≡ after_commands schema (fold_of schema s.feed.journal) s.feed.batch
    commands_are = ap (λ t. after_commands schema t old.batch) st.published ∙ ap (after_commands schema (fold_of schema s.feed.journal)) st.batch

    published_is : ended (after_commands schema old.published old.batch) (old.publishes + 1) ≡ fold_of schema (s.feed.journal ++ s.feed.batch ∷ [])
    published_is =
        ap (λ t. ended t (old.publishes + 1)) commands_are
        ∙ ap (λ n. ended (after_commands schema (fold_of schema s.feed.journal) s.feed.batch) (n + 1)) st.publishes
        ∙ sym (fold_of-snoc schema s.feed.journal s.feed.batch)

    same : ended old.pending (old.publishes + 1) ≡ ended (after_commands schema old.published old.batch) (old.publishes + 1)
    same = ap (λ t. ended t (old.publishes + 1)) (st.pending ∙ st.feed.table ∙ sym commands_are)

-- a publish at the limit
pub publish_refused : (serving : SerialState) (s : Standing) (line : ℕ) → StandsFor serving s → serving.terms.limits.publishes ≤ serving.publishes
    → Answered serving.terms s (publish line) serving (Refused line too_many_publishes ∷ [])
publish_refused serving s line st full = record {
  lacks = false;
  marked = tt;
  stands = subst (λ f. StandsFor serving (record { feed = f; covers = s.covers })) (sym feed_is) (stays serving s st);
  answers = λ end later. sym answers_is;
}
  where
    room : nat_lt (made s.feed) serving.terms.limits.publishes ≡ false
    room = lt_false (made s.feed) serving.terms.limits.publishes (omega (arith, full, st.publishes))

    feed_is : published serving.terms s.feed ≡ s.feed
    feed_is = ap (λ b. if b then record { journal = s.feed.journal ++ s.feed.batch ∷ []; batch = []; table = ended s.feed.table (made s.feed + 1) } else s.feed) room

    answers_is : publish_answers serving.terms s.feed line ≡ Refused line too_many_publishes ∷ []
    answers_is = ap (λ b. if b then Published line (made s.feed + 1) ∷ [] else Refused line too_many_publishes ∷ []) room

-- a stack that is compacted
pub compact_answered : (old new : SerialState) (s : Standing) (line vertical shard replica : ℕ) → StandsFor old s
    → new ≡ record old { covers = covering vertical shard replica old.publishes old.covers }
    → Answered old.terms s (compact line vertical shard replica) new (Compacted line old.publishes ∷ [])
compact_answered old new s line vertical shard replica st is =
    subst (λ n. Answered old.terms s (compact line vertical shard replica) n (Compacted line old.publishes ∷ [])) (sym is) (record {
      lacks = false;
      marked = tt;
      stands = record {
        pending = st.pending;
        batch = st.batch;
        published = st.published;
        publishes = st.publishes;
        covers = ap (covering vertical shard replica old.publishes) st.covers ∙ ap (λ n. covering vertical shard replica n s.covers) st.publishes;
        feed = st.feed;
      };
      answers = λ end later. ap (λ n. Compacted line n ∷ []) st.publishes;
    })

-- a query that is answered over the last version
pub ask_answered : (serving : SerialState) (s : Standing) (line session viewer limit : ℕ) (query : Plan) → StandsFor serving s
    → Answered serving.terms s (ask line session viewer limit query) serving (Reply line (reply_of serving.terms.schema serving.published serving.publishes query viewer limit) ∷ [])
ask_answered serving s line session viewer limit query st = record {
  lacks = false;
  marked = tt;
  stands = stays serving s st;
  answers = λ end later.
      ap (λ t. Reply line (reply_of schema t serving.publishes query viewer limit) ∷ []) (st.published ∙ ap (fold_of schema) (sym (first-later s.feed.journal end.feed.journal later)))
      ∙ ap (λ n. Reply line (reply_of schema (fold_of schema (first end.feed.journal (made s.feed))) n query viewer limit) ∷ []) st.publishes;
}
  where
    schema : Declarations
    schema = serving.terms.schema

-- a line that is answered by what it is
pub stats_answered : (serving : SerialState) (s : Standing) (line : ℕ) (rows : List StackRow) → StandsFor serving s → Answered serving.terms s (stats line) serving (Stats line 0 rows ∷ [])
stats_answered serving s line rows st = record { lacks = false; marked = refl; stands = stays serving s st; answers = λ end later. refl }

pub refused_answered : (serving : SerialState) (s : Standing) (line code : ℕ) → StandsFor serving s → Answered serving.terms s (refused line code) serving (Refused line code ∷ [])
refused_answered serving s line code st = record { lacks = false; marked = refl; stands = stays serving s st; answers = λ end later. refl }

pub fault_answered : (serving : SerialState) (s : Standing) (line code : ℕ) → StandsFor serving s → Answered serving.terms s (fault line code) serving (Fault line code ∷ [])
fault_answered serving s line code st = record { lacks = false; marked = refl; stands = stays serving s st; answers = λ end later. refl }

pub query_fault_answered : (serving : SerialState) (s : Standing) (line code column : ℕ) → StandsFor serving s
    → Answered serving.terms s (query_fault line code column) serving (QueryFault line code column ∷ [])
query_fault_answered serving s line code column st = record { lacks = false; marked = tt; stands = stays serving s st; answers = λ end later. refl }
