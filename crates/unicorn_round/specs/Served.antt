-- Rounds that were served: where the service stands behind them, and their answers.
use Rattle.std.specs.Prelude.{ℕ, ◌≡◌, List}
use Rattle.reply_text.specs.declared.answer.Answer.{Answer}
use Rattle.script_rounds.specs.Entries.{Entry}
use Rattle.script_rounds.specs.Terms.{Terms}
use Rattle.round_feed.specs.Feeds.{Feed}
use Rattle.unicorn_round.specs.declared.stacks.StackCover.{StackCover}
use Rattle.unicorn_round.specs.Answers.{opening_standing, after_rounds, answers}
use Rattle.unicorn_round.specs.Legal.{AreMade, Between, all_numbers, asks_in, compacts}
use Rattle.unicorn_round.specs.Marks.{Record}
use Rattle.unicorn_round.specs.Records.{IsRecord}
use Rattle.round_feed.specs.Feeds.{made as made_by}

-- What is said answers rounds for a record of them, of which no number is above the publishes that were made, and the
-- feed and the stacks stand as the record leaves them.
pub record IsServed (terms : Terms) (rounds : List (List Entry)) (feed : Feed) (covers : List StackCover) (said : List Answer) : Type 0 where
  pub told : Record
  pub is_record : IsRecord terms rounds told
  pub made : AreMade terms (opening_standing terms) rounds told
  pub sessions : (session : ℕ) → Between 0 (made_by feed) (all_numbers (asks_in session) rounds told)
  pub stacks : (vertical shard replica : ℕ) → Between 0 (made_by feed) (all_numbers (compacts vertical shard replica) rounds told)
  pub stands : after_rounds terms (opening_standing terms) rounds told ≡ record { feed = feed; covers = covers }
  pub says : said ≡ answers terms rounds told
