-- What serving says of its text.
use Rattle.std.specs.Prelude.{ℕ, ◌≡◌, List, [], ◌∷◌}
use Rattle.std.proofs.Common.{refl, ap, ◌∙◌}
use Rattle.reply_text.specs.declared.answer.Answer.{Answer}
use Rattle.reply_text.specs.Printed.{answers_text}
use Rattle.script_rounds.specs.Entries.{Entry}
use Rattle.script_rounds.specs.Terms.{Terms}
use Rattle.round_feed.specs.Feeds.{Feed, made}
use Rattle.unicorn_round.specs.declared.stacks.StackCover.{StackCover}
use Rattle.unicorn_round.specs.Legal.{Between, Legal, NoneFalls, all_numbers, asks_in, compacts}
use Rattle.unicorn_round.specs.Modes.{Serves}
use Rattle.unicorn_round.specs.Served.{IsServed}

pub between_falls : (low high : ℕ) (ns : List ℕ) → Between low high ns → NoneFalls ns
between_falls low high [] b = tt
between_falls low high (n ∷ []) b = tt
between_falls low high (n ∷ m ∷ ns) b = (b.1.0, between_falls n high (m ∷ ns) b.1)

pub served_legal : (terms : Terms) (rounds : List (List Entry)) (feed : Feed) (covers : List StackCover) (said : List Answer) (s : IsServed terms rounds feed covers said) → Legal terms rounds s.told
served_legal terms rounds feed covers said s = record {
  made = s.made;
  sessions = λ session. between_falls 0 (made feed) (all_numbers (asks_in session) rounds s.told) (s.sessions session);
  stacks = λ vertical shard replica. between_falls 0 (made feed) (all_numbers (compacts vertical shard replica) rounds s.told) (s.stacks vertical shard replica);
}

pub served_claims : (terms : Terms) (rounds : List (List Entry)) (feed : Feed) (covers : List StackCover) (said : List Answer) (text : List ℕ) → IsServed terms rounds feed covers said → text ≡ answers_text terms.schema said → Serves terms rounds text
served_claims terms rounds feed covers said text s writes = record {
  told = s.told;
  is_record = s.is_record;
  legal = served_legal terms rounds feed covers said s;
  writes = writes ∙ ap (answers_text terms.schema) s.says;
}

pub serves_nothing : (of : Terms) → Serves of [] []
serves_nothing of = record { told = []; is_record = tt; legal = record { made = tt; sessions = λ session. tt; stacks = λ vertical shard replica. tt }; writes = refl }
