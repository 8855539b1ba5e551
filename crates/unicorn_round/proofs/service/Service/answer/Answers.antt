use Rattle.std.proofs.Common.{rules, ◌≡◌, ◌+◌, ◌++◌, ◌∷◌, [], true, length, refl, sym, ap, subst, ◌∙◌, arith}
use Rattle.std.proofs.lemmas.List.{with_items_is}
use Rattle.std.specs.List.{All, AllByRecursion}
use Rattle.std.specs.Vec.{vec_len}
use Rattle.round_feed.specs.Feeds.{Feed}
use Rattle.version_catalog.specs.Seats.{compactor_installs, feeder_journal, settings_of}
use Rattle.round_feed.specs.Seats.{terms_of}
use Rattle.session_asks.specs.Seats.{AllHaveTaken}
use Rattle.session_asks.proofs.Replied.{length_prefix}
use Rattle.unicorn_round.specs.Ending.{IsEnded, covers_between}
use Rattle.unicorn_round.specs.Parted.{IsFor, IsParted}
use Rattle.unicorn_round.specs.Served.{IsServed}
use Rattle.unicorn_round.specs.Told.{AreWithin, stacks_told}
use Rattle.unicorn_round.specs.Weaving.{is_compaction}
use Rattle.unicorn_round.proofs.Told.{all_chosen_pass, compacted_told}
use Rattle.unicorn_round.specs.Service.{IsIdle}
use Rattle.unicorn_round.specs.Work.{MayAsk}
use Rattle.unicorn_round.proofs.PartedLines.{all_of, each_for}
use Rattle.unicorn_round.proofs.ReadyService.{asked_idle, few_publishes, may_ask, may_compact, may_feed, may_tidy, few_parts}
use Rattle.unicorn_round.proofs.ServedRounds.{served_round}
use Rattle.unicorn_round.proofs.service.Service.answer.Goals as goal

pub of-requires : goal.of-requires
of-requires g c =
    let terms = terms_of c.args.self.catalogue in
    let long : vec_len c.args.self.sessions ≡ length c.args.self.sessions.items = search rules in
    subst (λ n. All (IsFor n) c.args.items) (sym (c.len.ensures ∙ long ∙ c.requires.may.ready.count)) (all_of (IsFor terms.limits.sessions) c.args.items (each_for terms c.args.items c.requires.may.fit))

pub run_round-requires-clause-feeder : goal.run_round-requires-clause-feeder
run_round-requires-clause-feeder g c κs within =
    let catalogue = c.args.self.catalogue in let may = c.requires.may in let ready = may.ready in let parts = c.in_ok-parts.parts in
    let long : vec_len c.args.self.sessions ≡ length c.args.self.sessions.items = search rules in
    let parted : IsParted (terms_of catalogue).limits.sessions c.args.items parts = subst (λ n. IsParted n c.args.items parts) (c.len.ensures ∙ long ∙ ready.count) (c.in_ok-parts.ensures {u = tt}) in
    may_feed catalogue c.args.items parts may.lines c.args.self.feeder ready.feeder ready.fed may.few may.fit parted

pub run_round-requires-clause-compactor : goal.run_round-requires-clause-compactor
run_round-requires-clause-compactor g c κs within =
    let catalogue = c.args.self.catalogue in let may = c.requires.may in let ready = may.ready in let parts = c.in_ok-parts.parts in
    let long : vec_len c.args.self.sessions ≡ length c.args.self.sessions.items = search rules in
    let parted : IsParted (terms_of catalogue).limits.sessions c.args.items parts = subst (λ n. IsParted n c.args.items parts) (c.len.ensures ∙ long ∙ ready.count) (c.in_ok-parts.ensures {u = tt}) in
    may_compact catalogue c.args.items parts may.lines c.args.self.compactor ready.compactor ready.compacted may.few may.fit parted

pub run_round-requires-clause-sessions : goal.run_round-requires-clause-sessions
run_round-requires-clause-sessions g c κs within =
    let catalogue = c.args.self.catalogue in let may = c.requires.may in let ready = may.ready in let parts = c.in_ok-parts.parts in
    let long : vec_len c.args.self.sessions ≡ length c.args.self.sessions.items = search rules in
    let parted : IsParted (terms_of catalogue).limits.sessions c.args.items parts = subst (λ n. IsParted n c.args.items parts) (c.len.ensures ∙ long ∙ ready.count) (c.in_ok-parts.ensures {u = tt}) in
    subst (MayAsk catalogue parts.asks.items) (sym c.as_mut_slice.ensures.value)
    (may_ask catalogue c.args.items parts may.lines c.args.self.sessions.items c.within_has_shares.ensures ready.sessions ready.count may.few may.fit parted)

pub end_round-requires-clause-few : goal.end_round-requires-clause-few
end_round-requires-clause-few g c κs within =
    let catalogue = c.args.self.catalogue in let ready = c.requires.may.ready in
    let few = few_publishes catalogue c.args.items c.in_ok-parts.parts c.requires.may.lines c.args.self.feeder c.run_round.new.feeder c.in_ok-answers.answers.fed ready.publishes c.in_ok-answers.ensures.answered.fed in
    omega (arith, few, ready.standard.publishes)

pub end_round-requires-clause-compactor : goal.end_round-requires-clause-compactor
end_round-requires-clause-compactor g c κs within =
    let catalogue = c.args.self.catalogue in let may = c.requires.may in let ready = may.ready in let parts = c.in_ok-parts.parts in
    let long : vec_len c.args.self.sessions ≡ length c.args.self.sessions.items = search rules in
    let parted : IsParted (terms_of catalogue).limits.sessions c.args.items parts = subst (λ n. IsParted n c.args.items parts) (c.len.ensures ∙ long ∙ ready.count) (c.in_ok-parts.ensures {u = tt}) in
    may_tidy catalogue c.args.items parts may.lines c.args.self.compactor c.run_round.new.compactor ready.compacted may.few parted c.run_round.ensures.compactor

pub end_round-requires-clause-within : goal.end_round-requires-clause-within
end_round-requires-clause-within g c κs within =
    let catalogue = c.args.self.catalogue in let may = c.requires.may in let ready = may.ready in let parts = c.in_ok-parts.parts in
    let long : vec_len c.args.self.sessions ≡ length c.args.self.sessions.items = search rules in
    let parted : IsParted (terms_of catalogue).limits.sessions c.args.items parts = subst (λ n. IsParted n c.args.items parts) (c.len.ensures ∙ long ∙ ready.count) (c.in_ok-parts.ensures {u = tt}) in
    let all : AllByRecursion (λ item. is_compaction item ≡ true) parts.compactions = subst (AllByRecursion (λ item. is_compaction item ≡ true)) (sym parted.compactions) (all_chosen_pass is_compaction c.args.items) in
    let up = length_prefix (feeder_journal c.args.self.feeder) (feeder_journal c.run_round.new.feeder) c.run_round.ensures.feeder.later in
    let both = compacted_told (settings_of catalogue).schema (length (feeder_journal c.args.self.feeder)) (length (feeder_journal c.run_round.new.feeder)) (compactor_installs c.args.self.compactor) parts.compactions c.in_ok-answers.answers.compacted
    all up ready.within c.in_ok-answers.ensures.answered.compacted in
    subst (AreWithin (length (feeder_journal c.run_round.new.feeder))) (sym c.in_ok-answers.ensures.installed) both.1

pub returns : goal.returns
returns g c =
    let catalogue = c.args.self.catalogue in let may = c.requires.may in let ready = may.ready in let parts = c.in_ok-parts.parts in
    let long : vec_len c.args.self.sessions ≡ length c.args.self.sessions.items = search rules in
    let parted : IsParted (terms_of catalogue).limits.sessions c.args.items parts = subst (λ n. IsParted n c.args.items parts) (c.len.ensures ∙ long ∙ ready.count) (c.in_ok-parts.ensures {u = tt}) in
    let few = few_parts catalogue c.args.items parts may.lines parted in
    let taken = subst (λ olds. AllHaveTaken catalogue olds c.run_round.new.sessions parts.asks.items) c.as_mut_slice.ensures.value c.run_round.ensures.sessions in
    record {
      is_under = refl;
      ready = λ n is.
          let asked = asked_idle catalogue c.args.items parts n c.args.self.sessions.items c.run_round.new.sessions is.sessions is.count parted taken in
          let whole = with_items_is c.args.self.sessions c.run_round.new.sessions (asked.1 ∙ sym is.count ∙ sym c.args.self.sessions.ok.0) in
          record {
            standard = is.standard;
            feeder = c.end_round.ensures.feeder.of;
            fed = omega (arith, is.fed, c.run_round.ensures.feeder.few, few.0, c.end_round.ensures.feeder.turns);
            publishes = omega (arith, few_publishes catalogue c.args.items parts n c.args.self.feeder c.run_round.new.feeder c.in_ok-answers.answers.fed is.publishes c.in_ok-answers.ensures.answered.fed, ap (λ (f : Feed). length f.journal) c.end_round.ensures.feeder.feed);
            compactor = c.end_round.ensures.compactor.of;
            compacted = omega (arith, is.compacted, c.run_round.ensures.compactor.few, c.end_round.ensures.compactor.few, few.1);
            sessions = subst (AllByRecursion (IsIdle catalogue (n + length c.args.items + 1))) (sym whole) asked.0;
            count = ap length whole ∙ asked.1;
            within = c.in_ok-said.ensures.within;
          };
      stands = λ entries rounds before of served.
          let schema = (settings_of catalogue).schema in
          let answers = c.in_ok-answers.answers in
          let feed = c.end_round.ensures.feeder.feed in
          let old = stacks_told schema (compactor_installs c.args.self.compactor) in
          let new = stacks_told schema (compactor_installs c.end_round.new.compactor) in
          let all : AllByRecursion (λ item. is_compaction item ≡ true) parts.compactions = subst (AllByRecursion (λ item. is_compaction item ≡ true)) (sym parted.compactions) (all_chosen_pass is_compaction c.args.items) in
          let up = length_prefix (feeder_journal c.args.self.feeder) (feeder_journal c.run_round.new.feeder) c.run_round.ensures.feeder.later in
          let both = compacted_told schema (length (feeder_journal c.args.self.feeder)) (length (feeder_journal c.run_round.new.feeder)) (compactor_installs c.args.self.compactor) parts.compactions answers.compacted
          all up ready.within c.in_ok-answers.ensures.answered.compacted in
          let between : stacks_told schema (compactor_installs c.run_round.new.compactor) ≡ covers_between old parts answers = ap (stacks_told schema) c.in_ok-answers.ensures.installed ∙ sym both.0 in
          let ended = subst (λ mid. IsEnded (length (feeder_journal c.run_round.new.feeder)) mid new parts answers c.in_ok-said.said) between
          (subst (λ n. IsEnded n (stacks_told schema (compactor_installs c.run_round.new.compactor)) new parts answers c.in_ok-said.said) (ap (λ (f : Feed). length f.journal) feed) c.in_ok-said.ensures.ended) in
          subst (λ f. IsServed (terms_of catalogue) (rounds ++ entries ∷ []) f new (before ++ c.in_ok-said.said)) (sym feed)
          (served_round catalogue parts answers c.args.self.feeder c.run_round.new.feeder old new entries c.args.items rounds before c.in_ok-said.said may.from may.to
          of may.fit may.rise parted c.in_ok-answers.ensures.answered up ended served);
    }
