use Rattle.std.proofs.Common.{ap, refl, sym, subst, ◌≡◌, ◌∙◌, [], Option, Some, codes}
use Rattle.std.specs.Prelude.{MatchOption, option_map, unwrap_or}
use Rattle.std.specs.Borrow.{Bor}
use Rattle.std.specs.Str.Parse.{ExplainsUnsignedError, HasUnsignedDigitsIfOk, ParsesUnsigned}
use Rattle.clap.specs.Matches.{found_of}
use Rattle.clap.specs.Walk.{Text}
use Rattle.clap.proofs.CallerLemmas.{some_of_text}
use Rattle.unicorn_words.specs.Asked.{mode_text}
use Rattle.unicorn_words.specs.declared.words.Mode.{Mode}
use Rattle.unicorn_words.proofs.Found.{is_number, mode_found, mode_given, people_read, seed_read, some_mode, workers_read}
use Rattle.unicorn_words.proofs.words.settings_in.Goals as goal

pub unwrap-name-requires : goal.unwrap-name-requires
unwrap-name-requires c =
    let given = mode_given c.requires.0 c.requires.1 c.args.matches.now c.requires.2 in
    some_of_text (λ (s : Bor Text). s.now) c.get_str.result (Some (mode_text given.0)) (c.get_str.ensures ∙ given.1) refl

pub unwrap-requires : goal.unwrap-requires
unwrap-requires c =
    let given = mode_given c.requires.0 c.requires.1 c.args.matches.now c.requires.2 in
    let same : Some c.unwrap-name.result.now ≡ Some (mode_text given.0) =
    ap (option_map (λ (s : Bor Text). s.now)) (sym c.unwrap-name.ensures) ∙ c.get_str.ensures ∙ given.1 in
    some_mode c.mode_named.result c.unwrap-name.result.now given.0 (ap (λ (o : Option Text). unwrap_or o []) same) c.mode_named.ensures

pub unwrap-requires-2 : goal.unwrap-requires-2
unwrap-requires-2 c =
    let n = workers_read (λ s r. ParsesUnsigned 32 10 s r × ExplainsUnsignedError 10 s r × HasUnsignedDigitsIfOk s r) (λ s x g. g.0)
    c.requires.0 c.requires.1 c.args.matches.now c.requires.2 c.get_one.result c.get_one.ensures.value in
    rw n.1 refl

pub unwrap-requires-3 : goal.unwrap-requires-3
unwrap-requires-3 c =
    let n = seed_read (λ s r. ParsesUnsigned 32 10 s r × ExplainsUnsignedError 10 s r × HasUnsignedDigitsIfOk s r) (λ s x g. g.0)
    c.requires.0 c.requires.1 c.args.matches.now c.requires.2 c.get_one-2.result c.get_one-2.ensures.value in
    rw n.1 refl

pub unwrap-requires-4 : goal.unwrap-requires-4
unwrap-requires-4 c =
    let n = people_read (λ s r. ParsesUnsigned 32 10 s r × ExplainsUnsignedError 10 s r × HasUnsignedDigitsIfOk s r) (λ s x g. g.0)
    c.requires.0 c.requires.1 c.args.matches.now c.requires.2 c.get_one-3.result c.get_one-3.ensures.value in
    rw n.1 refl

pub returns : goal.returns
returns c =
    let f = found_of c.args.matches.now in
    let mode = subst (λ (o : Option Mode). MatchOption o ((x : Mode) → c.unwrap-name.result.now ≡ mode_text x → ⊥) (λ x. c.unwrap-name.result.now ≡ mode_text x))
    c.unwrap.ensures c.mode_named.ensures in
    let workers = is_number f (codes "workers") 1 64 c.unwrap-2.result c.get_one.result
    (workers_read (λ s r. ParsesUnsigned 32 10 s r × ExplainsUnsignedError 10 s r × HasUnsignedDigitsIfOk s r) (λ s x g. g.0)
    c.requires.0 c.requires.1 c.args.matches.now c.requires.2 c.get_one.result c.get_one.ensures.value) c.unwrap-2.ensures in
    let seed = is_number f (codes "seed") 1 2147483646 c.unwrap-3.result c.get_one-2.result
    (seed_read (λ s r. ParsesUnsigned 32 10 s r × ExplainsUnsignedError 10 s r × HasUnsignedDigitsIfOk s r) (λ s x g. g.0)
    c.requires.0 c.requires.1 c.args.matches.now c.requires.2 c.get_one-2.result c.get_one-2.ensures.value) c.unwrap-3.ensures in
    let people = is_number f (codes "people") 2 100000 c.unwrap-4.result c.get_one-3.result
    (people_read (λ s r. ParsesUnsigned 32 10 s r × ExplainsUnsignedError 10 s r × HasUnsignedDigitsIfOk s r) (λ s x g. g.0)
    c.requires.0 c.requires.1 c.args.matches.now c.requires.2 c.get_one-3.result c.get_one-3.ensures.value) c.unwrap-4.ensures in
    record {
      found = record {
        mode = mode_found f (mode_text c.unwrap.result) (sym c.get_str.ensures ∙ ap (option_map (λ (s : Bor Text). s.now)) c.unwrap-name.ensures ∙ ap (λ (t : Text). Some t) mode);
        workers = workers.2;
        seed = seed.2;
        people = people.2;
      };
      ranges = record {
        workers = (workers.0, workers.1);
        seed = (seed.0, seed.1);
        people = (people.0, people.1);
      };
    }
