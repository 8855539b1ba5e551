use Rattle.std.proofs.Common.{ap, sym, subst, ◌∙◌, List, map}
use Rattle.std.specs.String.{string_bytes}
use Rattle.clap.specs.Words.{App, HasKind, Row, Text, fault_of, is_simple, is_simple_and_free, matches_of}
use Rattle.unicorn_words.specs.Asked.{AreFound}
use Rattle.unicorn_words.proofs.Taken.{at_fault, faultless, matches_are}
use Rattle.unicorn_words.proofs.words.read_words.Goals as goal

pub returns-in_err-matches-clause-usage : goal.returns-in_err-matches-clause-usage
returns-in_err-matches-clause-usage c is =
    let u = c.in_ok-command.ensures in
    let words : List Text = map string_bytes c.args.words.now in
    let kinds = c.in_err-matches.ensures.kinds (ap is_simple_and_free u.2) in
    at_fault u.0 u.1 words c.in_err-matches.field-0.0
    (subst (λ (a : App). HasKind (fault_of a words) c.in_err-matches.field-0.0) u.2 kinds)
    (λ memory.
    let h = rw is at c.from_residual-in_err-matches.ensures.1 in
    let bad = h.1 memory in
    cc)

pub returns-clause-taken : goal.returns-clause-taken
returns-clause-taken c =
    let u = c.in_ok-command.ensures in
    let words : List Text = map string_bytes c.args.words.now in
    faultless u.0 u.1 words (ap (λ (a : App). fault_of a words) (sym u.2) ∙ c.in_ok-matches.ensures.kinds (ap is_simple_and_free u.2))

pub returns-clause-asked : goal.returns-clause-asked
returns-clause-asked c =
    let u = c.in_ok-command.ensures in
    let words : List Text = map string_bytes c.args.words.now in
    let rows = (c.in_ok-matches.ensures.matches (ap is_simple u.2)).0 ∙ ap (λ (a : App). matches_of a words) u.2 ∙ matches_are u.0 u.1 words in
    subst (λ (found : List Row). AreFound found c.settings_in.result) rows c.settings_in.ensures.found
