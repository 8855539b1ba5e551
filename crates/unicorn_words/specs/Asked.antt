-- What words that are taken ask for.
use Rattle.std.specs.Prelude.{◌≡◌, ◌≤◌, ℕ, List, Option, Some, codes}
use Rattle.std.specs.Prelude.{option_map}
use Rattle.std.specs.Str.Parse.{digits_value, without_leading_plus}
use Rattle.clap.specs.Words.{Row, Text, first_of, matches_of}
use Rattle.clap.specs.Built.{IsParsedFrom}
use Rattle.clap.specs.declared.builder.command.Command.{Command}
use Rattle.clap.specs.declared.parser.matches.ArgMatches.{ArgMatches}
use Rattle.unicorn_words.specs.CommandLine.{IsUnicorn, unicorn}
use Rattle.unicorn_words.specs.declared.words.Mode.{Mode}
use Rattle.unicorn_words.specs.declared.words.Mode.TheVariants.{Serve, Plain, Check, Bench}
use Rattle.unicorn_words.specs.declared.words.Settings.{Settings}

abbrev pub mode_text : Mode → Text
mode_text Serve = codes "serve"
mode_text Plain = codes "plain"
mode_text Check = codes "check"
mode_text Bench = codes "bench"

-- the number that the option's value spells, in what clap found
abbrev pub number_in : List Row → Text → Option ℕ
number_in found name =
    option_map (λ text. digits_value 10 (without_leading_plus text)) (first_of name found)

-- the settings are what clap found: the mode by its name, and each option by its number
pub record AreFound (found : List Row) (s : Settings) : Type 0 where
  pub mode : first_of (codes "MODE") found ≡ Some (mode_text s.mode)
  pub workers : number_in found (codes "workers") ≡ Some s.workers
  pub seed : number_in found (codes "seed") ≡ Some s.seed
  pub people : number_in found (codes "people") ≡ Some s.people

-- what clap finds in the words for each argument, with the default of an option that is left out
unfoldable pub found_for : List Text → List Row
found_for words = matches_of unicorn words

-- the settings are what clap finds in the words
abbrev pub AreAsked : List Text → Settings → Type 0
AreAsked words = AreFound (found_for words)

-- so the same words never ask for two different settings
abbrev pub AskForOne : Type 0
AskForOne = (words : List Text) (s t : Settings) → AreAsked words s → AreAsked words t → s ≡ t

-- each number is in its option's range
pub record AreInRange (s : Settings) : Type 0 where
  pub workers : (1 ≤ s.workers) × (s.workers ≤ 64)
  pub seed : (1 ≤ s.seed) × (s.seed ≤ 2147483646)
  pub people : (2 ≤ s.people) × (s.people ≤ 100000)

-- the matches are of a parse by the command
abbrev pub IsParse : ArgMatches → Type 0
IsParse m = (c : Command) × IsUnicorn c × IsParsedFrom c m
