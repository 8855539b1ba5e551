-- Command lines that are taken, with what they ask for, and some that are not.
use Rattle.std.specs.Prelude.{◌≡◌, ℕ, true, false, List, [], ◌∷◌, codes}
use Rattle.clap.specs.Words.{Text}
use Rattle.unicorn_words.specs.CommandLine.{is_taken}
use Rattle.unicorn_words.specs.Asked.{AreAsked}
use Rattle.unicorn_words.specs.declared.words.Mode.{Mode}
use Rattle.unicorn_words.specs.declared.words.Mode.TheVariants.{Serve, Plain, Check}
use Rattle.unicorn_words.specs.declared.words.Settings.{Settings}

-- the program's name and these words
abbrev pub after_name : List Text → List Text
after_name words = codes "unicorn" ∷ words

abbrev pub settings : Mode → ℕ → ℕ → ℕ → Settings
settings mode workers seed people =
    record { mode = mode; workers = workers; seed = seed; people = people }

-- the words are taken, and ask for these settings
abbrev pub Asks : List Text → Settings → Type 0
Asks words asked = (is_taken (after_name words) ≡ true) × AreAsked (after_name words) asked

abbrev pub IsRefused : List Text → Type 0
IsRefused words = is_taken (after_name words) ≡ false

pub record WorkedLines : Type 0 where
  pub serve : Asks (codes "serve" ∷ []) (settings Serve 4 1 1000)
  pub plain_with_a_seed : Asks
      (codes "plain" ∷ codes "--seed" ∷ codes "5" ∷ []) (settings Plain 4 5 1000)
  pub options_first : Asks
      (codes "--workers=64" ∷ codes "--people" ∷ codes "2" ∷ codes "check" ∷ [])
      (settings Check 64 1 2)

pub record RefusedLines : Type 0 where
  pub no_word : IsRefused []
  pub no_mode : IsRefused (codes "dance" ∷ [])
  pub none_of_the_workers : IsRefused (codes "serve" ∷ codes "--workers" ∷ codes "0" ∷ [])
  pub too_many_workers : IsRefused (codes "serve" ∷ codes "--workers" ∷ codes "65" ∷ [])
  pub no_number : IsRefused (codes "serve" ∷ codes "--people" ∷ codes "many" ∷ [])
  pub no_value : IsRefused (codes "serve" ∷ codes "--seed" ∷ [])
  pub twice : IsRefused (codes "serve" ∷ codes "--seed=1" ∷ codes "--seed=1" ∷ [])
  pub two_modes : IsRefused (codes "serve" ∷ codes "plain" ∷ [])
  pub no_option : IsRefused (codes "serve" ∷ codes "--shards" ∷ codes "2" ∷ [])
  pub help : IsRefused (codes "--help" ∷ [])
  pub version : IsRefused (codes "serve" ∷ codes "--version" ∷ [])
