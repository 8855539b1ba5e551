-- The worked command lines, by computation.
use Rattle.std.proofs.Common.{◌≡◌, [], false, refl}
use Rattle.clap.proofs.OnLiterals.{clap_on_literals}
use Rattle.unicorn_words.specs.CommandLine.{is_taken}
use Rattle.unicorn_words.specs.Asked.{found_for}
use Rattle.unicorn_words.specs.Lines.{RefusedLines, WorkedLines}

pub worked_lines : WorkedLines
unfolding clap_on_literals is_taken found_for
worked_lines = record {
  serve = (refl, record { mode = refl; workers = refl; seed = refl; people = refl });
  plain_with_a_seed = (refl, record { mode = refl; workers = refl; seed = refl; people = refl });
  options_first = (refl, record { mode = refl; workers = refl; seed = refl; people = refl });
}

pub refused_lines : RefusedLines
unfolding clap_on_literals is_taken
refused_lines = record {
  no_word = refl;
  no_mode = refl;
  none_of_the_workers = refl;
  too_many_workers = refl;
  no_number = refl;
  no_value = refl;
  twice = refl;
  two_modes = refl;
  no_option = refl;
  help = refl;
  version = refl;
}

pub nothing_is_refused : is_taken [] ≡ false
unfolding clap_on_literals is_taken
nothing_is_refused = refl
