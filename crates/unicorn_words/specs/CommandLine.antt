-- The command `unicorn MODE [--workers N] [--seed N] [--people N]` as plain data, and which words it
-- takes.
use Rattle.std.specs.Prelude.{◌≡◌, Bool, true, List, [], ◌∷◌, Some, map, codes, pos}
use Rattle.std.specs.Borrow.{Bor}
use Rattle.clap.specs.Walk.{is_empty, texts}
use Rattle.clap.specs.Words.{App, Rule, Text, app_of, fault_of, new_rule}
use Rattle.clap.specs.Simple.{new_shape}
use Rattle.clap.specs.declared.builder.action.ArgAction.TheVariants.{Set}
use Rattle.clap.specs.declared.builder.command.Command.{Command}
use Rattle.clap.specs.declared.builder.value_parser.ValueParser.{ValueParser}
use Rattle.clap.specs.declared.builder.value_parser.ValueParser.TheVariants as vp

-- the option `--name N`: a number that the parser takes, and the default where it is left out
abbrev pub number_option : Text → ValueParser → Text → Rule
number_option name range default = record (new_rule name) {
  long = Some name;
  action = Some Set;
  parser = Some range;
  defaults = default ∷ [];
}

-- MODE, which may not be left out: a word that the parser takes
abbrev pub mode_argument : ValueParser → Rule
mode_argument modes = record (new_rule (codes "MODE")) {
  action = Some Set;
  parser = Some modes;
  required = true;
}

abbrev pub options : List Rule
options = number_option (codes "workers") (vp.Signed (pos 1) (pos 64)) (codes "4")
    ∷ number_option (codes "seed") (vp.Signed (pos 1) (pos 2147483646)) (codes "1")
    ∷ number_option (codes "people") (vp.Signed (pos 2) (pos 100000)) (codes "1000") ∷ []

-- the command, with its version, where MODE has this parser
abbrev pub unicorn_with : ValueParser → App
unicorn_with modes = record {
  top = record (new_shape (codes "unicorn")) {
    rules = mode_argument modes ∷ options;
    has_version = true;
  };
  subs = [];
}

abbrev pub mode_names : List Text
mode_names = codes "serve" ∷ codes "plain" ∷ codes "check" ∷ codes "bench" ∷ []

-- a value that is referred to. Where it lies is nothing that clap asks.
abbrev pub lent : {X : Type 0} → X → Bor X
lent x = record { ref_ptr = (0, 0); now = x }

-- the command, where MODE is one of the modes' names
abbrev pub unicorn : App
unicorn = unicorn_with (vp.Names (lent (map lent mode_names)))

-- clap finds no fault with the words, of which the first is the program's name
unfoldable pub is_taken : List Text → Bool
is_taken words = is_empty (fault_of unicorn words)

-- the command is this one, wherever the names of its modes lie
abbrev pub IsUnicorn : Command → Type 0
IsUnicorn c = (names : Bor (List (Bor Text))) × (texts names.now ≡ mode_names)
    × (app_of c ≡ unicorn_with (vp.Names names))
