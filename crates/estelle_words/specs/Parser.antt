-- The parser that is made for a command, in the words of `clap`.
use Rattle.std.specs.Prelude.{◌≡◌, List, codes, map, true, false, Option, Some, MatchOption}
use Rattle.clap.specs.Words.{App, Rule, new_app, new_rule, first_value, found_of}
use Rattle.clap.specs.declared.builder.action.ArgAction.TheVariants.{Set}
use Rattle.clap.specs.declared.parser.matches.ArgMatches.{ArgMatches}
use Rattle.estelle_words.specs.Words.{Text, Pair, is_required, fits, value_in}

-- the option `--name value`
abbrev pub option_rule : Text → Rule
option_rule name = record (new_rule name) {
  long = Some name;
  action = Some Set;
  required = is_required name;
}

-- a command with these options and no help
abbrev pub app_with : List Text → App
app_with options = record (new_app (codes "estelle")) {
  top = record (new_app (codes "estelle")).top {
    rules = map option_rule options;
    disable_help_flag = true;
  };
}

-- there are matches exactly where the pairs fit the options, and then they have the values of the pairs
abbrev pub GivesValues : List Text → List Pair → Option ArgMatches → Type 0
GivesValues options ps found =
    MatchOption found (fits options ps ≡ false)
    (λ m. (fits options ps ≡ true) × ((name : Text) → first_value (found_of m) name ≡ value_in ps name))
