-- What the words of a command line mean. Nothing here knows of a parser.
use Rattle.std.specs.Prelude.{ℕ, ◌==◌, ◌&&◌, Bool, true, not, List, [], ◌∷◌}
use Rattle.std.specs.Prelude.{Option, Some, None, length, codes, nat_eq, nat_le, if◌then◌else◌}
use Rattle.std.specs.Prelude.{option_and_then, option_map, map, drop}
use Rattle.std.specs.List.{list_any, list_all, before_first, after_first, find, starts_with}
use Rattle.std.specs.Str.{bytes_eq}
use Rattle.std.specs.Char.{is_ascii_digit}
use Rattle.std.specs.Str.Parse.{digits_value}
use denote.Ref.{Bor}
use Rattle.estelle_words.specs.declared.command.Command.{Command}
use Rattle.estelle_words.specs.declared.command.Command.TheVariants.{Run, Check, Show, Code, Replay, Make, Trial}
use Rattle.estelle_words.specs.declared.command.Settings.{Settings}

-- a word, name or value, as its bytes
abbrev pub Text : Type 0
Text = List ℕ

-- the bytes of the words
abbrev pub texts : List (Bor Text) → List Text
texts words = map (λ w. w.now) words

-- a step after which there is nothing where this one gives nothing
infixl 10 ◌>>=◌
abbrev ◌>>=◌ : {A B : Type 0} → Option A → (A → Option B) → Option B
o >>= f = option_and_then f o

-- ---- one word

-- `--name=value`, `--name`, a word that does not begin with `-`, and any other word
pub data Word : Type 0 where
  joined : Text → Text → Word
  named : Text → Word
  plain : Text → Word
  other : Word

-- `=`
abbrev pub is_equals : ℕ → Bool
is_equals byte = byte == 61

-- a word that begins with `--`, by what follows: the value stands behind the first `=`
abbrev pub long_word : Text → Word
long_word [] = other
long_word text =
    if list_any is_equals text then joined (before_first is_equals text) (after_first is_equals text)
    else named text

-- the word begins so
abbrev pub begins : Text → Text → Bool
begins start word = starts_with nat_eq word start

-- what a word looks like
abbrev pub word_of : Text → Word
word_of word =
    if begins (codes "--") word then long_word (drop 2 word)
    else (if begins (codes "-") word then other else plain word)

-- ---- the options that words give

-- an option that is given
pub record Pair : Type 0 where
  pub name : Text
  pub value : Text

-- one option more at the front
abbrev pub with_pair : Text → Text → Option (List Pair) → Option (List Pair)
with_pair name value = option_map (λ ps. record { name = name; value = value } ∷ ps)

-- the options that the words give: each is `--name=value`, or `--name` and then its value, and there is no other word
abbrev pub pairs_of : List Word → Option (List Pair)
pairs_of [] = Some []
pairs_of (joined name value ∷ rest) = with_pair name value (pairs_of rest)
pairs_of (named name ∷ plain value ∷ rest) = with_pair name value (pairs_of rest)
pairs_of (_ ∷ rest) = None

-- the value that is given to the option of this name
abbrev pub value_in : List Pair → Text → Option Text
value_in ps name = option_map (λ p. p.value) (find (λ p. bytes_eq p.name name) ps)

-- an option of this name is given
abbrev pub has_name : List Pair → Text → Bool
has_name ps name = list_any (λ p. bytes_eq p.name name) ps

-- ---- the commands and their options

-- the command of this name
abbrev pub command_of : Text → Option Command
command_of word =
    if bytes_eq word (codes "run") then Some Run
    else (if bytes_eq word (codes "check") then Some Check
    else (if bytes_eq word (codes "show") then Some Show
    else (if bytes_eq word (codes "code") then Some Code
    else (if bytes_eq word (codes "replay") then Some Replay
    else (if bytes_eq word (codes "make") then Some Make
    else (if bytes_eq word (codes "trial") then Some Trial
    else None))))))

-- the names of the options that a command takes
abbrev pub options_of : Command → List Text
options_of Run = codes "turns" ∷ codes "seed" ∷ codes "workers" ∷ codes "budget" ∷ []
options_of Check = []
options_of Show = []
options_of Code = []
options_of Replay = codes "budget" ∷ []
options_of Make = codes "stations" ∷ []
options_of Trial = codes "stations" ∷ codes "turns" ∷ codes "seed" ∷ codes "budget" ∷ []

-- a command that takes the option has to be given it
abbrev pub is_required : Text → Bool
is_required name = bytes_eq name (codes "stations")

-- the name is one of these options
abbrev pub is_option : List Text → Text → Bool
is_option options name = list_any (λ o. bytes_eq o name) options

-- all that are given are among these options
abbrev pub are_options : List Text → List Pair → Bool
are_options options = list_all (λ p. is_option options p.name)

-- no option is given twice
abbrev pub are_different : List Pair → Bool
are_different [] = true
are_different (p ∷ rest) = not (has_name rest p.name) && are_different rest

-- one of these options has to be given and is not
abbrev pub lacks_required : List Text → List Pair → Bool
lacks_required options ps = list_any (λ o. is_required o && not (has_name ps o)) options

-- these options, each at most once, and each that is required
abbrev pub fits : List Text → List Pair → Bool
fits options ps = are_options options ps && (are_different ps && not (lacks_required options ps))

-- ---- the values

-- 1 to 20 decimal digits
abbrev pub is_decimal : Text → Bool
is_decimal text = (nat_le 1 (length text) && nat_le (length text) 20) && list_all is_ascii_digit text

-- the number from `low` to `high` that the text writes
abbrev pub number_in : ℕ → ℕ → Text → Option ℕ
number_in low high text =
    if is_decimal text && (nat_le low (digits_value 10 text) && nat_le (digits_value 10 text) high)
    then Some (digits_value 10 text) else None

-- the same, and the default where there is no text
abbrev pub number_or : ℕ → ℕ → ℕ → Option Text → Option ℕ
number_or low high default None = Some default
number_or low high default (Some text) = number_in low high text

-- the same of a number that may be absent
abbrev pub number_if_any : ℕ → ℕ → Option Text → Option (Option ℕ)
number_if_any low high None = Some None
number_if_any low high (Some text) = option_map (λ n. Some n) (number_in low high text)

-- 2 ^ 64 - 1
abbrev pub greatest_seed : ℕ
greatest_seed = 18446744073709551615

-- the settings of a command by the values of its options: each number's range, and its default
abbrev pub settings_by : Command → (Text → Option Text) → Option Settings
settings_by command value = do
  turns ← number_or 0 1000000 10000 (value (codes "turns"))
  seed ← number_if_any 0 greatest_seed (value (codes "seed"))
  workers ← number_or 0 64 0 (value (codes "workers"))
  budget ← number_or 1 100000000 1000000 (value (codes "budget"))
  stations ← number_or 2 200 2 (value (codes "stations"))
  Some (record {
    command = command;
    turns = turns;
    seed = seed;
    workers = workers;
    budget = budget;
    stations = stations;
  })

-- ---- the meaning of the words after the program's name

-- the settings, where the command takes what is given
abbrev pub settings_if_fit : Command → List Pair → Option Settings
settings_if_fit command ps =
    if fits (options_of command) ps then settings_by command (value_in ps) else None

-- the first word is the command, and the later ones give its options
abbrev pub meaning : List Text → Option Settings
meaning [] = None
meaning (word ∷ rest) = do
  command ← command_of word
  ps ← pairs_of (map word_of rest)
  settings_if_fit command ps
