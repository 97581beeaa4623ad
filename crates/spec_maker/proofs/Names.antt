-- The names of stations and their numbers, as tokens.
use Rattle.std.proofs.Common.{◌≡◌, ℕ, ◌+◌, ◌-◌, ◌*◌, ◌^◌, ◌<◌, Bool, true, false, List, [], ◌∷◌, fold, map, length, refl, sym, ap, ◌∙◌, arith, rules}
use Rattle.std.specs.Prelude.{◌||◌, ◌==◌, not, if◌then◌else◌}
use lib.IntN.{pos}
use Rattle.std.proofs.lemmas.Int.{ints}
use Rattle.std.specs.List.{list_all, AllByRecursion}
use Rattle.std.specs.Char.{is_ascii_digit, is_ascii_lowercase}
use Rattle.std.specs.Str.{bytes_eq}
use Rattle.std.specs.Fmt as fmt
use Rattle.std.proofs.lemmas.Fmt.{digits_decimal, decimal_nonempty}
use Rattle.std.proofs.lemmas.Str.Parse.{IsNumeralModel, numerals_by_fold}
use Rattle.std.proofs.lemmas.Slice.Eq.{bytes_eq-Decides}
use Rattle.std.proofs.lemmas.Bool.Decides.{nat_tests}
use Rattle.estelle_tree.specs.declared.token.Token.TheVariants as token
use Rattle.estelle_tree.specs.declared.kind.Kind.{Kind}
use Rattle.estelle_tree.specs.declared.kind.Kind.TheVariants as k
use Rattle.estelle_tree.specs.declared.kind.TheConstants.{RESERVED}
use Rattle.estelle_tree.specs.Kind.{kind_of_word, lookup}
use Rattle.estelle_tree.specs.Lexed.{decimal}
use Rattle.estelle_tree.specs.Spells.{IsToken}
use Rattle.estelle_printer.proofs.FormLaws.{both, each_of}
use Rattle.spec_maker.specs.Ring.{station}

digits_model : IsNumeralModel (λ ds. list_all is_ascii_digit ds ≡ true) decimal
unfolding decimal
digits_model = numerals_by_fold (λ ds. list_all is_ascii_digit ds ≡ true) (search rules) (λ n ds. fold (λ n b. 10 * n + (b - 48)) n ds) (search rules)

all_digits : (i : ℕ) → i < 2 ^ 64 → list_all is_ascii_digit (fmt.decimal i) ≡ true
all_digits i low = digits_decimal digits_model i low

-- ---- no reserved word has a digit

abbrev is_no_digit : ℕ → Bool
is_no_digit b = not (is_ascii_digit b)

abbrev HasNoDigit : List ℕ × Kind → Type 0
HasNoDigit e = list_all is_no_digit e.0 ≡ true

reserved_words : AllByRecursion HasNoDigit (map (λ k. (k.0.now, k.1)) RESERVED)
reserved_words = search rules

free : (table : List (List ℕ × Kind)) (w : List ℕ) → AllByRecursion HasNoDigit table → list_all is_no_digit w ≡ false → lookup table w ≡ k.Name
free [] w all some = refl
free (e ∷ es) w all some = by (free es w all.1 some) (bytes_eq e.0 w) refl
  where
    by : lookup es w ≡ k.Name → (b : Bool) → bytes_eq e.0 w ≡ b → (if b then e.1 else lookup es w) ≡ k.Name
    by rest true same = let no : true ≡ false = sym all.0 ∙ ap (list_all is_no_digit) ((bytes_eq-Decides e.0 w).0 same) ∙ some in absurd (cc)
    by rest false same = rest

digit_behind : (ds : List ℕ) → 0 < length ds → list_all is_ascii_digit ds ≡ true → list_all is_no_digit (115 ∷ ds) ≡ false
digit_behind [] some all = absurd (omega arith)
digit_behind (d ∷ ds) some all = let first = (each_of (is_ascii_digit d) (list_all is_ascii_digit ds) all).0 in rw first refl

-- the name of a station is not reserved
pub station_free : (i : ℕ) → i < 2 ^ 64 → kind_of_word (station i) ≡ k.Name
unfolding kind_of_word
station_free i low = free (map (λ k. (k.0.now, k.1)) RESERVED) (station i) reserved_words (digit_behind (fmt.decimal i) (decimal_nonempty i low) (all_digits i low))

-- ---- the forms of these tokens

abbrev is_tail : ℕ → Bool
is_tail b = is_ascii_lowercase b || is_ascii_digit b || b == 95

digit_tail : (b : ℕ) → is_ascii_digit b ≡ true → is_tail b ≡ true
digit_tail b h = grind (arith, nat_tests)

digits_tail : (ds : List ℕ) → list_all is_ascii_digit ds ≡ true → list_all is_tail ds ≡ true
digits_tail [] h = refl
digits_tail (d ∷ ds) h = let p = each_of (is_ascii_digit d) (list_all is_ascii_digit ds) h in both (is_tail d) (list_all is_tail ds) (digit_tail d p.0) (digits_tail ds p.1)

pub station_form : (i : ℕ) → i < 2 ^ 64 → IsToken (token.Word (station i))
station_form i low = digits_tail (fmt.decimal i) (all_digits i low)

pub number_form : (i : ℕ) → i < 2 ^ 63 → IsToken (token.Number (pos i))
number_form i low = (omega (arith, ints), omega (arith, ints))
