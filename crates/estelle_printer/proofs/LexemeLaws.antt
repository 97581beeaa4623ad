-- How a token is written is read as that token, where a space or a line feed follows.
use Rattle.std.proofs.Common.{◌≡◌, ℕ, ◌+◌, ◌-◌, ◌*◌, ◌^◌, ◌<◌, ◌≤◌, Bool, true, false, List, [], ◌∷◌, fold, map, length, refl, sym, ap, subst, ◌∙◌, arith, rules, ℤ}
use Rattle.std.specs.Prelude.{◌||◌, ◌==◌, if◌then◌else◌, codes, ◌≤ℤ◌}
use lib.IntN.{pos, negsuc}
use Rattle.std.proofs.lemmas.Int.{ints}
use Rattle.estelle_printer.proofs.FormLaws.{both, each_of}
use Rattle.std.specs.List.{list_all}
use Rattle.std.specs.Char.{is_ascii_digit, is_ascii_lowercase, is_ascii_alphabetic, to_ascii_lowercase}
use Rattle.std.specs.Fmt as fmt
use Rattle.std.proofs.lemmas.Fmt.{digits_decimal, digits_value-decimal, decimal_nonempty}
use Rattle.std.proofs.lemmas.Str.Parse.{IsNumeralModel, numerals_by_fold}
use Rattle.std.proofs.lemmas.Bool.Decides.{nat_tests}
use Rattle.estelle_tree.specs.declared.token.Token.{Token}
use Rattle.estelle_tree.specs.declared.token.Token.TheVariants as token
use Rattle.estelle_tree.specs.declared.token.Symbol.{Symbol}
use Rattle.estelle_tree.specs.declared.token.Symbol.TheVariants as symbol
use Rattle.estelle_tree.specs.Lexed.{first_is, is_word_byte, decimal, IsWordToken, IsNumberToken, IsCharToken, IsSymbolToken, IsToken}
use Rattle.estelle_tree.specs.Spells.{is_word_form}
use Rattle.estelle_tree.specs.Spells as spells
use Rattle.estelle_printer.specs.Canonical.{symbol_text, char_text, written, space, line_feed}

-- ---- words

abbrev is_tail_byte : ℕ → Bool
is_tail_byte b = is_ascii_lowercase b || is_ascii_digit b || b == 95

tail_word_byte : (b : ℕ) → is_tail_byte b ≡ true → is_word_byte b ≡ true
tail_word_byte b h = grind (arith, nat_tests)

tail_lower : (b : ℕ) → is_tail_byte b ≡ true → b ≡ to_ascii_lowercase b
tail_lower b h = grind (arith, nat_tests)

first_letter : (b : ℕ) → is_ascii_lowercase b ≡ true → is_ascii_alphabetic b ≡ true
first_letter b h = grind (arith, nat_tests)

first_tail : (b : ℕ) → is_ascii_lowercase b ≡ true → is_tail_byte b ≡ true
first_tail b h = grind (arith, nat_tests)

tail_all : (bs : List ℕ) → list_all is_tail_byte bs ≡ true → list_all is_word_byte bs ≡ true
tail_all [] h = refl
tail_all (b ∷ bs) h = let p = each_of (is_tail_byte b) (list_all is_tail_byte bs) h in both (is_word_byte b) (list_all is_word_byte bs) (tail_word_byte b p.0) (tail_all bs p.1)

tail_lowers : (bs : List ℕ) → list_all is_tail_byte bs ≡ true → bs ≡ map to_ascii_lowercase bs
tail_lowers [] h = refl
tail_lowers (b ∷ bs) h =
    let p = each_of (is_tail_byte b) (list_all is_tail_byte bs) h in
    ap (λ c. c ∷ bs) (tail_lower b p.0) ∙ ap (λ cs. to_ascii_lowercase b ∷ cs) (tail_lowers bs p.1)

word_lexeme : (w : List ℕ) → is_word_form w ≡ true → (after : List ℕ) → first_is is_word_byte after ≡ false → IsWordToken w w after
word_lexeme [] h after other = absurd (cc)
word_lexeme (b ∷ bs) h after other =
    let p = each_of (is_ascii_lowercase b) (list_all is_tail_byte bs) h in
    let t = first_tail b p.0 in
    record {
      letter = first_letter b p.0;
      all = both (is_word_byte b) (list_all is_word_byte bs) (tail_word_byte b t) (tail_all bs p.1);
      longest = other;
      lower = ap (λ c. c ∷ bs) (tail_lower b t) ∙ ap (λ cs. to_ascii_lowercase b ∷ cs) (tail_lowers bs p.1);
    }

-- ---- numbers

digits_model : IsNumeralModel (λ ds. list_all is_ascii_digit ds ≡ true) decimal
unfolding decimal
digits_model = numerals_by_fold (λ ds. list_all is_ascii_digit ds ≡ true) (search rules) (λ n ds. fold (λ n b. 10 * n + (b - 48)) n ds) (search rules)

first_digit : (ds : List ℕ) → 0 < length ds → list_all is_ascii_digit ds ≡ true → first_is is_ascii_digit ds ≡ true
first_digit [] more h = absurd (omega arith)
first_digit (d ∷ ds) more h = (each_of (is_ascii_digit d) (list_all is_ascii_digit ds) h).0

number_lexeme : (n : ℤ) → pos 0 ≤ℤ n → n ≤ℤ pos (2 ^ 63 - 1) → (after : List ℕ) → first_is is_ascii_digit after ≡ false → IsNumberToken n (fmt.signed_decimal n) after
number_lexeme (pos m) low high after other =
    let fits : m < 2 ^ 63 = omega (arith, ints) in
    let wide : m < 2 ^ 64 = omega arith in
    let all = digits_decimal digits_model m wide in
    let value = digits_value-decimal digits_model m wide in
    record {
      digit = first_digit (fmt.decimal m) (decimal_nonempty m wide) all;
      all = all;
      longest = other;
      fits = rw value fits;
      value = ap pos (sym value);
    }
number_lexeme (negsuc m) low high after other = absurd (omega (arith, ints))

-- ---- characters

equal : (c : ℕ) → (c == 39) ≡ true → c ≡ 39
equal c e = grind (arith, nat_tests)

unequal : (c : ℕ) → (c == 39) ≡ false → c ≡ 39 → ⊥
unequal c e same = grind (arith, nat_tests)

char_lexeme : (c : ℕ) → 32 ≤ c → c ≤ 126 → IsCharToken c (char_text c)
char_lexeme c low high = go (c == 39) refl
  where
    go : (b : Bool) → (c == 39) ≡ b → IsCharToken c (if b then codes "''''" else 39 ∷ c ∷ 39 ∷ [])
    go true e = subst (λ x. IsCharToken x (codes "''''")) (sym (equal c e)) IsCharToken.image
    go false e = IsCharToken.printable c (λ same. unequal c e same) low high

-- ---- symbols

spaced_symbol : (s : Symbol) (rest : List ℕ) → IsSymbolToken s (symbol_text s) (space ∷ rest)
spaced_symbol symbol.Plus rest = search rules
spaced_symbol _ rest = search rules

fed_symbol : (s : Symbol) (rest : List ℕ) → IsSymbolToken s (symbol_text s) (line_feed ∷ rest)
fed_symbol symbol.Plus rest = search rules
fed_symbol _ rest = search rules

-- ---- tokens

pub spaced_lexeme : (t : Token) → spells.IsToken t → (rest : List ℕ) → IsToken t (written t) (space ∷ rest)
spaced_lexeme (token.Word w) form rest = word_lexeme w form (space ∷ rest) refl
spaced_lexeme (token.Number n) form rest = number_lexeme n form.0 form.1 (space ∷ rest) refl
spaced_lexeme (token.Char c) form rest = char_lexeme c form.0 form.1
spaced_lexeme (token.Symbol s) form rest = spaced_symbol s rest

pub fed_lexeme : (t : Token) → spells.IsToken t → (rest : List ℕ) → IsToken t (written t) (line_feed ∷ rest)
fed_lexeme (token.Word w) form rest = word_lexeme w form (line_feed ∷ rest) refl
fed_lexeme (token.Number n) form rest = number_lexeme n form.0 form.1 (line_feed ∷ rest) refl
fed_lexeme (token.Char c) form rest = char_lexeme c form.0 form.1
fed_lexeme (token.Symbol s) form rest = fed_symbol s rest
