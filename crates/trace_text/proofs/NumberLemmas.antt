-- The digits of a number.
use Rattle.std.proofs.Common.{◌≡◌, ℕ, zero, suc, ◌<◌, ◌≤◌, ◌^◌, ◌||◌, Bool, true, false, List, [], ◌∷◌, length, get_or, ap, subst, ◌∙◌, sym, refl, arith, Result, Ok, Err}
use Rattle.std.specs.Prelude.{slice_index, ◌==◌}
use Rattle.std.specs.Fmt.{decimal}
use Rattle.std.specs.List.{list_all}
use Rattle.std.specs.Result.{OkIff}
use Rattle.std.specs.Cmp.Derive.{both_true}
use Rattle.std.specs.Str.{all_ascii_digits, IsUtf8}
use Rattle.std.specs.Char.{is_ascii_digit, is_ascii_alphabetic}
use Rattle.std.specs.Str.Parse.{ParsesUnsigned, digits_value}
use Rattle.std.proofs.lemmas.Bool.{false≢true}
use Rattle.std.proofs.lemmas.Fmt.{parse-decimal, first_decimal, decimal_digit, decimal-digits_value, digits_decimal, IsAscii-decimal}
use Rattle.std.proofs.lemmas.Str.{IsUtf8-from_ascii}
use Rattle.std.proofs.lemmas.Str.Parse.{IsNumeralModel, numerals_by_value, tells_all_ascii_digits, parse_plain}
use Rattle.estelle_tree.specs.Lexed.{is_word_byte}
use Rattle.estelle_model.proofs.PrivateParts.{left_true, right_true}

abbrev Digits : List ℕ → Type 0
Digits ds = all_ascii_digits ds ≡ true

own : IsNumeralModel Digits (digits_value 10)
own = numerals_by_value Digits tells_all_ascii_digits

digit_in_word : (c : ℕ) → is_ascii_digit c ≡ true → is_word_byte c ≡ true
digit_in_word c e = middle (is_ascii_alphabetic c) (is_ascii_digit c) (c == 95) e
  where
    middle : (a b d : Bool) → b ≡ true → (a || b || d) ≡ true
    middle true b d k = refl
    middle false true d k = refl
    middle false false d k = cc

digits_in_word : (ds : List ℕ) → all_ascii_digits ds ≡ true → list_all is_word_byte ds ≡ true
digits_in_word [] e = refl
digits_in_word (c ∷ ds) e =
    both_true (digit_in_word c (left_true (is_ascii_digit c) (all_ascii_digits ds) e)) (digits_in_word ds (right_true (is_ascii_digit c) (all_ascii_digits ds) e))

-- a number is a word
pub decimal_wordy : (n : ℕ) → n < 2 ^ 64 → list_all is_word_byte (decimal n) ≡ true
decimal_wordy n n_in = digits_in_word (decimal n) (digits_decimal own n n_in)

no_plus : (run : List ℕ) → list_all is_word_byte run ≡ true → ¬ (get_or run 0 0 ≡ 43)
no_plus [] all e = omega arith
no_plus (c ∷ cs) all e = false≢true (ap is_word_byte (sym e) ∙ left_true (is_word_byte c) (list_all is_word_byte cs) all)

module _ (run : List ℕ) where
  pub leading_zero : slice_index run 0 ≡ 48 → 1 < length run → (n : ℕ) → n < 2 ^ 64 → ¬ (decimal n ≡ run)
  leading_zero first long n n_in e = by_size n n_in e
    where
      by_size : (n : ℕ) → n < 2 ^ 64 → ¬ (decimal n ≡ run)
      by_size zero n_in e = omega (arith, ap length (sym (decimal_digit 0 (omega arith)) ∙ e))
      by_size (suc n) n_in e = omega (arith, first_decimal (suc n) (omega arith) n_in, ap (λ ds. get_or ds 0 0) e)

  pub no_text : ¬ (IsUtf8 run) → (n : ℕ) → n < 2 ^ 64 → ¬ (decimal n ≡ run)
  no_text not n n_in e = not (subst IsUtf8 e (IsUtf8-from_ascii (decimal n) (IsAscii-decimal n n_in)))

  pub no_natural : {E : Type 0} (r : Result ℕ E) (error : E) → ParsesUnsigned 64 10 run r → r ≡ Err error → (n : ℕ) → n < 2 ^ 64 → ¬ (decimal n ≡ run)
  no_natural r error parsed is n n_in e = let h = parse-decimal 64 n run r n_in n_in (sym e) parsed in cc

  pub natural_read : {E : Type 0} (t : List ℕ) (r : Result ℕ E) (n : ℕ) → t ≡ run → list_all is_word_byte run ≡ true → (slice_index run 0 ≡ 48 → length run ≤ 1) → ParsesUnsigned 64 10 t r → r ≡ Ok n → (n < 2 ^ 64) × (decimal n ≡ run)
  natural_read {E} t r n same all short parsed is =
      let read : ParsesUnsigned 64 10 run r = subst (λ u. ParsesUnsigned 64 10 u r) same parsed in
      let told = parse_plain own 64 run r read (no_plus run all) in
      let P : Result ℕ E → Type 0 = λ z. OkIff z (Digits run × (0 < length run) × (digits_value 10 run < 2 ^ 64)) (digits_value 10 run) in
      let h = subst P is told in
      (omega (arith, h.0.2, h.1), ap decimal h.1 ∙ decimal-digits_value own run h.0.0 h.0.1 (λ z. omega (arith, short z, h.0.1)) h.0.2)
