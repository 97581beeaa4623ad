-- What `parse` refuses has no number in the range.
use Rattle.std.proofs.Common.{◌≡◌, ℕ, ◌<◌, ◌^◌, ◌&&◌, Bool, true, false, refl, arith, List, Some, None, length, Err, rules, cond, nat_le, inl, inr}
use Rattle.std.specs.List.{list_all}
use Rattle.std.specs.Char.{is_ascii_digit}
use Rattle.std.specs.Str.Parse.{ParsesUnsigned, digits_value}
use Rattle.std.proofs.lemmas.Str.Parse.{IsNumeralModel, numerals_by_value, parse_digits}
use Rattle.std.proofs.lemmas.Bool.Decides.{nat_tests}
use Rattle.std.proofs.lemmas.Bool.{cases_lt, leb-true}
use Rattle.estelle_words.specs.Words.{is_decimal, number_in}

own : IsNumeralModel (λ ds. list_all is_ascii_digit ds ≡ true) (digits_value 10)
own = numerals_by_value _ (search rules)

both : (a b : Bool) → (a && b) ≡ true → (a ≡ true) × (b ≡ true)
both true b e = (refl, e)
both false b e = cc

past : (v high low : ℕ) (a : Bool) → high < v → None ≡ cond (a && (nat_le low v && nat_le v high)) (Some v) None
past v high low a h = let e : nat_le v high ≡ false = grind (arith, nat_tests) in grind (arith, nat_tests)

pub number_refused : {E : Type 0} (k low high : ℕ) (bs : List ℕ) (e : E) → ParsesUnsigned k 10 bs (Err e) → is_decimal bs ≡ true → high < 2 ^ k → None ≡ number_in low high bs
number_refused k low high bs e h d fits =
    let parts = both (nat_le 1 (length bs) && nat_le (length bs) 20) (list_all is_ascii_digit bs) d in
    let sizes = both (nat_le 1 (length bs)) (nat_le (length bs) 20) parts.0 in
    let long : 0 < length bs = leb-true 1 (length bs) sizes.0 in
    let no = parse_digits own k bs (Err e) h parts.1 in
    let large : high < digits_value 10 bs = elim (cases_lt (digits_value 10 bs) (2 ^ k)) [
      | inl small ↦ absurd (no (long, small))
      | inr above ↦ omega arith
    ] in
    past (digits_value 10 bs) high low (is_decimal bs) large
