-- The tokens of a text have the forms that tokens have.
use Rattle.std.proofs.Common.{◌≡◌, ◌≤◌, ◌<◌, ℕ, Bool, true, ◌&&◌, ◌||◌, List, [], ◌∷◌, Result, Ok, Err, map, ℤ, pos, ◌≤ℤ◌, ◌-◌, ◌^◌, ◌∙◌, sym, refl, ap, subst, arith}
use Rattle.std.specs.Prelude.{IfOk, All, IsTrue, ◌==◌}
use Rattle.std.specs.List.{list_all}
use Rattle.std.specs.Char.{is_ascii_digit, is_ascii_alphabetic, is_ascii_lowercase, to_ascii_lowercase}
use Rattle.std.specs.Int.Signed.{le_z_yes}
use Rattle.std.proofs.Math.Facts.{yes_leb}
use Rattle.std.proofs.lemmas.Bool.Decides.{nat_tests}
use Rattle.std.proofs.lemmas.List.Elements.{All-nil, All-cons}
use Rattle.estelle_tree.specs.declared.token.Placed.{Placed}
use Rattle.estelle_tree.specs.declared.token.Token.{Token}
use Rattle.estelle_tree.specs.declared.token.Token.TheVariants as token
use Rattle.estelle_tree.specs.Spells as form
use Rattle.estelle_tree.specs.Lexed.{IsToken, IsWordToken, IsNumberToken, IsCharToken, is_word_byte, decimal, number_limit, placed, Lexed}
use Rattle.estelle_lexer.proofs.Fronts.{both}
use Rattle.estelle_lexer.specs.declared.error.LexError.{LexError}
use Rattle.estelle_lexer.specs.declared.list.Tokens.{Tokens}
use Rattle.estelle_lexer.specs.Tokens.{IsPlacedToken}
use Rattle.estelle_tree.specs.Lexed.{IsLexed}

abbrev is_form_byte : ℕ → Bool
is_form_byte b = is_ascii_lowercase b || is_ascii_digit b || b == 95

lower_first : (b : ℕ) → is_ascii_alphabetic b ≡ true → is_ascii_lowercase (to_ascii_lowercase b) ≡ true
lower_first b e = grind (arith, nat_tests)

lower_next : (b : ℕ) → is_word_byte b ≡ true → is_form_byte (to_ascii_lowercase b) ≡ true
lower_next b e = grind (arith, nat_tests)

lower_tail : (bs : List ℕ) → list_all is_word_byte bs ≡ true → list_all is_form_byte (map to_ascii_lowercase bs) ≡ true
lower_tail [] e = refl
lower_tail (b ∷ bs) e = let p = both (is_word_byte b) (list_all is_word_byte bs) e in ap (λ c. c && list_all is_form_byte (map to_ascii_lowercase bs)) (lower_next b p.0) ∙ lower_tail bs p.1

word_form : (w run after : List ℕ) → IsWordToken w run after → IsTrue (form.is_word_form w)
word_form w [] after h = absurd (let e = h.letter in cc)
word_form w (b ∷ run) after h =
    let p = both (is_word_byte b) (list_all is_word_byte run) h.all in
    subst (λ v. IsTrue (form.is_word_form v)) (sym h.lower)
    (ap (λ c. c && list_all is_form_byte (map to_ascii_lowercase run)) (lower_first b h.letter) ∙ lower_tail run p.1)

char_form : (c : ℕ) {run : List ℕ} → IsCharToken c run → (32 ≤ c) × (c ≤ 126)
char_form c IsCharToken.image = (omega arith, omega arith)
char_form c (IsCharToken.printable b other low high) = (low, high)

natural_form : (n : ℕ) → n < number_limit → (pos 0 ≤ℤ pos n) × (pos n ≤ℤ pos (2 ^ 63 - 1))
natural_form n h =
    let low : 0 ≤ n = omega arith in
    let high : n ≤ 2 ^ 63 - 1 = omega arith in
    (le_z_yes (yes_leb low), le_z_yes (yes_leb high))

number_form : (n : ℤ) (run after : List ℕ) → IsNumberToken n run after → (pos 0 ≤ℤ n) × (n ≤ℤ pos (2 ^ 63 - 1))
number_form n run after h = subst (λ z. (pos 0 ≤ℤ z) × (z ≤ℤ pos (2 ^ 63 - 1))) (sym h.value) (natural_form (decimal run) h.fits)

token_form : (t : Token) (run after : List ℕ) → IsToken t run after → form.IsToken t
token_form (token.Word w) run after h = word_form w run after h
token_form (token.Number n) run after h = number_form n run after h
token_form (token.Char c) run after h = char_form c h
token_form (token.Symbol s) run after h = tt

pub lexed_forms : {after_end : Bool} {at : ℕ} {text : List ℕ} {tokens : List Placed} {rest : ℕ} → Lexed after_end at text tokens rest → All IsPlacedToken tokens
lexed_forms (Lexed.done after_end at) = All-nil IsPlacedToken
lexed_forms (Lexed.separator after_end at run after tokens rest s h) = lexed_forms h
lexed_forms (Lexed.item after_end at t run after tokens rest is goes h) = All-cons IsPlacedToken (placed at t run) tokens (token_form t run after is) (lexed_forms h)
lexed_forms (Lexed.last after_end at t run after is ends) = All-cons IsPlacedToken (placed at t run) [] (token_form t run after is) (All-nil IsPlacedToken)

pub answer_forms : (bytes : List ℕ) (r : Result Tokens LexError) → IfOk r (λ t. IsLexed bytes t.items t.rest) → IfOk r (λ t. All IsPlacedToken t.items)
answer_forms bytes (Ok t) h = lexed_forms h
answer_forms bytes (Err e) h = tt
