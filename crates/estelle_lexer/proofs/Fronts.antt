-- What is cut from the front of a text stands there, and each separator and token that stands there is cut.
use Rattle.std.proofs.Common.{◌≡◌, ◌<◌, ◌+◌, ◌-◌, ◌*◌, ℕ, ℤ, pos, Bool, true, false, min, List, [], ◌∷◌, ◌++◌, length, map, fold, Option, Some, None, sym, refl, ap, ◌∙◌, subst, inl, inr, ⊎_elim, arith, length-append}
use Rattle.std.proofs.Math.Seq.{take-append_seam}
use Rattle.std.specs.Prelude.{if◌then◌else◌, ◌==◌, ◌&&◌, ◌||◌, nat_lt, nat_le}
use Rattle.std.specs.List.{list_all}
use Rattle.std.specs.Char.{is_ascii_digit, is_ascii_alphabetic, to_ascii_lowercase}
use Rattle.std.proofs.lemmas.Bool.Decides.{nat_tests}
use Rattle.estelle_tree.specs.declared.token.Symbol.{Symbol}
use Rattle.estelle_tree.specs.declared.token.Symbol.TheVariants as symbols
use Rattle.estelle_tree.specs.Lexed.{is_blank, is_word_byte, first_is, closes_comment, IsCommentBody, IsSeparator, IsWordToken, decimal, number_limit, IsNumberToken, IsCharToken, IsSymbolToken}
use Rattle.estelle_lexer.specs.declared.front.Piece.{Piece}
use Rattle.estelle_lexer.specs.declared.front.Piece.TheVariants as piece
use Rattle.estelle_lexer.specs.Front.{Cut, next_is, tail, past, capped, after_comment, symbol, cut_comment, cut_number, cut_char, symbol_then, cut}
use Rattle.estelle_lexer.specs.Lex.{run_of}

-- ---- tests

if_test : {A : Type 0} (P : A → Type 0) (b : Bool) (x y : A) → (b ≡ true → P x) → (b ≡ false → P y) → P (if b then x else y)
if_test P true x y held other = held refl
if_test P false x y held other = other refl

pub both : (x y : Bool) → (x && y) ≡ true → (x ≡ true) × (y ≡ true)
both true y e = (refl, e)
both false y e = absurd (cc)

neither : (x y : Bool) → (x || y) ≡ false → (x ≡ false) × (y ≡ false)
neither true y e = absurd (cc)
neither false y e = (refl, e)

first_eq : (b n : ℕ) (rest : List ℕ) → (b == n) ≡ true → let l : List ℕ = b ∷ rest in l ≡ n ∷ rest
first_eq b n rest e = let is : b ≡ n = grind (arith, nat_tests) in ap (λ b. b ∷ rest) is

next_eq : (n : ℕ) (text : List ℕ) → next_is n text ≡ true → text ≡ n ∷ tail text
next_eq n [] e = absurd (cc)
next_eq n (b ∷ text) e = first_eq b n text e

two_eq : (b m n : ℕ) (rest : List ℕ) → (b == m) ≡ true → next_is n rest ≡ true → let l : List ℕ = b ∷ rest in l ≡ m ∷ n ∷ tail rest
two_eq b m n rest e h = first_eq b m rest e ∙ ap (λ t. m ∷ t) (next_eq n rest h)

-- ---- runs of bytes that pass a test

-- the bytes of the run
abbrev taken : (ℕ → Bool) → List ℕ → List ℕ
taken p [] = []
taken p (b ∷ text) = if p b then b ∷ taken p text else []

taken_past : (p : ℕ → Bool) (text : List ℕ) → text ≡ taken p text ++ past p text
taken_past p [] = refl
taken_past p (b ∷ text) = go (p b) (taken_past p text)
  where
    go : (t : Bool) → text ≡ taken p text ++ past p text → let l : List ℕ = b ∷ text in l ≡ (if t then b ∷ taken p text else []) ++ (if t then past p text else b ∷ text)
    go true e = ap (λ t. b ∷ t) e
    go false e = refl

taken_all : (p : ℕ → Bool) (text : List ℕ) → list_all p (taken p text) ≡ true
taken_all p [] = refl
taken_all p (b ∷ text) = go (p b) refl (taken_all p text)
  where
    go : (t : Bool) → p b ≡ t → list_all p (taken p text) ≡ true → list_all p (if t then b ∷ taken p text else []) ≡ true
    go true e more = rw (e, more)
    go false e more = refl

past_first : (p : ℕ → Bool) (text : List ℕ) → first_is p (past p text) ≡ false
past_first p [] = refl
past_first p (b ∷ text) = go (p b) refl (past_first p text)
  where
    go : (t : Bool) → p b ≡ t → first_is p (past p text) ≡ false → first_is p (if t then past p text else b ∷ text) ≡ false
    go true e more = more
    go false e more = e

run_past : (p : ℕ → Bool) (run after : List ℕ) → list_all p run ≡ true → first_is p after ≡ false → past p (run ++ after) ≡ after
run_past p [] [] all e = refl
run_past p [] (b ∷ after) all e = rw e
run_past p (b ∷ run) after all e = let a = both (p b) (list_all p run) all in rw a.0 (run_past p run after a.1 e)

run_taken : (p : ℕ → Bool) (run after : List ℕ) → list_all p run ≡ true → first_is p after ≡ false → taken p (run ++ after) ≡ run
run_taken p [] [] all e = refl
run_taken p [] (b ∷ after) all e = rw e
run_taken p (b ∷ run) after all e = let a = both (p b) (list_all p run) all in rw (a.0, run_taken p run after a.1 e)

pub run_of-append : (run after : List ℕ) → run_of (run ++ after) after ≡ run
run_of-append run after = let n : length (run ++ after) - length after ≡ length run = omega (arith, length-append run after) in rw n (take-append_seam run after)

letter_word : (b : ℕ) → is_ascii_alphabetic b ≡ true → is_word_byte b ≡ true
letter_word b e = rw e

-- ---- numbers

abbrev add : ℕ → ℕ → ℕ
add n b = 10 * n + (b - 48)

capped_step : (n m d : ℕ) → n ≡ min m number_limit → min (10 * n + d) number_limit ≡ min (10 * m + d) number_limit
capped_step n m d e = omega arith

capped_value : (text : List ℕ) (n m : ℕ) → n ≡ min m number_limit → capped n text ≡ min (fold add m (taken is_ascii_digit text)) number_limit
capped_value [] n m e = e
capped_value (b ∷ text) n m e = go (is_ascii_digit b) (capped_value text (min (10 * n + (b - 48)) number_limit) (add m b) (capped_step n m (b - 48) e))
  where
    go : (t : Bool) → capped (min (10 * n + (b - 48)) number_limit) text ≡ min (fold add (add m b) (taken is_ascii_digit text)) number_limit → (if t then capped (min (10 * n + (b - 48)) number_limit) text else n) ≡ min (fold add m (if t then b ∷ taken is_ascii_digit text else [])) number_limit
    go true more = more
    go false more = e

-- ---- comments

-- the text begins with a comment's body, and this is left
abbrev Closes : List ℕ → Option (List ℕ) → Type 0
Closes text None = Unit {0}
Closes text (Some after) = (body : List ℕ) × (text ≡ body ++ after) × IsCommentBody body

body_first : {body : List ℕ} → IsCommentBody body → (p : ℕ → Bool) (after : List ℕ) → first_is p (body ++ after) ≡ first_is p body
body_first IsCommentBody.brace p after = refl
body_first IsCommentBody.star p after = refl
body_first (IsCommentBody.more b body not_closed ended) p after = refl

more_closes : (b : ℕ) (text : List ℕ) (o : Option (List ℕ)) → (b == 125) ≡ false → (b == 42 && next_is 41 text) ≡ false → Closes text o → Closes (b ∷ text) o
more_closes b text None no_brace no_star h = tt
more_closes b text (Some after) no_brace no_star h =
    let same : next_is 41 text ≡ next_is 41 h.0 = ap (next_is 41) h.1 ∙ body_first h.2 (λ c. c == 41) after in
    let no : closes_comment (b ∷ h.0) ≡ false = rw (no_brace, ← same, no_star) in
    (b ∷ h.0, ap (λ t. b ∷ t) h.1, IsCommentBody.more b h.0 no h.2)

comment_closes : (text : List ℕ) → Closes text (after_comment text)
comment_closes [] = tt
comment_closes (b ∷ text) =
    let P = Closes (b ∷ text) in
    if_test P (b == 125) _ _ (λ e. (125 ∷ [], first_eq b 125 text e, IsCommentBody.brace)) (λ no_brace.
    if_test P (b == 42 && next_is 41 text) _ _ (λ e. let t = both (b == 42) (next_is 41 text) e in (42 ∷ 41 ∷ [], two_eq b 42 41 text t.0 t.1, IsCommentBody.star)) (λ no_star.
    more_closes b text (after_comment text) no_brace no_star (comment_closes text)))

body_closed : {body : List ℕ} → IsCommentBody body → (after : List ℕ) → after_comment (body ++ after) ≡ Some after
body_closed IsCommentBody.brace after = refl
body_closed IsCommentBody.star after = refl
body_closed (IsCommentBody.more b body not_closed ended) after =
    let n = neither (b == 125) (b == 42 && first_is (λ c. c == 41) body) not_closed in
    rw (n.0, body_first ended (λ c. c == 41) after, n.1) (body_closed ended after)

-- ---- what is cut

-- what the piece says of its bytes and of what follows them
abbrev pub Is : Piece → List ℕ → List ℕ → Type 0
Is piece.Separator run after = IsSeparator run
Is piece.Word run after = IsWordToken (map to_ascii_lowercase run) run after
Is (piece.Number n) run after = IsNumberToken n run after
Is (piece.Char c) run after = IsCharToken c run
Is (piece.Symbol s) run after = IsSymbolToken s run after

abbrev pub Holds : List ℕ → Cut → Type 0
Holds text None = Unit {0}
Holds text (Some c) = (run : List ℕ) × (text ≡ run ++ c.1) × Is c.0 run c.1

word_holds : (b : ℕ) (rest : List ℕ) → is_ascii_alphabetic b ≡ true → Holds (b ∷ rest) (Some (piece.Word, past is_word_byte (b ∷ rest)))
word_holds b rest e =
    let first : first_is is_ascii_alphabetic (taken is_word_byte (b ∷ rest)) ≡ true = rw (letter_word b e) e in
    (taken is_word_byte (b ∷ rest), taken_past is_word_byte (b ∷ rest), record { letter = first; all = taken_all is_word_byte (b ∷ rest); longest = past_first is_word_byte (b ∷ rest); lower = refl })

number_holds : (b : ℕ) (rest : List ℕ) → is_ascii_digit b ≡ true → Holds (b ∷ rest) (cut_number (b ∷ rest))
unfolding decimal
number_holds b rest e = go (nat_lt (capped 0 (b ∷ rest)) number_limit) refl
  where
    go : (t : Bool) → nat_lt (capped 0 (b ∷ rest)) number_limit ≡ t → Holds (b ∷ rest) (if t then Some (piece.Number (pos (capped 0 (b ∷ rest))), past is_ascii_digit (b ∷ rest)) else None)
    go false small = tt
    go true small =
        let low : capped 0 (b ∷ rest) < number_limit = grind (arith, nat_tests) in
        let all = capped_value (b ∷ rest) 0 0 refl in
        let same : decimal (taken is_ascii_digit (b ∷ rest)) ≡ capped 0 (b ∷ rest) = omega arith in
        let first : first_is is_ascii_digit (taken is_ascii_digit (b ∷ rest)) ≡ true = rw (e, e) in
        (taken is_ascii_digit (b ∷ rest), taken_past is_ascii_digit (b ∷ rest), record { digit = first; all = taken_all is_ascii_digit (b ∷ rest); longest = past_first is_ascii_digit (b ∷ rest); fits = rw same low; value = ap pos (sym same) })

brace_holds : (rest : List ℕ) (o : Option (List ℕ)) → Closes rest o → Holds (123 ∷ rest) (cut_comment o)
brace_holds rest None h = tt
brace_holds rest (Some after) h = (123 ∷ h.0, ap (λ t. 123 ∷ t) h.1, IsSeparator.brace h.0 h.2)

star_holds : (rest : List ℕ) (o : Option (List ℕ)) → Closes rest o → Holds (40 ∷ 42 ∷ rest) (cut_comment o)
star_holds rest None h = tt
star_holds rest (Some after) h = (40 ∷ 42 ∷ h.0, ap (λ t. 40 ∷ 42 ∷ t) h.1, IsSeparator.star h.0 h.2)

char_holds : (rest : List ℕ) → Holds (39 ∷ rest) (cut_char rest)
char_holds [] = tt
char_holds (c ∷ []) = tt
char_holds (c ∷ d ∷ text) = go (c == 39) refl
  where
    quote : (t : Bool) → (d == 39 && next_is 39 text) ≡ t → c ≡ 39 → Holds (39 ∷ c ∷ d ∷ text) (if t then Some (piece.Char 39, tail text) else None)
    quote false e is = tt
    quote true e is = let t = both (d == 39) (next_is 39 text) e in (39 ∷ 39 ∷ 39 ∷ 39 ∷ [], ap (λ c. 39 ∷ c ∷ d ∷ text) is ∙ ap (λ t. 39 ∷ 39 ∷ t) (two_eq d 39 39 text t.0 t.1), IsCharToken.image)

    plain : (t : Bool) → (d == 39 && nat_le 32 c && nat_le c 126) ≡ t → (c == 39) ≡ false → Holds (39 ∷ c ∷ d ∷ text) (if t then Some (piece.Char c, text) else None)
    plain false e other = tt
    plain true e other = let d_is : d ≡ 39 = grind (arith, nat_tests) in (39 ∷ c ∷ 39 ∷ [], ap (λ d. 39 ∷ c ∷ d ∷ text) d_is, IsCharToken.printable c (grind (arith, nat_tests)) (grind (arith, nat_tests)) (grind (arith, nat_tests)))

    go : (t : Bool) → (c == 39) ≡ t → Holds (39 ∷ c ∷ d ∷ text) (if t then (if d == 39 && next_is 39 text then Some (piece.Char 39, tail text) else None) else (if d == 39 && nat_le 32 c && nat_le c 126 then Some (piece.Char c, text) else None))
    go true e = quote (d == 39 && next_is 39 text) refl (grind (arith, nat_tests))
    go false e = plain (d == 39 && nat_le 32 c && nat_le c 126) refl e

-- a symbol by its bytes
abbrev Symbols : ℕ → List ℕ → Option (Symbol × Bool) → Type 0
Symbols b rest None = Unit {0}
Symbols b rest (Some x) = (run : List ℕ) × (let l : List ℕ = b ∷ rest in l ≡ run ++ (if x.1 then tail rest else rest)) × IsSymbolToken x.0 run (if x.1 then tail rest else rest)

symbol_holds : (b : ℕ) (rest : List ℕ) → (b == 40 && next_is 42 rest) ≡ false → Symbols b rest (symbol b rest)
symbol_holds b rest no_comment =
    let P = Symbols b rest in
    if_test P (b == 43) _ _ (λ e. (43 ∷ [], first_eq b 43 rest e, (refl, tt))) (λ e.
    if_test P (b == 45) _ _ (λ e. (45 ∷ [], first_eq b 45 rest e, (refl, tt))) (λ e.
    if_test P (b == 42) _ _ (λ e. (42 ∷ [], first_eq b 42 rest e, (refl, tt))) (λ e.
    if_test P (b == 61) _ _ (λ e. (61 ∷ [], first_eq b 61 rest e, (refl, tt))) (λ e.
    if_test P (b == 60) _ _ (λ e.
    if_test P (next_is 62 rest) _ _ (λ h. (60 ∷ 62 ∷ [], two_eq b 60 62 rest e h, (refl, tt))) (λ h.
    if_test P (next_is 61 rest) _ _ (λ g. (60 ∷ 61 ∷ [], two_eq b 60 61 rest e g, (refl, tt))) (λ g. (60 ∷ [], first_eq b 60 rest e, (refl, (h, (g, tt))))))) (λ e.
    if_test P (b == 62) _ _ (λ e.
    if_test P (next_is 61 rest) _ _ (λ h. (62 ∷ 61 ∷ [], two_eq b 62 61 rest e h, (refl, tt))) (λ h. (62 ∷ [], first_eq b 62 rest e, (refl, (h, tt))))) (λ e.
    if_test P (b == 40) _ _ (λ e.
    if_test P (next_is 46 rest) _ _ (λ h. (40 ∷ 46 ∷ [], two_eq b 40 46 rest e h, inr (refl, tt))) (λ h. (40 ∷ [], first_eq b 40 rest e, (refl, (rw e at no_comment, (h, tt)))))) (λ e.
    if_test P (b == 41) _ _ (λ e. (41 ∷ [], first_eq b 41 rest e, (refl, tt))) (λ e.
    if_test P (b == 91) _ _ (λ e. (91 ∷ [], first_eq b 91 rest e, inl (refl, tt))) (λ e.
    if_test P (b == 93) _ _ (λ e. (93 ∷ [], first_eq b 93 rest e, inl (refl, tt))) (λ e.
    if_test P (b == 46) _ _ (λ e.
    if_test P (next_is 46 rest) _ _ (λ h. (46 ∷ 46 ∷ [], two_eq b 46 46 rest e h, (refl, tt))) (λ h.
    if_test P (next_is 41 rest) _ _ (λ g. (46 ∷ 41 ∷ [], two_eq b 46 41 rest e g, inr (refl, tt))) (λ g. (46 ∷ [], first_eq b 46 rest e, (refl, (h, (g, tt))))))) (λ e.
    if_test P (b == 44) _ _ (λ e. (44 ∷ [], first_eq b 44 rest e, (refl, tt))) (λ e.
    if_test P (b == 59) _ _ (λ e. (59 ∷ [], first_eq b 59 rest e, (refl, tt))) (λ e.
    if_test P (b == 58) _ _ (λ e.
    if_test P (next_is 61 rest) _ _ (λ h. (58 ∷ 61 ∷ [], two_eq b 58 61 rest e h, (refl, tt))) (λ h. (58 ∷ [], first_eq b 58 rest e, (refl, (h, tt))))) (λ e. tt))))))))))))))

then_holds : (b : ℕ) (rest : List ℕ) (o : Option (Symbol × Bool)) → Symbols b rest o → Holds (b ∷ rest) (symbol_then rest o)
then_holds b rest None h = tt
then_holds b rest (Some x) h = h

pub cut_holds : (text : List ℕ) → Holds text (cut text)
unfolding cut
cut_holds [] = tt
cut_holds (b ∷ rest) =
    let P = Holds (b ∷ rest) in
    if_test P (is_blank b) _ _ (λ e. (b ∷ [], refl, IsSeparator.blank b e)) (λ _.
    if_test P (is_ascii_alphabetic b) _ _ (λ e. word_holds b rest e) (λ _.
    if_test P (is_ascii_digit b) _ _ (λ e. number_holds b rest e) (λ _.
    if_test P (b == 123) _ _ (λ e. subst (λ t. Holds t (cut_comment (after_comment rest))) (sym (first_eq b 123 rest e)) (brace_holds rest (after_comment rest) (comment_closes rest))) (λ _.
    if_test P (b == 40 && next_is 42 rest) _ _ (λ e. let t = both (b == 40) (next_is 42 rest) e in subst (λ t. Holds t (cut_comment (after_comment (tail rest)))) (sym (two_eq b 40 42 rest t.0 t.1)) (star_holds (tail rest) (after_comment (tail rest)) (comment_closes (tail rest)))) (λ no_comment.
    if_test P (b == 39) _ _ (λ e. subst (λ t. Holds t (cut_char rest)) (sym (first_eq b 39 rest e)) (char_holds rest)) (λ _.
    then_holds b rest (symbol b rest) (symbol_holds b rest no_comment)))))))

-- ---- what stands there is cut

pub separator_cut : {run : List ℕ} → IsSeparator run → (after : List ℕ) → cut (run ++ after) ≡ Some (piece.Separator, after)
unfolding cut
separator_cut (IsSeparator.blank b e) after = rw e
separator_cut (IsSeparator.brace body h) after = rw (body_closed h after)
separator_cut (IsSeparator.star body h) after = rw (body_closed h after)

pub symbol_cut : (s : Symbol) (run after : List ℕ) → IsSymbolToken s run after → cut (run ++ after) ≡ Some (piece.Symbol s, after)
unfolding cut
symbol_cut symbols.Plus run after h = rw h.0
symbol_cut symbols.Minus run after h = rw h.0
symbol_cut symbols.Star run after h = rw h.0
symbol_cut symbols.Equal run after h = rw h.0
symbol_cut symbols.NotEqual run after h = rw h.0
symbol_cut symbols.Less run after h = rw (h.0, h.1.0, h.1.1.0)
symbol_cut symbols.AtMost run after h = rw h.0
symbol_cut symbols.Greater run after h = rw (h.0, h.1.0)
symbol_cut symbols.AtLeast run after h = rw h.0
symbol_cut symbols.OpenParenthesis run after h = rw (h.0, h.1.0, h.1.1.0)
symbol_cut symbols.CloseParenthesis run after h = rw h.0
symbol_cut symbols.OpenBracket run after h = ⊎_elim (λ h. rw h.0 refl) (λ h. rw h.0 refl) h
symbol_cut symbols.CloseBracket run after h = ⊎_elim (λ h. rw h.0 refl) (λ h. rw h.0 refl) h
symbol_cut symbols.Dot run after h = rw (h.0, h.1.0, h.1.1.0)
symbol_cut symbols.Dots run after h = rw h.0
symbol_cut symbols.Comma run after h = rw h.0
symbol_cut symbols.Semicolon run after h = rw h.0
symbol_cut symbols.Colon run after h = rw (h.0, h.1.0)
symbol_cut symbols.Becomes run after h = rw h.0

letter_blank : (b : ℕ) → is_ascii_alphabetic b ≡ true → is_blank b ≡ false
letter_blank b e = grind (arith, nat_tests)

digit_letter : (b : ℕ) → is_ascii_digit b ≡ true → (is_ascii_alphabetic b ≡ false) × (is_blank b ≡ false)
digit_letter b e = (grind (arith, nat_tests), grind (arith, nat_tests))

word_first : (b : ℕ) (rest : List ℕ) → is_ascii_alphabetic b ≡ true → cut (b ∷ rest) ≡ Some (piece.Word, past is_word_byte (b ∷ rest))
unfolding cut
word_first b rest e = rw (letter_blank b e, e)

digit_first : (b : ℕ) (rest : List ℕ) → is_ascii_digit b ≡ true → cut (b ∷ rest) ≡ cut_number (b ∷ rest)
unfolding cut
digit_first b rest e = rw ((digit_letter b e).1, (digit_letter b e).0, e)

pub word_cut : (w run after : List ℕ) → IsWordToken w run after → cut (run ++ after) ≡ Some (piece.Word, after)
word_cut w [] after h = absurd (let e = h.letter in cc)
word_cut w (b ∷ run) after h = word_first b (run ++ after) h.letter ∙ ap (λ t. Some (piece.Word, t)) (run_past is_word_byte (b ∷ run) after h.all h.longest)

pub number_cut : (n : ℤ) (run after : List ℕ) → IsNumberToken n run after → cut (run ++ after) ≡ Some (piece.Number n, after)
unfolding decimal
number_cut n [] after h = absurd (let e = h.digit in cc)
number_cut n (b ∷ run) after h =
    let all = capped_value (b ∷ run ++ after) 0 0 refl in
    let sum : fold add 0 (taken is_ascii_digit (b ∷ run ++ after)) ≡ fold add 0 (b ∷ run) = ap (fold add 0) (run_taken is_ascii_digit (b ∷ run) after h.all h.longest) in
    let fits : fold add 0 (b ∷ run) < number_limit = h.fits in
    let same : capped 0 (b ∷ run ++ after) ≡ fold add 0 (b ∷ run) = omega arith in
    let low : nat_lt (fold add 0 (b ∷ run)) number_limit ≡ true = grind (arith, nat_tests) in
    digit_first b (run ++ after) h.digit ∙ number_of (b ∷ run ++ after) (fold add 0 (b ∷ run)) same low (run_past is_ascii_digit (b ∷ run) after h.all h.longest) h.value
  where
    number_of : (text : List ℕ) (m : ℕ) → capped 0 text ≡ m → nat_lt m number_limit ≡ true → past is_ascii_digit text ≡ after → n ≡ pos m → cut_number text ≡ Some (piece.Number n, after)
    number_of text m same low rest value = rw (same, low, rest, value)

pub char_cut : (c : ℕ) (run after : List ℕ) → IsCharToken c run → cut (run ++ after) ≡ Some (piece.Char c, after)
unfolding cut
char_cut c run after IsCharToken.image = refl
char_cut c run after (IsCharToken.printable b other low high) =
    let c1 : (b == 39) ≡ false = grind (arith, nat_tests) in
    let c2 : nat_le 32 b ≡ true = grind (arith, nat_tests) in
    let c3 : nat_le b 126 ≡ true = grind (arith, nat_tests) in
    rw (c1, c2, c3)
