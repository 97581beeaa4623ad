-- The tokens of a text are those that it is cut into.
use Rattle.std.proofs.Common.{◌≡◌, ◌<◌, ◌≤◌, ◌+◌, ℕ, zero, suc, Bool, true, false, List, [], ◌∷◌, ◌++◌, length, Option, Some, None, Ok, Err, sym, refl, ap, ◌∙◌, subst, ⊎_elim, append_assoc, append-nil, arith, length-append}
use Rattle.std.specs.Prelude.{if◌then◌else◌, ◌&&◌, ◌≢◌}
use Rattle.estelle_tree.specs.declared.token.Placed.{Placed}
use Rattle.estelle_tree.specs.declared.token.Token.{Token}
use Rattle.estelle_tree.specs.declared.token.Token.TheVariants as token
use Rattle.estelle_tree.specs.declared.token.Symbol.{Symbol}
use Rattle.estelle_tree.specs.declared.token.Symbol.TheVariants as symbols
use Rattle.estelle_tree.specs.Lexed.{IsSeparator, IsToken, IsSymbolToken, IsCharToken, is_end, is_dot, placed, Lexed, LexicalError, NothingBegins, FollowOneAnother}
use Rattle.estelle_lexer.specs.declared.front.Piece.{Piece}
use Rattle.estelle_lexer.specs.declared.front.Piece.TheVariants as piece
use Rattle.estelle_lexer.specs.Front.{Cut, cut}
use Rattle.estelle_lexer.specs.Lex.{token_of, Lexing, Going, run_of, taking, step, lex_from}
use Rattle.estelle_lexer.proofs.Fronts.{Is, Holds, cut_holds, separator_cut, word_cut, number_cut, char_cut, symbol_cut, run_of-append}

-- ---- pieces and tokens

-- the bytes are a separator or a token
abbrev pub Stands : List ℕ → List ℕ → Option Token → Type 0
Stands run after None = IsSeparator run
Stands run after (Some t) = IsToken t run after

stands : (p : Piece) (run after : List ℕ) → Is p run after → Stands run after (token_of p run)
stands piece.Separator run after h = h
stands piece.Word run after h = h
stands (piece.Number n) run after h = h
stands (piece.Char c) run after h = h
stands (piece.Symbol s) run after h = h

-- what is cut from the text
pub record Stood (text after : List ℕ) (o : Option Token) : Type 0 where
  pub parts : text ≡ run_of text after ++ after
  pub stands : Stands (run_of text after) after o

pub cut_stands : (text after : List ℕ) (p : Piece) → cut text ≡ Some (p, after) → Stood text after (token_of p (run_of text after))
cut_stands text after p e = let h = subst (Holds text) e (cut_holds text) in go h.0 text h.1 h.2
  where
    go : (run text : List ℕ) → text ≡ run ++ after → Is p run after → Stood text after (token_of p (run_of text after))
    go run text same is =
        let taken : run_of text after ≡ run = ap (λ t. run_of t after) same ∙ run_of-append run after in
        record { parts = rw taken same; stands = rw taken (stands p run after is) }

-- ---- what is taken is not empty

pub separator_some : {run : List ℕ} → IsSeparator run → 0 < length run
separator_some (IsSeparator.blank b e) = omega arith
separator_some (IsSeparator.brace body h) = omega arith
separator_some (IsSeparator.star body h) = omega arith

char_some : (c : ℕ) {run : List ℕ} → IsCharToken c run → 0 < length run
char_some c IsCharToken.image = omega arith
char_some c (IsCharToken.printable b other low high) = omega arith

symbol_some : (s : Symbol) (run after : List ℕ) → IsSymbolToken s run after → 0 < length run
symbol_some symbols.Plus run after h = rw h.0 (omega arith)
symbol_some symbols.Minus run after h = rw h.0 (omega arith)
symbol_some symbols.Star run after h = rw h.0 (omega arith)
symbol_some symbols.Equal run after h = rw h.0 (omega arith)
symbol_some symbols.NotEqual run after h = rw h.0 (omega arith)
symbol_some symbols.Less run after h = rw h.0 (omega arith)
symbol_some symbols.AtMost run after h = rw h.0 (omega arith)
symbol_some symbols.Greater run after h = rw h.0 (omega arith)
symbol_some symbols.AtLeast run after h = rw h.0 (omega arith)
symbol_some symbols.OpenParenthesis run after h = rw h.0 (omega arith)
symbol_some symbols.CloseParenthesis run after h = rw h.0 (omega arith)
symbol_some symbols.OpenBracket run after h = ⊎_elim (λ h. rw h.0 (omega arith)) (λ h. rw h.0 (omega arith)) h
symbol_some symbols.CloseBracket run after h = ⊎_elim (λ h. rw h.0 (omega arith)) (λ h. rw h.0 (omega arith)) h
symbol_some symbols.Dot run after h = rw h.0 (omega arith)
symbol_some symbols.Dots run after h = rw h.0 (omega arith)
symbol_some symbols.Comma run after h = rw h.0 (omega arith)
symbol_some symbols.Semicolon run after h = rw h.0 (omega arith)
symbol_some symbols.Colon run after h = rw h.0 (omega arith)
symbol_some symbols.Becomes run after h = rw h.0 (omega arith)

token_some : (t : Token) (run after : List ℕ) → IsToken t run after → 0 < length run
token_some (token.Word w) [] after h = absurd (let e = h.letter in cc)
token_some (token.Word w) (b ∷ run) after h = omega arith
token_some (token.Number n) [] after h = absurd (let e = h.digit in cc)
token_some (token.Number n) (b ∷ run) after h = omega arith
token_some (token.Char c) run after h = char_some c h
token_some (token.Symbol s) run after h = symbol_some s run after h

stands_some : (run after : List ℕ) (o : Option Token) → Stands run after o → 0 < length run
stands_some run after None h = separator_some h
stands_some run after (Some t) h = token_some t run after h

pub shorter : (run after : List ℕ) → 0 < length run → length after < length (run ++ after)
shorter run after some = omega (arith, length-append run after)

pub cut_shorter : (text after : List ℕ) (p : Piece) → cut text ≡ Some (p, after) → length after < length text
cut_shorter text after p e =
    let s = cut_stands text after p e in
    subst (λ t. length after < length t) (sym s.parts) (shorter (run_of text after) after (stands_some (run_of text after) after (token_of p (run_of text after)) s.stands))

-- ---- the piece that is cut for a token

pub record CutFor (t : Token) (run after : List ℕ) : Type 0 where
  pub piece : Piece
  pub is : cut (run ++ after) ≡ Some (piece, after)
  pub token : token_of piece run ≡ Some t

pub cut_for : (t : Token) (run after : List ℕ) → IsToken t run after → CutFor t run after
cut_for (token.Word w) run after h = record { piece = piece.Word; is = word_cut w run after h; token = ap (λ w. Some (token.Word w)) (sym h.lower) }
cut_for (token.Number n) run after h = record { piece = piece.Number n; is = number_cut n run after h; token = refl }
cut_for (token.Char c) run after h = record { piece = piece.Char c; is = char_cut c run after h; token = refl }
cut_for (token.Symbol s) run after h = record { piece = piece.Symbol s; is = symbol_cut s run after h; token = refl }

-- ---- what the turns find holds of the text

if_test : {A : Type 0} (P : A → Type 0) (b : Bool) (x y : A) → (b ≡ true → P x) → (b ≡ false → P y) → P (if b then x else y)
if_test P true x y held other = held refl
if_test P false x y held other = other refl

-- what the answer says
abbrev pub Tells : Bool → ℕ → List Placed → List ℕ → Lexing → Type 0
Tells after_end at found text (Ok r) = (tokens : List Placed) × (r.0 ≡ found ++ tokens) × Lexed after_end at text tokens r.1
Tells after_end at found text (Err place) = LexicalError after_end at text place

abbrev pub Goes : Going → ℕ → Type 0
Goes go n = (after_end : Bool) (at : ℕ) (found : List Placed) (text : List ℕ) → length text ≤ n → Tells after_end at found text (go after_end at found text)

more_separator : (after_end : Bool) (at : ℕ) (found : List Placed) (run after : List ℕ) (l : Lexing) → IsSeparator run → Tells after_end (at + length run) found after l → Tells after_end at found (run ++ after) l
more_separator after_end at found run after (Ok r) is h = (h.0, h.1, Lexed.separator after_end at run after h.0 r.1 is h.2)
more_separator after_end at found run after (Err place) is h = LexicalError.separator after_end at run after place is h

more_item : (after_end : Bool) (at : ℕ) (found : List Placed) (t : Token) (run after : List ℕ) (l : Lexing) → IsToken t run after → (after_end && is_dot t) ≡ false
    → Tells (is_end t) (at + length run) (found ++ placed at t run ∷ []) after l → Tells after_end at found (run ++ after) l
more_item after_end at found t run after (Ok r) is goes_on h = (placed at t run ∷ h.0, h.1 ∙ append_assoc found (placed at t run ∷ []) h.0, Lexed.item after_end at t run after h.0 r.1 is goes_on h.2)
more_item after_end at found t run after (Err place) is goes_on h = LexicalError.item after_end at t run after place is goes_on h

taking_tells : (go : Going) (n : ℕ) → Goes go n → (after_end : Bool) (at : ℕ) (found : List Placed) (run after : List ℕ) (o : Option Token) → Stands run after o → length after ≤ n
    → Tells after_end at found (run ++ after) (taking go after_end at found run after o)
taking_tells go n goes after_end at found run after None is less = more_separator after_end at found run after (go after_end (at + length run) found after) is (goes after_end (at + length run) found after less)
taking_tells go n goes after_end at found run after (Some t) is less =
    if_test (Tells after_end at found (run ++ after)) (after_end && is_dot t) _ _ (λ stop. (placed at t run ∷ [], refl, Lexed.last after_end at t run after is stop))
    (λ goes_on. more_item after_end at found t run after (go (is_end t) (at + length run) (found ++ placed at t run ∷ []) after) is goes_on (goes (is_end t) (at + length run) (found ++ placed at t run ∷ []) after less))

pub uncut_nothing : (text : List ℕ) → text ≢ [] → cut text ≡ None → NothingBegins text
uncut_nothing text some e = record {
  some = some;
  no_separator = λ run after same is. let found = ap cut same ∙ separator_cut is after in cc;
  no_token = λ t run after same is. let found = ap cut same ∙ (cut_for t run after is).is in cc;
}

step_tells : (go : Going) (n : ℕ) → Goes go n → (after_end : Bool) (at : ℕ) (found : List Placed) (b : ℕ) (text : List ℕ) (c : Cut) → cut (b ∷ text) ≡ c → length (b ∷ text) ≤ suc n
    → Tells after_end at found (b ∷ text) (step go after_end at found (b ∷ text) c)
step_tells go n goes after_end at found b text None e fits = LexicalError.here after_end at (b ∷ text) (uncut_nothing (b ∷ text) (λ none. cc) e)
step_tells go n goes after_end at found b text (Some c) e fits =
    let s = cut_stands (b ∷ text) c.1 c.0 e in
    let less = cut_shorter (b ∷ text) c.1 c.0 e in
    let run = run_of (b ∷ text) c.1 in
    subst (λ t. Tells after_end at found t (taking go after_end at found run c.1 (token_of c.0 run))) (sym s.parts) (taking_tells go n goes after_end at found run c.1 (token_of c.0 run) s.stands (omega arith))

pub lex_tells : (n : ℕ) → Goes (lex_from n) n
unfolding lex_from
lex_tells zero after_end at found [] fits = ([], sym (append-nil found), Lexed.done after_end at)
lex_tells zero after_end at found (b ∷ text) fits = absurd (omega arith)
lex_tells (suc n) after_end at found [] fits = ([], sym (append-nil found), Lexed.done after_end at)
lex_tells (suc n) after_end at found (b ∷ text) fits = step_tells (lex_from n) n (lex_tells n) after_end at found b text (cut (b ∷ text)) refl fits

-- ---- what holds of the text is found

pub lex_step : (n : ℕ) (after_end : Bool) (at : ℕ) (found : List Placed) (text after : List ℕ) (p : Piece) → cut text ≡ Some (p, after) → lex_from (suc n) after_end at found text ≡ taking (lex_from n) after_end at found (run_of text after) after (token_of p (run_of text after))
unfolding lex_from
lex_step n after_end at found [] after p e = absurd (let less = cut_shorter [] after p e in omega arith)
lex_step n after_end at found (b ∷ text) after p e = rw e

separator_step : (n : ℕ) (after_end : Bool) (at : ℕ) (found : List Placed) (run after : List ℕ) → IsSeparator run → lex_from (suc n) after_end at found (run ++ after) ≡ lex_from n after_end (at + length run) found after
separator_step n after_end at found run after is = lex_step n after_end at found (run ++ after) after piece.Separator (separator_cut is after) ∙ ap (λ r. lex_from n after_end (at + length r) found after) (run_of-append run after)

token_step : (n : ℕ) (after_end : Bool) (at : ℕ) (found : List Placed) (t : Token) (run after : List ℕ) → IsToken t run after → lex_from (suc n) after_end at found (run ++ after) ≡ taking (lex_from n) after_end at found run after (Some t)
token_step n after_end at found t run after is =
    let c = cut_for t run after is in
    lex_step n after_end at found (run ++ after) after c.piece c.is ∙ ap (λ r. taking (lex_from n) after_end at found r after (token_of c.piece r)) (run_of-append run after) ∙ ap (taking (lex_from n) after_end at found run after) c.token

pub lexed_found : {after_end : Bool} {at : ℕ} {text : List ℕ} {tokens : List Placed} {rest : ℕ} → Lexed after_end at text tokens rest → (n : ℕ) (found : List Placed) → length text ≤ n → lex_from n after_end at found text ≡ Ok (found ++ tokens, rest)
unfolding lex_from
lexed_found (Lexed.done after_end at) zero found fits = rw (append-nil found)
lexed_found (Lexed.done after_end at) (suc n) found fits = rw (append-nil found)
lexed_found (Lexed.separator after_end at run after tokens rest is more) zero found fits = absurd (let less = shorter run after (separator_some is) in omega arith)
lexed_found (Lexed.separator after_end at run after tokens rest is more) (suc n) found fits =
    let less = shorter run after (separator_some is) in
    separator_step n after_end at found run after is ∙ lexed_found more n found (omega arith)
lexed_found (Lexed.item after_end at t run after tokens rest is goes_on more) zero found fits = absurd (let less = shorter run after (token_some t run after is) in omega arith)
lexed_found (Lexed.item after_end at t run after tokens rest is goes_on more) (suc n) found fits =
    let less = shorter run after (token_some t run after is) in
    token_step n after_end at found t run after is ∙ rw (goes_on, lexed_found more n (found ++ placed at t run ∷ []) (omega arith), append_assoc found (placed at t run ∷ []) tokens)
lexed_found (Lexed.last after_end at t run after is stop) zero found fits = absurd (let less = shorter run after (token_some t run after is) in omega arith)
lexed_found (Lexed.last after_end at t run after is stop) (suc n) found fits = token_step n after_end at found t run after is ∙ rw stop

nothing_uncut : (text : List ℕ) → NothingBegins text → cut text ≡ None
nothing_uncut text h = go (cut text) refl
  where
    none : (run after : List ℕ) (o : Option Token) → text ≡ run ++ after → Stands run after o → ⊥
    none run after None same is = h.no_separator run after same is
    none run after (Some t) same is = h.no_token t run after same is

    go : (c : Cut) → cut text ≡ c → c ≡ None
    go None e = refl
    go (Some c) e = let s = cut_stands text c.1 c.0 e in absurd (none (run_of text c.1) c.1 (token_of c.0 (run_of text c.1)) s.parts s.stands)

pub error_found : {after_end : Bool} {at : ℕ} {text : List ℕ} {place : ℕ} → LexicalError after_end at text place → (n : ℕ) (found : List Placed) → length text ≤ n → lex_from n after_end at found text ≡ Err place
unfolding lex_from
error_found (LexicalError.here after_end at [] h) n found fits = absurd (h.some refl)
error_found (LexicalError.here after_end at (b ∷ text) h) zero found fits = absurd (omega arith)
error_found (LexicalError.here after_end at (b ∷ text) h) (suc n) found fits = rw (nothing_uncut (b ∷ text) h)
error_found (LexicalError.separator after_end at run after place is more) zero found fits = absurd (let less = shorter run after (separator_some is) in omega arith)
error_found (LexicalError.separator after_end at run after place is more) (suc n) found fits =
    let less = shorter run after (separator_some is) in
    separator_step n after_end at found run after is ∙ error_found more n found (omega arith)
error_found (LexicalError.item after_end at t run after place is goes_on more) zero found fits = absurd (let less = shorter run after (token_some t run after is) in omega arith)
error_found (LexicalError.item after_end at t run after place is goes_on more) (suc n) found fits =
    let less = shorter run after (token_some t run after is) in
    token_step n after_end at found t run after is ∙ rw (goes_on, error_found more n (found ++ placed at t run ∷ []) (omega arith))

-- ---- spans

spans_from : (from at to : ℕ) (tokens : List Placed) → from ≤ at → FollowOneAnother at tokens to → FollowOneAnother from tokens to
spans_from from at to [] low h = omega arith
spans_from from at to (t ∷ tokens) low h = (omega (arith, h.0), h.1, h.2)

pub lexed_spans : {after_end : Bool} {at : ℕ} {text : List ℕ} {tokens : List Placed} {rest : ℕ} → Lexed after_end at text tokens rest → FollowOneAnother at tokens rest × (rest ≤ at + length text)
lexed_spans (Lexed.done after_end at) = (omega arith, omega arith)
lexed_spans (Lexed.separator after_end at run after tokens rest is more) =
    let h = lexed_spans more in
    (spans_from at (at + length run) rest tokens (omega arith) h.0, omega (arith, h.1, length-append run after))
lexed_spans (Lexed.item after_end at t run after tokens rest is goes_on more) =
    let h = lexed_spans more in
    let some = token_some t run after is in
    ((omega arith, omega arith, h.0), omega (arith, h.1, length-append run after))
lexed_spans (Lexed.last after_end at t run after is stop) =
    let some = token_some t run after is in
    ((omega arith, omega arith, omega arith), omega (arith, length-append run after))

-- no more tokens than bytes
pub span_count : (from to : ℕ) (tokens : List Placed) → FollowOneAnother from tokens to → from + length tokens ≤ to
span_count from to [] h = omega arith
span_count from to (t ∷ tokens) h = let more = span_count t.span.end to tokens h.2 in omega (arith, h.0, h.1)

pub error_below : {after_end : Bool} {at : ℕ} {text : List ℕ} {place : ℕ} → LexicalError after_end at text place → place < at + length text
error_below (LexicalError.here after_end at [] h) = absurd (h.some refl)
error_below (LexicalError.here after_end at (b ∷ text) h) = omega arith
error_below (LexicalError.separator after_end at run after place is more) = let h = error_below more in omega (arith, length-append run after)
error_below (LexicalError.item after_end at t run after place is goes_on more) = let h = error_below more in omega (arith, length-append run after)
