-- Where the parsers of one token stop.
use Rattle.std.proofs.Common.{◌≡◌, ℕ, ℤ, Bool, true, false, List, [], ◌∷◌, Some, sym, refl, ap, ◌∙◌}
use Rattle.std.specs.Prelude.{if◌then◌else◌, map}
use Rattle.std.specs.Str.{bytes_eq}
use Rattle.estelle_tree.specs.declared.kind.Kind.{Kind}
use Rattle.estelle_tree.specs.declared.kind.Kind.TheVariants as k
use Rattle.estelle_tree.specs.declared.kind.TheConstants.{RESERVED}
use Rattle.estelle_tree.specs.declared.token.Token.{Token}
use Rattle.estelle_tree.specs.declared.token.Token.TheVariants as token
use Rattle.estelle_tree.specs.declared.token.Placed.{Placed as PlacedToken}
use Rattle.estelle_tree.specs.declared.token.Symbol.{Symbol}
use Rattle.estelle_tree.specs.declared.token.Symbol.TheVariants as symbol
use Rattle.estelle_tree.specs.Kind.{kind_of, kind_of_symbol, kind_of_word, lookup}
use Rattle.estelle_tree.specs.Input.{Input, first_kind, first_token, kind, token_at}

pub token_kind : (i : Input) (t : Token) → token_at i ≡ Some t → kind i ≡ kind_of t
unfolding token_at kind
token_kind i t e = go i.tokens e
  where
    go : (ps : List PlacedToken) → first_token ps ≡ Some t → first_kind ps ≡ kind_of t
    go [] e = absurd (cc)
    go (p ∷ ps) e = let same : p.token ≡ t = cc in ap kind_of same

-- ---- only a number is a token of that kind, and only a character one of that

is_word : Kind → Bool
is_word k.Number = false
is_word k.Char = false
is_word _ = true

are_words : List (List ℕ × Kind) → Bool
are_words [] = true
are_words (k ∷ ks) = if is_word k.1 then are_words ks else false

looked_up : (ks : List (List ℕ × Kind)) (w : List ℕ) → are_words ks ≡ true → is_word (lookup ks w) ≡ true
unfolding is_word are_words
looked_up [] w e = refl
looked_up (k ∷ ks) w e = go (λ e. looked_up ks w e) (is_word k.1) refl e (bytes_eq k.0 w)
  where
    go : (are_words ks ≡ true → is_word (lookup ks w) ≡ true) → (b : Bool) → is_word k.1 ≡ b → (if b then are_words ks else false) ≡ true → (c : Bool) → is_word (if c then k.1 else lookup ks w) ≡ true
    go more true is e true = is
    go more true is e false = more e
    go more false is e c = absurd (cc)

word_kind : (w : List ℕ) → is_word (kind_of_word w) ≡ true
unfolding kind_of_word is_word are_words
word_kind w = looked_up (map (λ k. (k.0.now, k.1)) RESERVED) w refl

symbol_kind : (s : Symbol) → is_word (kind_of_symbol s) ≡ true
unfolding is_word
symbol_kind symbol.Plus = refl
symbol_kind _ = refl

no_word : (kind' : Kind) → is_word kind' ≡ true → (kind' ≡ k.Number → ⊥) × (kind' ≡ k.Char → ⊥)
unfolding is_word
no_word kind' is = ((λ e. let no : true ≡ false = sym is ∙ ap is_word e in cc), (λ e. let no : true ≡ false = sym is ∙ ap is_word e in cc))

token_numbered : (t : Token) → kind_of t ≡ k.Number → (n : ℤ) × (t ≡ token.Number n)
token_numbered (token.Number n) e = (n, refl)
token_numbered (token.Word w) e = absurd ((no_word (kind_of_word w) (word_kind w)).0 e)
token_numbered (token.Char c) e = absurd (cc)
token_numbered (token.Symbol s) e = absurd ((no_word (kind_of_symbol s) (symbol_kind s)).0 e)

token_lettered : (t : Token) → kind_of t ≡ k.Char → (c : ℕ) × (t ≡ token.Char c)
token_lettered (token.Char c) e = (c, refl)
token_lettered (token.Word w) e = absurd ((no_word (kind_of_word w) (word_kind w)).1 e)
token_lettered (token.Number n) e = absurd (cc)
token_lettered (token.Symbol s) e = absurd ((no_word (kind_of_symbol s) (symbol_kind s)).1 e)

pub number_token : (i : Input) → kind i ≡ k.Number → (n : ℤ) × (token_at i ≡ Some (token.Number n))
unfolding kind token_at
number_token i e = go i.tokens e
  where
    go : (ps : List PlacedToken) → first_kind ps ≡ k.Number → (n : ℤ) × (first_token ps ≡ Some (token.Number n))
    go [] e = absurd (cc)
    go (p ∷ ps) e = let t = token_numbered p.token e in (t.0, ap Some t.1)

pub char_token : (i : Input) → kind i ≡ k.Char → (c : ℕ) × (token_at i ≡ Some (token.Char c))
unfolding kind token_at
char_token i e = go i.tokens e
  where
    go : (ps : List PlacedToken) → first_kind ps ≡ k.Char → (c : ℕ) × (first_token ps ≡ Some (token.Char c))
    go [] e = absurd (cc)
    go (p ∷ ps) e = let t = token_lettered p.token e in (t.0, ap Some t.1)

-- ---- the parsers
