-- The tokens of a text, taken from left to right.
use Rattle.std.specs.Prelude.{◌≡◌, ℕ, zero, suc, ◌+◌, ◌-◌, Bool, false, ◌&&◌, if◌then◌else◌, List, [], ◌∷◌, ◌++◌, length, map, take, Option, Some, None, Result, Ok, Err}
use Rattle.std.specs.Char.{to_ascii_lowercase}
use Rattle.estelle_tree.specs.declared.token.Placed.{Placed}
use Rattle.estelle_tree.specs.declared.token.Token.{Token}
use Rattle.estelle_tree.specs.declared.token.Token.TheVariants as token
use Rattle.estelle_tree.specs.Lexed.{is_end, is_dot, placed}
use Rattle.estelle_lexer.specs.declared.front.Piece.{Piece}
use Rattle.estelle_lexer.specs.declared.front.Piece.TheVariants as piece
use Rattle.estelle_lexer.specs.declared.error.LexError.{LexError}
use Rattle.estelle_lexer.specs.declared.error.LexError.TheVariants.{At, Memory}
use Rattle.estelle_lexer.specs.declared.list.Tokens.{Tokens}
use Rattle.estelle_lexer.specs.Front.{Cut, cut}

-- the token of a piece with these bytes
abbrev pub token_of : Piece → List ℕ → Option Token
token_of piece.Separator run = None
token_of piece.Word run = Some (token.Word (map to_ascii_lowercase run))
token_of (piece.Number n) run = Some (token.Number n)
token_of (piece.Char c) run = Some (token.Char c)
token_of (piece.Symbol s) run = Some (token.Symbol s)

-- the tokens and the place after them, or the place where nothing begins
abbrev pub Lexing : Type 0
Lexing = Result (List Placed × ℕ) ℕ

-- what is done with the text that begins at a place: the flag says whether the token before is `end`, and the list is of the tokens so far
abbrev pub Going : Type 0
Going = Bool → ℕ → List Placed → List ℕ → Lexing

-- the bytes of the text before what is left of it
abbrev pub run_of : List ℕ → List ℕ → List ℕ
run_of text after = take (length text - length after) text

-- a separator, or a token with these bytes, is taken
abbrev pub taking : Going → Bool → ℕ → List Placed → List ℕ → List ℕ → Option Token → Lexing
taking go after_end at found run after None = go after_end (at + length run) found after
taking go after_end at found run after (Some t) =
    if after_end && is_dot t then Ok (found ++ placed at t run ∷ [], at + length run) else go (is_end t) (at + length run) (found ++ placed at t run ∷ []) after

abbrev pub step : Going → Bool → ℕ → List Placed → List ℕ → Cut → Lexing
step go after_end at found text None = Err at
step go after_end at found text (Some c) = taking go after_end at found (run_of text c.1) c.1 (token_of c.0 (run_of text c.1))

-- as many turns as the first number says
unfoldable pub lex_from : ℕ → Going
lex_from zero after_end at found text = Ok (found, at)
lex_from (suc n) after_end at found [] = Ok (found, at)
lex_from (suc n) after_end at found (b ∷ text) = step (lex_from n) after_end at found (b ∷ text) (cut (b ∷ text))

unfoldable pub lex : List ℕ → Lexing
lex text = lex_from (length text) false 0 [] text

-- the answer is this result, unless memory ran out
abbrev pub Found : Result Tokens LexError → Lexing → Type 0
Found (Ok found) lexing = lexing ≡ Ok (found.items, found.rest)
Found (Err Memory) lexing = Unit {0}
Found (Err (At place)) lexing = lexing ≡ Err place
