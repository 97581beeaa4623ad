-- A turn of the loop that reads the tokens.
use Rattle.std.proofs.Common.{◌≡◌, ◌<◌, ◌≤◌, ◌+◌, ◌-◌, ℕ, suc, Bool, true, false, List, [], ◌∷◌, ◌++◌, length, Option, Some, None, Ok, Err, sym, refl, ap, ◌∙◌, arith, eqb-true}
use Rattle.std.specs.Prelude.{IfSome, ◌&&◌, ◌==◌}
use Rattle.std.proofs.lemmas.List.{length-take-le}
use denote.Bor.{Bor}
use Rattle.estelle_tree.specs.declared.token.Placed.{Placed}
use Rattle.estelle_tree.specs.declared.token.Token.{Token}
use Rattle.estelle_tree.specs.Lexed.{is_end, is_dot, placed}
use Rattle.estelle_lexer.specs.declared.front.Piece.{Piece}
use Rattle.estelle_lexer.specs.Front.{cut, seen}
use Rattle.estelle_lexer.specs.Lex.{token_of, Lexing, run_of, lex_from, lex}
use Rattle.estelle_lexer.proofs.Lexes.{cut_shorter, lex_step}

pub seen_shorter : (text : List ℕ) (r : Option (Piece × Bor (List ℕ))) → seen r ≡ cut text → IfSome r (λ x. length x.1.now < length text)
seen_shorter text None e = tt
seen_shorter text (Some x) e = cut_shorter text x.1.now x.0 (sym e)

module _ (l : Lexing) (after_end : Bool) (at : ℕ) (found : List Placed) (text : List ℕ) (n turn : ℕ) (room : turn < n) (same : l ≡ lex_from (n - turn) after_end at found text) where
  later : l ≡ lex_from (suc (n - (turn + 1))) after_end at found text
  later = let turns : n - turn ≡ suc (n - (turn + 1)) = omega arith in same ∙ ap (λ m. lex_from m after_end at found text) turns

  pub turn_empty : text ≡ [] → l ≡ Ok (found, at)
  unfolding lex_from
  turn_empty e = later ∙ rw e

  pub turn_none : 0 < length text → cut text ≡ None → l ≡ Err at
  unfolding lex_from
  turn_none some e = later ∙ go text some e
    where
      go : (text : List ℕ) → 0 < length text → cut text ≡ None → lex_from (suc (n - (turn + 1))) after_end at found text ≡ Err at
      go [] some e = absurd (omega arith)
      go (b ∷ text) some e = rw e

  module _ (p : Piece) (after : List ℕ) (is : cut text ≡ Some (p, after)) where
    pub turn_separator : token_of p (run_of text after) ≡ None → l ≡ lex_from (n - (turn + 1)) after_end (at + length (run_of text after)) found after
    turn_separator o = later ∙ lex_step (n - (turn + 1)) after_end at found text after p is ∙ rw o

    pub turn_item : (t : Token) → token_of p (run_of text after) ≡ Some t → (after_end && is_dot t) ≡ false → l ≡ lex_from (n - (turn + 1)) (is_end t) (at + length (run_of text after)) (found ++ placed at t (run_of text after) ∷ []) after
    turn_item t o goes_on = later ∙ lex_step (n - (turn + 1)) after_end at found text after p is ∙ rw (o, goes_on)

    pub turn_last : (t : Token) → token_of p (run_of text after) ≡ Some t → (after_end && is_dot t) ≡ true → l ≡ Ok (found ++ placed at t (run_of text after) ∷ [], at + length (run_of text after))
    turn_last t o stop = later ∙ lex_step (n - (turn + 1)) after_end at found text after p is ∙ rw (o, stop)

pub place_after : (at : ℕ) (text after : List ℕ) → length after < length text → at + length (run_of text after) + length after ≡ at + length text
place_after at text after less = let n : length (run_of text after) ≡ length text - length after = length-take-le (length text - length after) text (omega arith) in omega arith

pub turn_over : (l : Lexing) (after_end : Bool) (at : ℕ) (found : List Placed) (text : List ℕ) (n turn : ℕ) → n ≤ turn → l ≡ lex_from (n - turn) after_end at found text → l ≡ Ok (found, at)
unfolding lex_from
turn_over l after_end at found text n turn over same = let none : n - turn ≡ 0 = omega arith in same ∙ ap (λ m. lex_from m after_end at found text) none

pub turn_start : (bytes : List ℕ) → lex bytes ≡ lex_from (length bytes - 0) false 0 [] bytes
unfolding lex
turn_start bytes = let n : length bytes ≡ length bytes - 0 = omega arith in ap (λ n. lex_from n false 0 [] bytes) n

pub empty_is : (text : List ℕ) → (length text == 0) ≡ true → text ≡ []
empty_is [] e = refl
empty_is (b ∷ text) e = let none : length (b ∷ text) ≡ 0 = eqb-true (length (b ∷ text)) 0 e in absurd (omega arith)

pub some_are : (text : List ℕ) → (length text == 0) ≡ false → 0 < length text
some_are [] e = absurd (cc)
some_are (b ∷ text) e = omega arith
