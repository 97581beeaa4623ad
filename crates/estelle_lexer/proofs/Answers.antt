-- What the lexer answers, and the laws of lexing.
use Rattle.std.proofs.Common.{◌≡◌, ◌≤◌, ℕ, false, List, [], length, Result, Ok, Err, sym, refl, ap, ◌∙◌, subst, arith}
use Rattle.std.specs.Prelude.{◌⊎◌, IfOk, IfErr}
use Rattle.std.proofs.Common.{inl, inr}
use Rattle.estelle_tree.specs.declared.token.Placed.{Placed}
use Rattle.estelle_tree.specs.Lexed.{IsLexed, IsLexicalErrorAt, FollowOneAnother}
use Rattle.estelle_lexer.specs.declared.error.LexError.{LexError}
use Rattle.estelle_lexer.specs.declared.error.LexError.TheVariants.{At, Memory}
use Rattle.estelle_lexer.specs.declared.list.Tokens.{Tokens}
use Rattle.estelle_lexer.specs.Lex.{Lexing, lex, Found}
use Rattle.estelle_lexer.specs.Tokens.{IsRefused, Gives, Refuses, IsBelow}
use Rattle.estelle_lexer.proofs.Lexes.{Tells, lex_tells, lexed_found, error_found, lexed_spans, span_count, error_below}

module _ (bytes : List ℕ) where
  tells : Tells false 0 [] bytes (lex bytes)
  unfolding lex
  tells = lex_tells (length bytes) false 0 [] bytes (omega arith)

  list_found : (items : List Placed) (rest : ℕ) → IsLexed bytes items rest → lex bytes ≡ Ok (items, rest)
  unfolding lex
  list_found items rest h = lexed_found h (length bytes) [] (omega arith)

  place_found : (place : ℕ) → IsLexicalErrorAt bytes place → lex bytes ≡ Err place
  unfolding lex
  place_found place h = error_found h (length bytes) [] (omega arith)

  ok_tells : (items : List Placed) (rest : ℕ) → lex bytes ≡ Ok (items, rest) → IsLexed bytes items rest
  ok_tells items rest e =
      let l : Lexing = Ok (items, rest) in
      let t : Tells false 0 [] bytes l = subst (Tells false 0 [] bytes) e tells in
      subst (λ tokens. IsLexed bytes tokens rest) (sym t.1) t.2

  err_tells : (place : ℕ) → lex bytes ≡ Err place → IsLexicalErrorAt bytes place
  err_tells place e = subst (Tells false 0 [] bytes) e tells

  ok_same : (items others : List Placed) (rest place : ℕ) (l : Lexing) → l ≡ Ok (items, rest) → l ≡ Ok (others, place) → (items ≡ others) × (rest ≡ place)
  ok_same items others rest place l e f =
      let o : Lexing = Ok (items, rest) in
      let p : o ≡ Ok (others, place) = sym e ∙ f in
      let pair : (let x : List Placed × ℕ = (items, rest) in let y : List Placed × ℕ = (others, place) in x ≡ y) = cc in
      (ap (λ x. x.0) pair, ap (λ x. x.1) pair)

  module _ (r : Result Tokens LexError) (found : Found r (lex bytes)) where
    pub answer_lexed : IfOk r (λ t. IsLexed bytes t.items t.rest)
    answer_lexed = go r found
      where
        go : (r : Result Tokens LexError) → Found r (lex bytes) → IfOk r (λ t. IsLexed bytes t.items t.rest)
        go (Ok t) f = ok_tells t.items t.rest f
        go (Err e) f = tt

    pub answer_refused : IfErr r (IsRefused bytes)
    answer_refused = go r found
      where
        go : (r : Result Tokens LexError) → Found r (lex bytes) → IfErr r (IsRefused bytes)
        go (Ok t) f = tt
        go (Err Memory) f = tt
        go (Err (At place)) f = err_tells place f

    pub answer_list : (items : List Placed) (rest : ℕ) → IsLexed bytes items rest → Gives items rest r
    answer_list items rest h = go r found (list_found items rest h)
      where
        go : (r : Result Tokens LexError) → Found r (lex bytes) → lex bytes ≡ Ok (items, rest) → Gives items rest r
        go (Ok t) f e = ok_same t.items items t.rest rest (lex bytes) f e
        go (Err Memory) f e = tt
        go (Err (At place)) f e = cc

    pub answer_place : (place : ℕ) → IsLexicalErrorAt bytes place → Refuses place r
    answer_place place h = go r found (place_found place h)
      where
        go : (r : Result Tokens LexError) → Found r (lex bytes) → lex bytes ≡ Err place → Refuses place r
        go (Ok t) f e = cc
        go (Err Memory) f e = tt
        go (Err (At at)) f e = cc

    pub answer_spans : IfOk r (λ t. FollowOneAnother 0 t.items t.rest)
    answer_spans = go r answer_lexed
      where
        go : (r : Result Tokens LexError) → IfOk r (λ t. IsLexed bytes t.items t.rest) → IfOk r (λ t. FollowOneAnother 0 t.items t.rest)
        go (Ok t) h = (lexed_spans h).0
        go (Err e) h = tt

    pub answer_count : IfOk r (λ t. length t.items ≤ t.rest)
    answer_count = go r answer_lexed
      where
        go : (r : Result Tokens LexError) → IfOk r (λ t. IsLexed bytes t.items t.rest) → IfOk r (λ t. length t.items ≤ t.rest)
        go (Ok t) h = let n = span_count 0 t.rest t.items (lexed_spans h).0 in omega arith
        go (Err e) h = tt

    pub answer_below : IfErr r (IsBelow (length bytes))
    answer_below = go r answer_refused
      where
        go : (r : Result Tokens LexError) → IfErr r (IsRefused bytes) → IfErr r (IsBelow (length bytes))
        go (Ok t) h = tt
        go (Err Memory) h = tt
        go (Err (At place)) h = let n = error_below h in omega arith

    pub answer_rest : IfOk r (λ t. t.rest ≤ length bytes)
    answer_rest = go r answer_lexed
      where
        go : (r : Result Tokens LexError) → IfOk r (λ t. IsLexed bytes t.items t.rest) → IfOk r (λ t. t.rest ≤ length bytes)
        go (Ok t) h = let s = (lexed_spans h).1 in omega arith
        go (Err e) h = tt

  -- ---- laws

  pub one_list : (items others : List Placed) (rest place : ℕ) → IsLexed bytes items rest → IsLexed bytes others place → (items ≡ others) × (rest ≡ place)
  one_list items others rest place h g = ok_same items others rest place (lex bytes) (list_found items rest h) (list_found others place g)

  pub one_error : (place other : ℕ) → IsLexicalErrorAt bytes place → IsLexicalErrorAt bytes other → place ≡ other
  one_error place other h g = let e = place_found place h in let f = place_found other g in cc

  pub not_both : (items : List Placed) (rest place : ℕ) → IsLexed bytes items rest → IsLexicalErrorAt bytes place → ⊥
  not_both items rest place h g = let e = list_found items rest h in let f = place_found place g in cc

  pub one_of_both : ((items : List Placed) × (rest : ℕ) × IsLexed bytes items rest) ⊎ ((place : ℕ) × IsLexicalErrorAt bytes place)
  one_of_both = go (lex bytes) refl
    where
      go : (l : Lexing) → lex bytes ≡ l → ((items : List Placed) × (rest : ℕ) × IsLexed bytes items rest) ⊎ ((place : ℕ) × IsLexicalErrorAt bytes place)
      go (Ok r) e = inl (r.0, r.1, ok_tells r.0 r.1 e)
      go (Err place) e = inr (place, err_tells place e)

  pub spans_follow : (items : List Placed) (rest : ℕ) → IsLexed bytes items rest → FollowOneAnother 0 items rest × (length items ≤ rest) × (rest ≤ length bytes)
  spans_follow items rest h = let s = lexed_spans h in (s.0, (let count = span_count 0 rest items s.0 in omega arith), (let within = s.1 in omega arith))
