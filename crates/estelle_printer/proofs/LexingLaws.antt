-- The canonical text of tokens is cut into these tokens.
use Rattle.std.proofs.Common.{◌≡◌, ℕ, ◌+◌, Bool, true, false, List, [], ◌∷◌, ◌++◌, length, drop, refl, sym, ap, subst, ◌∙◌, append_assoc, append-nil, length-append, arith}
use Rattle.std.specs.Prelude.{not, ◌&&◌, All}
use Rattle.std.proofs.lemmas.List.Elements.{All-nil, All-cons, All-head, All-tail, All-map}
use Rattle.estelle_tree.specs.declared.token.Token.{Token}
use Rattle.estelle_tree.specs.declared.token.Token.TheVariants as token
use Rattle.estelle_tree.specs.declared.token.Symbol.TheVariants as symbol
use Rattle.estelle_tree.specs.declared.token.Placed.{Placed}
use Rattle.estelle_tree.specs.declared.kind.Kind.TheVariants as k
use Rattle.estelle_tree.specs.Lexed.{is_end, is_dot, placed, Lexed, IsLexed, IsBlank, IsBlankFrom, IsSeparator, IsToken}
use Rattle.std.proofs.lemmas.List.{drop_at}
use Rattle.estelle_tree.specs.Spells as spells
use Rattle.estelle_printer.specs.Canonical.{without_places, written, gap_after, canonical, line_feed, space}
use Rattle.estelle_printer.specs.Laws.{CanonicalTextIsLexed}
use Rattle.estelle_printer.specs.Terminals.{terminal}
use Rattle.estelle_printer.specs.SpecificationTokens.{before_dot}
use Rattle.estelle_printer.proofs.WritingLemmas.{spaced}
use Rattle.estelle_printer.proofs.FormLaws.{is_calm, each_of}
use Rattle.estelle_printer.proofs.LexemeLaws.{spaced_lexeme, fed_lexeme}
use Rattle.estelle_printer.proofs.SpecificationLaws.{spells_tokens, spells_calm}

-- each token in its place, where one byte stands between two
abbrev pub placing : ℕ → List Token → List Placed
placing at [] = []
placing at (t ∷ ts) = placed at t (written t) ∷ placing (at + length (written t) + 1) ts

bare_placing : (at : ℕ) (ts : List Token) → without_places (placing at ts) ≡ ts
bare_placing at [] = refl
bare_placing at (t ∷ ts) = ap (λ us. t ∷ us) (bare_placing (at + length (written t) + 1) ts)

-- a text is cut into tokens, and only blanks stand behind them
record Cuts (after_end : Bool) (at : ℕ) (text : List ℕ) (tokens : List Placed) : Type 0 where
  front : List ℕ
  behind : List ℕ
  parts : text ≡ front ++ behind
  lexed : Lexed after_end at text tokens (at + length front)
  blank : IsBlank behind

gap_lexeme : (t : Token) → spells.IsToken t → (rest : List ℕ) → IsToken t (written t) (gap_after t ∷ rest)
gap_lexeme (token.Symbol symbol.Semicolon) form rest = fed_lexeme (token.Symbol symbol.Semicolon) form rest
gap_lexeme (token.Symbol symbol.Plus) form rest = spaced_lexeme (token.Symbol symbol.Plus) form rest
gap_lexeme (token.Word w) form rest = spaced_lexeme (token.Word w) form rest
gap_lexeme (token.Number n) form rest = spaced_lexeme (token.Number n) form rest
gap_lexeme (token.Char c) form rest = spaced_lexeme (token.Char c) form rest
gap_lexeme (token.Symbol s) form rest = spaced_lexeme (token.Symbol s) form rest

gap_separator : (t : Token) → IsSeparator (gap_after t ∷ [])
gap_separator (token.Symbol symbol.Semicolon) = IsSeparator.blank line_feed refl
gap_separator _ = IsSeparator.blank space refl

feed : IsSeparator (line_feed ∷ [])
feed = IsSeparator.blank line_feed refl

-- the last token
ending : (b : Bool) (at : ℕ) (u : Token) → spells.IsToken u → Cuts b at (written u ++ line_feed ∷ []) (placed at u (written u) ∷ [])
ending b at u form = go (b && is_dot u) refl
  where
    go : (c : Bool) → (b && is_dot u) ≡ c → Cuts b at (written u ++ line_feed ∷ []) (placed at u (written u) ∷ [])
    go true e = record {
      front = written u;
      behind = line_feed ∷ [];
      parts = refl;
      lexed = Lexed.last b at u (written u) (line_feed ∷ []) (fed_lexeme u form []) e;
      blank = IsBlank.separator (line_feed ∷ []) [] feed IsBlank.none;
    }
    go false e = record {
      front = written u ++ line_feed ∷ [];
      behind = [];
      parts = sym (append-nil (written u ++ line_feed ∷ []));
      lexed = subst (λ n. Lexed b at (written u ++ line_feed ∷ []) (placed at u (written u) ∷ []) n) (omega (arith, length-append (written u) (line_feed ∷ [])))
          (Lexed.item b at u (written u) (line_feed ∷ []) [] (at + length (written u) + 1) (fed_lexeme u form []) e
          (Lexed.separator (is_end u) (at + length (written u)) (line_feed ∷ []) [] [] (at + length (written u) + 1) feed (Lexed.done (is_end u) (at + length (written u) + 1))));
      blank = IsBlank.none;
    }

not_so : (c : Bool) → not c ≡ true → c ≡ false
not_so true e = absurd (cc)
not_so false e = refl

cuts : (b : Bool) (at : ℕ) (ts : List Token) (u : Token) → All spells.IsToken ts → spells.IsToken u → is_calm b ts ≡ true
    → Cuts b at (canonical (ts ++ u ∷ [])) (placing at (ts ++ u ∷ []))
cuts b at [] u forms form calm = ending b at u form
cuts b at (t ∷ ts) u forms form calm =
    let next = at + length (written t) + 1 in
    let gap = gap_after t in
    let rest = canonical (ts ++ u ∷ []) in
    let p = each_of (not (b && is_dot t)) (is_calm (is_end t) ts) calm in
    let r = cuts (is_end t) next ts u (All-tail spells.IsToken t ts forms) form p.1 in
    let tokens = placing next (ts ++ u ∷ []) in
    record {
      front = written t ++ gap ∷ r.front;
      behind = r.behind;
      parts = spaced t ts u ∙ ap (λ x. written t ++ gap ∷ x) r.parts ∙ sym (append_assoc (written t) (gap ∷ r.front) r.behind);
      lexed = subst (λ x. Lexed b at x (placed at t (written t) ∷ tokens) (at + length (written t ++ gap ∷ r.front))) (sym (spaced t ts u))
          (subst (λ n. Lexed b at (written t ++ gap ∷ rest) (placed at t (written t) ∷ tokens) n) (omega (arith, length-append (written t) (gap ∷ r.front)))
          (Lexed.item b at t (written t) (gap ∷ rest) tokens (next + length r.front) (gap_lexeme t (All-head spells.IsToken t ts forms) rest) (not_so (b && is_dot t) p.0)
          (Lexed.separator (is_end t) (at + length (written t)) (gap ∷ []) rest tokens (next + length r.front) (gap_separator t) r.lexed)));
      blank = r.blank;
    }

all_front : (ts us : List Token) → All spells.IsToken (ts ++ us) → All spells.IsToken ts
all_front [] us h = All-nil spells.IsToken
all_front (t ∷ ts) us h = All-cons spells.IsToken t ts (All-head spells.IsToken t (ts ++ us) h) (all_front ts us (All-tail spells.IsToken t (ts ++ us) h))

behind_blank : (text front behind : List ℕ) → text ≡ front ++ behind → IsBlank behind → IsBlankFrom text (0 + length front)
behind_blank text front behind e h = subst IsBlank (sym (ap (drop (0 + length front)) e ∙ drop_at front behind (0 + length front) (omega arith))) h

pub is_lexed : CanonicalTextIsLexed
is_lexed s tokens h =
    let e = spells_tokens s tokens h in
    let ts = before_dot s in
    let dot = terminal k.Dot in
    let forms = subst (All spells.IsToken) e (All-map spells.IsToken (λ p. p.token) tokens h.forms) in
    let r = cuts false 0 ts dot (all_front ts (dot ∷ []) forms) tt (spells_calm s tokens h) in
    record {
      lexed = placing 0 (ts ++ dot ∷ []);
      rest = 0 + length r.front;
      same = bare_placing 0 (ts ++ dot ∷ []) ∙ sym e;
      cut = subst (λ us. IsLexed (canonical us) (placing 0 (ts ++ dot ∷ [])) (0 + length r.front)) (sym e) r.lexed;
      blank = subst (λ us. IsBlankFrom (canonical us) (0 + length r.front)) (sym e) (behind_blank (canonical (ts ++ dot ∷ [])) r.front r.behind r.parts r.blank);
    }
