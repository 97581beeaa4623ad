-- What the calls answer, by what the parsers do.
use Rattle.std.proofs.Common.{◌≡◌, ◌<◌, ◌≤◌, ◌+◌, ℕ, suc, List, length, Result, Ok, Err, sym, ap, ◌∙◌, subst, inl, inr, ◌⊎◌, arith}
use Rattle.std.specs.Prelude.{IfOk, IfErr}
use Rattle.estelle_tree.specs.declared.token.Placed.{Placed}
use Rattle.estelle_tree.specs.Input.{Input, left}
use Rattle.token_reader.specs.declared.error.ReadError.TheVariants as read
use Rattle.token_reader.specs.Reader.{Parser, ReadResult}
use Rattle.token_reader.proofs.Sound.{ok_pair}
use Rattle.token_reader.proofs.Complete.{After, Complete}
use Rattle.pascal_parser.specs.declared.error.SyntaxError.{SyntaxError}
use Rattle.pascal_parser.specs.declared.error.SyntaxError.TheVariants.{At, Memory}
use Rattle.syntax_forms.specs.Places.{Reach}
use Rattle.syntax_forms.specs.Placed.{stop}
use Rattle.pascal_parser.specs.Places.{place}
use Rattle.syntax_forms.specs.Onward.{Below}
use Rattle.pascal_parser.specs.Answers.{IsSpelled, IsAnswered, Answers}
use Rattle.pascal_parser.specs.Longest.{IsLongest, IsExact, IsRefused}
use Rattle.syntax_forms.proofs.Numbers.{skip_left, place_of}
use Rattle.syntax_forms.specs.Form.{Form}
use Rattle.syntax_forms.proofs.Lawful.{IsLawful}
use Rattle.syntax_forms.proofs.Steps.{Reached}

-- ---- what a parser that never goes back answers

-- it is this node and this place, or a longer piece is read, or a token is refused that stands behind this piece
abbrev IsReached : {A : Type 0} → A → ℕ → Result (A × ℕ) SyntaxError → Type 0
IsReached x to (Ok found) = (to < found.1) ⊎ ((found.0 ≡ x) × (found.1 ≡ to))
IsReached x to (Err (At p)) = to < p
IsReached x to (Err Memory) = Unit {0}

-- the place is one between these, unless memory ran out
abbrev IsAtFrom : ℕ → ℕ → SyntaxError → Type 0
IsAtFrom from to (At p) = (from ≤ p) × (p ≤ to)
IsAtFrom from to Memory = Unit {0}

apart : {A : Type 0} (l : ℕ) (y : A × Input) (o : ReadResult A) → o ≡ Err (read.Refused l) → o ≡ Ok y → ⊥
apart l y o refused reads = let no : Err (read.Refused l) ≡ Ok y = sym refused ∙ reads in cc

module _ {A : Type 0} {F : Form A} {p : Parser A} (law : IsLawful F p) (tokens : List Placed) (at : ℕ) (inside : at ≤ length tokens) where
  at_left : left (place tokens at) + at ≡ length tokens
  at_left = skip_left at tokens 0 inside

  stops : (x : A) (j : Input) → p (place tokens at) ≡ Ok (x, j) → Reach (place tokens at) j × (left j ≤ left (place tokens at))
  stops x j e =
      let b : Below (place tokens at) (suc (left (place tokens at))) (Ok (x, j)) = subst (λ o. Below (place tokens at) (suc (left (place tokens at))) o) e (law.placed (place tokens at)).on in
      let less = b.fits.1 in
      (b.fits.0, omega arith)

  refused_left : (l : ℕ) → p (place tokens at) ≡ Err (read.Refused l) → l ≤ left (place tokens at)
  refused_left l e =
      let b : Below {A = A} (place tokens at) (suc (left (place tokens at))) (Err (read.Refused l)) = subst (λ o. Below (place tokens at) (suc (left (place tokens at))) o) e (law.placed (place tokens at)).on in
      let less : l < suc (left (place tokens at)) = b.fits in
      omega arith

  pub spelled : (r : Result (A × ℕ) SyntaxError) → Answers (length tokens) (p (place tokens at)) r → IfOk r (IsSpelled F.spells tokens at)
  spelled (Ok found) a =
      subst (λ j. F.spells found.0 (place tokens at) j) (place_of tokens at a.0 found.1 inside (stops found.0 a.0 a.1).0 a.2) (law.sound (place tokens at) a.0 found.0 a.1)
  spelled (Err e) a = tt

  pub behind : (r : Result (A × ℕ) SyntaxError) → Answers (length tokens) (p (place tokens at)) r → IfOk r (λ found. (at ≤ found.1) × (found.1 ≤ length tokens))
  behind (Ok found) a =
      let less = (stops found.0 a.0 a.1).1 in
      let count = at_left in
      let there = a.2 in
      (omega arith, omega arith)
  behind (Err e) a = tt

  pub refused : (r : Result (A × ℕ) SyntaxError) → Answers (length tokens) (p (place tokens at)) r → IfErr r (IsAtFrom at (length tokens))
  refused (Ok found) a = tt
  refused (Err (At q)) a =
      let less = refused_left a.0 a.1 in
      let count = at_left in
      let there = a.2 in
      (omega arith, omega arith)
  refused (Err Memory) a = tt

  pub reached : (r : Result (A × ℕ) SyntaxError) → Answers (length tokens) (p (place tokens at)) r → (x : A) (to : ℕ) → to ≤ length tokens → IsSpelled F.spells tokens at (x, to) → IsReached x to r
  reached r a x to fits is = by r a (law.reaches (place tokens at) (place tokens to) x is)
    where
      count : left (place tokens to) + to ≡ length tokens
      count = skip_left to tokens 0 fits

      by : (r : Result (A × ℕ) SyntaxError) → Answers (length tokens) (p (place tokens at)) r → Reached (place tokens at) x (place tokens to) (p (place tokens at)) → IsReached x to r
      by (Ok found) a (inl e) =
          let same = ok_pair found.0 x a.0 (place tokens to) (sym a.1 ∙ e) in
          let node : found.0 ≡ x = ap (λ p. p.0) same in
          let there : a.0 ≡ place tokens to = ap (λ p. p.1) same in
          let lefts = ap left there in
          let number = a.2 in
          let total = count in
          inr (node, omega arith)
      by (Ok found) a (inr b) =
          let c : Below (place tokens at) (left (place tokens to)) (Ok (found.0, a.0)) = subst (λ o. Below (place tokens at) (left (place tokens to)) o) a.1 b in
          let less = c.fits.1 in
          let number = a.2 in
          let total = count in
          inl (omega arith)
      by (Err (At q)) a (inl e) = absurd (apart a.0 (x, place tokens to) (p (place tokens at)) a.1 e)
      by (Err (At q)) a (inr b) =
          let c : Below {A = A} (place tokens at) (left (place tokens to)) (Err (read.Refused a.0)) = subst (λ o. Below (place tokens at) (left (place tokens to)) o) a.1 b in
          let less : a.0 < left (place tokens to) = c.fits in
          let number = a.2 in
          let total = count in
          omega arith
      by (Err Memory) a s = tt

  pub ended : (end : After) → Complete p F.spells end → (r : Result (A × ℕ) SyntaxError) → Answers (length tokens) (p (place tokens at)) r → (x : A) (to : ℕ) → to ≤ length tokens → IsSpelled F.spells tokens at (x, to) → end (place tokens to) → IsAnswered x to r
  ended end complete r a x to fits is stop = by r a
    where
      count : left (place tokens to) + to ≡ length tokens
      count = skip_left to tokens 0 fits

      e : p (place tokens at) ≡ Ok (x, place tokens to)
      e = complete (place tokens at) (place tokens to) x is stop

      by : (r : Result (A × ℕ) SyntaxError) → Answers (length tokens) (p (place tokens at)) r → IsAnswered x to r
      by (Ok found) a =
          let same = ok_pair found.0 x a.0 (place tokens to) (sym a.1 ∙ e) in
          let node : found.0 ≡ x = ap (λ p. p.0) same in
          let there : a.0 ≡ place tokens to = ap (λ p. p.1) same in
          let lefts = ap left there in
          let number = a.2 in
          let total = count in
          (node, omega arith)
      by (Err (At q)) a = absurd (apart a.0 (x, place tokens to) (p (place tokens at)) a.1 e)
      by (Err Memory) a = tt

  -- ---- the longest piece that begins a node

  -- no piece that begins a node is longer than what the parser takes
  no_longer : (to l : ℕ) → to + l ≡ length tokens → stop (p (place tokens at)) ≡ l → (other : ℕ) → other ≤ length tokens → F.begins (place tokens at) (place tokens other) → other ≤ to
  no_longer to l count is other fits b =
      let short = (law.placed (place tokens at)).longest (place tokens other) b in
      let there = skip_left other tokens 0 fits in
      omega arith

  found_longest : (x : A) (j : Input) (to : ℕ) → p (place tokens at) ≡ Ok (x, j) → to + left j ≡ length tokens → IsLongest F.begins tokens at to
  found_longest x j to e count = record {
    inside = behind (Ok (x, to)) (j, e, count);
    begins = subst (λ j. F.begins (place tokens at) j) (place_of tokens at j to inside (stops x j e).0 count) (law.form.whole (place tokens at) j x (law.sound (place tokens at) j x e));
    longest = no_longer to (left j) count (ap (λ (o : ReadResult A). stop o) e);
  }

  refused_longest : (l q : ℕ) → p (place tokens at) ≡ Err (read.Refused l) → q + l ≡ length tokens → IsLongest F.begins tokens at q
  refused_longest l q e count =
      let piece = (law.placed (place tokens at)).begun l e in
      let total : q + left piece.at ≡ length tokens = ap (λ l. q + l) piece.count ∙ count in
      record {
        inside = refused (Err (At q)) (l, e, count);
        begins = subst (λ j. F.begins (place tokens at) j) (place_of tokens at piece.at q inside piece.reach total) piece.begins;
        longest = no_longer q l count (ap (λ (o : ReadResult A). stop o) e);
      }

  pub exact : (r : Result (A × ℕ) SyntaxError) → Answers (length tokens) (p (place tokens at)) r → IfOk r (IsExact F.begins F.spells tokens at)
  exact (Ok found) a = record {
    longest = found_longest found.0 a.0 found.1 a.1 a.2;
    spelled = spelled (Ok found) a;
    only = only;
  }
    where
      only : (x : A) → IsSpelled F.spells tokens at (x, found.1) → x ≡ found.0
      only x is = by (reached (Ok found) a x found.1 (found_longest found.0 a.0 found.1 a.1 a.2).inside.1 is)
        where
          by : IsReached x found.1 (Ok found) → x ≡ found.0
          by (inl less) = absurd (omega arith)
          by (inr same) = sym same.0
  exact (Err e) a = tt

  pub unspelled : (r : Result (A × ℕ) SyntaxError) → Answers (length tokens) (p (place tokens at)) r → IfErr r (IsRefused F.begins F.spells tokens at)
  unspelled (Ok found) a = tt
  unspelled (Err (At q)) a = (refused_longest a.0 q a.1 a.2, none)
    where
      none : (x : A) → IsSpelled F.spells tokens at (x, q) → ⊥
      none x is = let less : q < q = reached (Err (At q)) a x q (refused_longest a.0 q a.1 a.2).inside.1 is in omega arith
  unspelled (Err Memory) a = tt
