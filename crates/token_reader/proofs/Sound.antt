-- What a parser reads is spelled so.
use Rattle.std.proofs.Common.{◌≡◌, ℕ, zero, suc, Bool, true, false, List, [], ◌∷◌, ◌++◌, Option, Some, None, Ok, Err, sym, refl, ap, ◌∙◌, subst, append_assoc, append-nil, rules}
use Rattle.std.specs.Prelude.{if◌then◌else◌, ◌&&◌}
use denote.Enum.Bare.{same_true}
use Rattle.estelle_tree.specs.contracts.kind.Kind.{the_type}
use Rattle.estelle_tree.specs.declared.kind.Kind.{Kind}
use Rattle.estelle_tree.specs.declared.kind.Kind.TheVariants as k
use Rattle.estelle_tree.specs.declared.token.Token.{Token}
use Rattle.estelle_tree.specs.declared.token.Token.TheVariants as token
use Rattle.estelle_tree.specs.Input.{Input, kind, next, token_at, between}
use Rattle.estelle_tree.specs.Spelling as spelling
use Rattle.estelle_tree.specs.Spelling.{Spelling, Takes, Flag, Mark, Chain, Several, Separated}
use Rattle.estelle_tree.specs.Types.{IsName, IsNumber, IsChar}
use Rattle.token_reader.specs.Reader.{Parser, ReadResult, and_then, pure, refusal, refuse, sees, after, ◌>>◌, take, eat, expect, name, name_in, number, number_in, char, char_in}
use Rattle.token_reader.specs.Lists.{optional, optional_if, behind, behind_if, taking, mark, marked_by, marked, ended, turn, repeated_from, repeated, first_and, separated, separated_if, several}

abbrev pub Sound : {A : Type 0} → Parser A → Spelling A → Type 0
Sound {A} p P = (i j : Input) (x : A) → p i ≡ Ok (x, j) → P x i j

-- the test on the next kind
pub seen_is : (kind' : Kind) (i : Input) → sees kind' i ≡ true → kind i ≡ kind'
unfolding sees
seen_is kind' i e = same_true the_type (search rules) _ _ e

-- an answer of two steps comes from an answer of each
pub through : {A B C : Type 0} (o : ReadResult A) (f : A → Parser B) (y : B × Input) → and_then o f ≡ Ok y → ((x : A) (m : Input) → o ≡ Ok (x, m) → f x m ≡ Ok y → C) → C
through (Ok p) f y h go = go p.0 p.1 refl h
through (Err e) f y h go = absurd (cc)

pub ok_pair : {A : Type 0} (x y : A) (m j : Input) → pure x m ≡ Ok (y, j) → let a : A × Input = (x, m) in let b : A × Input = (y, j) in a ≡ b
ok_pair x y m j is = cc

-- what holds of an answer holds of what was asked for
pub answered : {A : Type 0} (P : Spelling A) (i j m : Input) (x y : A) → P x i m → pure x m ≡ Ok (y, j) → P y i j
answered {A} P i j m x y held is = subst (λ (p : A × Input). P p.0 i p.1) (ok_pair x y m j is) held

-- ---- one token

pub expect_sound : (kind' : Kind) (i j : Input) (u : Unit {0}) → expect kind' i ≡ Ok (u, j) → Takes kind' i j
unfolding expect
expect_sound kind' i j u h = go (sees kind' i) refl h
  where
    go : (b : Bool) → sees kind' i ≡ b → (if b then pure tt (next i) else Err (refusal i)) ≡ Ok (u, j) → Takes kind' i j
    go true e h = record { kind = seen_is kind' i e; next = ap (λ p. p.1) (ok_pair tt u (next i) j h) }
    go false e h = absurd (cc)

pub eat_sound : (kind' : Kind) → Sound (eat kind') (Flag kind')
unfolding after
eat_sound kind' i j b h = go (sees kind' i) refl h
  where
    go : (s : Bool) → sees kind' i ≡ s → pure s (if s then next i else i) ≡ Ok (b, j) → Flag kind' b i j
    go true e h = answered (Flag kind') i j (next i) true b (record { kind = seen_is kind' i e; next = refl }) h
    go false e h = answered (Flag kind') i j i false b refl h

pub number_sound : Sound number IsNumber
unfolding number
number_sound i j n h = go (token_at i) refl h
  where
    go : (t : Option Token) → token_at i ≡ t → number_in t i ≡ Ok (n, j) → IsNumber n i j
    go None e h = absurd (cc)
    go (Some (token.Number m)) e h = answered IsNumber i j (next i) m n (record { token = e; next = refl }) h
    go (Some (token.Word w)) e h = absurd (cc)
    go (Some (token.Char c)) e h = absurd (cc)
    go (Some (token.Symbol s)) e h = absurd (cc)

pub char_sound : Sound char IsChar
unfolding char
char_sound i j c h = go (token_at i) refl h
  where
    go : (t : Option Token) → token_at i ≡ t → char_in t i ≡ Ok (c, j) → IsChar c i j
    go None e h = absurd (cc)
    go (Some (token.Char d)) e h = answered IsChar i j (next i) d c (record { token = e; next = refl }) h
    go (Some (token.Word w)) e h = absurd (cc)
    go (Some (token.Number n)) e h = absurd (cc)
    go (Some (token.Symbol s)) e h = absurd (cc)

pub name_sound : Sound name IsName
unfolding name
name_sound i j n h = go (sees k.Name i) refl h
  where
    in_token : kind i ≡ k.Name → (t : Option Token) → token_at i ≡ t → name_in t i ≡ Ok (n, j) → IsName n i j
    in_token free None e h = absurd (cc)
    in_token free (Some (token.Word w)) e h = answered IsName i j (next i) (record { word = w; span = between i (next i) }) n (record { token = e; free = free; span = refl; next = refl }) h
    in_token free (Some (token.Number m)) e h = absurd (cc)
    in_token free (Some (token.Char c)) e h = absurd (cc)
    in_token free (Some (token.Symbol s)) e h = absurd (cc)

    go : (b : Bool) → sees k.Name i ≡ b → (if b then name_in (token_at i) i else refuse i) ≡ Ok (n, j) → IsName n i j
    go true e h = in_token (seen_is k.Name i e) (token_at i) refl h
    go false e h = absurd (cc)

-- ---- parts that may be missing

module _ {A : Type 0} (item : Parser A) (P : Spelling A) (sound : Sound item P) where
  if_sound : (b : Bool) → Sound (optional_if b item) (spelling.Optional P)
  if_sound true i j m h = through (item i) _ _ h (λ x a is h. answered (spelling.Optional P) i j a (Some x) m (sound i a x is) h)
  if_sound false i j m h = answered (spelling.Optional P) i j i None m refl h

  pub optional_sound : (begins : Kind → Bool) → Sound (optional begins item) (spelling.Optional P)
  unfolding optional
  optional_sound begins i j m h = if_sound (begins (kind i)) i j m h

  taken_sound : (kind' : Kind) (i j : Input) (m : Option A) → kind i ≡ kind' → optional_if true (take >> item) i ≡ Ok (m, j) → spelling.Optional (spelling.Behind kind' P) m i j
  taken_sound kind' i j m e h = through (item (next i)) _ _ h (λ x a is h.
      answered (spelling.Optional (spelling.Behind kind' P)) i j a (Some x) m (record { at = next i; mark = record { kind = e; next = refl }; item = sound (next i) a x is }) h)

  pub behind_sound : (kind' : Kind) → Sound (behind kind' item) (spelling.Optional (spelling.Behind kind' P))
  unfolding behind
  behind_sound kind' i j m h = go (sees kind' i) refl h
    where
      go : (b : Bool) → sees kind' i ≡ b → optional_if b (take >> item) i ≡ Ok (m, j) → spelling.Optional (spelling.Behind kind' P) m i j
      go true e h = taken_sound kind' i j m (seen_is kind' i e) h
      go false e h = answered (spelling.Optional (spelling.Behind kind' P)) i j i None m refl h

  pub behind_if_sound : (kind' : Kind) (begins : Kind → Bool) → Sound (behind_if kind' begins item) (spelling.Optional (spelling.Behind kind' P))
  unfolding behind_if
  behind_if_sound kind' begins i j m h = go (sees kind' i) (begins (kind (next i))) refl h
    where
      go : (b c : Bool) → sees kind' i ≡ b → optional_if (b && c) (take >> item) i ≡ Ok (m, j) → spelling.Optional (spelling.Behind kind' P) m i j
      go true true e h = taken_sound kind' i j m (seen_is kind' i e) h
      go true false e h = answered (spelling.Optional (spelling.Behind kind' P)) i j i None m refl h
      go false c e h = answered (spelling.Optional (spelling.Behind kind' P)) i j i None m refl h

  pub ended_sound : (kind' : Kind) → Sound (ended kind' item) (spelling.Ended kind' P)
  unfolding ended
  ended_sound kind' i j x h = through (item i) _ _ h (λ y a is h. through (expect kind' a) _ _ h (λ u b takes h.
      answered (spelling.Ended kind' P) i j b y x (record { mid = a; item = sound i a y is; mark = expect_sound kind' a b u takes }) h))

module _ {O : Type 0} (of : Kind → Option O) (kinds : O → Kind) (back : (kind' : Kind) (o : O) → of kind' ≡ Some o → kind' ≡ kinds o) where
  pub mark_sound : Sound (mark of) (Mark kinds)
  mark_sound i j m h = go (of (kind i)) refl h
    where
      go : (asked : Option O) → of (kind i) ≡ asked → taking asked i ≡ Ok (m, j) → Mark kinds m i j
      go None e h = answered (Mark kinds) i j i None m refl h
      go (Some o) e h = answered (Mark kinds) i j (next i) (Some o) m (record { kind = back (kind i) o e; next = refl }) h

  module _ {A : Type 0} (item : Parser A) (P : Spelling A) (sound : Sound item P) where
    -- a terminal that a choice tells, and an item
    abbrev pub Marked : Spelling (O × A)
    Marked x = spelling.Behind (kinds x.0) P x.1

    pub marked_sound : Sound (marked of item) (spelling.Optional Marked)
    marked_sound i j m h = go (of (kind i)) refl h
      where
        go : (asked : Option O) → of (kind i) ≡ asked → marked_by asked item i ≡ Ok (m, j) → spelling.Optional Marked m i j
        go None e h = answered (spelling.Optional Marked) i j i None m refl h
        go (Some o) e h = through (item (next i)) _ _ h (λ x a is h.
            answered (spelling.Optional Marked) i j a (Some (o, x)) m (record { at = next i; mark = record { kind = back (kind i) o e; next = refl }; item = sound (next i) a x is }) h)

-- ---- lists

-- `found` and the items behind it
abbrev pub Grown : {A : Type 0} → Spelling A → List A → List A → Input → Input → Type 0
Grown {A} P found all i j = (more : List A) × (all ≡ found ++ more) × Chain P more i j

module _ {A : Type 0} (step : Parser (Option A)) (P : Spelling A) (sound : Sound step (spelling.Optional P)) where
  none_grown : (found all : List A) (i j : Input) → pure found i ≡ Ok (all, j) → Grown P found all i j
  none_grown found all i j h = answered (λ (all : List A) i j. Grown P found all i j) i j i found all ([], sym (append-nil found), refl) h

  turn_grown : (again : List A → Parser (List A)) (found all : List A) (i m j : Input) (x : Option A) → spelling.Optional P x i m
      → ((found : List A) (i : Input) → again found i ≡ Ok (all, j) → Grown P found all i j)
      → turn found again x m ≡ Ok (all, j) → Grown P found all i j
  turn_grown again found all i m j None same more h = subst (λ i. Grown P found all i j) (sym same) (none_grown found all m j h)
  turn_grown again found all i m j (Some x) one more h =
      let r = more (found ++ x ∷ []) m h in
      (x ∷ r.0, r.1 ∙ append_assoc found (x ∷ []) r.0, (m, one, r.2))

  from_grown : (n : ℕ) (found : List A) (i j : Input) (all : List A) → repeated_from step n found i ≡ Ok (all, j) → Grown P found all i j
  unfolding repeated_from
  from_grown zero found i j all h = none_grown found all i j h
  from_grown (suc n) found i j all h = through (step i) _ _ h (λ x m is h. turn_grown (repeated_from step n) found all i m j x (sound i m x is) (λ found i h. from_grown n found i j all h) h)

  pub repeated_grown : (found : List A) (i j : Input) (all : List A) → repeated step found i ≡ Ok (all, j) → Grown P found all i j
  unfolding repeated
  repeated_grown found i j all h = from_grown _ found i j all h

  pub repeated_sound : Sound (repeated step []) (Chain P)
  repeated_sound i j all h = let r = repeated_grown [] i j all h in subst (λ l. Chain P l i j) (sym r.1) r.2

  -- the first one is read by another parser
  abbrev pub FirstAnd : Spelling A → Spelling (List A)
  FirstAnd Q [] i j = ⊥
  FirstAnd Q (x ∷ xs) i j = (m : Input) × Q x i m × Chain P xs m j

  pub first_and_sound : (item : Parser A) (Q : Spelling A) → Sound item Q → Sound (first_and item step) (FirstAnd Q)
  unfolding first_and
  first_and_sound item Q first i j xs h = through (item i) _ _ h (λ x m is h.
      let r = repeated_grown (x ∷ []) m j xs h in
      subst (λ l. FirstAnd Q l i j) (sym r.1) (m, first i m x is, r.2))

module _ {A : Type 0} (item : Parser A) (P : Spelling A) (sound : Sound item P) where
  pub separated_sound : (kind' : Kind) → Sound (separated kind' item) (Separated kind' P)
  separated_sound kind' i j xs h = go xs (first_and_sound (behind kind' item) (spelling.Behind kind' P) (behind_sound item P sound kind') item P sound i j xs h)
    where
      go : (xs : List A) → FirstAnd (behind kind' item) (spelling.Behind kind' P) (behind_sound item P sound kind') P xs i j → Separated kind' P xs i j
      go [] h = h
      go (x ∷ xs) h = h

  pub separated_if_sound : (kind' : Kind) (begins : Kind → Bool) → Sound (separated_if kind' begins item) (Separated kind' P)
  separated_if_sound kind' begins i j xs h = go xs (first_and_sound (behind_if kind' begins item) (spelling.Behind kind' P) (behind_if_sound item P sound kind' begins) item P sound i j xs h)
    where
      go : (xs : List A) → FirstAnd (behind_if kind' begins item) (spelling.Behind kind' P) (behind_if_sound item P sound kind' begins) P xs i j → Separated kind' P xs i j
      go [] h = h
      go (x ∷ xs) h = h

  pub several_sound : (begins : Kind → Bool) → Sound (several begins item) (Several P)
  several_sound begins i j xs h = go xs (first_and_sound (optional begins item) P (optional_sound item P sound begins) item P sound i j xs h)
    where
      go : (xs : List A) → FirstAnd (optional begins item) P (optional_sound item P sound begins) P xs i j → Several P xs i j
      go [] h = h
      go (x ∷ xs) h = h
