-- What the forms of the grammar spell, as tokens without their places.
use Rattle.std.proofs.Common.{◌≡◌, ℕ, Bool, true, false, List, [], ◌∷◌, ◌++◌, Some, None, refl, sym, ap, ◌∙◌, append_assoc}
use Rattle.std.specs.List.{flat_map}
use Rattle.std.specs.Prelude.{not, ◌&&◌}
use Rattle.estelle_tree.specs.declared.token.Token.{Token}
use Rattle.estelle_tree.specs.declared.token.Placed.{Placed}
use Rattle.estelle_tree.specs.declared.kind.Kind.{Kind}
use Rattle.estelle_tree.specs.declared.kind.Kind.TheVariants as k
use Rattle.estelle_tree.specs.Input.{Input, kind, next, token_at, first_kind, first_token, after_first}
use Rattle.estelle_tree.specs.Spelling.{Spelling, Takes, Flag, Mark, Optional, Chain, Several, Behind, Ended, Joined, Separated, Enclosed, Lines, MayBeLines}
use Rattle.estelle_tree.specs.Lexed.{is_end, is_dot}
use Rattle.estelle_printer.specs.Canonical.{without_places}
use Rattle.estelle_printer.specs.Terminals.{terminal}
use Rattle.estelle_printer.specs.Forms.{Tokens, mark, flag, optional, separated, lines, may_be_lines, enclosed}
use Rattle.estelle_printer.proofs.TerminalLaws.{has_one, token_terminal, is_plain, plain_one, plain_no_dot}

-- no `.` stands right behind the word `end`, where the flag says whether that word stands before these
abbrev pub is_calm : Bool → List Token → Bool
is_calm after_end [] = true
is_calm after_end (t ∷ ts) = not (after_end && is_dot t) && is_calm (is_end t) ts

-- whether the word `end` stands at the end of these
abbrev pub ends_so : Bool → List Token → Bool
ends_so after_end [] = after_end
ends_so after_end (t ∷ ts) = ends_so (is_end t) ts

pub both : (a b : Bool) → a ≡ true → b ≡ true → (a && b) ≡ true
both true b e f = f
both false b e f = absurd (cc)

pub each_of : (a b : Bool) → (a && b) ≡ true → (a ≡ true) × (b ≡ true)
each_of true b e = (refl, e)
each_of false b e = absurd (cc)

pub calm_join : (b : Bool) (ts us : List Token) → is_calm b ts ≡ true → is_calm (ends_so b ts) us ≡ true → is_calm b (ts ++ us) ≡ true
calm_join b [] us e f = f
calm_join b (t ∷ ts) us e f = go (not (b && is_dot t)) (λ g. calm_join (is_end t) ts us g f) e
  where
    go : (c : Bool) → (is_calm (is_end t) ts ≡ true → is_calm (is_end t) (ts ++ us) ≡ true) → (c && is_calm (is_end t) ts) ≡ true → (c && is_calm (is_end t) (ts ++ us)) ≡ true
    go true k e = k e
    go false k e = absurd (cc)

pub ends_join : (b : Bool) (ts us : List Token) → ends_so b (ts ++ us) ≡ ends_so (ends_so b ts) us
ends_join b [] us = refl
ends_join b (t ∷ ts) us = ends_join (is_end t) ts us

-- these tokens stand between two places, and in them no `.` stands right behind the word `end`, nor at the front
pub record Stand (ts : Tokens) (i j : Input) : Type 0 where
  pub is : without_places i.tokens ≡ ts ++ without_places j.tokens
  pub calm : (b : Bool) → is_calm b ts ≡ true

pub same_tokens : {ts us : Tokens} {i j : Input} → ts ≡ us → Stand us i j → Stand ts i j
same_tokens {i = i} {j = j} e s = record { is = s.is ∙ ap (λ vs. vs ++ without_places j.tokens) (sym e); calm = λ b. ap (is_calm b) e ∙ s.calm b }

-- the same tokens, put together in another way
pub regrouped : {ts us : Tokens} {i j : Input} → Stand us i j → us ≡ ts → Stand ts i j
regrouped {i = i} {j = j} s e = record { is = s.is ∙ ap (λ vs. vs ++ without_places j.tokens) e; calm = λ b. ap (is_calm b) (sym e) ∙ s.calm b }

-- these, and then those
pub follow : (ts us : Tokens) (i m j : Input) → without_places i.tokens ≡ ts ++ without_places m.tokens → without_places m.tokens ≡ us ++ without_places j.tokens → without_places i.tokens ≡ (ts ++ us) ++ without_places j.tokens
follow ts us i m j e f = e ∙ ap (λ vs. ts ++ vs) f ∙ sym (append_assoc ts us (without_places j.tokens))

infixl 10 ◌⋯◌
pub ◌⋯◌ : {ts us : Tokens} {i m j : Input} → Stand ts i m → Stand us m j → Stand (ts ++ us) i j
◌⋯◌ {ts = ts} {us = us} {i = i} {m = m} {j = j} s t = record { is = follow ts us i m j s.is t.is; calm = λ b. calm_join b ts us (s.calm b) (t.calm (ends_so b ts)) }

pub none : {i j : Input} → i ≡ j → Stand [] i j
none {i = i} {j = j} e = record { is = ap (λ (p : Input). without_places p.tokens) e; calm = λ b. refl }

alone : (t : Token) → is_dot t ≡ false → (b : Bool) → is_calm b (t ∷ []) ≡ true
alone t e true = rw e refl
alone t e false = refl

-- one token
pub token_taken : (t : Token) (i j : Input) → token_at i ≡ Some t → next i ≡ j → without_places i.tokens ≡ t ∷ without_places j.tokens
unfolding token_at next
token_taken t i j is after = go i.tokens i.end is after
  where
    go : (ts : List Placed) (end : ℕ) → first_token ts ≡ Some t → after_first end ts ≡ j → without_places ts ≡ t ∷ without_places j.tokens
    go [] end e n = absurd (cc)
    go (p ∷ ps) end e n = ap (λ (v : Token). v ∷ without_places ps) (cc) ∙ ap (λ (q : Input). t ∷ without_places q.tokens) n

pub one_token : (t : Token) (i j : Input) → is_dot t ≡ false → token_at i ≡ Some t → next i ≡ j → Stand (t ∷ []) i j
one_token t i j other is after = record { is = token_taken t i j is after; calm = alone t other }

-- a terminal
pub terminal_taken : (k : Kind) (i j : Input) → has_one k ≡ true → Takes k i j → without_places i.tokens ≡ terminal k ∷ without_places j.tokens
unfolding kind next
terminal_taken k i j one h = go i.tokens i.end h.kind h.next
  where
    go : (ts : List Placed) (end : ℕ) → first_kind ts ≡ k → after_first end ts ≡ j → without_places ts ≡ terminal k ∷ without_places j.tokens
    go [] end e n = absurd (cc (ap has_one e, one))
    go (p ∷ ps) end e n = ap (λ (v : Token). v ∷ without_places ps) (token_terminal p.token (ap has_one e ∙ one) ∙ ap terminal e) ∙ ap (λ (q : Input). terminal k ∷ without_places q.tokens) n

pub takes : (k : Kind) (i j : Input) → is_plain k ≡ true → Takes k i j → Stand (mark k) i j
takes k i j plain h = record { is = terminal_taken k i j (plain_one k plain) h; calm = alone (terminal k) (plain_no_dot k plain) }

-- what is spelled so has these tokens
abbrev pub Tells : {A : Type 0} → Spelling A → (A → Tokens) → Type 0
Tells {A = A} P p = (x : A) (i j : Input) → P x i j → Stand (p x) i j

pub flagged : (k : Kind) → is_plain k ≡ true → Tells (Flag k) (flag k)
flagged k one false i j h = none h
flagged k one true i j h = takes k i j one h

pub marked : {O : Type 0} (of : O → Kind) → ((o : O) → is_plain (of o) ≡ true) → Tells (Mark of) (optional (λ o. mark (of o)))
marked of one None i j h = none h
marked of one (Some o) i j h = takes (of o) i j (one o) h

module _ {A : Type 0} (P : Spelling A) (p : A → Tokens) (tells : Tells P p) where
  pub may_be : Tells (Optional P) (optional p)
  may_be None i j h = none h
  may_be (Some x) i j h = tells x i j h

  pub chained : Tells (Chain P) (flat_map p)
  chained [] i j h = none h
  chained (x ∷ xs) i j h = tells x i h.0 h.1 ⋯ chained xs h.0 j h.2

  pub several : Tells (Several P) (flat_map p)
  several [] i j h = absurd h
  several (x ∷ xs) i j h = tells x i h.0 h.1 ⋯ chained xs h.0 j h.2

  pub behind : (k : Kind) → is_plain k ≡ true → Tells (Behind k P) (λ x. mark k ++ p x)
  behind k one x i j h = takes k i h.at one h.mark ⋯ tells x h.at j h.item

  pub ended : (k : Kind) → is_plain k ≡ true → Tells (Ended k P) (λ x. p x ++ mark k)
  ended k one x i j h = tells x i h.mid h.item ⋯ takes k h.mid j one h.mark

  pub enclosed_in : (from to : Kind) → is_plain from ≡ true → is_plain to ≡ true → Tells (Enclosed from to P) (λ x. enclosed from to (p x))
  enclosed_in from to one two x i j h = takes from i h.at one h.opens ⋯ tells x h.at h.mid h.inside ⋯ takes to h.mid j two h.closes

module _ {A : Type 0} (P : Spelling A) (p : A → Tokens) (tells : Tells P p) where
  pub separate : (k : Kind) → is_plain k ≡ true → Tells (Separated k P) (separated k p)
  separate k one [] i j h = absurd h
  separate k one (x ∷ xs) i j h = tells x i h.0 h.1 ⋯ chained (Behind k P) (λ x. mark k ++ p x) (behind P p tells k one) xs h.0 j h.2

  pub in_lines : Tells (Lines P) (lines p)
  in_lines = several (Ended k.Semicolon P) (λ x. p x ++ mark k.Semicolon) (ended P p tells k.Semicolon refl)

module _ {A : Type 0} (P : Spelling A) (p : A → Tokens) (tells : Tells P p) where
  pub may_be_in_lines : (first : Kind) → is_plain first ≡ true → Tells (MayBeLines first P) (may_be_lines first p)
  may_be_in_lines first one [] i j h = none h
  may_be_in_lines first one (x ∷ xs) i j h = takes first i h.at one h.mark ⋯ in_lines P p tells (x ∷ xs) h.at j h.item

pub joined : {A B : Type 0} (P : Spelling A) (Q : Spelling B) (p : A → Tokens) (q : B → Tokens) (k : Kind) → is_plain k ≡ true → Tells P p → Tells Q q → (x : A) (y : B) (i j : Input) → Joined k P Q x y i j → Stand (p x ++ mark k ++ q y) i j
joined P Q p q k one first second x y i j h = first x i h.mid h.first ⋯ takes k h.mid h.at one h.mark ⋯ second y h.at j h.second
