-- A form that is spelled somewhere is, without its spans, spelled where the same tokens stand without their places.
use Rattle.std.proofs.Common.{◌≡◌, ℕ, Bool, true, false, if◌then◌else◌, ◌==◌, List, [], ◌∷◌, map, Option, Some, None, sym, refl, ap, ◌∙◌, subst}
use Rattle.std.specs.Option.{option_map}
use Rattle.estelle_tree.specs.declared.token.Placed.{Placed}
use Rattle.estelle_tree.specs.declared.span.Span.{Span}
use Rattle.estelle_tree.specs.declared.kind.Kind.{Kind}
use Rattle.estelle_tree.specs.declared.kind.Kind.TheVariants as k
use Rattle.estelle_tree.specs.Input.{Input, input, kind, token_at, next, start, between, over, left, first_kind, first_token, first_start, after_first}
use Rattle.estelle_tree.specs.Spans.{nowhere}
use Rattle.estelle_tree.specs.Spelling.{Spelling, Takes, Flag, Mark, Optional, Chain, Several, Lines, MayBeLines, Behind, Ended, Joined, Separated, Enclosed}
use Rattle.round_trip.specs.Same.{unplaced}

-- the same tokens come, and none has a place
abbrev pub plain : Input → Input
plain i = input (unplaced i.tokens) 0

pub plain_kind : (i : Input) → kind (plain i) ≡ kind i
unfolding kind
plain_kind i = go i.tokens
  where
    go : (ps : List Placed) → first_kind (unplaced ps) ≡ first_kind ps
    go [] = refl
    go (p ∷ ps) = refl

pub plain_token : (i : Input) → token_at (plain i) ≡ token_at i
unfolding token_at
plain_token i = go i.tokens
  where
    go : (ps : List Placed) → first_token (unplaced ps) ≡ first_token ps
    go [] = refl
    go (p ∷ ps) = refl

pub plain_next : (i : Input) → next (plain i) ≡ plain (next i)
unfolding next
plain_next i = go i.tokens i.end
  where
    go : (ps : List Placed) (end : ℕ) → after_first 0 (unplaced ps) ≡ plain (after_first end ps)
    go [] end = refl
    go (p ∷ ps) end = refl

pub no_span : (i j : Input) → nowhere ≡ between (plain i) (plain j)
unfolding between start
no_span i j = go i.tokens
  where
    go : (ps : List Placed) → nowhere ≡ record { start = first_start 0 (unplaced ps); end = 0 }
    go [] = refl
    go (p ∷ ps) = refl

pub no_span_over : (i j : Input) → nowhere ≡ over (plain i) (plain j)
unfolding over
no_span_over i j = go (left (plain i) == left (plain j)) (between (plain i) (plain j)) (no_span i j)
  where
    go : (b : Bool) (s : Span) → nowhere ≡ s → nowhere ≡ (if b then nowhere else s)
    go true s e = refl
    go false s e = e

abbrev pub Plain : {A : Type 0} → Spelling A → (A → A) → Type 0
Plain {A} P e = (x : A) (i j : Input) → P x i j → P (e x) (plain i) (plain j)

pub nothing : {i j : Input} → i ≡ j → plain i ≡ plain j
nothing e = ap plain e

pub passes : (i j : Input) → next i ≡ j → next (plain i) ≡ plain j
passes i j e = plain_next i ∙ ap plain e

pub takes : {word : Kind} {i j : Input} → Takes word i j → Takes word (plain i) (plain j)
takes {i = i} {j = j} t = record { kind = plain_kind i ∙ t.kind; next = passes i j t.next }

pub flag : (word : Kind) (b : Bool) (i j : Input) → Flag word b i j → Flag word b (plain i) (plain j)
flag word false i j h = nothing h
flag word true i j h = takes h

pub mark : {O : Type 0} (of : O → Kind) (o : Option O) (i j : Input) → Mark of o i j → Mark of o (plain i) (plain j)
mark of None i j h = nothing h
mark of (Some o) i j h = takes h

module _ {A : Type 0} (P : Spelling A) (e : A → A) (plainly : Plain P e) where
  pub optional : Plain (Optional P) (option_map e)
  optional None i j h = nothing h
  optional (Some x) i j h = plainly x i j h

  pub chain : Plain (Chain P) (map e)
  chain [] i j h = nothing h
  chain (x ∷ xs) i j h = (plain h.0, plainly x i h.0 h.1, chain xs h.0 j h.2)

  pub several : Plain (Several P) (map e)
  several [] i j h = absurd h
  several (x ∷ xs) i j h = (plain h.0, plainly x i h.0 h.1, chain xs h.0 j h.2)

  pub behind : (word : Kind) → Plain (Behind word P) e
  behind word x i j h = record { at = plain h.at; mark = takes h.mark; item = plainly x h.at j h.item }

  pub ended : (word : Kind) → Plain (Ended word P) e
  ended word x i j h = record { mid = plain h.mid; item = plainly x i h.mid h.item; mark = takes h.mark }

  pub enclosed : (opening closing : Kind) → Plain (Enclosed opening closing P) e
  enclosed opening closing x i j h = record { at = plain h.at; mid = plain h.mid; opens = takes h.opens; inside = plainly x h.at h.mid h.inside; closes = takes h.closes }

module _ {A : Type 0} (P : Spelling A) (e : A → A) (plainly : Plain P e) where
  pub separated : (word : Kind) → Plain (Separated word P) (map e)
  separated word [] i j h = absurd h
  separated word (x ∷ xs) i j h = (plain h.0, plainly x i h.0 h.1, chain (Behind word P) e (behind P e plainly word) xs h.0 j h.2)

  pub lines : Plain (Lines P) (map e)
  lines = several (Ended k.Semicolon P) e (ended P e plainly k.Semicolon)

module _ {A : Type 0} (P : Spelling A) (e : A → A) (plainly : Plain P e) where
  pub may_be_lines : (first : Kind) → Plain (MayBeLines first P) (map e)
  may_be_lines first [] i j h = nothing h
  may_be_lines first (x ∷ xs) i j h = record { at = plain h.at; mark = takes h.mark; item = lines P e plainly (x ∷ xs) h.at j h.item }

pub joined : {A B : Type 0} (word : Kind) (P : Spelling A) (Q : Spelling B) (e : A → A) (g : B → B) → Plain P e → Plain Q g → (x : A) (y : B) {i j : Input} → Joined word P Q x y i j → Joined word P Q (e x) (g y) (plain i) (plain j)
joined word P Q e g plainly plainly_too x y {i} {j} h = record {
  mid = plain h.mid;
  at = plain h.at;
  first = plainly x i h.mid h.first;
  mark = takes h.mark;
  second = plainly_too y h.at j h.second;
}

pub marked : {O A : Type 0} (of : O → Kind) (P : Spelling A) (e : A → A) → Plain P e → Plain {A = O × A} (λ (x : O × A). Behind (of x.0) P x.1) (λ (x : O × A). (x.0, e x.1))
marked of P e plainly x i j h = record { at = plain h.at; mark = takes h.mark; item = plainly x.1 h.at j h.item }

-- what is spelled as the layer of a tree is
pub rolling : {L A : Type 0} (P : Spelling L) (e : L → A) (out : A → L) (whole : A → A) → ((x : A) → whole x ≡ e (out x)) → ((l : L) (i j : Input) → P l i j → P (out (e l)) (plain i) (plain j)) → Plain (λ x. P (out x)) whole
rolling P e out whole opened plainly x i j h = subst (λ y. P (out y) (plain i) (plain j)) (sym (opened x)) (plainly (out x) i j h)
