-- Forms of the grammar at the front of a list of tokens, all of which have the place 0..0.
use Rattle.std.proofs.Common.{◌≡◌, ℕ, zero, suc, ◌≤◌, List, [], ◌∷◌, ◌++◌, map, refl, sym, subst, append_assoc, arith}
use Rattle.estelle_tree.specs.declared.token.Token.{Token}
use Rattle.estelle_tree.specs.declared.token.Placed.{Placed}
use Rattle.estelle_tree.specs.declared.kind.Kind.{Kind}
use Rattle.estelle_tree.specs.Kind.{kind_of}
use Rattle.estelle_tree.specs.Input.{Input, input, kind, next}
use Rattle.estelle_tree.specs.Spans.{nowhere}
use Rattle.estelle_tree.specs.Spelling.{Spelling, Takes, Chain, Several, Behind, Ended, Joined, Separated, Enclosed}
use Rattle.estelle_printer.specs.Forms.{Tokens}
use Rattle.estelle_printer.specs.Terminals.{terminal}
use Rattle.spec_maker.specs.Ring.{each}

abbrev pub unplaced_one : Token → Placed
unplaced_one t = record { token = t; span = nowhere }

-- these tokens, each in the place 0..0
abbrev pub unplaced : Tokens → List Placed
unplaced = map unplaced_one

abbrev pub from : Tokens → Input
from ts = input (unplaced ts) 0

-- something of this form is spelled by the front of the first tokens, and the others come behind it
pub record Stands {A : Type 0} (P : Spelling A) (ts us : Tokens) : Type 0 where
  pub thing : A
  pub is : P thing (from ts) (from us)

pub takes : (k : Kind) (us : Tokens) → kind_of (terminal k) ≡ k → Takes k (from (terminal k ∷ us)) (from us)
unfolding kind next
takes k us e = record { kind = e; next = refl }

-- ---- forms with terminals

pub behind : {A : Type 0} {P : Spelling A} {ts us : Tokens} (k : Kind) → kind_of (terminal k) ≡ k → Stands P ts us → Stands (Behind k P) (terminal k ∷ ts) us
behind {ts = ts} k e p = record { thing = p.thing; is = record { at = from ts; mark = takes k ts e; item = p.is } }

pub ended : {A : Type 0} {P : Spelling A} {ts us : Tokens} (k : Kind) → kind_of (terminal k) ≡ k → Stands P ts (terminal k ∷ us) → Stands (Ended k P) ts us
ended {us = us} k e p = record { thing = p.thing; is = record { mid = from (terminal k ∷ us); item = p.is; mark = takes k us e } }

pub enclosed : {A : Type 0} {P : Spelling A} {ts us : Tokens} (k l : Kind) → kind_of (terminal k) ≡ k → kind_of (terminal l) ≡ l → Stands P ts (terminal l ∷ us) → Stands (Enclosed k l P) (terminal k ∷ ts) us
enclosed {ts = ts} {us = us} k l e f p = record {
  thing = p.thing;
  is = record { at = from ts; mid = from (terminal l ∷ us); opens = takes k ts e; inside = p.is; closes = takes l us f };
}

-- two things with a terminal between them
abbrev pub Both : {A B : Type 0} → Kind → Spelling A → Spelling B → Spelling (A × B)
Both k P Q x i j = Joined k P Q x.0 x.1 i j

pub joined : {A B : Type 0} {P : Spelling A} {Q : Spelling B} {ts vs us : Tokens} (k : Kind) → kind_of (terminal k) ≡ k → Stands P ts (terminal k ∷ vs) → Stands Q vs us → Stands (Both k P Q) ts us
joined {vs = vs} k e p q = record {
  thing = (p.thing, q.thing);
  is = record { mid = from (terminal k ∷ vs); at = from vs; first = p.is; mark = takes k vs e; second = q.is };
}

-- ---- lists

module _ {A : Type 0} (P : Spelling A) where
  pub none : {us : Tokens} → Stands (Chain P) us us
  none = record { thing = []; is = refl }

  pub more : {ts vs us : Tokens} → Stands P ts vs → Stands (Chain P) vs us → Stands (Chain P) ts us
  more {vs = vs} p q = record { thing = p.thing ∷ q.thing; is = (from vs, p.is, q.is) }

  pub several : {ts vs us : Tokens} → Stands P ts vs → Stands (Chain P) vs us → Stands (Several P) ts us
  several {vs = vs} p q = record { thing = p.thing ∷ q.thing; is = (from vs, p.is, q.is) }

  -- one thing for each number
  pub each_stands : (f : ℕ → Tokens) (n : ℕ) {vs us : Tokens} → ((i : ℕ) (ws : Tokens) → i ≤ n → Stands P (f i ++ ws) ws) → Stands (Chain P) vs us → Stands (Chain P) (each f n ++ vs) us
  each_stands f zero h q = q
  each_stands f (suc n) {vs} {us} h q =
      subst (λ ts. Stands (Chain P) ts us) (sym (append_assoc (each f n) (f (suc n)) vs))
      (each_stands f n (λ i ws low. h i ws (omega arith)) (more (h (suc n) vs (omega arith)) q))

  -- things that are each ended by a terminal, and a last one without it, behind such a terminal
  separated_behind : (k : Kind) (xs : List A) (before i m : Input) (last : A) (j : Input) → Takes k before i → Chain (Ended k P) xs i m → P last m j → (ys : List A) × Chain (Behind k P) ys before j
  separated_behind k [] before i m last j t chain p = (last ∷ [], (j, record { at = m; mark = subst (Takes k before) chain t; item = p }, refl))
  separated_behind k (x ∷ xs) before i m last j t chain p =
      let item = chain.1 in
      let rest = separated_behind k xs item.mid chain.0 m last j item.mark chain.2 p in
      (x ∷ rest.0, (item.mid, record { at = i; mark = t; item = item.item }, rest.1))

  separated_things : (k : Kind) (xs : List A) (i m : Input) (last : A) (j : Input) → Chain (Ended k P) xs i m → P last m j → (ys : List A) × Separated k P ys i j
  separated_things k [] i m last j chain p = (last ∷ [], (j, subst (λ i. P last i j) (sym chain) p, refl))
  separated_things k (x ∷ xs) i m last j chain p =
      let item = chain.1 in
      let rest = separated_behind k xs item.mid chain.0 m last j item.mark chain.2 p in
      (x ∷ rest.0, (item.mid, item.item, rest.1))

  pub separated : {ts vs us : Tokens} (k : Kind) → Stands (Chain (Ended k P)) ts vs → Stands P vs us → Stands (Separated k P) ts us
  separated {ts} {vs} {us} k p q =
      let all = separated_things k p.thing (from ts) (from vs) q.thing (from us) p.is q.is in
      record { thing = all.0; is = all.1 }

-- ---- nodes with more than one form

-- what is spelled as the layer of a node is
pub rolled : {L A : Type 0} (P : Spelling L) (out : A → L) (roll : L → A) → ((l : L) → out (roll l) ≡ l) → {ts us : Tokens} → Stands P ts us → Stands (λ x. P (out x)) ts us
rolled P out roll back {ts} {us} p = record { thing = roll p.thing; is = subst (λ l. P l (from ts) (from us)) (sym (back p.thing)) p.is }
