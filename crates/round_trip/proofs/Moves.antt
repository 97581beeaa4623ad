-- A form that is spelled somewhere is spelled so wherever the same tokens stand, with its spans moved.
use Rattle.std.proofs.Common.{◌≡◌, ℕ, Bool, true, false, List, [], ◌∷◌, map, Option, Some, None, sym, refl, ap, ◌∙◌, subst}
use Rattle.std.specs.Option.{option_map}
use Rattle.estelle_tree.specs.declared.token.Placed.{Placed}
use Rattle.estelle_tree.specs.declared.kind.Kind.{Kind}
use Rattle.estelle_tree.specs.declared.kind.Kind.TheVariants as k
use Rattle.estelle_tree.specs.Input.{Input, kind, token_at, next, first_kind, first_token, after_first}
use Rattle.estelle_tree.specs.Kind.{kind_of}
use Rattle.estelle_tree.specs.Spelling.{Spelling, Takes, Flag, Mark, Optional, Chain, Several, Lines, MayBeLines, Behind, Ended, Joined, Separated, Enclosed}
use Rattle.estelle_printer.specs.Canonical.{without_places}

-- ---- places where the same tokens come

pub record Alike (i j : Input) : Type 0 where
  pub is : without_places i.tokens ≡ without_places j.tokens

pub token_alike : {i j : Input} → Alike i j → token_at i ≡ token_at j
unfolding token_at
token_alike {i} {j} s = go i.tokens j.tokens s.is
  where
    go : (ps qs : List Placed) → without_places ps ≡ without_places qs → first_token ps ≡ first_token qs
    go [] [] e = refl
    go [] (q ∷ qs) e = absurd (cc)
    go (p ∷ ps) [] e = absurd (cc)
    go (p ∷ ps) (q ∷ qs) e = let same : p.token ≡ q.token = cc in ap (λ t. Some t) same

pub kind_alike : {i j : Input} → Alike i j → kind i ≡ kind j
unfolding kind
kind_alike {i} {j} s = go i.tokens j.tokens s.is
  where
    go : (ps qs : List Placed) → without_places ps ≡ without_places qs → first_kind ps ≡ first_kind qs
    go [] [] e = refl
    go [] (q ∷ qs) e = absurd (cc)
    go (p ∷ ps) [] e = absurd (cc)
    go (p ∷ ps) (q ∷ qs) e = let same : p.token ≡ q.token = cc in ap kind_of same

pub next_alike : {i j : Input} → Alike i j → Alike (next i) (next j)
unfolding next
next_alike {i} {j} s = record { is = go i.end j.end i.tokens j.tokens s.is }
  where
    go : (m n : ℕ) (ps qs : List Placed) → without_places ps ≡ without_places qs → without_places (after_first m ps).tokens ≡ without_places (after_first n qs).tokens
    go m n [] [] e = refl
    go m n [] (q ∷ qs) e = absurd (cc)
    go m n (p ∷ ps) [] e = absurd (cc)
    go m n (p ∷ ps) (q ∷ qs) e = let same : without_places ps ≡ without_places qs = cc in same

-- ---- what is passed between two places, passed from another place

-- from i on so passed, up to a place where the same comes as at j
pub record PassedAlike (Q : Input → Input → Type 0) (i j : Input) : Type 0 where
  pub end : Input
  pub is : Q i end
  pub alike : Alike j end

pub nothing : {i j i' : Input} → i ≡ j → Alike i i' → PassedAlike (λ i j. i ≡ j) i' j
nothing {i' = i'} e s = record { end = i'; is = refl; alike = subst (λ m. Alike m i') e s }

pub takes : {word : Kind} {i j i' : Input} → Takes word i j → Alike i i' → PassedAlike (Takes word) i' j
takes {i' = i'} t s = record {
  end = next i';
  is = record { kind = sym (kind_alike s) ∙ t.kind; next = refl };
  alike = subst (λ m. Alike m (next i')) t.next (next_alike s);
}

pub flag : (word : Kind) (b : Bool) {i j i' : Input} → Flag word b i j → Alike i i' → PassedAlike (Flag word b) i' j
flag word false h s = let p = nothing h s in record { end = p.end; is = p.is; alike = p.alike }
flag word true h s = let p = takes h s in record { end = p.end; is = p.is; alike = p.alike }

pub mark : {O : Type 0} (of : O → Kind) (o : Option O) {i j i' : Input} → Mark of o i j → Alike i i' → PassedAlike (Mark of o) i' j
mark of None h s = let p = nothing h s in record { end = p.end; is = p.is; alike = p.alike }
mark of (Some o) h s = let p = takes h s in record { end = p.end; is = p.is; alike = p.alike }

-- ---- things that are spelled

-- From i on a thing is spelled so that is the same as x, spans aside, up to a place where the same comes as at j.
pub record Moved {A E : Type 0} (P : Spelling A) (e : A → E) (x : A) (i j : Input) : Type 0 where
  pub thing : A
  pub end : Input
  pub is : P thing i end
  pub same : e thing ≡ e x
  pub alike : Alike j end

abbrev pub Moves : {A E : Type 0} → Spelling A → (A → E) → Type 0
Moves {A} P e = (x : A) (i j i' : Input) → P x i j → Alike i i' → Moved P e x i' j

pub ap2 : {A B C : Type 0} (f : A → B → C) {a a' : A} {b b' : B} → a ≡ a' → b ≡ b' → f a b ≡ f a' b'
ap2 f {a} {a'} {b} {b'} d e = ap (λ a. f a b) d ∙ ap (f a') e

pub ap3 : {A B C D : Type 0} (f : A → B → C → D) {a a' : A} {b b' : B} {c c' : C} → a ≡ a' → b ≡ b' → c ≡ c' → f a b c ≡ f a' b' c'
ap3 f {a} {a'} {b} {b'} {c} {c'} d e g = ap2 (λ a b. f a b c) d e ∙ ap (f a' b') g

pub ap4 : {A B C D G : Type 0} (f : A → B → C → D → G) {a a' : A} {b b' : B} {c c' : C} {d d' : D} → a ≡ a' → b ≡ b' → c ≡ c' → d ≡ d' → f a b c d ≡ f a' b' c' d'
ap4 f {a} {a'} {b} {b'} {c} {c'} {d} {d'} p q r s = ap3 (λ a b c. f a b c d) p q r ∙ ap (f a' b' c') s

pub ap5 : {A B C D G H : Type 0} (f : A → B → C → D → G → H) {a a' : A} {b b' : B} {c c' : C} {d d' : D} {g g' : G} → a ≡ a' → b ≡ b' → c ≡ c' → d ≡ d' → g ≡ g' → f a b c d g ≡ f a' b' c' d' g'
ap5 f {a} {a'} {b} {b'} {c} {c'} {d} {d'} {g} {g'} p q r s t = ap4 (λ a b c d. f a b c d g) p q r s ∙ ap (f a' b' c' d') t

module _ {A E : Type 0} (P : Spelling A) (e : A → E) (moves : Moves P e) where
  pub optional : Moves (Optional P) (option_map e)
  optional None i j i' h s = let p = nothing h s in record { thing = None; end = p.end; is = p.is; same = refl; alike = p.alike }
  optional (Some x) i j i' h s = let m = moves x _ _ _ h s in record { thing = Some m.thing; end = m.end; is = m.is; same = ap (λ y. Some y) m.same; alike = m.alike }

  pub chain : Moves (Chain P) (map e)
  chain [] i j i' h s = let p = nothing h s in record { thing = []; end = p.end; is = p.is; same = refl; alike = p.alike }
  chain (x ∷ xs) i j i' h s =
      let m = moves x _ _ _ h.1 s in
      let n = chain xs _ _ _ h.2 m.alike in
      record { thing = m.thing ∷ n.thing; end = n.end; is = (m.end, m.is, n.is); same = ap2 (λ y ys. y ∷ ys) m.same n.same; alike = n.alike }

  pub several : Moves (Several P) (map e)
  several [] i j i' h s = absurd h
  several (x ∷ xs) i j i' h s =
      let m = moves x _ _ _ h.1 s in
      let n = chain xs _ _ _ h.2 m.alike in
      record { thing = m.thing ∷ n.thing; end = n.end; is = (m.end, m.is, n.is); same = ap2 (λ y ys. y ∷ ys) m.same n.same; alike = n.alike }

  pub behind : (word : Kind) → Moves (Behind word P) e
  behind word x i j i' h s =
      let t = takes h.mark s in
      let m = moves x _ _ _ h.item t.alike in
      record { thing = m.thing; end = m.end; is = record { at = t.end; mark = t.is; item = m.is }; same = m.same; alike = m.alike }

  pub ended : (word : Kind) → Moves (Ended word P) e
  ended word x i j i' h s =
      let m = moves x _ _ _ h.item s in
      let t = takes h.mark m.alike in
      record { thing = m.thing; end = t.end; is = record { mid = m.end; item = m.is; mark = t.is }; same = m.same; alike = t.alike }

  pub enclosed : (opening closing : Kind) → Moves (Enclosed opening closing P) e
  enclosed opening closing x i j i' h s =
      let t = takes h.opens s in
      let m = moves x _ _ _ h.inside t.alike in
      let u = takes h.closes m.alike in
      record { thing = m.thing; end = u.end; is = record { at = t.end; mid = m.end; opens = t.is; inside = m.is; closes = u.is }; same = m.same; alike = u.alike }

module _ {A E : Type 0} (P : Spelling A) (e : A → E) (moves : Moves P e) where
  pub separated : (word : Kind) → Moves (Separated word P) (map e)
  separated word [] i j i' h s = absurd h
  separated word (x ∷ xs) i j i' h s =
      let m = moves x _ _ _ h.1 s in
      let n = chain (Behind word P) e (behind P e moves word) xs _ _ _ h.2 m.alike in
      record { thing = m.thing ∷ n.thing; end = n.end; is = (m.end, m.is, n.is); same = ap2 (λ y ys. y ∷ ys) m.same n.same; alike = n.alike }

  pub lines : Moves (Lines P) (map e)
  lines = several (Ended k.Semicolon P) e (ended P e moves k.Semicolon)

module _ {A E : Type 0} (P : Spelling A) (e : A → E) (moves : Moves P e) where
  pub may_be_lines : (first : Kind) → Moves (MayBeLines first P) (map e)
  may_be_lines first [] i j i' h s = let p = nothing h s in record { thing = []; end = p.end; is = p.is; same = refl; alike = p.alike }
  may_be_lines first (x ∷ xs) i j i' h s =
      let t = takes h.mark s in
      let item = h.item in
      let m = moves x _ _ _ item.1.item t.alike in
      let u = takes item.1.mark m.alike in
      let n = chain (Ended k.Semicolon P) e (ended P e moves k.Semicolon) xs _ _ _ item.2 u.alike in
      record {
        thing = m.thing ∷ n.thing;
        end = n.end;
        is = record { at = t.end; mark = t.is; item = (u.end, record { mid = m.end; item = m.is; mark = u.is }, n.is) };
        same = ap2 (λ y ys. y ∷ ys) m.same n.same;
        alike = n.alike;
      }

-- two things with a terminal between them
pub record BothMoved {A B E G : Type 0} (word : Kind) (P : Spelling A) (Q : Spelling B) (e : A → E) (g : B → G) (x : A) (y : B) (i j : Input) : Type 0 where
  pub one : A
  pub other : B
  pub end : Input
  pub is : Joined word P Q one other i end
  pub one_same : e one ≡ e x
  pub other_same : g other ≡ g y
  pub alike : Alike j end

pub joined : {A B E G : Type 0} (word : Kind) (P : Spelling A) (Q : Spelling B) (e : A → E) (g : B → G) → Moves P e → Moves Q g → (x : A) (y : B) {i j i' : Input} → Joined word P Q x y i j → Alike i i' → BothMoved word P Q e g x y i' j
joined word P Q e g moves moves_too x y h s =
    let m = moves x _ _ _ h.first s in
    let t = takes h.mark m.alike in
    let n = moves_too y _ _ _ h.second t.alike in
    record {
      one = m.thing;
      other = n.thing;
      end = n.end;
      is = record { mid = m.end; at = t.end; first = m.is; mark = t.is; second = n.is };
      one_same = m.same;
      other_same = n.same;
      alike = n.alike;
    }

-- `k x`, where several terminals can stand
pub marked : {O A E : Type 0} (of : O → Kind) (P : Spelling A) (e : A → E) → Moves P e → Moves {E = O × E} (λ (x : O × A). Behind (of x.0) P x.1) (λ (x : O × A). (x.0, e x.1))
marked of P e moves x i j i' h s =
    let t = takes h.mark s in
    let m = moves x.1 _ _ _ h.item t.alike in
    record { thing = (x.0, m.thing); end = m.end; is = record { at = t.end; mark = t.is; item = m.is }; same = ap (λ y. (x.0, y)) m.same; alike = m.alike }

-- what is spelled as the layer of a tree is
pub rolling : {L A E : Type 0} (P : Spelling L) (e : L → E) (out : A → L) (roll : L → A) (whole : A → E) → ((l : L) → out (roll l) ≡ l) → ((l : L) → whole (roll l) ≡ e l) → ((x : A) → whole x ≡ e (out x)) → Moves P e → Moves (λ x. P (out x)) whole
rolling P e out roll whole back rolled opened moves x i j i' h s =
    let m = moves (out x) i j i' h s in
    record {
      thing = roll m.thing;
      end = m.end;
      is = subst (λ l. P l i' m.end) (sym (back m.thing)) m.is;
      same = rolled m.thing ∙ m.same ∙ sym (opened x);
      alike = m.alike;
    }
