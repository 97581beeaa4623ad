-- What is written of lists of tokens.
use Rattle.std.proofs.Common.{◌≡◌, ℕ, ◌+◌, ◌<◌, List, [], ◌∷◌, ◌++◌, refl, map, take, get_or, length, arith, ap, append_assoc, append-nil, ◌∙◌, sym, add-one, zero, suc, false}
use Rattle.std.proofs.lemmas.Bool.Decides.{nat_tests}
use Rattle.std.specs.List.{flat_map}
use Rattle.std.specs.Prelude.{not, ◌==◌, Result, Ok, Err, IfOk, OnOk}
use Rattle.estelle_tree.specs.declared.token.Token.{Token}
use Rattle.estelle_tree.specs.declared.kind.Kind.{Kind}
use Rattle.estelle_printer.specs.Canonical.{written, gap_after, line_feed, canonical}
use Rattle.estelle_printer.specs.Writing.{put, write}
use Rattle.estelle_printer.specs.Forms.{Tokens, mark, flag, separated, each_behind}

pub write-nil : (text : List ℕ) → write text [] ≡ text
unfolding write
write-nil text = refl

pub write-cons : (text : List ℕ) (t : Token) (ts : List Token) → write text (t ∷ ts) ≡ write (put text t) ts
unfolding write
write-cons text t ts = refl

pub write-append : (text : List ℕ) (ts us : List Token) → write text (ts ++ us) ≡ write (write text ts) us
unfolding write
write-append text [] us = refl
write-append text (t ∷ ts) us = write-append (put text t) ts us

pub ruleset writes = (write-nil, write-cons, write-append)

longer : {X : Type 0} (f : X → Tokens) (xs : List X) (i : ℕ) (x : X) → i < length xs → x ≡ get_or xs i x → flat_map f (take (suc i) xs) ≡ flat_map f (take i xs) ++ f x
longer f [] i x h e = absurd (omega arith)
longer f (y ∷ ys) zero x h e = rw (append-nil (f y)) (ap f (sym e))
longer f (y ∷ ys) (suc i) x h e = ap (λ ts. f y ++ ts) (longer f ys i x (omega arith) e) ∙ sym (append_assoc (f y) (flat_map f (take i ys)) (f x))

-- one more of a chain
pub chain_more : {X : Type 0} (f : X → Tokens) (xs : List X) (i : ℕ) (x : X) (text : List ℕ) → i < length xs → x ≡ get_or xs i x → write text (flat_map f (take (i + 1) xs)) ≡ write (write text (flat_map f (take i xs))) (f x)
chain_more f xs i x text h e = rw add-one (ap (write text) (longer f xs i x h e) ∙ write-append text (flat_map f (take i xs)) (f x))

not_first : (i : ℕ) → (suc i == 0) ≡ false
not_first i = grind (arith, nat_tests)

-- one more of a list with separators
pub separated_more : {X : Type 0} (k : Kind) (f : X → Tokens) (xs : List X) (i : ℕ) (x : X) (text : List ℕ) → i < length xs → x ≡ get_or xs i x → write text (separated k f (take (i + 1) xs)) ≡ write (write (write text (separated k f (take i xs))) (flag k (not (i == 0)))) (f x)
separated_more k f [] i x text h e = absurd (omega arith)
separated_more k f (y ∷ ys) zero x text h e = rw (append-nil (f y), write-nil text, write-nil text) (ap (λ z. write text (f z)) (sym e))
separated_more {X = X} k f (y ∷ ys) (suc i) x text h e =
    let g = λ (z : X). mark k ++ f z in
    rw (add-one, not_first i) (write-append text (f y) (flat_map g (take (suc i) ys))
    ∙ ap (write (write text (f y))) (longer g ys i x (omega arith) e)
    ∙ write-append (write text (f y)) (flat_map g (take i ys)) (mark k ++ f x)
    ∙ ap (λ out. write out (mark k ++ f x)) (sym (write-append text (f y) (flat_map g (take i ys))))
    ∙ write-append (write text (f y ++ flat_map g (take i ys))) (mark k) (f x))

pub separated_map : {X : Type 0} (k : Kind) (f : X → Tokens) (xs : List X) → separated k (λ x. x) (map f xs) ≡ separated k f xs
separated_map k f [] = refl
separated_map {X = X} k f (x ∷ xs) = ap (λ ts. f x ++ ts) (go xs)
  where
    go : (ys : List X) → each_behind k (λ x. x) (map f ys) ≡ each_behind k f ys
    go [] = refl
    go (y ∷ ys) = ap (λ ts. (mark k ++ f y) ++ ts) (go ys)

pub chain_map : {X Y : Type 0} (g : Y → Tokens) (f : X → Y) (xs : List X) → flat_map g (map f xs) ≡ flat_map (λ x. g (f x)) xs
chain_map g f [] = refl
chain_map g f (x ∷ xs) = ap (λ ts. g (f x) ++ ts) (chain_map g f xs)

appended : (text : List ℕ) (t : Token) (rest : List ℕ) → text ++ (written t ++ gap_after t ∷ rest) ≡ put text t ++ rest
unfolding put
appended text t rest = simp append_assoc

-- a token that is not the last
pub spaced : (t : Token) (ts : List Token) (u : Token) → canonical (t ∷ (ts ++ u ∷ [])) ≡ written t ++ gap_after t ∷ canonical (ts ++ u ∷ [])
spaced t [] u = refl
spaced t (v ∷ ts) u = refl

-- the canonical text of tokens and a last one
pub canonical_end : (text : List ℕ) (ts : List Token) (u : Token) → text ++ canonical (ts ++ u ∷ []) ≡ write text ts ++ written u ++ line_feed ∷ []
unfolding write
canonical_end text [] u = sym (append_assoc text (written u) (line_feed ∷ []))
canonical_end text (t ∷ ts) u = ap (λ rest. text ++ rest) (spaced t ts u) ∙ appended text t (canonical (ts ++ u ∷ [])) ∙ canonical_end (put text t) ts u

pub if_ok : {T E : Type 0} {P Q : T → Type 0} (r : Result T E) → ((v : T) → P v → Q v) → IfOk r P → IfOk r Q
if_ok (Ok v) f p = f v p
if_ok (Err e) f p = tt

pub on_ok : {T E : Type 0} {P Q : Type 0} (r : Result T E) → (P → Q) → OnOk r P → OnOk r Q
on_ok (Ok v) f p = f p
on_ok (Err e) f p = tt
