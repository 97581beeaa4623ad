-- Lists of events, piece by piece.
use Rattle.std.proofs.Common.{◌≡◌, ℕ, ◌+◌, ◌-◌, ◌<◌, ◌≤◌, List, [], ◌∷◌, ◌++◌, refl, map, take, drop, get_or, length, arith, ap, append_assoc, append-nil, ◌∙◌, sym, add-one, zero, suc}
use Rattle.std.proofs.lemmas.List.{take_all, take_more, map-append}
use Rattle.std.specs.Prelude.{Result, Ok, Err, OnOk}
use Rattle.std.specs.List.{flat_map}
use Rattle.scope_rules.specs.declared.event.Event.{Event}
use Rattle.scope_rules.specs.TypeEvents.{Events}
use Rattle.scope_names_events.specs.Writing.{put, write}

pub write-nil : (out : Events) → write out [] ≡ out
unfolding write
write-nil out = refl

pub write-cons : (out : Events) (e : Event) (es : Events) → write out (e ∷ es) ≡ write (put out e) es
unfolding write
write-cons out e es = refl

pub write-append : (out es fs : Events) → write out (es ++ fs) ≡ write (write out es) fs
unfolding write
write-append out [] fs = refl
write-append out (e ∷ es) fs = write-append (put out e) es fs

pub write-all : (out es : Events) → write out es ≡ out ++ es
unfolding write put
write-all out [] = sym (append-nil out)
write-all out (e ∷ es) = write-all (put out e) es ∙ append_assoc out (e ∷ []) es

pub on_ok : {T E : Type 0} {P Q : Type 0} (r : Result T E) → (P → Q) → OnOk r P → OnOk r Q
on_ok (Ok v) f p = f p
on_ok (Err e) f p = tt

pub ruleset writes = (write-nil, write-cons, write-append)

longer : {A B : Type 0} (f : A → List B) (xs : List A) (i : ℕ) (x : A) → i < length xs → x ≡ get_or xs i x → flat_map f (take (suc i) xs) ≡ flat_map f (take i xs) ++ f x
longer f [] i x h e = absurd (omega arith)
longer f (y ∷ ys) zero x h e = rw (append-nil (f y)) (ap f (sym e))
longer f (y ∷ ys) (suc i) x h e = ap (λ ts. f y ++ ts) (longer f ys i x (omega arith) e) ∙ sym (append_assoc (f y) (flat_map f (take i ys)) (f x))

-- one more of a chain
pub chain_more : {A : Type 0} (f : A → Events) (xs : List A) (i : ℕ) (x : A) (out : Events) → i < length xs → x ≡ get_or xs i x → write out (flat_map f (take (i + 1) xs)) ≡ write (write out (flat_map f (take i xs))) (f x)
chain_more f xs i x out h e = rw add-one (ap (write out) (longer f xs i x h e) ∙ write-append out (flat_map f (take i xs)) (f x))

-- one more of lists put together
pub lists_more : {A B : Type 0} (f : A → List B) (xs : List A) (i : ℕ) (x : A) → i < length xs → x ≡ get_or xs i x → flat_map f (take (i + 1) xs) ≡ flat_map f (take i xs) ++ f x
lists_more f xs i x h e = rw add-one (longer f xs i x h e)

pub chain_map : {A B C : Type 0} (g : B → List C) (f : A → B) (xs : List A) → flat_map g (map f xs) ≡ flat_map (λ x. g (f x)) xs
chain_map g f [] = refl
chain_map g f (x ∷ xs) = ap (λ ts. g (f x) ++ ts) (chain_map g f xs)

-- one more of a map
pub map_more : {A B : Type 0} (f : A → B) (xs : List A) (i : ℕ) (x : A) → i < length xs → x ≡ get_or xs i x → map f (take (i + 1) xs) ≡ map f (take i xs) ++ f x ∷ []
map_more f xs i x h e = ap (map f) (take_more xs i x h) ∙ map-append f (take i xs) (get_or xs i x ∷ []) ∙ ap (λ y. map f (take i xs) ++ f y ∷ []) (sym e)

-- the first of some is written, and the rest are left
pub first_written : {A : Type 0} (f : A → Event) (xs : List A) (x : A) (out new all : Events) → 1 ≤ length xs → new ≡ put out (f (get_or xs 0 x)) → write out (map f xs) ≡ all → write new (map f (take (length xs - 1) (drop 1 xs))) ≡ all
first_written f [] x out new all h e i = absurd (omega (arith, h))
first_written f (y ∷ ys) x out new all h e i = ap (λ zs. write new (map f zs)) (take_all (length (y ∷ ys) - 1) ys (omega arith)) ∙ ap (λ o. write o (map f ys)) e ∙ sym (write-cons out (f y) (map f ys)) ∙ i

-- none are left
pub none_left : {A : Type 0} (f : A → Event) (xs : List A) (out all : Events) → length xs < 1 → write out (map f xs) ≡ all → out ≡ all
none_left f [] out all h e = sym (write-nil out) ∙ e
none_left f (x ∷ xs) out all h e = absurd (omega (arith, h))

same_longer : {A B : Type 0} (c : B) (xs : List A) (i : ℕ) → i < length xs → map (λ x. c) (take (suc i) xs) ≡ map (λ x. c) (take i xs) ++ c ∷ []
same_longer c [] i h = absurd (omega arith)
same_longer c (y ∷ ys) zero h = refl
same_longer c (y ∷ ys) (suc i) h = ap (λ ts. c ∷ ts) (same_longer c ys i (omega arith))

-- one more of the same
pub same_more : {A B : Type 0} (c : B) (xs : List A) (i : ℕ) → i < length xs → map (λ x. c) (take (i + 1) xs) ≡ map (λ x. c) (take i xs) ++ c ∷ []
same_more c xs i h = rw add-one (same_longer c xs i h)

-- the end of a loop over a list
pub whole : {A : Type 0} (f : A → Events) (xs ys : List A) (i : ℕ) (start out : Events) → ys ≡ xs → length ys ≤ i → out ≡ write start (flat_map f (take i ys)) → out ≡ write start (flat_map f xs)
whole f xs ys i start out e all o = o ∙ ap (λ zs. write start (flat_map f zs)) (take_all i ys all ∙ e)
