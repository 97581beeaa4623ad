-- Visits, piece by piece.
use Rattle.std.proofs.Common.{◌≡◌, ◌∙◌, ℕ, ◌+◌, ◌<◌, zero, suc, List, [], ◌∷◌, ◌++◌, map, take, get_or, length, refl, ap, sym, append_assoc, append-nil, add-one, arith}
use Rattle.std.specs.Prelude.{fold}
use Rattle.std.specs.List.{flat_map}
use Rattle.std.proofs.lemmas.List.{map-append}
use Rattle.estelle_tree.specs.declared.tree.specification.Spec.{Spec}
use Rattle.tree_visits.specs.Visit.{Visited, Around, Visit}
use Rattle.tree_visits.specs.Visits.{Nodes, Visits, visit_of, standing, in_specification, parts, visits}
use Rattle.tree_visits.specs.Taking.{after_visits}

pub after-nil : {S : Type 0} (step : S → Visit → S) (s : S) → after_visits step s [] ≡ s
unfolding after_visits
after-nil step s = refl

pub after-append : {S : Type 0} (step : S → Visit → S) (s : S) (vs ws : Visits) → after_visits step s (vs ++ ws) ≡ after_visits step (after_visits step s vs) ws
unfolding after_visits
after-append step s [] ws = refl
after-append step s (v ∷ vs) ws = after-append step (step s v) vs ws

pub after-standing-nil : {S : Type 0} (step : S → Visit → S) (a : Around) (s : S) → after_visits step s (standing a []) ≡ s
unfolding after_visits standing
after-standing-nil step a s = refl

pub after-standing : {S : Type 0} (step : S → Visit → S) (a : Around) (s : S) (n : Visited) (ns : Nodes) → after_visits step s (standing a (n ∷ ns)) ≡ after_visits step (step s (visit_of a n)) (standing a ns)
unfolding after_visits standing
after-standing step a s n ns = refl

standing-append : (a : Around) (ns ms : Nodes) → standing a (ns ++ ms) ≡ standing a ns ++ standing a ms
unfolding standing
standing-append a ns ms = map-append (visit_of a) ns ms

pub after-standing-append : {S : Type 0} (step : S → Visit → S) (a : Around) (s : S) (ns ms : Nodes) → after_visits step s (standing a (ns ++ ms)) ≡ after_visits step (after_visits step s (standing a ns)) (standing a ms)
after-standing-append step a s ns ms = ap (after_visits step s) (standing-append a ns ms) ∙ after-append step s (standing a ns) (standing a ms)

pub ruleset taken = (after-nil, after-append, after-standing-nil, after-standing, after-standing-append)

longer : {A B : Type 0} (f : A → List B) (xs : List A) (i : ℕ) (x : A) → i < length xs → x ≡ get_or xs i x → flat_map f (take (suc i) xs) ≡ flat_map f (take i xs) ++ f x
longer f [] i x h e = absurd (omega arith)
longer f (y ∷ ys) zero x h e = rw (append-nil (f y)) (ap f (sym e))
longer f (y ∷ ys) (suc i) x h e = ap (λ ts. f y ++ ts) (longer f ys i x (omega arith) e) ∙ sym (append_assoc (f y) (flat_map f (take i ys)) (f x))

-- one more of a chain
pub chain_more : {A S : Type 0} (step : S → Visit → S) (f : A → Visits) (xs : List A) (i : ℕ) (x : A) (s : S) → i < length xs → x ≡ get_or xs i x → after_visits step s (flat_map f (take (i + 1) xs)) ≡ after_visits step (after_visits step s (flat_map f (take i xs))) (f x)
chain_more step f xs i x s h e = rw add-one (ap (after_visits step s) (longer f xs i x h e) ∙ after-append step s (flat_map f (take i xs)) (f x))

-- one more of a chain of nodes
pub nodes_more : {A S : Type 0} (step : S → Visit → S) (a : Around) (f : A → Nodes) (xs : List A) (i : ℕ) (x : A) (s : S) → i < length xs → x ≡ get_or xs i x → after_visits step s (standing a (flat_map f (take (i + 1) xs))) ≡ after_visits step (after_visits step s (standing a (flat_map f (take i xs)))) (standing a (f x))
nodes_more step a f xs i x s h e = rw add-one (ap (λ ns. after_visits step s (standing a ns)) (longer f xs i x h e) ∙ after-standing-append step a s (flat_map f (take i xs)) (f x))

one_longer : {A B : Type 0} (f : A → B) (xs : List A) (i : ℕ) (x : A) → i < length xs → x ≡ get_or xs i x → map f (take (suc i) xs) ≡ map f (take i xs) ++ f x ∷ []
one_longer f [] i x h e = absurd (omega arith)
one_longer f (y ∷ ys) zero x h e = ap (λ z. f z ∷ []) (sym e)
one_longer f (y ∷ ys) (suc i) x h e = ap (λ ts. f y ∷ ts) (one_longer f ys i x (omega arith) e)

-- one more node of a kind
pub each_more : {A S : Type 0} (step : S → Visit → S) (a : Around) (f : A → Visited) (xs : List A) (i : ℕ) (x : A) (s : S) → i < length xs → x ≡ get_or xs i x → after_visits step s (standing a (map f (take (i + 1) xs))) ≡ after_visits step (after_visits step s (standing a (map f (take i xs)))) (standing a (map f (x ∷ [])))
each_more step a f xs i x s h e = rw add-one (ap (λ ns. after_visits step s (standing a ns)) (one_longer f xs i x h e) ∙ after-standing-append step a s (map f (take i xs)) (f x ∷ []))

pub chain_map : {A B C : Type 0} (g : B → List C) (f : A → B) (xs : List A) → flat_map g (map f xs) ≡ flat_map (λ x. g (f x)) xs
chain_map g f [] = refl
chain_map g f (x ∷ xs) = ap (λ ts. g (f x) ++ ts) (chain_map g f xs)

-- the visits of a whole specification, as a fold
pub visits_whole : {S : Type 0} (step : S → Visit → S) (s : S) (tree : Spec) → fold step s (visits tree) ≡ after_visits step s (parts tree.parts (in_specification tree.attr tree.span))
unfolding visits after_visits
visits_whole step s tree = refl
