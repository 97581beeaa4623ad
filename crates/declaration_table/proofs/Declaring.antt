-- What is known after some declarations, piece by piece.
use Rattle.std.proofs.Common.{◌≡◌, ◌∙◌, ℕ, ◌+◌, ◌<◌, Bool, true, false, nat_eq, cond, List, [], ◌∷◌, ◌++◌, refl, ap, take, drop, ◌≤◌, get_or, length, map, arith, add-one, sym, append_assoc, append-nil, zero, suc, Some, if◌then◌else◌}
use Rattle.std.specs.Prelude.{Result, Ok, Err, OnOk}
use Rattle.std.specs.List.{flat_map}
use Rattle.std.specs.Option.{is_some}
use Rattle.std.specs.Map.{lookup}
use Rattle.indexmap.specs.IndexMap.{insert_entry}
use Rattle.type_rules.specs.Meanings.{Env, Declaration, Declarations, with_entity, declare_one, declare_all, put_first}

-- what stands at no place goes last
pub entry_last : {A : Type 0} (at : ℕ) (v : A) (es : List (ℕ × A)) → is_some (lookup (nat_eq at) es) ≡ false → insert_entry nat_eq es at v ≡ put_first at v es
entry_last {A = A} at v es h = new es h ∙ rw h refl
  where
    by : {A : Type 0} (b : Bool) (at : ℕ) (v : A) (e : ℕ × A) (es : List (ℕ × A)) → is_some (cond b (Some e.1) (lookup (nat_eq at) es)) ≡ false → (is_some (lookup (nat_eq at) es) ≡ false → insert_entry nat_eq es at v ≡ es ++ (at, v) ∷ []) → (if b then (e.0, v) ∷ es else e ∷ insert_entry nat_eq es at v) ≡ e ∷ (es ++ (at, v) ∷ [])
    by true at v e es h more = absurd cc
    by false at v e es h more = ap (λ r. e ∷ r) (more h)

    new : (fs : List (ℕ × A)) → is_some (lookup (nat_eq at) fs) ≡ false → insert_entry nat_eq fs at v ≡ fs ++ (at, v) ∷ []
    new [] h = refl
    new (e ∷ fs) h = by (nat_eq at e.0) at v e fs h (new fs)

-- what stands there already stays
pub entry_stays : {A : Type 0} (at : ℕ) (v : A) (es : List (ℕ × A)) → is_some (lookup (nat_eq at) es) ≡ true → es ≡ put_first at v es
entry_stays at v es h = rw h refl

pub declare-nil : (env : Env) → declare_all env [] ≡ env
unfolding declare_all
declare-nil env = refl

pub declare-cons : (env : Env) (d : Declaration) (ds : Declarations) → declare_all env (d ∷ ds) ≡ declare_all (declare_one env d) ds
unfolding declare_all
declare-cons env d ds = refl

pub declare-append : (env : Env) (ds es : Declarations) → declare_all env (ds ++ es) ≡ declare_all (declare_all env ds) es
unfolding declare_all
declare-append env [] es = refl
declare-append env (d ∷ ds) es = declare-append (declare_one env d) ds es

-- a declaration speaks of those before it
pub declare-one : (env : Env) (d : Declaration) → declare_one env d ≡ with_entity env d.at (d.says env)
unfolding declare_one
declare-one env d = refl

pub ruleset declaring = (declare-nil, declare-cons, declare-append, declare-one)

longer : {A B : Type 0} (f : A → List B) (xs : List A) (i : ℕ) (x : A) → i < length xs → x ≡ get_or xs i x → flat_map f (take (suc i) xs) ≡ flat_map f (take i xs) ++ f x
longer f [] i x h e = absurd (omega arith)
longer f (y ∷ ys) zero x h e = rw (append-nil (f y)) (ap f (sym e))
longer f (y ∷ ys) (suc i) x h e = ap (λ ts. f y ++ ts) (longer f ys i x (omega arith) e) ∙ sym (append_assoc (f y) (flat_map f (take i ys)) (f x))

-- one more of a chain
pub chain_more : {A : Type 0} (f : A → Declarations) (xs : List A) (i : ℕ) (x : A) (env : Env) → i < length xs → x ≡ get_or xs i x → declare_all env (flat_map f (take (i + 1) xs)) ≡ declare_all (declare_all env (flat_map f (take i xs))) (f x)
chain_more f xs i x env h e = rw add-one (ap (declare_all env) (longer f xs i x h e) ∙ declare-append env (flat_map f (take i xs)) (f x))

more : {A : Type 0} (f : A → Declaration) (xs : List A) (i : ℕ) (x : A) → i < length xs → x ≡ get_or xs i x → map f (take (suc i) xs) ≡ map f (take i xs) ++ f x ∷ []
more f [] i x h e = absurd (omega arith)
more f (y ∷ ys) zero x h e = ap (λ z. f z ∷ []) (sym e)
more f (y ∷ ys) (suc i) x h e = ap (λ ts. f y ∷ ts) (more f ys i x (omega arith) e)

-- one more of the same kind
pub each_more : {A : Type 0} (f : A → Declaration) (xs : List A) (i : ℕ) (x : A) (env : Env) → i < length xs → x ≡ get_or xs i x → declare_all env (map f (take (i + 1) xs)) ≡ declare_one (declare_all env (map f (take i xs))) (f x)
each_more f xs i x env h e = rw add-one (ap (declare_all env) (more f xs i x h e) ∙ declare-append env (map f (take i xs)) (f x ∷ []) ∙ declare-cons (declare_all env (map f (take i xs))) (f x) [] ∙ declare-nil (declare_one (declare_all env (map f (take i xs))) (f x)))

pub on_ok : {T E : Type 0} {P Q : Type 0} (r : Result T E) → (P → Q) → OnOk r P → OnOk r Q
on_ok (Ok v) f p = f p
on_ok (Err e) f p = tt

next_in : {A : Type 0} (xs : List A) (i : ℕ) (x : A) → i < length xs → x ≡ get_or xs i x → drop i xs ≡ x ∷ drop (suc i) xs
next_in [] i x h e = absurd (omega arith)
next_in (y ∷ ys) zero x h e = ap (λ z. z ∷ ys) (sym e)
next_in (y ∷ ys) (suc i) x h e = next_in ys i x (omega arith) e

-- the rest of a list begins with the next item
pub drop_next : {A : Type 0} (xs : List A) (i : ℕ) (x : A) → i < length xs → x ≡ get_or xs i x → drop i xs ≡ x ∷ drop (i + 1) xs
drop_next xs i x h e = rw add-one (next_in xs i x h e)

-- behind the end nothing is left
pub drop_end : {A : Type 0} (xs : List A) (i : ℕ) → length xs ≤ i → drop i xs ≡ []
drop_end [] zero h = refl
drop_end [] (suc i) h = refl
drop_end (y ∷ ys) zero h = absurd (omega arith)
drop_end (y ∷ ys) (suc i) h = drop_end ys i (omega arith)
