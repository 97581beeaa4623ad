-- Lists made of the items of a list, item by item.
use Rattle.std.proofs.Common.{◌≡◌, ◌∙◌, ℕ, ◌+◌, ◌<◌, List, [], ◌∷◌, ◌++◌, ap, sym, take, get_or, length, map, arith, add-one, zero, suc, append-nil, append_assoc}
use Rattle.std.specs.List.{flat_map}

-- one more item of a chain
pub chain_more : {A B : Type 0} (f : A → List B) (xs : List A) (i : ℕ) (x : A) → i < length xs → x ≡ get_or xs i x → flat_map f (take (i + 1) xs) ≡ flat_map f (take i xs) ++ f x
chain_more f xs i x h e = rw add-one (by f xs i x h e)
  where
    by : {A B : Type 0} (f : A → List B) (ys : List A) (k : ℕ) (x : A) → k < length ys → x ≡ get_or ys k x → flat_map f (take (suc k) ys) ≡ flat_map f (take k ys) ++ f x
    by f [] k x h e = absurd (omega arith)
    by f (y ∷ ys) zero x h e = rw (append-nil (f y)) (ap f (sym e))
    by f (y ∷ ys) (suc k) x h e = ap (λ ts. f y ++ ts) (by f ys k x (omega arith) e) ∙ sym (append_assoc (f y) (flat_map f (take k ys)) (f x))

-- one more item of a chain over what the items stand for
pub chain_map_more : {A B C : Type 0} (f : B → List C) (g : A → B) (xs : List A) (i : ℕ) (x : A) → i < length xs → x ≡ get_or xs i x → flat_map f (map g (take (i + 1) xs)) ≡ flat_map f (map g (take i xs)) ++ f (g x)
chain_map_more f g xs i x h e = rw add-one (by f g xs i x h e)
  where
    by : {A B C : Type 0} (f : B → List C) (g : A → B) (ys : List A) (k : ℕ) (x : A) → k < length ys → x ≡ get_or ys k x → flat_map f (map g (take (suc k) ys)) ≡ flat_map f (map g (take k ys)) ++ f (g x)
    by f g [] k x h e = absurd (omega arith)
    by f g (y ∷ ys) zero x h e = rw (append-nil (f (g y))) (ap (λ z. f (g z)) (sym e))
    by f g (y ∷ ys) (suc k) x h e = ap (λ ts. f (g y) ++ ts) (by f g ys k x (omega arith) e) ∙ sym (append_assoc (f (g y)) (flat_map f (map g (take k ys))) (f (g x)))

-- one more item, as what it stands for
pub map_more : {A B : Type 0} (f : A → B) (xs : List A) (i : ℕ) (x : A) → i < length xs → x ≡ get_or xs i x → map f (take (i + 1) xs) ≡ map f (take i xs) ++ f x ∷ []
map_more f xs i x h e = rw add-one (by f xs i x h e)
  where
    by : {A B : Type 0} (f : A → B) (ys : List A) (k : ℕ) (x : A) → k < length ys → x ≡ get_or ys k x → map f (take (suc k) ys) ≡ map f (take k ys) ++ f x ∷ []
    by f [] k x h e = absurd (omega arith)
    by f (y ∷ ys) zero x h e = ap (λ z. f z ∷ []) (sym e)
    by f (y ∷ ys) (suc k) x h e = ap (λ zs. f y ∷ zs) (by f ys k x (omega arith) e)
