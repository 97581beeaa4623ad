-- Lists that folds over the tree make.
use Rattle.std.proofs.Common.{◌≡◌, ◌∙◌, List, [], ◌∷◌, ◌++◌, map, refl, ap, sym, append_assoc}
use Rattle.std.specs.Prelude.{fold}
use Rattle.std.specs.List.{flat_map}

pub chain_map : {A B C : Type 0} (g : B → List C) (f : A → B) (xs : List A) → flat_map g (map f xs) ≡ flat_map (λ x. g (f x)) xs
chain_map g f [] = refl
chain_map g f (x ∷ xs) = ap (λ ts. g (f x) ++ ts) (chain_map g f xs)

pub fold_map : {A B C : Type 0} (g : C → B → C) (f : A → B) (c : C) (xs : List A) → fold g c (map f xs) ≡ fold (λ so_far x. g so_far (f x)) c xs
fold_map g f c [] = refl
fold_map g f c (x ∷ xs) = fold_map g f (g c (f x)) xs

pub chain_append : {A B : Type 0} (f : A → List B) (xs ys : List A) → flat_map f (xs ++ ys) ≡ flat_map f xs ++ flat_map f ys
chain_append f [] ys = refl
chain_append f (x ∷ xs) ys = ap (λ ts. f x ++ ts) (chain_append f xs ys) ∙ sym (append_assoc (f x) (flat_map f xs) (flat_map f ys))

pub ruleset lists = (chain_map, fold_map)
