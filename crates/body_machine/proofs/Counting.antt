-- How many of the first locals are variables, and how many are by reference.
use Rattle.std.proofs.Common.{◌≡◌, ◌∙◌, sym, ap, ℕ, suc, ◌+◌, ◌<◌, Bool, true, false, cond, List, [], ◌∷◌, ◌++◌, length, take, get_or, arith}
use Rattle.std.proofs.lemmas.List.{take_more}
use Rattle.body_code.specs.declared.unit.Local.{Local}
use Rattle.body_machine.specs.Slots.{variables_in, references_in}

variables_one : (x : Local) (xs ys : List Local) → variables_in (xs ++ ys) ≡ variables_in xs + variables_in ys → variables_in (x ∷ (xs ++ ys)) ≡ variables_in (x ∷ xs) + variables_in ys
variables_one x xs ys more = by x.by_ref
  where
    by : (b : Bool) → cond b (variables_in (xs ++ ys)) (suc (variables_in (xs ++ ys))) ≡ cond b (variables_in xs) (suc (variables_in xs)) + variables_in ys
    by true = more
    by false = omega (arith, more)

variables_append : (xs ys : List Local) → variables_in (xs ++ ys) ≡ variables_in xs + variables_in ys
variables_append [] ys = omega arith
variables_append (x ∷ xs) ys = variables_one x xs ys (variables_append xs ys)

references_one : (x : Local) (xs ys : List Local) → references_in (xs ++ ys) ≡ references_in xs + references_in ys → references_in (x ∷ (xs ++ ys)) ≡ references_in (x ∷ xs) + references_in ys
references_one x xs ys more = by x.by_ref
  where
    by : (b : Bool) → cond b (suc (references_in (xs ++ ys))) (references_in (xs ++ ys)) ≡ cond b (suc (references_in xs)) (references_in xs) + references_in ys
    by true = omega (arith, more)
    by false = more

references_append : (xs ys : List Local) → references_in (xs ++ ys) ≡ references_in xs + references_in ys
references_append [] ys = omega arith
references_append (x ∷ xs) ys = references_one x xs ys (references_append xs ys)

-- one more local
pub variables_more : (xs : List Local) (i : ℕ) (x : Local) → i < length xs → x ≡ get_or xs i x → variables_in (take (i + 1) xs) ≡ variables_in (take i xs) + variables_in (x ∷ [])
variables_more xs i x l is = ap variables_in (take_more xs i x l ∙ ap (λ y. take i xs ++ y ∷ []) (sym is)) ∙ variables_append (take i xs) (x ∷ [])

pub references_more : (xs : List Local) (i : ℕ) (x : Local) → i < length xs → x ≡ get_or xs i x → references_in (take (i + 1) xs) ≡ references_in (take i xs) + references_in (x ∷ [])
references_more xs i x l is = ap references_in (take_more xs i x l ∙ ap (λ y. take i xs ++ y ∷ []) (sym is)) ∙ references_append (take i xs) (x ∷ [])
