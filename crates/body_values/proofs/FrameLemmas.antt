-- The places of a frame.
use Rattle.std.proofs.Common.{◌≡◌, ℕ, ◌+◌, ◌<◌, List, [], ◌∷◌, ◌++◌, length, take, get_or, refl, sym, ap, ◌∙◌, length-append}
use Rattle.std.proofs.lemmas.List.{take_more}
use Rattle.estelle_model.specs.declared.meaning.Passing.{Passing}
use Rattle.estelle_model.specs.declared.meaning.Passing.TheVariants.{ByValue, ByPlace}
use Rattle.pascal_values.specs.declared.value.Value.{Value}
use Rattle.estelle_model.specs.Calls.{last_or}
use Rattle.estelle_model.specs.Meant.{value_types}

types_append : (ps qs : List Passing) → value_types (ps ++ qs) ≡ value_types ps ++ value_types qs
types_append [] qs = refl
types_append (ByValue t ∷ ps) qs = ap (λ ts. t ∷ ts) (types_append ps qs)
types_append (ByPlace ∷ ps) qs = types_append ps qs

-- one more parameter
pub types_more : (ps : List Passing) (i : ℕ) (p : Passing) → i < length ps → p ≡ get_or ps i p → length (value_types (take (i + 1) ps)) ≡ length (value_types (take i ps)) + length (value_types (p ∷ []))
types_more ps i p l is = ap (λ qs. length (value_types qs)) (take_more ps i p l ∙ ap (λ q. take i ps ++ q ∷ []) (sym is)) ∙ ap length (types_append (take i ps) (p ∷ [])) ∙ length-append (value_types (take i ps)) (value_types (p ∷ []))

pub last_push : (v x : Value) (xs : List Value) → last_or v (xs ++ x ∷ []) ≡ x
last_push v x [] = refl
last_push v x (y ∷ xs) = last_push y x xs
