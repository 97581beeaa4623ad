-- Parameters by value of some types.
use Rattle.std.proofs.Common.{◌≡◌, ℕ, zero, suc, ◌<◌, List, [], ◌∷◌, length, map, get_or, ap, arith}
use Rattle.std.proofs.lemmas.List.{length-map}
use Rattle.estelle_model.specs.declared.denoter.Denoter.{Denoter}
use Rattle.estelle_model.specs.declared.meaning.Passing.{Passing}
use Rattle.estelle_model.specs.declared.meaning.Passing.TheVariants.{ByValue}

pub types_long : (ts : List Denoter) → length (map (λ d. ByValue d) ts) ≡ length ts
types_long ts = length-map ts (λ d. ByValue d)

pub type_item : (ts : List Denoter) (i : ℕ) (d : Denoter) → i < length ts → d ≡ get_or ts i d → ByValue d ≡ get_or (map (λ d. ByValue d) ts) i (ByValue d)
type_item [] i d some at = absurd (omega (arith, some))
type_item (c ∷ ts) zero d some at = ap (λ x. ByValue x) at
type_item (c ∷ ts) (suc i) d some at = type_item ts i d (omega (arith, some)) at
