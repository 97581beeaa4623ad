-- What is found of constants: an ordinal or a value, or none.
use Rattle.std.proofs.Common.{◌≡◌, ◌∙◌, ℤ, Option, Some, None, Result, Ok, Err, refl, sym, ap}
use Rattle.std.specs.Prelude.{option_map, ok_or}
use Rattle.std.specs.Result.{result_ok}
use Rattle.pascal_values.specs.declared.value.Value.{Value}
use Rattle.pascal_values.specs.declared.value.Value.TheVariants as value
use Rattle.pascal_values.specs.declared.value.Value.TheOpen.{Value-F}
use Rattle.estelle_model.specs.declared.denoter.Host.{Host}
use Rattle.estelle_model.specs.Stops.{Stop, Broken}
use Rattle.estelle_model.specs.Types.{ordinal_at, ordinal_of}
use Rattle.estelle_model.specs.Operators.{◌>>>◌}
use Rattle.estelle_model.specs.Constants.{defined}

-- where what is found is an integer, that is its ordinal
pub integer_found : (r : Result Value Stop) (n : Option ℤ) → option_map value.Int n ≡ result_ok r → n ≡ result_ok (r >>> ordinal_of)
integer_found (Ok v) (Some n) e = let is : value.Int n ≡ v = cc in ap (λ (l : Value-F Value). result_ok (ordinal_at l)) (sym (value.outs-Int n)) ∙ ap (λ (u : Value). result_ok (ordinal_of u)) is
integer_found (Ok v) None e = absurd (cc)
integer_found (Err x) (Some n) e = absurd (cc)
integer_found (Err x) None e = refl

-- a name means what is found of its constant
pub found_defines : (h : Host) (r : Result Value Stop) (o : Option Value) → o ≡ result_ok r → defined h (ok_or o Broken) ≡ defined h r
found_defines h (Ok v) o e = ap (λ (p : Option Value). defined h (ok_or p Broken)) e
found_defines h (Err x) o e = ap (λ (p : Option Value). defined h (ok_or p Broken)) e
