-- How a routine leaves its frame.
use Rattle.std.proofs.Common.{◌≡◌, ◌+◌, ◌-◌, List, [], ◌∷◌, ◌++◌, length, take, Ok, refl, ap, ap₂, ◌∙◌, arith, length-append}
use Rattle.std.specs.Prelude.{slice_index_or}
use Rattle.pascal_values.specs.declared.value.Value.{Value}
use Rattle.pascal_values.specs.declared.value.Value.TheVariants as value
use Rattle.pascal_values.specs.Values.{parts_of}
use Rattle.estelle_model.specs.Steps.{Running}
use Rattle.estelle_model.specs.declared.meaning.Routine.{Routine}
use Rattle.estelle_model.specs.Meant.{result_number}
use Rattle.estelle_model.specs.Calls.{last_or, leave}

last_behind : (v : Value) (vs : List Value) (f : Value) → last_or v (vs ++ f ∷ []) ≡ f
last_behind v [] f = refl
last_behind v (w ∷ vs) f = last_behind w vs f

take_before : (vs : List Value) (f : Value) → take (length vs) (vs ++ f ∷ []) ≡ vs
take_before [] f = refl
take_before (v ∷ vs) f = ap (λ ws. v ∷ ws) (take_before vs f)

length_before : (vs : List Value) (f : Value) → length (vs ++ f ∷ []) - 1 ≡ length vs
length_before vs f = let n : length (vs ++ f ∷ []) ≡ length vs + 1 = length-append vs (f ∷ []) in omega (arith, n)

-- the frame is taken off, and what a function's result in it is, is given
pub leave_last : {S : Type 0} (r : Routine) (f : Value) (s : Running S) → leave r (record s { frames = s.frames ++ f ∷ [] }) ≡ Ok (slice_index_or (parts_of f) (result_number r) value.Unset, s)
unfolding leave
leave_last r f s = ap₂ (λ g fs. Ok (slice_index_or (parts_of g) (result_number r) value.Unset, record s { frames = fs })) (last_behind value.Unset s.frames f) (ap (λ n. take n (s.frames ++ f ∷ [])) (length_before s.frames f) ∙ take_before s.frames f)
