use Rattle.std.proofs.Common.{◌≡◌, map, take}
use Rattle.estelle_model.specs.declared.meaning.Passing.TheVariants.{ByValue}
use Rattle.body_compiler_emission.proofs.units.by_value.Given as goal

abbrev pub invariant-loop-type_ : goal.invariant-loop-type_
invariant-loop-type_ l = l.passed ≡ map (λ t. ByValue t) (take l.type_-index l.types)
