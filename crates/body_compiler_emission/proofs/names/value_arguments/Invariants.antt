use Rattle.std.proofs.Common.{◌≡◌, drop, map}
use Rattle.estelle_model.specs.declared.meaning.Passing.TheVariants.{ByValue}
use Rattle.body_compiler_emission.specs.Drafts.{grown}
use Rattle.body_compiler_emission.specs.Emitted.{give_all}
use Rattle.body_compiler_emission.proofs.names.value_arguments.Given as goal

abbrev pub invariant-loop-i : goal.invariant-loop-i
invariant-loop-i l = grown (give_all l.scope (drop l.i (map (λ t. ByValue t) l.types)) (drop l.i l.exprs)) l.unit ≡ grown (give_all l.scope (map (λ t. ByValue t) l.types) l.exprs) l.initial.unit
