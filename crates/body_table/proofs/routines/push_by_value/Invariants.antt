use Rattle.std.proofs.Common.{◌≡◌, ◌++◌, replicate}
use Rattle.estelle_model.specs.declared.meaning.Passing.TheVariants.{ByValue}
use Rattle.body_table.proofs.routines.push_by_value.Given as goal

abbrev pub invariant-loop : goal.invariant-loop
invariant-loop l = (l.out ≡ l.initial.out ++ replicate l.counter (ByValue l.denoter)) × (l.denoter ≡ l.initial.denoter)
