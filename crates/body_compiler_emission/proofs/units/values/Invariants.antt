use Rattle.std.proofs.Common.{◌≡◌, fold, take}
use Rattle.body_compiler_emission.proofs.UnitSteps.{push_value}
use Rattle.body_compiler_emission.proofs.units.values.Given as goal

abbrev pub invariant-loop-each : goal.invariant-loop-each
invariant-loop-each l = l.unit ≡ fold (push_value l.scope) l.initial.unit (take l.each-index l.exprs)
