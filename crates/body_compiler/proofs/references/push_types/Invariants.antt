use Rattle.std.proofs.Common.{◌≡◌, ◌++◌, replicate}
use Rattle.body_compiler.proofs.references.push_types.Given as goal

abbrev pub invariant-loop : goal.invariant-loop
invariant-loop l = (l.types ≡ l.initial.types ++ replicate l.counter l.type_) × (l.type_ ≡ l.initial.type_)
