use Rattle.std.proofs.Common.{◌≡◌, ◌++◌, drop}
use Rattle.body_compiler_pieces.specs.StatementCode.{ordinals_of}
use Rattle.body_compiler_emission.specs.Scopes.{scope_of}
use Rattle.body_compiler_emission.proofs.LabelSteps.{RefuseAlike}
use Rattle.body_compiler_emission.proofs.labels.ordinals.Given as goal

abbrev pub invariant-loop-label : goal.invariant-loop-label
invariant-loop-label l =
    (l.ordinals ++ ordinals_of (scope_of l.scope).meant (drop l.label-index l.labels) ≡ ordinals_of (scope_of l.scope).meant l.labels)
    × RefuseAlike (scope_of l.scope).meant l.labels (drop l.label-index l.labels)
