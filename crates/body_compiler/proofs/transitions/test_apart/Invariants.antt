use Rattle.std.proofs.Common.{◌≡◌, take}
use Rattle.std.specs.Prelude.{All}
use Rattle.estelle_model.specs.Names.{at_place}
use Rattle.estelle_model.specs.declared.meaning.Meaning.TheVariants.{Other}
use Rattle.body_compiler.proofs.transitions.test_apart.Given as goal

abbrev pub invariant-loop-choice : goal.invariant-loop-choice
invariant-loop-choice l = All (λ c. at_place l.table.declared c.at ≡ Other) (take l.choice-index l.chosen)
